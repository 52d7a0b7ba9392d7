use Rattle.clashing.proofs.Telling.{in_stray, in_number}
use mathlib.Core.Path.{sym, ◌∙◌}
use Rattle.clashing.proofs.marks.clashes_in.Goals as goal

pub returns-then-has_stray : goal.returns-then-has_stray
returns-then-has_stray c = sym (in_stray _ _ _ _ _ (sym c.has_stray.ensures ∙ c.if-has_stray.true))

pub returns : goal.returns
returns c =
    in_number _ _ _ _ _ (sym c.has_stray.ensures ∙ c.if-has_stray.false) c.requires.0 _
    c.touch_all.ensures _ c.count_all.ensures
