use Rattle.clashing.proofs.Telling.{clashes_bad, clashes_go}
use Rattle.clashing.specs.Clashing.{clashes_in}
use Rattle.std.specs.Prelude.{Err}
use Rattle.std.proofs.lemmas.Result.{err_from_is_err_and}
use Rattle.counting.proofs.CountLaws.{looked, unlooked}
use Rattle.kinds.proofs.Bools.{of_not, of_not_false}
use mathlib.Core.Path.{ap, sym, ◌∙◌}
use native.Mathlib.Omega.{arith}
use Rattle.clashing.proofs.marks.clashes.Goals as goal

pub returns-then-not-good : goal.returns-then-not-good
returns-then-not-good c = sym (clashes_bad _ _ _ _ _ _ (sym c.shapes_good-good.ensures ∙ of_not _ c.if-not-good.true-raw))

pub slice_bounds-clashes_in-end : goal.slice_bounds-clashes_in-end
slice_bounds-clashes_in-end c = omega (arith, (looked _ _ _ _ _ (sym c.looked_at.ensures ∙ c.in_ok-n.was)).inside)

pub clashes_in-requires : goal.clashes_in-requires
clashes_in-requires c = let l = looked _ _ _ _ _ (sym c.looked_at.ensures ∙ c.in_ok-n.was) in
    (omega (arith, l.nodes, l.few), l.short)

pub returns-in_err-n : goal.returns-in_err-n
returns-in_err-n c =
    let p = err_from_is_err_and c.from_residual.result c.from_residual.ensures.1 in
    p.1 ∙ ap Err p.2 ∙ sym (clashes_go _ _ _ _ _ _ (sym c.shapes_good-good.ensures
    ∙ of_not_false _ c.if-not-good.false-raw)
    ∙ unlooked _ _ _ _ (clashes_in _ _ _ _) _ (sym c.looked_at.ensures ∙ c.in_err-n.was))

pub returns : goal.returns
returns c =
    c.clashes_in.ensures
    ∙ sym (clashes_go _ _ _ _ _ _ (sym c.shapes_good-good.ensures ∙ of_not_false _ c.if-not-good.false-raw)
    ∙ (looked _ _ _ _ _ (sym c.looked_at.ensures ∙ c.in_ok-n.was)).counts
    (clashes_in _ _ _ _))
