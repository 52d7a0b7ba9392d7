use Rattle.comparing.proofs.LawsComparing.{good_shapes, tells_bad, tells_refused, tells_number}
use Rattle.counting.proofs.CountLaws.{looked}
use Rattle.kinds.proofs.Bools.{of_not, of_not_false}
use mathlib.Core.Path.{sym, ◌∙◌}
use native.Mathlib.Omega.{arith}
use Rattle.comparing.proofs.marking.compare.Goals as goal

pub returns-then-not-good : goal.returns-then-not-good
returns-then-not-good c = tells_bad _ _ _ _ _ _ (sym c.shapes_good-good.ensures ∙ of_not _ c.if-not-good.true-raw)

pub mark_all-requires : goal.mark_all-requires
mark_all-requires c =
    let l = looked _ _ _ _ _ (sym c.looked_at.ensures ∙ c.in-Ok.is) in
    let g = good_shapes _ _ _ (sym c.shapes_good-good.ensures ∙ of_not_false _ c.if-not-good.false-raw) in
    (g.0, g.1, omega (arith, l.few), omega (arith, l.inside))

pub returns-in-Err : goal.returns-in-Err
returns-in-Err c =
    tells_refused _ _ _ _ _ _ (sym c.shapes_good-good.ensures ∙ of_not_false _ c.if-not-good.false-raw)
    (sym c.looked_at.ensures ∙ c.in-Err.is)

pub returns-in-Ok : goal.returns-in-Ok
returns-in-Ok c =
    tells_number _ _ _ _ _ _ (sym c.shapes_good-good.ensures ∙ of_not_false _ c.if-not-good.false-raw)
    (sym c.looked_at.ensures ∙ c.in-Ok.is) (c.mark_all.ensures.count, c.mark_all.ensures.buffer)
