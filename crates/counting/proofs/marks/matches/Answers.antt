use Rattle.std.specs.Prelude.{Err, Ok}
use Rattle.std.proofs.lemmas.Result.{err_from_is_err_and}
use Rattle.counting.proofs.CountLaws.{looked, unlooked}
use Rattle.counting.specs.Counting.{total}
use mathlib.Core.Path.{ap, sym, ◌∙◌}
use native.Mathlib.Omega.{arith}
use Rattle.counting.proofs.marks.matches.Goals as goal

pub slice_bounds-ones_of-end : goal.slice_bounds-ones_of-end
slice_bounds-ones_of-end c = omega (arith, (looked _ _ _ _ _ (sym c.looked_at.ensures ∙ c.in_ok-n.was)).inside)

pub ones_of-requires : goal.ones_of-requires
ones_of-requires c = omega (arith, (looked _ _ _ _ _ (sym c.looked_at.ensures ∙ c.in_ok-n.was)).short)

pub returns-in_err-n : goal.returns-in_err-n
returns-in_err-n c =
    let p = err_from_is_err_and c.from_residual.result c.from_residual.ensures.1 in
    p.1 ∙ ap Err p.2 ∙ sym (unlooked _ _ _ _ (λ ms. Ok (total ms)) _ (sym c.looked_at.ensures ∙ c.in_err-n.was))

pub returns : goal.returns
returns c = ap Ok c.ones_of.ensures
    ∙ sym ((looked _ _ _ _ _ (sym c.looked_at.ensures ∙ c.in_ok-n.was)).counts
    (λ ms. Ok (total ms)))
