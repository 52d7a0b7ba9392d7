use Prim.Native.Nat.{◌/◌}
use Rattle.counting.proofs.PassLaws.{none_left, low_in, low_found, none_low, next_here, next_turn, next_end}
use mathlib.Core.Path.{refl, sym, ◌∙◌}
use native.Mathlib.Omega.{arith}
use Rattle.counting.proofs.passing.next_match.Goals as goal

pub loop-k-init : goal.loop-k-init
loop-k-init c = (c.requires.1, refl)

pub returns-then-rest-ne0 : goal.returns-then-rest-ne0
returns-then-rest-ne0 c =
    let fits = (c.type_inv.marks (c.loop-k.k / 16)).fits in
    let low = low_in c.args.marks.now c.loop-k.k fits c.if-rest-ne0.true in
    sym (c.loop-k.invariant.1
    ∙ next_turn _ _ _ _ (omega (arith, low, c.loop-k-test.true)) (none_low c.args.marks.now c.loop-k.k fits c.if-rest-ne0.true)
    ∙ next_here _ _ _ (omega (arith, low, c.loop-k-test.true)) (low_found c.args.marks.now c.loop-k.k fits c.if-rest-ne0.true))

pub loop-k-preserved : goal.loop-k-preserved
loop-k-preserved c =
    let none = none_left c.args.marks.now c.loop-k.k (c.type_inv.marks (c.loop-k.k / 16)).fits
    c.if-rest-ne0.false in
    (omega (arith, c.loop-k-test.true), c.loop-k.invariant.1 ∙ next_turn _ _ _ _ (omega (arith, c.loop-k-test.true)) none)

pub returns : goal.returns
returns c = sym (c.loop-k.invariant.1 ∙ next_end _ _ _ (omega (arith, c.loop-k-test.false)))
