use Rattle.derivatives.proofs.LiftLaws.{under_weight, under_next, under_end}
use native.Mathlib.Omega.{arith}
use Rattle.derivatives.proofs.lift.under.Goals as goal

pub overflow_mul-weight : goal.overflow_mul-weight
overflow_mul-weight c = omega (arith, under_weight _ _ c.loop-up.invariant)

pub loop-up-preserved : goal.loop-up-preserved
loop-up-preserved c = under_next _ _ c.loop-up.invariant c.loop-up-test.true

pub nonzero_rem-result : goal.nonzero_rem-result
nonzero_rem-result c = omega (arith, under_weight _ _ c.loop-up.invariant)

pub returns : goal.returns
returns c = under_end _ _ c.loop-up.invariant c.loop-up-test.false
