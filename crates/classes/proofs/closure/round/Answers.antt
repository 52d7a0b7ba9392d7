use Rattle.classes.proofs.ClosureLaws.{rows_more, grown_refl}
use native.Mathlib.Omega.{arith}
use Rattle.classes.proofs.closure.round.Goals as goal

pub loop-i-init : goal.loop-i-init
loop-i-init c = record { within = omega arith; square = c.requires.square; grown = grown_refl _ _; joined = λ a h. absurd (omega arith) }

pub loop-i-preserved : goal.loop-i-preserved
loop-i-preserved c = rows_more c.loop-i-test.true c.loop-i.invariant c.join_row.ensures
