use Rattle.classes.proofs.ClosureLaws.{closed_none, closed_more}
use native.Mathlib.Omega.{arith}
use Rattle.classes.proofs.closure.close.Goals as goal

pub loop-k-init : goal.loop-k-init
loop-k-init c = closed_none _ _ c.requires.1

pub loop-k-preserved : goal.loop-k-preserved
loop-k-preserved c = closed_more (omega arith) c.loop-k.invariant c.round.ensures
