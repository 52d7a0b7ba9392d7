use Rattle.derivatives.proofs.LiftLaws.{Under}
use Rattle.derivatives.proofs.lift.under.Given as goal

abbrev pub invariant-loop-up : goal.invariant-loop-up
invariant-loop-up l = Under l.top.0 l.place.0 l.up l.weight

abbrev pub decreases-loop-up : goal.decreases-loop-up
decreases-loop-up l = l.up
