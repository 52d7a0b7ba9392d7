use Rattle.classes.specs.Squares.{ClosedUpTo}
use Rattle.classes.proofs.closure.close.Given as goal

abbrev pub invariant-loop-k : goal.invariant-loop-k
invariant-loop-k l = ClosedUpTo l.n l.initial.dep l.dep l.k
