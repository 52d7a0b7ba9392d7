use Rattle.classes.specs.Squares.{RowsJoined}
use Rattle.classes.proofs.closure.round.Given as goal

abbrev pub invariant-loop-i : goal.invariant-loop-i
invariant-loop-i l = RowsJoined l.n l.k l.initial.dep l.dep l.i
