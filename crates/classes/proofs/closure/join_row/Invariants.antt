use Rattle.classes.proofs.ClosureLaws.{Row}
use Rattle.classes.proofs.closure.join_row.Given as goal

abbrev pub invariant-loop-j : goal.invariant-loop-j
invariant-loop-j l = Row l.n l.k l.i l.initial.dep l.dep l.j
