use Rattle.classes.specs.Squares.{shares, RowsFilled}
use Rattle.classes.proofs.square.fill.Given as goal

abbrev pub invariant-loop-i : goal.invariant-loop-i
invariant-loop-i l = RowsFilled l.n (shares l.tab l.ws) l.dep l.i
