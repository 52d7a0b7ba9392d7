use Rattle.classes.specs.Squares.{shares, RowFilled}
use Rattle.classes.proofs.square.fill_row.Given as goal

abbrev pub invariant-loop-j : goal.invariant-loop-j
invariant-loop-j l = RowFilled l.i (shares l.tab l.ws l.i) l.initial.dep l.dep l.j
