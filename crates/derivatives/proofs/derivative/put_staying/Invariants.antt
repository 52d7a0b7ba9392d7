use Rattle.derivatives.proofs.DeriveLaws.{Passing}
use Rattle.goals.specs.WordStages.{stays}
use Rattle.derivatives.proofs.derivative.put_staying.Given as goal

abbrev pub invariant-loop-i : goal.invariant-loop-i
invariant-loop-i l = Passing (stays l.tab l.root.0) l.ws l.at l.n l.to l.initial.out l.out l.next l.i
