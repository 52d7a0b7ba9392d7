use Rattle.derivatives.proofs.OrderLaws.{Listed}
use Rattle.derivatives.specs.Orders.{goal_on, goes_out}
use Rattle.goals.specs.WordStages.{ann_key}
use Rattle.derivatives.proofs.announce.outputs.Given as goal

abbrev pub invariant-loop-j : goal.invariant-loop-j
invariant-loop-j l = Listed (goes_out l.tab l.ws l.at l.root.0 l.symbol.0) (λ x. ann_key (goal_on l.ws l.at x)) l.n l.initial.items l.items l.k l.j
