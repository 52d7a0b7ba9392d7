use Rattle.derivatives.proofs.OrderLaws.{Listed}
use Rattle.derivatives.specs.Orders.{begins, class_at}
use Rattle.goals.specs.WordStages.{class_key}
use Rattle.classes.proofs.order.class_order.Given as goal

abbrev pub invariant-loop-i : goal.invariant-loop-i
invariant-loop-i l = Listed (begins l.dep) (λ x. class_key l.tab (class_at l.dep l.ws l.n x)) l.n l.initial.items l.items l.k l.i
