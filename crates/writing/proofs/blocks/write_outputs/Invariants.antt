use Rattle.writing.proofs.WriteLaws.{Paired}
use Rattle.derivatives.specs.Orders.{goal_on}
use Prim.Native.Nat.{◌%◌}
use Rattle.writing.proofs.blocks.write_outputs.Given as goal

abbrev pub invariant-loop-item : goal.invariant-loop-item
invariant-loop-item l = Paired (λ x. (goal_on l.scratch l.from (x % 128)).sh) (λ x. (goal_on l.scratch l.from (x % 128)).an) l.out l.initial.plan l.plan l.at l.here l.item-index
