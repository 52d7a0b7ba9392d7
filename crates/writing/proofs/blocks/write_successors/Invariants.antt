use Rattle.writing.proofs.WriteLaws.{Paired}
use Rattle.states.specs.Meeting.{place_of, Spared}
use Rattle.goals.specs.WordStages.{displacement_w, lifted_w}
use Rattle.decoding.specs.WordMachine.{states_in}
use Rattle.derivatives.specs.Orders.{class_at}
use Prim.Native.Nat.{◌%◌}
use Rattle.writing.proofs.blocks.write_successors.Given as goal

abbrev pub invariant-loop-item : goal.invariant-loop-item
invariant-loop-item l = Paired (λ x. place_of (states_in l.initial.scratch l.m) (lifted_w (class_at l.derived.dep.now l.derived.goals.now l.derived.count (x % 128)))) (λ x. displacement_w (class_at l.derived.dep.now l.derived.goals.now l.derived.count (x % 128))) l.order
    l.initial.plan l.plan l.at l.here l.item-index
    × Spared l.m l.initial.scratch l.scratch
