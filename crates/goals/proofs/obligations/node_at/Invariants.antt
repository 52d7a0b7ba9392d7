use mathlib.Core.Path.{◌≡◌}
use Rattle.goals.specs.GoalWords.{node_from, node_at}
use Prim.Native.Nat.{◌-◌}
use Rattle.goals.proofs.obligations.node_at.Given as goal

abbrev pub invariant-loop-r : goal.invariant-loop-r
invariant-loop-r l =
    node_at l.tab l.g.shape.0 l.g.at.0 l.g.mask l.here.0 ≡ node_from l.tab l.g.shape.0 l.g.at.0 l.here.0 (l.size - l.r) l.r l.mask
