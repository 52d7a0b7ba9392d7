use Rattle.counting.specs.Passing.{next_of}
use mathlib.Core.Path.{◌≡◌}
use Prim.Native.Nat.{◌-◌, ◌*◌, ◌≤◌}
use lib.ListN.{length}
use Rattle.counting.proofs.passing.next_match.Given as goal

abbrev pub invariant-loop-k : goal.invariant-loop-k
invariant-loop-k l = (l.k ≤ 16 * length l.marks) × (next_of l.marks l.from (16 * length l.marks - l.from) ≡ next_of l.marks l.k (16 * length l.marks - l.k))

abbrev pub decreases-loop-k : goal.decreases-loop-k
decreases-loop-k l = 16 * length l.marks - l.k
