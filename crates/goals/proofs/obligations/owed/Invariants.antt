use mathlib.Core.Path.{◌≡◌}
use Rattle.goals.specs.GoalWords.{owed_from, owed_by}
use Rattle.goals.specs.GoalKinds.{as_words}
use lib.Seq.{sets}
use lib.ListN.{length}
use Prim.Native.Nat.{◌≤◌, ◌+◌, ◌-◌}
use Rattle.goals.proofs.obligations.owed.Given as goal

abbrev pub invariant-loop-r : goal.invariant-loop-r
invariant-loop-r l = (l.k ≤ l.r)
    × (l.k + length (owed_from l.tab l.g.shape.0 l.g.at.0 (l.size - l.r) l.r l.mask) ≡ length (owed_by l.tab (as_words l.g)))
    × (sets l.initial.out 0 (owed_by l.tab (as_words l.g)) ≡ sets l.out l.k (owed_from l.tab l.g.shape.0 l.g.at.0 (l.size - l.r) l.r l.mask))
