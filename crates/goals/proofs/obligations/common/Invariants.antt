use Rattle.std.specs.Prelude.{None}
use Rattle.goals.specs.WordStages.{has_code}
use Rattle.goals.specs.Sharing.{first_shared}
use lib.ListN.{drop}
use mathlib.Core.Path.{◌≡◌}
use Rattle.goals.proofs.obligations.common.Given as goal

abbrev pub invariant-loop-y : goal.invariant-loop-y
invariant-loop-y l = (l.shared ≡ None) × (has_code l.x l.b ≡ has_code l.x (drop l.y-index l.b))

abbrev pub invariant-outer : goal.invariant-outer
invariant-outer l = (l.shared ≡ None) × (first_shared l.a l.b ≡ first_shared (drop l.x-index l.a) l.b)
