use mathlib.Core.Path.{◌≡◌}
use Rattle.following.specs.Following.{child_at}
use Rattle.following.proofs.LawsFollowing.{siblings}
use Rattle.following.proofs.positions.child.Given as goal

abbrev pub invariant-loop-left : goal.invariant-loop-left
invariant-loop-left l = child_at l.spans l.i l.at ≡ siblings l.spans l.end l.left l.here
