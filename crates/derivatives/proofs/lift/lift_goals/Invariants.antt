use Rattle.derivatives.proofs.LiftLaws.{lifted_past}
use Rattle.goals.specs.GoalWords.{goals_from, flat}
use Rattle.goals.specs.WordStages.{lift_w}
use Prim.Native.Nat.{◌+◌, ◌*◌}
use lib.Seq.{sets}
use mathlib.Core.List.{map}
use mathlib.Core.Path.{◌≡◌}
use Rattle.derivatives.proofs.lift.lift_goals.Given as goal

abbrev pub invariant-loop-i : goal.invariant-loop-i
invariant-loop-i l =
    sets l.initial.ws l.at (flat (map (lift_w l.top.0) (goals_from l.initial.ws l.at l.n))) ≡
    sets l.ws (l.at + 3 * l.i) (lifted_past l.top.0 l.ws l.at l.n l.i)
