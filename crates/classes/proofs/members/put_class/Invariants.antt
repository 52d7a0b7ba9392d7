use Rattle.classes.proofs.ClassLaws.{Left}
use Rattle.goals.specs.GoalWords.{goals_from, flat}
use Rattle.goals.specs.WordStages.{picked_w}
use Prim.Native.Nat.{◌+◌}
use lib.Seq.{sets}
use lib.ListN.{length, get_or}
use mathlib.Core.List.{[]}
use mathlib.Core.Path.{◌≡◌}
use Rattle.classes.proofs.members.put_class.Given as goal

abbrev pub invariant-loop-j : goal.invariant-loop-j
invariant-loop-j l =
    (l.next + length (Left (get_or l.dep l.i []) l.ws l.n l.j) ≡ l.to + length (flat (picked_w (get_or l.dep l.i []) (goals_from l.ws 0 l.n))))
    × (sets l.initial.out l.to (flat (picked_w (get_or l.dep l.i []) (goals_from l.ws 0 l.n))) ≡ sets l.out l.next (Left (get_or l.dep l.i []) l.ws l.n l.j))
