use Rattle.derivatives.proofs.AlongLaws.{goals_past}
use Rattle.goals.specs.GoalWords.{goals_from}
use Rattle.goals.specs.WordStages.{least_code}
use mathlib.Core.Path.{◌≡◌}
use Rattle.derivatives.proofs.lift.least.Given as goal

abbrev pub invariant-loop-i : goal.invariant-loop-i
invariant-loop-i l = least_code l.initial.found (goals_from l.ws l.at l.n) ≡ least_code l.found (goals_past l.ws l.at l.n l.i)
