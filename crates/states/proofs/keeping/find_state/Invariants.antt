use Rattle.states.proofs.StateLaws.{place_from}
use Rattle.decoding.specs.WordMachine.{place_in}
use Rattle.goals.specs.GoalWords.{goals_from}
use mathlib.Core.Path.{◌≡◌}
use Rattle.states.proofs.keeping.find_state.Given as goal

abbrev pub invariant-loop-i : goal.invariant-loop-i
invariant-loop-i l =
    place_from (goals_from l.scratch (place_in l.m) l.k) l.scratch l.m 0 ≡
    place_from (goals_from l.scratch (place_in l.m) l.k) l.scratch l.m l.i
