use Rattle.goals.specs.GoalWords.{first_code, label_code, root_codes, goals_from}
use Prim.Native.Nat.{◌+◌, ◌-◌, ◌*◌}
use mathlib.Core.Path.{◌≡◌}
use Rattle.goals.proofs.obligations.label.Given as goal

abbrev pub invariant-loop-j : goal.invariant-loop-j
invariant-loop-j l =
    label_code l.tab (goals_from l.ws l.at l.n) ≡ first_code l.best (root_codes l.tab (goals_from l.ws (l.at + 3 * l.j) (l.n - l.j)))
