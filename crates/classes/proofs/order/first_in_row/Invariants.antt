use Rattle.goals.specs.GoalWords.{no_code}
use Rattle.derivatives.proofs.OrderLaws.{first_from}
use lib.ListN.{get_or}
use mathlib.Core.List.{[]}
use mathlib.Core.Path.{◌≡◌}
use Rattle.classes.proofs.order.first_in_row.Given as goal

abbrev pub invariant-loop-j : goal.invariant-loop-j
invariant-loop-j l = first_from l.tab (get_or l.dep l.i []) l.ws l.n no_code 0 ≡ first_from l.tab (get_or l.dep l.i []) l.ws l.n l.best l.j
