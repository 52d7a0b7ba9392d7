use Rattle.goals.proofs.GoalLaws.{front}
use Rattle.goals.specs.GoalWords.{first_code}
use mathlib.Core.Path.{ap, ◌∙◌}
use native.Mathlib.Omega.{arith}
use Rattle.goals.proofs.obligations.first_owed.Goals as goal

pub returns : goal.returns
returns c =
    let codes = front _ _ _ _ (omega (arith, c.owed-k.ensures)) c.owed-k.ensures.count c.owed-k.ensures.wrote in
    c.first_of.ensures ∙ ap (first_code c.args.best) codes
