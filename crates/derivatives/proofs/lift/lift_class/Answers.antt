use Rattle.derivatives.proofs.LiftLaws.{lifts}
use Rattle.goals.specs.GoalWords.{goals_from}
use Rattle.derivatives.proofs.lift.lift_class.Goals as goal

pub returns : goal.returns
returns c =
    lifts (goals_from c.args.ws.now c.args.at c.args.k) c.args.at _ _ _
    c.least-top.ensures c.lift_goals.ensures
