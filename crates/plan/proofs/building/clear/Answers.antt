use Rattle.plan.proofs.BuildLaws.{cleared_is}
use Rattle.plan.proofs.building.clear.Goals as goal

pub returns : goal.returns
returns c = cleared_is c.args.scratch.now c.fill.new.self c.requires (c.fill.ensures.after (λ y h. h))
