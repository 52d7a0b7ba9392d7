use Rattle.classes.proofs.ClosureLaws.{filled_closes}
use Rattle.classes.proofs.square.dependency.Goals as goal

pub returns : goal.returns
returns c = filled_closes c.fill.ensures c.close.ensures
