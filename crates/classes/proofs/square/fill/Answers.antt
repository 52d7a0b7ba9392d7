use Rattle.classes.proofs.SquareLaws.{rows_more}
use Rattle.classes.specs.Squares.{shares}
use Rattle.classes.proofs.square.fill.Goals as goal

pub loop-i-preserved : goal.loop-i-preserved
loop-i-preserved c = rows_more _ (shares c.args.tab.now c.args.ws.now) _ _ _ c.loop-i.invariant c.fill_row.ensures
