use Rattle.goals.proofs.GoalLaws.{stored_low}
use Rattle.derivatives.proofs.DeriveLaws.{passing_end, move_room, move_on}
use Rattle.derivatives.proofs.derivative.put_moving.Goals as goal

pub reduce-x-requires : goal.reduce-x-requires
reduce-x-requires c = rw c.goal_at-g.ensures (c.requires.0.tabled, stored_low c.requires.0 c.loop-i.i c.loop-i-test.true)

pub put_moved-next-requires : goal.put_moved-next-requires
put_moved-next-requires c =
    move_room c.args.tab.now c.args.root.0 c.args.symbol.0 c.loop-i.invariant c.loop-i-test.true _ _ c.goal_at-g.ensures c.reduce-x.ensures

pub loop-i-preserved : goal.loop-i-preserved
loop-i-preserved c =
    move_on c.args.tab.now c.args.root.0 c.args.symbol.0 c.loop-i.invariant c.loop-i-test.true _ _ c.goal_at-g.ensures c.reduce-x.ensures _ _
    c.put_moved-next.ensures

pub returns : goal.returns
returns c = passing_end c.loop-i.invariant c.loop-i-test.false
