use Rattle.goals.proofs.GoalLaws.{stored_low}
use Rattle.derivatives.proofs.DeriveLaws.{passing_end, stay_room, stay_on, stay_off}
use mathlib.Core.Path.{◌∙◌}
use Rattle.derivatives.proofs.derivative.put_staying.Goals as goal
use Rattle.derivatives.proofs.derivative.put_staying.Goals.{else-node_at-eq16, then-node_at-eq16}

pub node_at-requires : goal.node_at-requires
node_at-requires c = rw c.goal_at-g.ensures (c.requires.0.tabled, stored_low c.requires.0 c.loop-i.i c.loop-i-test.true)

pub put_goal-requires : goal.put_goal-requires
put_goal-requires c =
    stay_room c.args.tab.now c.args.root.0 c.loop-i.invariant c.loop-i-test.true _ _ c.goal_at-g.ensures c.node_at.ensures c.if-node_at-eq16.true

pub loop-i-preserved : goal.loop-i-preserved
loop-i-preserved c =
    elim c.if-node_at-eq16.branch [
      | then-node_at-eq16 w ↦ stay_on c.args.tab.now c.args.root.0 c.loop-i.invariant c.loop-i-test.true _ _ c.goal_at-g.ensures
          c.node_at.ensures w.if-node_at-eq16.true _ _ (w.out-is ∙ w.put_goal.ensures) w.next-is
      | else-node_at-eq16 w ↦ stay_off c.args.tab.now c.args.root.0 c.loop-i.invariant c.loop-i-test.true _ _ c.goal_at-g.ensures
          c.node_at.ensures w.if-node_at-eq16.false _ _ w.out-is w.next-is
    ]

pub returns : goal.returns
returns c = passing_end c.loop-i.invariant c.loop-i-test.false
