use Rattle.goals.proofs.GoalLaws.{has_next, has_here, has_end, first_next, first_here, first_end}
use mathlib.Core.Path.{sym, ◌∙◌}
use Rattle.goals.proofs.obligations.common.Goals as goal

pub loop-y-preserved : goal.loop-y-preserved
loop-y-preserved c = (c.loop-y.invariant.0, c.loop-y.invariant.1 ∙ has_next _ _ _ c.loop-y-test.true c.if-y-x.false)

pub outer-preserved : goal.outer-preserved
outer-preserved c = (
  c.loop-y.invariant.0,
  c.outer.invariant.1 ∙ first_next _ _ _ c.outer-test.true (c.loop-y.invariant.1 ∙ has_end _ _ _ c.loop-y-test.false),
)

pub returns-after-outer : goal.returns-after-outer
returns-after-outer c = c.outer.invariant.0 ∙ sym (c.outer.invariant.1 ∙ first_end _ _ _ c.outer-test.false)

pub returns-then-y-x : goal.returns-then-y-x
returns-then-y-x c =
    sym (c.outer.invariant.1 ∙ first_here _ _ _ c.outer-test.true
    (c.loop-y.invariant.1 ∙ has_here _ _ _ c.loop-y-test.true c.if-y-x.true))
