use mathlib.Core.Path.{sym, ◌∙◌}
use Rattle.goals.proofs.GoalLaws.{node_here, node_other, node_off, node_end}
use Rattle.goals.proofs.obligations.node_at.Goals as goal
use Rattle.goals.proofs.obligations.node_at.Goals.{else-mask-eq1-via-then-mask-eq1+else-code_at-here, else-mask-eq1-via-else-mask-eq1}

pub returns-then-code_at-here : goal.returns-then-code_at-here
returns-then-code_at-here c =
    sym (c.loop-r.invariant ∙ node_here _ _ _ _ _ _ _ c.loop-r-test.true c.if-mask-eq1.true (sym c.code_at.ensures ∙ c.if-code_at-here.true))

pub loop-r-preserved : goal.loop-r-preserved
loop-r-preserved c =
    elim c.else-mask-eq1.branch [
      | else-mask-eq1-via-then-mask-eq1+else-code_at-here w ↦
          c.loop-r.invariant ∙ node_other _ _ _ _ _ _ _ c.loop-r-test.true w.if-mask-eq1.true (λ e. w.if-code_at-here.false (w.code_at.ensures ∙ e))
      | else-mask-eq1-via-else-mask-eq1 w ↦ c.loop-r.invariant ∙ node_off _ _ _ _ _ _ _ c.loop-r-test.true w.if-mask-eq1.false
    ]

pub returns : goal.returns
returns c = sym (c.loop-r.invariant ∙ node_end _ _ _ _ _ _ _ c.loop-r-test.false)
