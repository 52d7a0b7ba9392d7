use Rattle.goals.specs.declared.Goal.{Goal}
use Rattle.goals.proofs.GoalLaws.{label_on, label_off, label_end, stored_low}
use mathlib.Core.Path.{refl, ap, sym, ◌∙◌}
use Rattle.goals.proofs.obligations.label.Goals as goal
use Rattle.goals.proofs.obligations.label.Goals.{else-g, then-g}

pub first_owed-best-requires : goal.first_owed-best-requires
first_owed-best-requires c =
    rw c.goal_at-g.ensures (c.requires.tabled, stored_low c.requires c.loop-j.j c.loop-j-test.true)

pub loop-j-preserved : goal.loop-j-preserved
loop-j-preserved c =
    let at = ap (λ (x : Goal). x.at.0) c.goal_at-g.ensures in
    elim c.if-g.branch [
      | then-g w ↦ c.loop-j.invariant ∙ label_on _ _ _ _ _ _ c.loop-j-test.true (sym at ∙ w.if-g.true)
          ∙ rw (w.best-is, w.first_owed-best.ensures, c.goal_at-g.ensures, sym at ∙ w.if-g.true) refl
      | else-g w ↦ c.loop-j.invariant ∙ rw w.best-is (label_off _ _ _ _ _ _ c.loop-j-test.true (λ z. w.if-g.false (at ∙ z)))
    ]

pub returns : goal.returns
returns c = sym (c.loop-j.invariant ∙ label_end _ _ _ _ _ _ c.loop-j-test.false)
