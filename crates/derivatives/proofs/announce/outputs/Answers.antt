use Rattle.goals.proofs.GoalLaws.{stored_low}
use Rattle.goals.specs.GoalKinds.{as_words}
use Rattle.goals.specs.declared.Goal.{Goal}
use Rattle.goals.specs.GoalWords.{pad}
use Rattle.goals.specs.WordStages.{reduct}
use mathlib.Core.Path.{ap₂}
use Rattle.derivatives.proofs.OrderLaws.{listed_on, listed_off, listed_end}
use borrow.Author.Tests.{eq-eqb, ne_eqb}
use Prim.Native.Nat.{ℕ, ◌+◌, ◌*◌}
use mathlib.Core.Path.{ap, sym, ◌∙◌}
use Rattle.derivatives.proofs.announce.outputs.Goals as goal
use Rattle.derivatives.proofs.announce.outputs.Goals.{else-reduce-eq0, then-reduce-eq0}

pub reduce-requires : goal.reduce-requires
reduce-requires c =
    rw c.goal_at-g.ensures (c.requires.0.tabled, stored_low c.requires.0 c.loop-j.j c.loop-j-test.true)

pub loop-j-preserved : goal.loop-j-preserved
loop-j-preserved c =
    let d =
    c.reduce.ensures ∙ ap (λ (x : Goal). reduct c.args.tab.now c.args.root.0 c.args.symbol.0 (as_words x)) c.goal_at-g.ensures in
    elim c.if-reduce-eq0.branch [
      | then-reduce-eq0 w ↦ rw (w.items-is, w.k-is) (listed_on c.loop-j.invariant c.loop-j-test.true (eq-eqb _ _ (sym d ∙ w.if-reduce-eq0.true)) _
          (ap₂ (λ (x : ℕ) (y : Goal). 128 * (16 * x + y.shape.0) + c.loop-j.j) (w.padded.ensures ∙ ap (λ (y : Goal). pad y.at.0) c.goal_at-g.ensures)
          c.goal_at-g.ensures))
      | else-reduce-eq0 w ↦ rw (w.items-is, w.k-is) (listed_off c.loop-j.invariant c.loop-j-test.true (ne_eqb _ _ (λ e. w.if-reduce-eq0.false (d ∙ e))))
    ]

pub returns : goal.returns
returns c =
    listed_end c.loop-j.invariant c.loop-j-test.false c.requires.1 _
    c.arrange.ensures
