use Rattle.following.proofs.LawsFollowing.{child_out, child_in, siblings_out, siblings_empty, siblings_past, siblings_here, siblings_next}
use mathlib.Core.Path.{sym, ◌∙◌}
use native.Mathlib.Omega.{arith}
use Rattle.following.proofs.positions.child.Goals as goal
use Rattle.following.proofs.positions.child.Goals.{then-size-eq0-via-then-size-eq0, then-size-eq0-via-else-size-eq0+then-end-here}

pub returns-then-spans-at : goal.returns-then-spans-at
returns-then-spans-at c = sym (child_out _ _ _ c.if-spans-at.true)

pub loop-left-init : goal.loop-left-init
loop-left-init c = child_in _ _ _ c.if-spans-at.false

pub returns-then-spans-here : goal.returns-then-spans-here
returns-then-spans-here c = sym (c.loop-left.invariant ∙ siblings_out _ _ _ _ c.if-spans-here.true)

pub returns-then-size-eq0 : goal.returns-then-size-eq0
returns-then-size-eq0 c =
    elim c.then-size-eq0.branch [
      | then-size-eq0-via-then-size-eq0 w ↦ sym (c.loop-left.invariant ∙ siblings_empty _ _ _ _ c.if-spans-here.false w.if-size-eq0.true)
      | then-size-eq0-via-else-size-eq0+then-end-here w ↦
          sym (c.loop-left.invariant ∙ siblings_past _ _ _ _ c.if-spans-here.false w.if-size-eq0.false w.if-end-here.true)
    ]

pub returns-then-left-eq0 : goal.returns-then-left-eq0
returns-then-left-eq0 c =
    sym (c.loop-left.invariant
    ∙ siblings_here _ _ c.loop-left.left _ c.if-spans-here.false c.if-size-eq0.false c.if-end-here.false (omega arith))

pub loop-left-preserved : goal.loop-left-preserved
loop-left-preserved c =
    c.loop-left.invariant
    ∙ siblings_next _ _ c.loop-left.left _ c.if-spans-here.false c.if-size-eq0.false c.if-end-here.false (omega arith)
