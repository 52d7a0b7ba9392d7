use Prim.Native.Nat.{ℕ, ◌≤◌}
use mathlib.Core.Option.{some}
use mathlib.Core.Path.{ap, sym, ◌∙◌}
use native.Mathlib.Omega.{arith}
use Rattle.report.proofs.PathLaws.{child_last, child_out, child_empty, child_past, child_here, child_next, child_end}
use Rattle.report.proofs.text.find_child.Goals as goal

pub returns-then-spans-at : goal.returns-then-spans-at
returns-then-spans-at c = sym (child_last _ _ _ c.if-spans-at.true)

pub returns-then-spans-here : goal.returns-then-spans-here
returns-then-spans-here c =
    let more : c.loop-k.k ≤ 4 = omega arith in
    sym (c.loop-k.invariant ∙ child_out _ _ _ _ _ more c.if-spans-here.true)

pub returns-then-size-eq0 : goal.returns-then-size-eq0
returns-then-size-eq0 c =
    let more : c.loop-k.k ≤ 4 = omega arith in
    sym (c.loop-k.invariant ∙ child_empty _ _ _ _ _ more c.if-spans-here.false c.if-size-eq0.true)

pub returns-then-end-e : goal.returns-then-end-e
returns-then-end-e c =
    let more : c.loop-k.k ≤ 4 = omega arith in
    sym (c.loop-k.invariant ∙ child_past _ _ _ _ _ more c.if-spans-here.false c.if-size-eq0.false c.if-end-e.true)

pub returns-then-x-e : goal.returns-then-x-e
returns-then-x-e c =
    let more : c.loop-k.k ≤ 4 = omega arith in
    ap (λ (i : ℕ). some (i, c.loop-k.here)) {y = c.loop-k.k} (omega arith)
    ∙ sym (c.loop-k.invariant ∙ child_here _ _ _ _ _ more c.if-spans-here.false c.if-size-eq0.false
    c.if-end-e.false c.if-x-e.true)

pub loop-k-preserved : goal.loop-k-preserved
loop-k-preserved c =
    let more : c.loop-k.k ≤ 4 = omega arith in
    c.loop-k.invariant ∙ child_next _ _ _ _ _ more c.if-spans-here.false c.if-size-eq0.false c.if-end-e.false c.if-x-e.false

pub returns-else-x-e : goal.returns-else-x-e
returns-else-x-e c =
    let more : c.loop-k.k ≤ 4 = omega arith in
    let last : 4 ≤ c.loop-k.k = omega arith in
    sym (c.loop-k.invariant ∙ child_next _ _ _ _ _ more c.if-spans-here.false c.if-size-eq0.false c.if-end-e.false c.if-x-e.false
    ∙ child_end _ _ _ _ _ _ last)
