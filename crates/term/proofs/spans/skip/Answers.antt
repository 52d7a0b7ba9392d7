use Rattle.term.proofs.LawsSpans.{over_next, over_out, over_end}
use mathlib.Core.Path.{sym, ◌∙◌}
use Rattle.term.proofs.spans.skip.Goals as goal

pub returns-then-spans-here : goal.returns-then-spans-here
returns-then-spans-here c = sym (c.loop.invariant ∙ over_out _ _ _ _ c.if-spans-here.true)

pub loop-preserved : goal.loop-preserved
loop-preserved c = c.loop.invariant ∙ over_next _ _ _ _ c.loop-test.true

pub returns : goal.returns
returns c = sym (c.loop.invariant ∙ over_end _ _ _ _ c.loop-test.false)
