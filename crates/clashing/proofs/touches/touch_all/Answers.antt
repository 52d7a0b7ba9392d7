use mathlib.Core.Path.{ap, sym, ◌∙◌}
use Rattle.counting.specs.Counting.{match_at}
use Rattle.counting.proofs.PassLaws.{left}
use Rattle.matching.specs.Counts.{raises}
use Rattle.clashing.proofs.PassTurns.{touch_start, touch_next, touch_end, nodes_are}
use Rattle.clashing.proofs.touches.touch_all.Goals as goal

pub loop-node-init : goal.loop-node-init
loop-node-init c = sym (touch_start _ _ _ _ (ap left c.into_iter-node-iterator.ensures.into_iter_gives ∙ c.new-node-items.ensures))

pub loop-node-preserved : goal.loop-node-preserved
loop-node-preserved c =
    let n = nodes_are _ _ c.args.spans.now (match_at c.in-Some.node.0 c.in-Some.shape.0) _ c.words_of.ensures in
    c.loop-node.invariant ∙ touch_next _ _ _ _ _ _ c.in-Some.ensures.steps (c.touch.ensures ∙ ap (λ xs. raises xs c.loop-node.counts) n)

pub returns : goal.returns
returns c = sym (c.loop-node.invariant ∙ touch_end _ _ _ c.in-None.ensures.steps.0)
