use mathlib.Core.Path.{ap, sym, ◌∙◌}
use Rattle.matching.proofs.LawsLaying.{left, touch_begin, touch_next, touch_end}
use Rattle.matching.proofs.touching.touch.Goals as goal

pub loop-word-init : goal.loop-word-init
loop-word-init c = touch_begin _ _ _ _ _ (ap left c.into_iter-word-iterator.ensures.into_iter_gives ∙ c.new-word-items.ensures)

pub loop-word-preserved : goal.loop-word-preserved
loop-word-preserved c = c.loop-word.invariant ∙ touch_next _ _ _ _ c.in-Some.ensures.steps c.raise.ensures

pub returns : goal.returns
returns c = sym (c.loop-word.invariant ∙ touch_end _ _ c.in-None.ensures.steps.0)
