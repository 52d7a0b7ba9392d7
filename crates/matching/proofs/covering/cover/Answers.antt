use mathlib.Core.Path.{ap, ◌∙◌}
use native.Mathlib.Omega.{arith}
use Rattle.matching.proofs.LawsCovering.{covering_begin, covering_next, covering_end, covering_count}
use Rattle.matching.proofs.LawsLaying.{left}
use Rattle.matching.proofs.covering.cover.Goals as goal

pub loop-word-init : goal.loop-word-init
loop-word-init c = covering_begin _ _ _ _ _ (ap left c.into_iter-word-iterator.ensures.into_iter_gives ∙ c.new-word-items.ensures)

pub loop-word-preserved : goal.loop-word-preserved
loop-word-preserved c = covering_next c.loop-word.invariant c.in-Some.ensures.steps c.keep-n.ensures.nodes c.keep-n.ensures.most

pub returns : goal.returns
returns c =
    let e = c.in-None.ensures.steps.0 in
    record {
      nodes = covering_end c.loop-word.invariant e;
      count = covering_count c.loop-word.invariant e (omega arith);
      few = omega (arith, c.loop-word.invariant.few);
    }
