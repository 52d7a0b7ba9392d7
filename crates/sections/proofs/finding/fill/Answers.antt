use mathlib.Core.Path.{sym, ◌∙◌}
use native.Mathlib.Omega.{arith}
use Rattle.sections.proofs.LawsBytes.{fill_next, fill_end}
use Rattle.sections.proofs.finding.fill.Goals as goal

pub loop-k-preserved : goal.loop-k-preserved
loop-k-preserved c =
    let step = c.in-Some.ensures.steps in (
      step.0.0 ∙ c.loop-k.invariant.0,
      c.loop-k.invariant.1
          ∙ fill_next _ _ _ _ _ step.0.1.0 (step.0.1.1 ∙ c.loop-k.invariant.0) step.1 step.2 c.from_le_bytes.ensures,
    )

pub returns : goal.returns
returns c =
    sym (c.loop-k.invariant.1
    ∙ fill_end c.loop-k.words c.loop-k.k-iterator.count c.loop-k.k-iterator.iter.rest.now
    (omega (arith, c.in-None.ensures.steps.0.1.0, c.loop-k.invariant.0)))
