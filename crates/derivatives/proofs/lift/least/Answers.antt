use Rattle.derivatives.proofs.LiftLaws.{least_next, least_end}
use mathlib.Core.Path.{sym, ◌∙◌}
use Rattle.derivatives.proofs.lift.least.Goals as goal

pub loop-i-preserved : goal.loop-i-preserved
loop-i-preserved c = c.loop-i.invariant ∙ rw c.min-found.ensures (least_next c.args.ws.now c.args.at c.args.n c.loop-i.i c.loop-i.found c.loop-i-test.true)

pub returns : goal.returns
returns c = sym (c.loop-i.invariant ∙ least_end c.args.ws.now c.args.at c.args.n c.loop-i.i c.loop-i.found c.loop-i-test.false)
