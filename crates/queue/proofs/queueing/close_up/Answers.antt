use mathlib.Core.Path.{◌∙◌}
use native.Mathlib.Omega.{arith}
use Rattle.queue.proofs.LawsTargets as law
use Rattle.queue.proofs.queueing.close_up.Goals as goal

pub loop-k-preserved : goal.loop-k-preserved
loop-k-preserved c = c.loop-k.invariant ∙ law.next_up c.loop-k.items c.loop-k.k c.args.end (omega arith) (omega arith)
