use mathlib.Core.Path.{◌≡◌}
use Rattle.queue.specs.Targets.{closed_up}
use Rattle.queue.proofs.queueing.close_up.Given as goal

abbrev pub invariant-loop-k : goal.invariant-loop-k
invariant-loop-k l = closed_up l.initial.items l.at l.end ≡ closed_up l.items l.k l.end
