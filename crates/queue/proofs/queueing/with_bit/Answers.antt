use mathlib.Core.Path.{ap, ◌∙◌}
use native.Mathlib.Omega.{arith}
use lib.Bits.{bit_or}
use Rattle.kinds.proofs.BitLaws.{one_shifted, or_with}
use Rattle.queue.proofs.queueing.with_bit.Goals as goal

pub returns : goal.returns
returns c = ap (bit_or c.args.m) (one_shifted c.args.j (omega arith)) ∙ or_with c.args.m c.args.j
