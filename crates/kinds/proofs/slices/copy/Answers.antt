use native.Mathlib.Omega.{arith}
use Rattle.kinds.proofs.ListLaws.{part_sets}
use Rattle.kinds.proofs.slices.copy.Goals as goal

pub returns : goal.returns
returns c = rw c.copy_from_slice.ensures.after (part_sets c.args.at _ c.args.out.now c.args.words.now c.requires (omega arith))
