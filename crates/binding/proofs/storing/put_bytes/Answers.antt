use native.Mathlib.Omega.{arith}
use Rattle.kinds.proofs.ListLaws.{part_sets}
use Rattle.binding.proofs.storing.put_bytes.Goals as goal

pub returns-clause-file_after : goal.returns-clause-file_after
returns-clause-file_after c = rw c.copy_from_slice.ensures.after (part_sets c.args.at _ c.args.file.now c.args.bytes.now c.requires (omega arith))
