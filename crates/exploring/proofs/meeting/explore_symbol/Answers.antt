use Rattle.classes.proofs.ClosureLaws.{empty_square}
use native.Mathlib.Omega.{arith}
use Rattle.exploring.proofs.meeting.explore_symbol.Goals as goal

pub part-parts-requires : goal.part-parts-requires
part-parts-requires c =
    (c.requires.1, record { outs = omega arith; room = omega arith; square = empty_square; rows = omega arith })
