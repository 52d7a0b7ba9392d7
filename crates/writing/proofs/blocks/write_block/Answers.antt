use Rattle.states.proofs.PartLaws.{state_room}
use Rattle.writing.proofs.WriteLaws.{class_small, out_room, succ_room, block_put}
use Rattle.classes.proofs.ClosureLaws.{empty_square}
use native.Mathlib.Omega.{arith}
use Rattle.writing.proofs.blocks.write_block.Goals as goal

pub part-parts-requires : goal.part-parts-requires
part-parts-requires c =
    (c.requires.on, record { outs = omega arith; room = omega arith; square = empty_square; rows = omega arith })

pub write_outputs-next-requires : goal.write_outputs-next-requires
write_outputs-next-requires c =
    record {
      named = c.part-parts.ensures.out_named;
      state = state_room c.requires.on c.place_in-from.ensures;
      room = out_room c.requires.on c.args.m c.part-parts.ensures c.args.plan.now c.args.at c.requires.room;
    }

pub write_successors-requires : goal.write_successors-requires
write_successors-requires c =
    record {
      kept = c.requires.kept;
      squared = c.part-parts.ensures.squared;
      named = c.part-parts.ensures.rows_named;
      small = class_small c.requires.on c.args.m c.part-parts.ensures c.requires.small;
      room = succ_room c.requires.on c.args.m c.part-parts.ensures c.args.plan.now c.args.at c.requires.room
          c.place_in-from.ensures _ _
          c.write_outputs-next.ensures;
    }

pub returns : goal.returns
returns c =
    record {
      is = block_put c.requires.on c.args.m c.part-parts.ensures c.args.plan.now c.args.at c.requires.room
          c.place_in-from.ensures _ _ c.write_outputs-next.ensures
          _ _ c.write_successors.ensures.is;
      spared = c.write_successors.ensures.spared;
    }
