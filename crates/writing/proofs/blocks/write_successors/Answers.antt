use Rattle.states.proofs.StateLaws.{spared_on, spared_kept}
use Rattle.writing.proofs.WriteLaws.{paired_room, paired_on, paired_end}
use Rattle.writing.proofs.SparedLaws.{spared_successor}
use mathlib.Core.Path.{refl}
use Rattle.writing.proofs.blocks.write_successors.Goals as goal

pub write_successor-requires : goal.write_successor-requires
write_successor-requires c =
    record {
      class = record {
        kept = spared_kept c.loop-item.invariant.1 c.requires.kept;
        squared = c.requires.squared;
        row = c.requires.named.low c.loop-item.item-index c.loop-item-test.true;
      };
      small = c.requires.small c.loop-item.item-index c.loop-item-test.true;
      room = paired_room c.loop-item.invariant.0 c.loop-item-test.true c.args.plan.now refl c.requires.room;
    }

pub loop-item-preserved : goal.loop-item-preserved
loop-item-preserved c = (
  paired_on c.loop-item.invariant.0 c.loop-item-test.true _
      (spared_successor c.loop-item.invariant.1 c.requires.kept c.loop-item.plan _ c.loop-item.here _ _ c.write_successor.ensures.is),
  spared_on c.loop-item.invariant.1 c.write_successor.ensures.spared,
)

pub returns : goal.returns
returns c =
    record { is = paired_end c.loop-item.invariant.0 c.loop-item-test.false c.args.plan.now refl; spared = c.loop-item.invariant.1 }
