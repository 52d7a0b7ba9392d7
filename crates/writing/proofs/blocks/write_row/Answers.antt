use Rattle.writing.proofs.WriteLaws.{rowed_fits, rowed_on, rowed_end}
use Rattle.writing.proofs.SparedLaws.{block_writable, spared_put}
use Rattle.states.proofs.StateLaws.{spared_on}
use Rattle.writing.specs.RowWords.{starts_at}
use lib.ListN.{set}
use Prim.Native.Nat.{◌+◌}
use Rattle.writing.proofs.blocks.write_row.Goals as goal

pub write_block-here-requires : goal.write_block-here-requires
write_block-here-requires c =
    block_writable c.loop-f.invariant.1 c.requires c.loop-f.f c.loop-f.here _ c.loop-f-test.true
    (rowed_fits c.loop-f.invariant.0 c.loop-f-test.true c.requires.room)

pub loop-f-preserved : goal.loop-f-preserved
loop-f-preserved c =
    let l = set c.loop-f.plan (starts_at c.args.setting.symbols.now c.args.m c.args.state.0 + c.loop-f.f) c.loop-f.here in (
      rowed_on c.loop-f.invariant.0 c.loop-f-test.true c.requires.starts _ _
          (spared_put c.loop-f.invariant.1 c.requires c.loop-f.f c.loop-f.here _ l _ c.write_block-here.ensures.is),
      spared_on c.loop-f.invariant.1 c.write_block-here.ensures.spared,
    )

pub returns : goal.returns
returns c = record { is = rowed_end c.loop-f.invariant.0 c.loop-f-test.false; spared = c.loop-f.invariant.1 }
