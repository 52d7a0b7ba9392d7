use Rattle.writing.proofs.WriteLaws.{two_stores, paired_on, paired_end}
use mathlib.Core.Path.{refl}
use Rattle.writing.proofs.blocks.write_outputs.Goals as goal

pub loop-item-preserved : goal.loop-item-preserved
loop-item-preserved c =
    paired_on c.loop-item.invariant c.loop-item-test.true _ (two_stores c.loop-item.plan c.loop-item.here _ _)

pub returns : goal.returns
returns c = paired_end c.loop-item.invariant c.loop-item-test.false c.args.plan.now refl
