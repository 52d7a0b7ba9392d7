use Rattle.writing.proofs.WriteLaws.{head_length, planned_on, planned_end, plan_room, row_writable}
use Rattle.writing.proofs.SparedLaws.{spared_label, spared_writable, spared_written}
use Rattle.states.proofs.StateLaws.{spared_on}
use Rattle.states.proofs.PartLaws.{held_good, held_count, held_stored, spared_held}
use Rattle.decoding.proofs.GoodLaws.{good_label}
use lib.ListN.{length, set}
use Prim.Native.Nat.{◌+◌}
use mathlib.Core.Path.{refl}
use native.Mathlib.Omega.{arith}
use Rattle.writing.proofs.blocks.write_plan.Goals as goal

pub overflow_cast-scratch : goal.overflow_cast-scratch
overflow_cast-scratch c =
    omega (arith, held_count (spared_held c.loop-i.invariant.1 c.requires.held) c.loop-i-test.true)

pub label-c-requires : goal.label-c-requires
label-c-requires c =
    held_stored (spared_held c.loop-i.invariant.1 c.requires.held) c.loop-i-test.true
    c.place_in.ensures

pub overflow_cast-c : goal.overflow_cast-c
overflow_cast-c c =
    omega (
      arith,
      spared_label c.loop-i.invariant.1 c.requires.held.kept c.args.setting.tab.now
          c.loop-i-test.true c.place_in.ensures c.label-c.ensures,
      good_label (held_good c.requires.held c.loop-i-test.true),
    )

pub bounds-plan-i : goal.bounds-plan-i
bounds-plan-i c =
    omega (
      arith,
      c.loop-i-test.true,
      c.loop-i.invariant.0.long,
      head_length c.args.plan.now
          c.args.m (length c.args.setting.symbols.now) c.args.setting.shapes c.args.total,
      plan_room c.requires,
    )

pub write_row-at-requires : goal.write_row-at-requires
write_row-at-requires c =
    spared_writable c.loop-i.invariant.1
    (row_writable c.requires c.loop-i.invariant.0 c.loop-i-test.true
    (head_length c.args.plan.now c.args.m (length c.args.setting.symbols.now) c.args.setting.shapes c.args.total) _
    (spared_label c.loop-i.invariant.1 c.requires.held.kept c.args.setting.tab.now c.loop-i-test.true
    c.place_in.ensures c.label-c.ensures))

pub loop-i-preserved : goal.loop-i-preserved
loop-i-preserved c =
    let label =
    spared_label c.loop-i.invariant.1 c.requires.held.kept c.args.setting.tab.now c.loop-i-test.true c.place_in.ensures
    c.label-c.ensures in
    let row =
    row_writable c.requires c.loop-i.invariant.0 c.loop-i-test.true
    (head_length c.args.plan.now c.args.m (length c.args.setting.symbols.now) c.args.setting.shapes c.args.total)
    _ label in (
      planned_on c.loop-i.invariant.0 c.loop-i-test.true (held_good c.requires.held c.loop-i-test.true) _ label _ _
          (spared_written c.loop-i.invariant.1 row _ (set c.loop-i.plan (4 + c.loop-i.i) _) _ c.write_row-at.ensures.is),
      spared_on c.loop-i.invariant.1 c.write_row-at.ensures.spared,
    )

pub returns : goal.returns
returns c = record { is = planned_end c.loop-i.invariant.0 c.loop-i-test.false c.args.plan.now c.args.total c.requires.sum refl; spared = c.loop-i.invariant.1 }
