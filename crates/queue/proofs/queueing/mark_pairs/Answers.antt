use mathlib.Core.Path.{sym, ◌∙◌}
use native.Mathlib.Omega.{arith}
use lib.ListN.{length-set}
use Rattle.queue.proofs.LawsTargets as law
use Rattle.queue.proofs.queueing.mark_pairs.Goals as goal

pub bounds-marks-x : goal.bounds-marks-x
bounds-marks-x c =
    let next = law.next_pair _ _ _ c.as_chunks.ensures.front c.requires.0 c.loop-shape-test.true in
    omega (arith, c.aim-x.ensures, law.first_room _ _ _ next c.loop-shape.invariant.fine_left)

pub clear_bit-new-requires : goal.clear_bit-new-requires
clear_bit-new-requires c =
    law.first_number _ _ _ (law.next_pair _ _ _ c.as_chunks.ensures.front c.requires.0 c.loop-shape-test.true) c.loop-shape.invariant.fine_left

pub with_bit-requires : goal.with_bit-requires
with_bit-requires c =
    law.first_number _ _ _ (law.next_pair _ _ _ c.as_chunks.ensures.front c.requires.0 c.loop-shape-test.true) c.loop-shape.invariant.fine_left

pub loop-shape-preserved : goal.loop-shape-preserved
loop-shape-preserved c =
    let next = law.next_pair _ _ _ c.as_chunks.ensures.front c.requires.0 c.loop-shape-test.true in
    record {
      fine_left = simp length-set (law.all_tail _ next c.loop-shape.invariant.fine_left);
      marks_left = c.loop-shape.invariant.marks_left ∙ law.marks_next _ next _ _ _ c.aim-x.ensures c.with_bit.ensures;
      new_left = law.newly_next _ next _ _ _ _ _ _ c.loop-shape.invariant.new_left c.aim-x.ensures c.clear_bit-new.ensures c.with_bit.ensures;
      few = omega (arith, c.clear_bit-new.ensures);
    }

pub returns : goal.returns
returns c =
    let none_left = law.last_pair _ _ _ c.as_chunks.ensures.front c.requires.0 c.loop-shape-test.false in
    (law.newly_end _ none_left _ _ _ c.loop-shape.invariant.new_left, sym (c.loop-shape.invariant.marks_left ∙ law.marks_end _ none_left _))
