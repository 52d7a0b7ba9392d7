use Rattle.derivatives.proofs.OrderLaws.{listed_on, listed_off, listed_end}
use Rattle.classes.proofs.ClassLaws.{key_is, key_word}
use Prim.Native.Nat.{◌+◌, ◌*◌}
use mathlib.Core.Path.{ap, sym, ◌∙◌}
use native.Mathlib.Omega.{arith}
use Rattle.classes.proofs.order.class_order.Goals as goal
use Rattle.classes.proofs.order.class_order.Goals.{else-leader, then-leader}

pub overflow_mul-items : goal.overflow_mul-items
overflow_mul-items c =
    let word = key_word _ _ c.padded.ensures c.first_in_row.ensures in omega arith

pub overflow_add-items : goal.overflow_add-items
overflow_add-items c =
    let word = key_word _ _ c.padded.ensures c.first_in_row.ensures in omega arith

pub loop-i-preserved : goal.loop-i-preserved
loop-i-preserved c =
    elim c.if-leader.branch [
      | then-leader w ↦ let is = key_is _ _ w.padded.ensures w.first_in_row.ensures in
          rw (w.items-is, w.k-is) (listed_on c.loop-i.invariant c.loop-i-test.true (sym c.leader.ensures ∙ w.if-leader.true) _ (ap (λ x. 128 * x + c.loop-i.i) is))
      | else-leader w ↦ rw (w.items-is, w.k-is) (listed_off c.loop-i.invariant c.loop-i-test.true (sym c.leader.ensures ∙ w.if-leader.false))
    ]

pub returns : goal.returns
returns c = listed_end c.loop-i.invariant c.loop-i-test.false c.requires.room _ c.arrange.ensures
