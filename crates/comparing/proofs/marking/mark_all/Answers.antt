use mathlib.Core.Path.{refl}
use native.Mathlib.Omega.{arith}
use lib.ListN.{length-set}
use Rattle.comparing.proofs.MarkLaws.{marks_begin, marks_next, marks_end}
use Rattle.comparing.proofs.marking.mark_all.Goals as goal

pub loop-x-init : goal.loop-x-init
loop-x-init c = (marks_begin _ c.args.n _, refl)

pub loop-x-preserved : goal.loop-x-preserved
loop-x-preserved c = (
  marks_next c.loop-x.invariant.0 (omega arith) c.mark_at-mark.ensures c.mark_at-mark.type_inv,
  simp length-set c.loop-x.invariant.1,
)

pub returns : goal.returns
returns c = let made = marks_end c.loop-x.invariant.0 (omega arith) in record { count = made.0; buffer = made.1 }
