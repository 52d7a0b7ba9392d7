use Prim.Native.Nat.{suc, ◌-◌}
use mathlib.Core.Path.{◌≡◌}
use native.Mathlib.Omega.{arith}
use Rattle.std.proofs.Common.{rules}
use Rattle.comparing.proofs.LawsComparing.{mark_begin, mark_half, mark_room, mark_next, mark_done}
use Rattle.comparing.proofs.nodes.mark_at.Goals as goal

pub loop-j-init : goal.loop-j-init
loop-j-init c = mark_begin _ _ _ _ _

pub overflow_mul-mark : goal.overflow_mul-mark
overflow_mul-mark c =
    let left : c.loop-j.j ≡ suc (c.loop-j.j - 1) = omega arith in
    let m = rw left at c.loop-j.invariant in
    omega (arith, mark_half m c.requires.0)

pub overflow_add-mark : goal.overflow_add-mark
overflow_add-mark c =
    let left : c.loop-j.j ≡ suc (c.loop-j.j - 1) = omega arith in
    let m = rw left at c.loop-j.invariant in
    omega (arith, mark_room m c.requires.1 {b = c.from.result} (search rules) c.requires.0)

pub loop-j-preserved : goal.loop-j-preserved
loop-j-preserved c =
    let left : c.loop-j.j ≡ suc (c.loop-j.j - 1) = omega arith in
    let m = rw left at c.loop-j.invariant in
    mark_next m c.requires.1 (search rules)

pub returns : goal.returns
returns c = mark_done c.loop-j.invariant (omega arith)
