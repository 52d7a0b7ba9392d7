use Prim.Native.Nat.{ℕ, ◌*◌, ◌-◌, ◌^◌}
use mathlib.Core.Path.{ap, sym, ◌∙◌}
use native.Mathlib.Omega.{arith}
use Rattle.kinds.proofs.KindLaws.{padded_start, padded_next, padded_end, padded_room}
use Rattle.kinds.proofs.padded.Goals as goal

pub loop-init : goal.loop-init
loop-init c =
    ap (λ (n : ℕ). c.args.p.0 * 5 ^ (7 - n)) c.length-counter.ensures
    ∙ padded_start c.args.p.0 (omega arith)

pub overflow_mul-code : goal.overflow_mul-code
overflow_mul-code c = omega (arith, padded_room c.loop.code (7 - c.loop.counter) c.args.p.0 c.loop.invariant)

pub loop-preserved : goal.loop-preserved
loop-preserved c = sym (padded_next c.loop.code c.loop.counter c.loop-test.true) ∙ c.loop.invariant

pub returns : goal.returns
returns c = sym (padded_end c.loop.code c.loop.counter c.loop-test.false) ∙ c.loop.invariant
