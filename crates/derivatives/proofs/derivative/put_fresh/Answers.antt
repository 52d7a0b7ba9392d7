use Rattle.derivatives.proofs.DeriveLaws.{fresh_from, fresh_next, fresh_end, run_three}
use Prim.Native.Nat.{◌+◌}
use lib.Seq.{sets}
use lib.ListN.{length}
use mathlib.Core.Path.{ap, sym, ◌∙◌}
use native.Mathlib.Omega.{arith}
use Rattle.derivatives.proofs.derivative.put_fresh.Goals as goal

pub put_goal-requires : goal.put_goal-requires
put_goal-requires c =
    omega (arith, ap length (fresh_next c.args.n c.args.at.0 c.loop-j.j c.loop-j-test.true))

pub loop-j-preserved : goal.loop-j-preserved
loop-j-preserved c =
    let p = fresh_next c.args.n c.args.at.0 c.loop-j.j c.loop-j-test.true in (
      omega (arith, ap length p),
      c.loop-j.invariant.1 ∙ ap (sets c.loop-j.out c.loop-j.next) p ∙ run_three c.loop-j.out c.loop-j.next c.loop-j.j c.args.at.0 1 (fresh_from c.args.n c.args.at.0 (c.loop-j.j + 1))
          ∙ ap (λ o. sets o (c.loop-j.next + 3) (fresh_from c.args.n c.args.at.0 (c.loop-j.j + 1))) (sym c.put_goal.ensures),
    )

pub returns : goal.returns
returns c =
    let p = fresh_end c.args.n c.args.at.0 c.loop-j.j c.loop-j-test.false in
    (omega (arith, ap length p), sym (c.loop-j.invariant.1 ∙ ap (sets c.loop-j.out c.loop-j.next) p))
