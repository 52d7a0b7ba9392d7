use Rattle.kinds.proofs.ListLaws.{sets_append}
use Rattle.derivatives.proofs.DeriveLaws.{born_from, born_next, born_end}
use Rattle.goals.specs.GoalWords.{flat}
use Rattle.goals.specs.WordStages.{freshes_w}
use Prim.Native.Nat.{◌+◌, ◌*◌}
use lib.Seq.{sets}
use lib.ListN.{length, length-append}
use mathlib.Core.Path.{ap, ap₂, sym, ◌∙◌}
use native.Mathlib.Omega.{arith}
use Rattle.derivatives.proofs.derivative.put_born.Goals as goal

pub put_fresh-next-requires : goal.put_fresh-next-requires
put_fresh-next-requires c =
    let p = born_next c.args.n c.args.root.0 c.args.k c.loop-i.i c.loop-i-test.true in (
      c.requires.shapes,
      omega (
        arith,
        ap length p,
        length-append (flat (freshes_w c.args.n (5 * c.args.root.0 + (c.loop-i.i + 1))))
            (born_from c.args.n c.args.root.0 c.args.k (c.loop-i.i + 1)),
      ),
    )

pub loop-i-preserved : goal.loop-i-preserved
loop-i-preserved c =
    let p = born_next c.args.n c.args.root.0 c.args.k c.loop-i.i c.loop-i-test.true in
    let one = flat (freshes_w c.args.n (5 * c.args.root.0 + (c.loop-i.i + 1))) in
    let rest = born_from c.args.n c.args.root.0 c.args.k (c.loop-i.i + 1) in (
      omega (arith, c.put_fresh-next.ensures.0, ap length p, length-append one rest),
      c.loop-i.invariant.1 ∙ ap (sets c.loop-i.out c.loop-i.next) p ∙ sets_append c.loop-i.out c.loop-i.next one rest
          ∙ ap₂ (λ o i. sets o i rest) (sym c.put_fresh-next.ensures.1) (sym c.put_fresh-next.ensures.0),
    )

pub returns : goal.returns
returns c =
    let p = born_end c.args.n c.args.root.0 c.args.k c.loop-i.i c.loop-i-test.false in
    (omega (arith, ap length p), sym (c.loop-i.invariant.1 ∙ ap (sets c.loop-i.out c.loop-i.next) p))
