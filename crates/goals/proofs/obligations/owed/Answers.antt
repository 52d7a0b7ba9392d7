use mathlib.Core.Path.{ap, sym, ◌∙◌}
use Rattle.goals.proofs.GoalLaws.{owed_on, owed_off, owed_end}
use lib.Seq.{sets}
use lib.ListN.{length}
use native.Mathlib.Omega.{arith}
use native.Mathlib.Numerals.{add-one}
use Rattle.goals.proofs.obligations.owed.Goals as goal
use Rattle.goals.proofs.obligations.owed.Goals.{else-mask-eq1, then-mask-eq1}

pub loop-r-preserved : goal.loop-r-preserved
loop-r-preserved c =
    elim c.if-mask-eq1.branch [
      | then-mask-eq1 w ↦ let e = owed_on c.args.tab.now c.args.g.shape.0 c.args.g.at.0 _ _ c.loop-r.mask c.loop-r-test.true w.if-mask-eq1.true in (
        omega (arith, w.k-is),
        omega (arith, w.k-is, ap length e),
        rw (w.out-is, w.k-is, w.code_at.ensures, add-one c.loop-r.k) (c.loop-r.invariant.2 ∙ ap (sets c.loop-r.out c.loop-r.k) e),
      )
      | else-mask-eq1 w ↦ let e = owed_off c.args.tab.now c.args.g.shape.0 c.args.g.at.0 _ _ c.loop-r.mask c.loop-r-test.true w.if-mask-eq1.false in (
        omega (arith, w.k-is),
        omega (arith, w.k-is, ap length e),
        rw (w.out-is, w.k-is) (c.loop-r.invariant.2 ∙ ap (sets c.loop-r.out c.loop-r.k) e),
      )
    ]

pub returns : goal.returns
returns c =
    let e = owed_end c.args.tab.now c.args.g.shape.0 c.args.g.at.0 _ c.loop-r.r c.loop-r.mask c.loop-r-test.false in
    record {
      count = omega (arith, ap length e);
      wrote = sym (c.loop-r.invariant.2 ∙ ap (sets c.loop-r.out c.loop-r.k) e);
      few = omega (arith, c.requires.tabled.sizes c.args.g.shape.0 c.requires.shape);
    }
