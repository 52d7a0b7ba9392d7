use native.Mathlib.Omega.{arith}
use native.Mathlib.Nat.{sub-zero}
use Prim.Native.Nat.{◌+◌, ◌-◌}
use mathlib.Core.Path.{◌≡◌, refl}
use lib.ListN.{length-set}
use Rattle.term.proofs.LawsSpans.{write_end, write_fits, write_next, write_start}
use Rattle.folio.proofs.storing.put_spans.Goals as goal

pub loop-i-init : goal.loop-i-init
loop-i-init c = (write_start c.args.symbols.now c.args.words.now c.args.spans.now, refl)

pub overflow_cast-spans : goal.overflow_cast-spans
overflow_cast-spans c =
    let same : c.loop-i.i - 1 + 1 ≡ c.loop-i.i = omega arith in
    let e = write_end c.args.symbols.now c.args.words.now c.args.spans.now (c.loop-i.i - 1) c.skip-e.result (omega arith) (omega arith) _ _ _
    c.count-k.ensures (sub-zero _) (rw same c.loop-i.invariant.0) c.skip-e.ensures in
    omega (arith, write_fits c.args.symbols.now c.args.words.now c.args.spans.now (c.loop-i.i - 1) c.skip-e.result (omega arith) (omega arith) e)

pub loop-i-preserved : goal.loop-i-preserved
loop-i-preserved c =
    let same : c.loop-i.i - 1 + 1 ≡ c.loop-i.i = omega arith in
    let e = write_end c.args.symbols.now c.args.words.now c.args.spans.now (c.loop-i.i - 1) c.skip-e.result (omega arith) (omega arith) _ _ _
    c.count-k.ensures (sub-zero _) (rw same c.loop-i.invariant.0) c.skip-e.ensures in (
      write_next c.args.symbols.now c.args.words.now c.args.spans.now (c.loop-i.i - 1) c.skip-e.result (omega arith) (omega arith) _
          (rw same c.loop-i.invariant.0) e,
      simp length-set c.loop-i.invariant.1,
    )

pub returns : goal.returns
returns c = let none : c.loop-i.i ≡ 0 = omega arith in rw none at c.loop-i.invariant.0
