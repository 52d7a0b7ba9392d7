use Rattle.tables.proofs.TableLaws.{kids_end, kids_there, kids_on, kids_off}
use mathlib.Core.Path.{◌≡◌, sym, ◌∙◌}
use native.Mathlib.Omega.{arith}
use native.Mathlib.Nat.{one-mul}
use lib.Dec.{lit<}
use lib.Pow.{shl_exact, pow-lt}
use Prim.Native.Nat.{◌<◌, ◌+◌, ◌-◌, ◌^◌}
use Rattle.tables.proofs.filling.kids_at.Goals as goal
use Rattle.tables.proofs.filling.kids_at.Goals.{then-word_at-lt65535, else-word_at-lt65535}

pub returns-then-end-c : goal.returns-then-end-c
returns-then-end-c c =
    record {
      value = sym (c.loop.invariant.2 ∙ kids_there c.args.symbols.now c.args.words.now c.args.st _ (16 - c.loop.counter) c.loop.c
          c.loop.mask c.if-end-c.true);
      small = c.loop.invariant.1;
    }

pub overflow_add-mask : goal.overflow_add-mask
overflow_add-mask c =
    let k : c.loop.c < 32 = omega (arith, c.loop.invariant.3, c.if-end-c.false) in
    let e = shl_exact 1 c.loop.c 64 (lit< tt) (omega arith) ∙ one-mul _ in
    let p : 2 ^ c.loop.c < 2 ^ 32 = pow-lt k in omega (arith, e, p, c.loop.invariant.1)

pub loop-preserved : goal.loop-preserved
loop-preserved c =
    let less : 16 - (c.loop.counter + 1) ≡ 16 - c.loop.counter - 1 = omega arith in
    let k : c.loop.c < 32 = omega (arith, c.loop.invariant.3, c.if-end-c.false) in
    let e = shl_exact 1 c.loop.c 64 (lit< tt) (omega arith) ∙ one-mul _ in
    elim c.if-word_at-lt65535.branch [
      | then-word_at-lt65535 w ↦ (
        omega (arith, c.span_at-c.ensures.few),
        omega (arith, w.mask-is),
        rw (less, w.mask-is, c.span_at-c.ensures.value, e)
            (c.loop.invariant.2 ∙ kids_on c.args.symbols.now c.args.words.now c.args.st _ (16 - c.loop.counter) c.loop.c c.loop.mask (omega arith) (omega arith)
            (rw c.word_at.ensures at w.if-word_at-lt65535.true)),
        c.loop.invariant.3,
      )
      | else-word_at-lt65535 w ↦ (
        omega (arith, c.span_at-c.ensures.few),
        omega (arith, w.mask-is, c.loop.invariant.1),
        rw (less, w.mask-is, c.span_at-c.ensures.value)
            (c.loop.invariant.2 ∙ kids_off c.args.symbols.now c.args.words.now c.args.st _ (16 - c.loop.counter) c.loop.c c.loop.mask (omega arith) (omega arith)
            (rw c.word_at.ensures at w.if-word_at-lt65535.false)),
        c.loop.invariant.3,
      )
    ]

pub returns : goal.returns
returns c = record {
  value = sym (c.loop.invariant.2 ∙ kids_end c.args.symbols.now c.args.words.now c.args.st _ (16 - c.loop.counter)
      c.loop.c c.loop.mask (omega arith));
  small = c.loop.invariant.1;
}
