use Rattle.tables.proofs.TableLaws.{span_end, span_none, span_next}
use mathlib.Core.Path.{◌≡◌}
use native.Mathlib.Omega.{arith}
use Prim.Native.Nat.{◌+◌, ◌-◌}
use Rattle.tables.proofs.filling.span_at.Goals as goal

pub returns-then-need-eq0-clause-value : goal.returns-then-need-eq0-clause-value
returns-then-need-eq0-clause-value c =
    omega (arith, span_none c.args.symbols.now c.args.words.now (16 - c.loop-i.i) (c.args.at + c.loop-i.i) c.loop-i.need c.if-need-eq0.true)

pub loop-i-preserved : goal.loop-i-preserved
loop-i-preserved c =
    let e = span_next c.args.symbols.now c.args.words.now (16 - c.loop-i.i) (c.args.at + c.loop-i.i) c.loop-i.need (omega arith) c.if-need-eq0.false in
    let n : 16 - c.loop-i.i - 1 ≡ 16 - (c.loop-i.i + 1) = omega arith in
    let next : c.args.at + c.loop-i.i + 1 ≡ c.args.at + (c.loop-i.i + 1) = omega arith in
    (omega (arith, c.children_of.ensures.small), omega (arith, c.loop-i.invariant.1, rw (n, next, ← c.word_at.ensures, ← c.children_of.ensures.value) at e))

pub returns-clause-value : goal.returns-clause-value
returns-clause-value c =
    omega (arith, span_end c.args.symbols.now c.args.words.now (16 - c.loop-i.i) (c.args.at + c.loop-i.i) c.loop-i.need (omega arith))
