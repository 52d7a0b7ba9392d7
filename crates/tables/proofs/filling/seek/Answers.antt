use Rattle.tables.proofs.TableLaws.{seek_end, seek_there, seek_down, seek_on}
use Prim.Native.Nat.{◌+◌, ◌-◌}
use mathlib.Core.Path.{◌≡◌, sym, ◌∙◌}
use native.Mathlib.Omega.{arith}
use Rattle.tables.proofs.filling.seek.Goals as goal
use Rattle.tables.proofs.filling.seek.Goals.{then-r-c-2, else-r-c-2}

pub returns-then-r-c : goal.returns-then-r-c
returns-then-r-c c =
    record {
      value = sym (c.loop.invariant.2 ∙ seek_there c.args.symbols.now c.args.words.now c.args.st c.args.r c.args.one
          (16 - c.loop.counter) c.loop.c c.loop.here c.if-r-c.true);
      small = c.loop.invariant.1;
    }

pub loop-preserved : goal.loop-preserved
loop-preserved c =
    let less : 16 - (c.loop.counter + 1) ≡ 16 - c.loop.counter - 1 = omega arith in
    elim c.if-r-c-2.branch [
      | then-r-c-2 w ↦ (
        omega (arith, w.c-is),
        omega (arith, w.here-is),
        rw (less, w.c-is, w.here-is)
            (c.loop.invariant.2 ∙ seek_down c.args.symbols.now c.args.words.now c.args.st c.args.r c.args.one (16 - c.loop.counter) c.loop.c c.loop.here (omega arith) (omega arith)
            (omega (arith, c.span_at-n.ensures.value, w.if-r-c-2.true))),
      )
      | else-r-c-2 w ↦ (
        omega (arith, w.c-is, c.span_at-n.ensures.few),
        omega (arith, w.here-is),
        rw (less, w.c-is, w.here-is, c.span_at-n.ensures.value)
            (c.loop.invariant.2 ∙ seek_on c.args.symbols.now c.args.words.now c.args.st c.args.r c.args.one (16 - c.loop.counter) c.loop.c c.loop.here (omega arith) (omega arith)
            (omega (arith, c.span_at-n.ensures.value, w.if-r-c-2.false))),
      )
    ]

pub returns : goal.returns
returns c = record {
  value = sym (c.loop.invariant.2 ∙ seek_end c.args.symbols.now c.args.words.now c.args.st c.args.r
      c.args.one (16 - c.loop.counter) c.loop.c c.loop.here (omega arith));
  small = c.loop.invariant.1;
}
