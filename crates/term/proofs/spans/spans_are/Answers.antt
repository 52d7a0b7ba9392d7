use native.Mathlib.Omega.{arith}
use Prim.Native.Nat.{◌+◌, ◌-◌}
use mathlib.Core.Path.{◌≡◌, sym, ◌∙◌}
use Rattle.kinds.proofs.ListLaws.{same_yes, same_lengths}
use Rattle.term.specs.Spans.{spans_of}
use Rattle.term.proofs.LawsSpans.{check_next, check_stop, check_start, length_spans}
use Rattle.term.proofs.spans.spans_are.Goals as goal

pub returns-then-spans-words : goal.returns-then-spans-words
returns-then-spans-words c =
    sym (same_lengths c.args.spans.now (spans_of c.args.symbols.now c.args.words.now)
    (λ h. c.if-spans-words.true (h ∙ length_spans c.args.symbols.now c.args.words.now)))

pub loop-i-init : goal.loop-i-init
loop-i-init c = check_start c.args.symbols.now c.args.words.now c.args.spans.now c.if-spans-words.false

pub returns-then-spans-i : goal.returns-then-spans-i
returns-then-spans-i c =
    let same : c.loop-i.i - 1 + 1 ≡ c.loop-i.i = omega arith in
    sym (check_stop c.args.symbols.now c.args.words.now c.args.spans.now (c.loop-i.i - 1) c.skip-e.result (omega arith)
    c.if-spans-words.false (rw same c.loop-i.invariant) _ c.count-k.ensures c.skip-e.ensures c.if-spans-i.true)

pub loop-i-preserved : goal.loop-i-preserved
loop-i-preserved c =
    let same : c.loop-i.i - 1 + 1 ≡ c.loop-i.i = omega arith in
    check_next c.args.symbols.now c.args.words.now c.args.spans.now (c.loop-i.i - 1) c.skip-e.result (omega arith)
    c.if-spans-words.false (rw same c.loop-i.invariant) _ c.count-k.ensures c.skip-e.ensures c.if-spans-i.false

pub returns : goal.returns
returns c =
    let none : c.loop-i.i ≡ 0 = omega arith in
    sym (same_yes (rw none at c.loop-i.invariant))
