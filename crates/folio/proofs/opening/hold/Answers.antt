use Rattle.kinds.specs.Limits.{blank_word}
use Prim.Native.Nat.{ℕ, ◌-◌}
use mathlib.Core.Path.{sym, ◌∙◌}
use native.Mathlib.Omega.{arith}
use lib.ListN.{length, take, drop, replicate, length-replicate}
use Rattle.folio.specs.Opening.{lent}
use Rattle.contents.proofs.LawsTables.{shapes_refused_in, score_refused_in, found_count}
use Rattle.folio.proofs.LawsOpening.{ws_length, sc_length, parts_shapes, parts_score, parts_on}
use Rattle.folio.proofs.opening.hold.Goals as goal

pub overflow_mul-result : goal.overflow_mul-result
overflow_mul-result c =
    omega (
      arith,
      shapes_refused_in c.args.symbols.now blank_word (take (c.args.m - 0) c.args.both.now) _ _
          (sym c.read_shapes.ensures.answer ∙ c.in-Err.is),
      ws_length c.args.symbols.now c.args.both.now c.args.m c.requires.parted,
    )

pub overflow_add-result : goal.overflow_add-result
overflow_add-result c =
    omega (
      arith,
      shapes_refused_in c.args.symbols.now blank_word (take (c.args.m - 0) c.args.both.now) _ _
          (sym c.read_shapes.ensures.answer ∙ c.in-Err.is),
      ws_length c.args.symbols.now c.args.both.now c.args.m c.requires.parted,
    )

pub returns-in-Err : goal.returns-in-Err
returns-in-Err c =
    sym (parts_shapes c.args.symbols.now c.args.both.now c.args.m c.requires.parted c.args.at
    (lent c.args.words.now c.args.starts.now c.args.score.now c.args.spans.now)
    (sym c.read_shapes.ensures.answer ∙ c.in-Err.is))

pub overflow_mul-result-in-Err-read_score-2 : goal.overflow_mul-result-in-Err-read_score-2
overflow_mul-result-in-Err-read_score-2 c =
    omega (
      arith,
      score_refused_in c.args.symbols.now (take (length c.args.both.now - c.args.m) (drop c.args.m c.args.both.now)) _ _
          (sym c.read_score.ensures ∙ c.in-Err-read_score.is),
      sc_length c.args.symbols.now c.args.both.now c.args.m c.requires.parted,
    )

pub overflow_add-result-in-Err-read_score-2 : goal.overflow_add-result-in-Err-read_score-2
overflow_add-result-in-Err-read_score-2 c =
    omega (
      arith,
      score_refused_in c.args.symbols.now (take (length c.args.both.now - c.args.m) (drop c.args.m c.args.both.now)) _ _
          (sym c.read_score.ensures ∙ c.in-Err-read_score.is),
      sc_length c.args.symbols.now c.args.both.now c.args.m c.requires.parted,
    )

pub returns-in-Err-read_score : goal.returns-in-Err-read_score
returns-in-Err-read_score c =
    sym (parts_score c.args.symbols.now c.args.both.now c.args.m c.requires.parted c.args.at
    (lent c.args.words.now c.args.starts.now c.args.score.now c.args.spans.now)
    (sym c.read_shapes.ensures.answer ∙ c.in-Ok.is)
    (sym c.read_score.ensures ∙ c.in-Err-read_score.is))

pub slice_bounds-st-end : goal.slice_bounds-st-end
slice_bounds-st-end c =
    omega (
      arith,
      found_count c.args.symbols.now blank_word (take (c.args.m - 0) c.args.both.now) _ (sym c.read_shapes.ensures.answer ∙ c.in-Ok.is),
    )

pub store-requires : goal.store-requires
store-requires c =
    omega (arith, sc_length c.args.symbols.now c.args.both.now c.args.m c.requires.parted, c.requires.short)

pub returns : goal.returns
returns c =
    let l = lent c.args.words.now c.args.starts.now c.args.score.now c.args.spans.now in
    let h = parts_on c.args.symbols.now c.args.both.now c.args.m c.requires.parted c.args.at l _ (replicate {A = ℕ} 16 0) _
    (sym c.read_shapes.ensures.answer ∙ c.in-Ok.is) (sym c.read_score.ensures ∙ c.in-Ok-read_score.is) (length-replicate {A = ℕ} 16 0)
    c.read_shapes.ensures.buffer c.counts_of-counts.ensures in
    c.store.ensures ∙ sym h
