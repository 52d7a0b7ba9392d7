use Rattle.std.specs.Prelude.{Err}
use Rattle.std.proofs.lemmas.Result.{err_from_is_err_and}
use Prim.Native.Nat.{ℕ}
use mathlib.Core.Path.{ap, sym, ◌∙◌}
use native.Mathlib.Omega.{arith}
use lib.ListN.{replicate, length-replicate}
use Rattle.folio.specs.Holding.{section_words}
use Rattle.folio.specs.Opening.{lent, out}
use Rattle.sections.proofs.LawsSections.{sections_placed}
use Rattle.folio.proofs.LawsOpening.{opened_refused, opened_held, both_length, bytes_length}
use Rattle.folio.proofs.opening.open.Goals as goal

pub returns-in_err-p : goal.returns-in_err-p
returns-in_err-p c =
    let p = err_from_is_err_and c.from_residual.result c.from_residual.ensures.1 in
    let l = lent c.args.words.now c.args.starts.now c.args.score.now c.args.spans.now in
    ap (λ a. out a l) (p.1 ∙ ap Err p.2) ∙ sym (opened_refused c.args.file.now l (sym c.find_sections.ensures ∙ c.in_err-p.was))

pub slice_bounds-fill-count : goal.slice_bounds-fill-count
slice_bounds-fill-count c =
    let d = sections_placed c.args.file.now _ (sym c.find_sections.ensures ∙ c.in_ok-p.was) in
    omega (arith, d.first, d.second)

pub slice_bounds-fill-start : goal.slice_bounds-fill-start
slice_bounds-fill-start c =
    let d = sections_placed c.args.file.now _ (sym c.find_sections.ensures ∙ c.in_ok-p.was) in
    omega (arith, d.first, d.second)

pub slice_bounds-fill-end : goal.slice_bounds-fill-end
slice_bounds-fill-end c =
    let d = sections_placed c.args.file.now _ (sym c.find_sections.ensures ∙ c.in_ok-p.was) in
    omega (arith, d.first, d.second, d.size)

pub fill-requires : goal.fill-requires
fill-requires c =
    let d = sections_placed c.args.file.now _ (sym c.find_sections.ensures ∙ c.in_ok-p.was) in
    omega (arith, bytes_length c.args.file.now c.in_ok-p.p d, d.size, d.short)

pub overflow_sub-m : goal.overflow_sub-m
overflow_sub-m c =
    let d = sections_placed c.args.file.now _ (sym c.find_sections.ensures ∙ c.in_ok-p.was) in
    omega (arith, d.first, d.second)

pub overflow_sub-k : goal.overflow_sub-k
overflow_sub-k c =
    let d = sections_placed c.args.file.now _ (sym c.find_sections.ensures ∙ c.in_ok-p.was) in
    omega (arith, d.first, d.second)

pub slice_bounds-hold-end : goal.slice_bounds-hold-end
slice_bounds-hold-end c =
    let d = sections_placed c.args.file.now _ (sym c.find_sections.ensures ∙ c.in_ok-p.was) in
    omega (arith, d.first, d.second, d.size)

pub slice_bounds-hold-end-2 : goal.slice_bounds-hold-end-2
slice_bounds-hold-end-2 c =
    let d = sections_placed c.args.file.now _ (sym c.find_sections.ensures ∙ c.in_ok-p.was) in
    omega (arith, d.words, d.size, d.short)

pub hold-requires : goal.hold-requires
hold-requires c =
    let d = sections_placed c.args.file.now _ (sym c.find_sections.ensures ∙ c.in_ok-p.was) in
    let b = both_length c.args.file.now c.in_ok-p.p d (replicate {A = ℕ} section_words 0) _ (length-replicate {A = ℕ} section_words 0)
    c.fill.ensures in record {
      begins = omega (arith, d.first, d.second, d.size, d.short);
      parted = omega (arith, b, d.words, d.score_words, d.first, d.second);
      short = omega (arith, b, d.words, d.size, d.short);
    }

pub returns : goal.returns
returns c =
    let e = sym c.find_sections.ensures ∙ c.in_ok-p.was in
    let d = sections_placed c.args.file.now _ e in
    let l = lent c.args.words.now c.args.starts.now c.args.score.now c.args.spans.now in
    let h = opened_held c.args.file.now c.in_ok-p.p d (replicate {A = ℕ} section_words 0) _ (length-replicate {A = ℕ} section_words 0) c.fill.ensures l e in
    c.hold.ensures ∙ sym h
