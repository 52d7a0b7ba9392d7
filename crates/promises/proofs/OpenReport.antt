-- The report over a file that opens, where its marks hold exactly the matches.
--   path           a node's path by the spans is its position
--   tables         the tables say of matches what the terms say
--   exact_report   the text over such marks is the one that matches alone say
--   exact_over     by any two openings of a file the marks are the same
use Rattle.std.specs.Prelude.{Option}
use mathlib.Core.Path.{◌≡◌, refl, ◌∙◌, subst}
use mathlib.Core.Bool.{Bool}
use mathlib.Core.List.{List}
use mathlib.Core.Option.{some}
use Prim.Native.Nat.{ℕ}
use lib.ListN.{length, take}
use Rattle.kinds.specs.Positions.{Pos}
use Rattle.term.specs.Terms.{Term, span, sizes}
use Rattle.term.specs.Places.{number}
use Rattle.counting.specs.Counting.{total}
use Rattle.clashing.proofs.OneFolio.{SaysOf, says_of}
use Rattle.report.specs.Paths.{path_of}
use Rattle.report.specs.Text.{report}
use Rattle.promises.specs.OneFile.{OpenFile, symbols_in, words_in, starts_in, nodes_in, spans_in, shapes_in, score_in}
use Rattle.promises.specs.Reported.{report_in, totals_of}
use Rattle.promises.specs.Exact.{Exact}
use Rattle.promises.specs.Demand2.{Says}
use Rattle.promises.proofs.OpenFile.{is_folio, shape_words_lem, shape_starts, score_words, score_spans, score_depth, same_shapes, same_score}
use Rattle.promises.proofs.ScorePaths.{score_path}
use Rattle.promises.proofs.Reported.{report_right}
use Rattle.promises.proofs.Exact.{exact_same, exact_right}

module _ {file : List ℕ} (O : OpenFile file) where
  path_by : (p : Pos) (n : ℕ) → number (score_in O) p ≡ some n → path_of (sizes (score_in O)) n ≡ some p
  path_by = score_path (symbols_in O) (score_in O) (is_folio O).limits.symbols (is_folio O).is_score

  pub path : (p : Pos) (n : ℕ) → number (score_in O) p ≡ some n → path_of (spans_in O) n ≡ some p
  path p n e = rw (score_spans O) (path_by p n e)

  pub tables : SaysOf (words_in O) (starts_in O) (nodes_in O) (sizes (score_in O)) (shapes_in O) (score_in O)
  tables = says_of (symbols_in O) (words_in O) (starts_in O) (nodes_in O) (sizes (score_in O)) (shapes_in O) (score_in O)
      (is_folio O).limits.are_shapes (is_folio O).is_score (shape_words_lem O) (shape_starts O) (score_words O) refl

  pub exact_report : (test : Term → Pos → Bool) → Says test (score_in O) → (marks : List ℕ)
      → Exact (shapes_in O) (score_in O) (take (span (score_in O)) marks) → (s : Option ℕ) {k : ℕ} → k ≡ total (take (span (score_in O)) marks)
      → report (totals_of (words_in O) (starts_in O) (spans_in O) O.counts.depth s k (take (length (spans_in O)) marks)) (spans_in O) marks
      ≡ report_in test (shapes_in O) (score_in O) s
  exact_report test says marks exact s e =
      (λ i. report (totals_of (words_in O) (starts_in O) (score_spans O i) (score_depth O i) s (e i) (take (length (score_spans O i)) marks))
      (score_spans O i) marks)
      ∙ report_right test (shapes_in O) (score_in O) marks (exact_right test says exact) (is_folio O).limits.few_shapes path_by
      (words_in O) (starts_in O) (nodes_in O) tables says s

pub exact_over : {file : List ℕ} (O P : OpenFile file) {ms : List ℕ} → Exact (shapes_in O) (score_in O) ms → (marks : List ℕ)
    → Exact (shapes_in P) (score_in P) (take (span (score_in P)) marks) → ms ≡ take (span (score_in O)) marks
exact_over O P a marks b = exact_same a
    (subst (λ t. Exact (shapes_in O) t (take (span t) marks)) (same_score P O)
    (subst (λ ss. Exact ss (score_in P) (take (span (score_in P)) marks)) (same_shapes P O) b))
