-- The two engines agree, over every file that opens.
--   compared_is              so comparing sets the nodes' marks, which hold exactly the matches
use Rattle.kinds.specs.declared.Reason.{Reason}
use Rattle.std.specs.Prelude.{None, Ok, Result}
use mathlib.Core.Path.{◌≡◌, ap, sym, ◌∙◌, subst}
use mathlib.Core.List.{List}
use Prim.Native.Nat.{ℕ, ◌≤◌}
use native.Mathlib.Omega.{arith}
use lib.ListN.{length, take, drop}
use Rattle.kinds.specs.Lists.{onto}
use Rattle.kinds.proofs.ListLaws.{take_onto, drop_onto}
use Rattle.term.specs.Terms.{span}
use Rattle.term.proofs.Sizes.{length_flatten}
use Rattle.counting.specs.Counting.{total}
use Rattle.comparing.specs.Comparing.{CompareOutcome, marks_of, out_of}
use Rattle.promises.specs.OneFile.{OpenFile, OneFile, symbols_in, words_in, starts_in, nodes_in, spans_in, shapes_in, score_in, after}
use Rattle.promises.specs.Exact.{Exact}
use Rattle.promises.specs.TwoEngines.{compared_in, TwoEngines}
use Rattle.promises.proofs.OpenFile.{score_words, shapes_good_lem, score_good_lem, same_score}
use Rattle.promises.proofs.Exact.{exact_bit, exact_shape}
use Rattle.promises.proofs.OpenReport.{exact_report, exact_over}
use Rattle.promises.proofs.CompareRows as comparing
use Rattle.promises.proofs.Setting.{number_is}
use Rattle.promises.proofs.Demand2 as walked

module _ {file : List ℕ} (O : OpenFile file) where
  module _ (marks : List ℕ) (room : span (score_in O) ≤ length marks) where
    abbrev made : List ℕ
    made = marks_of (words_in O) (starts_in O) (nodes_in O) (spans_in O)

    compared_is : compared_in O marks ≡ out_of (Ok (total made)) (onto made marks)
    compared_is =
        let l : length (nodes_in O) ≡ span (score_in O) = ap length (score_words O) ∙ length_flatten (score_in O) in
        comparing.said (symbols_in O) (words_in O) (starts_in O) (nodes_in O) (spans_in O) marks (shapes_good_lem O) (score_good_lem O) (omega (arith, l, room))

    made_exact : Exact (shapes_in O) (score_in O) made
    made_exact = comparing.exact (symbols_in O) (words_in O) (starts_in O) (nodes_in O) (spans_in O) marks (shapes_good_lem O) (score_good_lem O)

    first : take (span (score_in O)) (compared_in O marks).marks ≡ made
    first =
        ap (λ (o : CompareOutcome). take (span (score_in O)) o.marks) compared_is
        ∙ ap (λ n. take n (onto made marks)) (sym made_exact.long) ∙ take_onto made marks

    exact : Exact (shapes_in O) (score_in O) (take (span (score_in O)) (compared_in O marks).marks)
    exact = subst (Exact (shapes_in O) (score_in O)) (sym first) made_exact

    answers : (compared_in O marks).answer ≡ Ok (total (take (span (score_in O)) (compared_in O marks).marks))
    answers = ap (λ (o : CompareOutcome). o.answer) compared_is ∙ ap (λ ms. Ok (total ms)) (sym first)

    -- ---- a finished walk over the same file
    module _ {P : OpenFile file} (S : OneFile P) (choices : List ℕ) (done : (after S choices).count.waiting ≡ 0) where
      walk_made : made ≡ take (span (score_in O)) (after S choices).marks
      walk_made = exact_over O P made_exact (after S choices).marks (walked.exact S choices done)

      same_number : (compared_in O marks).answer ≡ Ok (after S choices).count.matches
      same_number =
          ap (λ (o : CompareOutcome). o.answer) compared_is
          ∙ ap Ok (ap total walk_made ∙ ap (λ t. total (take (span t) (after S choices).marks)) (same_score O P) ∙ sym (number_is S choices))

pub two_engines : {file : List ℕ} (O : OpenFile file) (marks : List ℕ) → span (score_in O) ≤ length marks → TwoEngines O marks
two_engines O marks room = record {
  agrees = λ S choices done. sym (walk_made O marks room S choices done) ∙ sym (first O marks room);
  same_number = λ S choices done. same_number O marks room S choices done;
  answers = answers O marks room;
  exactly = exact_bit (compared_in O marks).marks (exact O marks room);
  no_other = exact_shape (compared_in O marks).marks (exact O marks room);
  behind =
      ap (λ (o : CompareOutcome). drop (span (score_in O)) o.marks) (compared_is O marks room)
      ∙ ap (λ n. drop n (onto (made O marks room) marks)) (sym (made_exact O marks room).long) ∙ drop_onto (made O marks room) marks
      ∙ ap (λ n. drop n marks) (made_exact O marks room).long;
  text = λ test says k e. exact_report O test says (compared_in O marks).marks (exact O marks room) None (same k (sym e ∙ answers O marks room));
}
  where
    same : (k : ℕ) {n : ℕ} → ◌≡◌ {A = Result ℕ Reason} (Ok k) (Ok n) → k ≡ n
    same k e = cc
