-- Demand 2 holds of every file that opens and whose build is accepted.
--   marks_long     there is a mark for each node
--   exact          the marks of a finished walk hold exactly the matches
use Rattle.std.specs.Prelude.{Some}
use mathlib.Core.Path.{◌≡◌, ap, sym, ◌∙◌, subst}
use mathlib.Core.Bool.{Bool}
use mathlib.Core.List.{List}
use mathlib.Core.Option.{some, map}
use Prim.Native.Nat.{ℕ, ◌<◌, ◌≤◌}
use lib.ListN.{length, get_or, get_elem?, take}
use Rattle.kinds.specs.Bits.{bit}
use Rattle.kinds.specs.Positions.{Pos}
use Rattle.kinds.proofs.Bools.{is_eqb}
use Rattle.term.specs.Terms.{Term, span}
use Rattle.term.specs.Places.{sub}
use Rattle.term.proofs.MatchTest.{agrees_at, matches_of_lem, matches_is}
use Rattle.term.proofs.Numbers.{number_place, node_at_lem, dom_place}
use Rattle.counting.specs.Counting.{match_at}
use Rattle.report.specs.Text.{match_line}
use Rattle.walk.specs.Starting.{Walk}
use Rattle.walking.proofs.AnyWalk.{same_walk}
use Rattle.promises.specs.OneFile.{OpenFile, OneFile, shapes_in, score_in, after, reported}
use Rattle.promises.specs.Reported.{report_in}
use Rattle.promises.specs.Exact.{Exact}
use Rattle.promises.specs.Demand2.{Demand2, Says}
use Rattle.promises.proofs.OpenFile.{is_folio, shape_words_lem, score_words, score_spans, score_depth, shapes_depth}
use Rattle.promises.proofs.OpenReport.{path, exact_report}
use Rattle.promises.proofs.Setting.{number_is, plan_is, told}
use Rattle.promises.proofs.Exact.{exact_bit}
use Rattle.promises.proofs.SoFar.{so_far, all_logged, exact_at_end}
use Rattle.promises.proofs.Construction.{paper_says}

module _ {file : List ℕ} {O : OpenFile file} (S : OneFile O) where
  module _ (choices : List ℕ) where
    marks_long : span (score_in O) ≤ length (after S choices).marks
    marks_long =
        subst (λ (v : Walk). span (score_in O) ≤ length v.marks) (sym ((told S).after_is choices))
        (same_walk (told S).folio S.walk (told S).lent choices).marks_room

    no_other : (j n : ℕ) → n < span (score_in O) → bit (get_or (after S choices).marks n 0) j ≡ 1 → (ℓ : Term) × (get_elem? (shapes_in O) j ≡ some ℓ)
    no_other j n h b =
        let m = (((so_far S choices).marked (match_at n j) h).0 (is_eqb (bit (get_or (after S choices).marks n 0) j) 1 b)).0 in
        (m.shape, m.has_shape)

    module _ (done : (after S choices).count.waiting ≡ 0) where
      pub exact : Exact (shapes_in O) (score_in O) (take (span (score_in O)) (after S choices).marks)
      exact = exact_at_end (after S choices) (so_far S choices) marks_long (all_logged S choices done)

      text : (test : Term → Pos → Bool) → Says test (score_in O) → reported S choices ≡ report_in test (shapes_in O) (score_in O) (Some S.size.states)
      text test says = exact_report O test says (after S choices).marks exact (Some S.size.states) (number_is S choices)

pub demand_2 : {file : List ℕ} {O : OpenFile file} (S : OneFile O) → Demand2 S
demand_2 {O = O} S = record {
  is_folio = is_folio O;
  shape_words_lem = shape_words_lem O;
  score_words = score_words O;
  score_spans = score_spans O;
  score_depth = score_depth O;
  shapes_depth = shapes_depth O;
  plan = plan_is S;
  construction = paper_says (is_folio O).limits;
  exactly = λ choices done. exact_bit (after S choices).marks (exact S choices done);
  no_other = no_other S;
  path = λ n j h.
      let w = node_at_lem (score_in O) n h in
      (w.0, w.1, ap (map (match_line (match_at n j))) (path O w.0 n w.1));
  order = λ p n e. dom_place (score_in O) n ∙ number_place p (score_in O) n e;
  text = λ test says choices done. text S choices done test says;
  tested = (λ ℓ p. agrees_at ℓ (sub (score_in O) p), λ ℓ p. (matches_of_lem ℓ (score_in O) p, matches_is ℓ (score_in O) p));
}
