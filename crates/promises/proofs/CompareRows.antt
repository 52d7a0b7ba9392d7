-- Rows 19, 31 and 30 of comparing, and its marks: what it says and leaves is what they give.
--   made        the marks of a good score's nodes: they hold exactly the matches
--   said        what comparing says and leaves then
use Rattle.std.specs.Prelude.{Err, Ok}
use mathlib.Core.Path.{◌≡◌, ap, sym, ◌∙◌, subst}
use mathlib.Core.Bool.{true, false}
use mathlib.Core.Logic.{◌⊎◌, inl, inr}
use mathlib.Core.List.{List}
use Prim.Native.Nat.{ℕ, ◌<◌, ◌≤◌}
use native.Mathlib.Omega.{arith}
use native.Mathlib.Decide.{dec_lt}
use lib.ListN.{length, length-map}
use Rattle.kinds.specs.Lists.{onto, range}
use Rattle.kinds.specs.Members.{Below}
use Rattle.kinds.specs.declared.Reason.TheVariants.{BadShapes, ShortBuffers, BadScore}
use Rattle.kinds.proofs.Bools.{test}
use Rattle.kinds.proofs.Members.{length_range}
use Rattle.term.specs.Terms.{span}
use Rattle.term.proofs.Sizes.{length_flatten}
use Rattle.checks.specs.Again.{score_good}
use Rattle.folio.specs.Folio.{shape_terms, score_term}
use Rattle.folio.proofs.GoodTables.{scored_good}
use Rattle.counting.specs.Counting.{Match, found, total, counted}
use Rattle.counting.proofs.CountLaws.{count_bad, count_short, count_on}
use Rattle.clashing.specs.Strays.{matched}
use Rattle.clashing.proofs.OneFolio.{SaysOf}
use Rattle.comparing.specs.Comparing.{CompareOutcome, out_of, mark_at, marks_of, answer_of, compared}
use Rattle.comparing.proofs.LawsComparing.{answer_bad, answer_go, refused_is, number_is, found_is}
use Rattle.promises.specs.Demand1 as rows
use Rattle.promises.specs.Demand1.{GoodShapes, Good, CompareRow, compare_told}
use Rattle.promises.specs.Told.{Told, By}
use Rattle.promises.specs.Exact.{Exact}
use Rattle.promises.proofs.BuildRows.{good_or_not, is_bad, is_good_lem}
use Rattle.promises.proofs.GoodTerms.{score_is}
use Rattle.promises.proofs.ClashRows.{says_so}
use Rattle.promises.proofs.Exact.{exact_same}
use Rattle.promises.proofs.WalkRows.{score_or_not, score_bad}

module _ (ar ws st score spans marks : List ℕ) where
  abbrev outcome : CompareOutcome
  outcome = compared ar ws st score spans marks

  abbrev made : List ℕ
  made = marks_of ws st score spans

  said_19 : (GoodShapes ar ws st → ⊥) → outcome ≡ out_of (Err BadShapes) marks
  said_19 n = refused_is ar ws st score spans marks (answer_bad ar ws st score spans marks (is_bad ar ws st n))

  module _ (s : GoodShapes ar ws st) where
    goes : answer_of ar ws st score spans marks ≡ counted (λ ms. Ok (total made)) ar score spans marks
    goes = answer_go ar ws st score spans marks (is_good_lem ar ws st s)

    said_31 : score_good ar score spans ≡ false → outcome ≡ out_of (Err BadScore) marks
    said_31 e = refused_is ar ws st score spans marks (goes ∙ count_bad (λ ms. Ok (total made)) ar score spans marks e)

    module _ (g : Good ar score spans) where
      fine : score_good ar score spans ≡ true
      fine = scored_good ar score spans g.0 g.1

      nodes_are : length score ≡ span (score_term ar score)
      nodes_are = ap length (score_is ar score spans g).words ∙ length_flatten (score_term ar score)

      said_30 : length marks < length score → outcome ≡ out_of (Err ShortBuffers) marks
      said_30 h = refused_is ar ws st score spans marks (goes ∙ count_short (λ ms. Ok (total made)) ar score spans marks fine h)

      pub said : length score ≤ length marks → outcome ≡ out_of (Ok (total made)) (onto made marks)
      said h = number_is ar ws st score spans marks (goes ∙ count_on (λ ms. Ok (total made)) ar score spans marks fine h)

      so : SaysOf ws st score spans (shape_terms ar ws) (score_term ar score)
      so = says_so ar ws st score spans s g

      holds : (m : Match) → m.node < length score → found made m ≡ matched ws st score spans m
      unfolding matched
      holds m l = found_is ws st score spans m.node m.shape l

      pub exact : Exact (shape_terms ar ws) (score_term ar score) made
      exact = record {
        long = length-map (range 0 (length score)) (mark_at ws st score spans) ∙ length_range 0 (length score) ∙ nodes_are;
        exactly = λ m h.
            let l : m.node < length score = omega (arith, nodes_are) in
            (λ e. so.is_match m l (sym (holds m l) ∙ e), λ is. holds m l ∙ so.is_matched m is);
      }

module _ (ar ws st score spans marks : List ℕ) (small : Below 65536 score) where
  abbrev told_so : Told (List ℕ)
  told_so = compare_told (compared ar ws st score spans marks)

  row_of : {o : CompareOutcome} → compared ar ws st score spans marks ≡ o → CompareRow ar ws st score spans marks (compare_told o)
      → CompareRow ar ws st score spans marks told_so
  row_of e r = subst (λ o. CompareRow ar ws st score spans marks (compare_told o)) (sym e) r

  compare_row : CompareRow ar ws st score spans marks told_so
  compare_row = shapes (good_or_not ar ws st)
    where
      room : GoodShapes ar ws st → Good ar score spans → Dec (length marks < length score) → CompareRow ar ws st score spans marks told_so
      room s g (yes h) = row_of (said_30 ar ws st score spans marks s g h) (rows.compare_30 s g h)
      room s g (no h) = let k : length score ≤ length marks = omega arith in
          row_of (said ar ws st score spans marks s g k) (rows.compares s g k (marks_of ws st score spans) (exact ar ws st score spans marks s g))

      nodes : GoodShapes ar ws st → Good ar score spans ⊎ (Good ar score spans → ⊥) → CompareRow ar ws st score spans marks told_so
      nodes s (inr n) = row_of (said_31 ar ws st score spans marks s (score_bad ar score spans small n)) (rows.compare_31 s n)
      nodes s (inl g) = room s g (dec_lt (length marks) (length score))

      shapes : GoodShapes ar ws st ⊎ (GoodShapes ar ws st → ⊥) → CompareRow ar ws st score spans marks told_so
      shapes (inr n) = row_of (said_19 ar ws st score spans marks n) (rows.compare_19 n)
      shapes (inl s) = nodes s (score_or_not ar score spans small (test (score_good ar score spans)))

  compare_only : (o : Told (List ℕ)) → CompareRow ar ws st score spans marks o → told_so ≡ o
  compare_only _ (rows.compare_19 n) = ap compare_told (said_19 ar ws st score spans marks n)
  compare_only _ (rows.compare_31 s n) = ap compare_told (said_31 ar ws st score spans marks s (score_bad ar score spans small n))
  compare_only _ (rows.compare_30 s g h) = ap compare_told (said_30 ar ws st score spans marks s g h)
  compare_only _ (rows.compares s g h ms e) =
      ap compare_told (said ar ws st score spans marks s g h
      ∙ ap (λ ns. out_of (Ok (total ns)) (onto ns marks)) (exact_same (exact ar ws st score spans marks s g) e))

  pub by_compare : By (CompareRow ar ws st score spans marks) told_so
  by_compare = (compare_row, compare_only)
