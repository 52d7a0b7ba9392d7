-- Rows 19, 31, 30 and 35 of counting clashes: what it says is what they give.
--   says_so    good tables say of matches what the terms that they hold say
use Rattle.kinds.specs.declared.Reason.{Reason}
use Rattle.std.specs.Prelude.{Err, Ok, Result}
use mathlib.Core.Path.{◌≡◌, ap, sym, ◌∙◌}
use mathlib.Core.Bool.{true, false}
use mathlib.Core.Logic.{◌⊎◌, inl, inr, ⊎_elim}
use mathlib.Core.List.{List}
use Prim.Native.Nat.{ℕ, ◌<◌, ◌≤◌}
use native.Mathlib.Omega.{arith}
use native.Mathlib.Decide.{dec_lt}
use lib.ListN.{length, take}
use lib.Seq.{length-take-le}
use Rattle.kinds.specs.Members.{◌∈◌, Below}
use Rattle.kinds.specs.Reasons.{Says}
use Rattle.kinds.specs.declared.Reason.TheVariants.{BadShapes, ShortBuffers, BadScore, NoSuchMatch}
use Rattle.kinds.proofs.Bools.{test, false_true}
use Rattle.checks.specs.Again.{score_good}
use Rattle.folio.specs.Folio.{shape_terms, score_term}
use Rattle.counting.specs.Counting.{Match, counted, counted_says}
use Rattle.counting.proofs.CountLaws.{count_bad, count_short, count_on}
use Rattle.counting.proofs.FoundLaws.{in_found}
use Rattle.clashing.specs.Clashes.{clash_number, nodes_in}
use Rattle.clashing.specs.Strays.{matched, strays}
use Rattle.clashing.specs.Clashing.{clashes_in, clashes_of}
use Rattle.clashing.proofs.ClashLaws.{strays_none, on_stray, matched_all}
use Rattle.clashing.proofs.OneFolio.{SaysOf, says_of}
use Rattle.clashing.proofs.Telling.{in_stray, in_is, clashes_bad, clashes_go}
use Rattle.promises.specs.Demand1 as rows
use Rattle.promises.specs.Demand1.{GoodShapes, Good, ClashRow, held_in, IsThere}
use Rattle.promises.specs.Told.{By}
use Rattle.promises.proofs.GoodTerms.{shapes_are, score_is}
use Rattle.promises.proofs.BuildRows.{good_or_not, is_bad, is_good_lem}
use Rattle.promises.proofs.WalkRows.{score_or_not, score_bad, score_fine}

-- the tables say what the terms that they hold say
pub says_so : (ar ws st score spans : List ℕ) → GoodShapes ar ws st → Good ar score spans → SaysOf ws st score spans (shape_terms ar ws) (score_term ar score)
says_so ar ws st score spans s g =
    let a = shapes_are ar ws st s in
    let b = score_is ar score spans g in
    says_of ar ws st score spans (shape_terms ar ws) (score_term ar score) a.each b.is a.words a.begins b.words b.spans

module _ (ar ws st score spans marks : List ℕ) (small : Below 65536 score) where
  abbrev outcome : Result ℕ Reason
  outcome = clashes_of ar ws st score spans marks

  abbrev all : List Match
  all = held_in ar ws st score spans marks

  abbrev IsOne : Match → Type 0
  IsOne = IsThere ar ws st score spans marks

  -- ---- 19, 31, 30
  said_19 : (GoodShapes ar ws st → ⊥) → outcome ≡ Err BadShapes
  said_19 n = clashes_bad ar ws st score spans marks (is_bad ar ws st n)

  module _ (s : GoodShapes ar ws st) where
    goes : outcome ≡ counted (clashes_in ws st score spans) ar score spans marks
    goes = clashes_go ar ws st score spans marks (is_good_lem ar ws st s)

    said_31 : (Good ar score spans → ⊥) → outcome ≡ Err BadScore
    said_31 n = goes ∙ count_bad (clashes_in ws st score spans) ar score spans marks (score_bad ar score spans small n)

    module _ (g : Good ar score spans) where
      said_30 : length marks < length score → outcome ≡ Err ShortBuffers
      said_30 h = goes ∙ count_short (clashes_in ws st score spans) ar score spans marks (score_fine ar score spans small g) h

      -- ---- 35, or the number
      module _ (h : length score ≤ length marks) where
        abbrev so : SaysOf ws st score spans (shape_terms ar ws) (score_term ar score)
        so = says_so ar ws st score spans s g

        here : outcome ≡ clashes_in ws st score spans (take (length score) marks)
        here = goes ∙ count_on (clashes_in ws st score spans) ar score spans marks (score_fine ar score spans small g) h

        stands : (m : Match) → m ∈ all → matched ws st score spans m ≡ true → IsOne m
        stands m i e =
            let l = length-take-le (length score) marks h in
            so.is_match m (omega (arith, (in_found (take (length score) marks) m i).0)) e

        said_35 : strays ws st score spans all ≡ true → outcome ≡ Err NoSuchMatch
        said_35 e = here ∙ in_stray ws st score spans (take (length score) marks) e

        said : strays ws st score spans all ≡ false → outcome ≡ Ok (clash_number (nodes_in (shape_terms ar ws) (score_term ar score)) all)
        said e =
            here ∙ in_is ws st score spans (take (length score) marks) e
            ∙ ap Ok (so.same_number all (λ m i. stands m i (matched_all ws st score spans all e m i)))

        is_stray : (m : Match) → m ∈ all → (IsOne m → ⊥) → strays ws st score spans all ≡ true
        is_stray m i n = go (test (strays ws st score spans all))
          where
            go : (strays ws st score spans all ≡ true) ⊎ (strays ws st score spans all ≡ false) → strays ws st score spans all ≡ true
            go (inl e) = e
            go (inr e) = absurd (n (stands m i (matched_all ws st score spans all e m i)))

        none_strays : ((m : Match) → m ∈ all → IsOne m) → strays ws st score spans all ≡ false
        none_strays is = strays_none ws st score spans all (λ m i. so.is_matched m (is m i))

        row_35 : strays ws st score spans all ≡ true → ClashRow ar ws st score spans marks (counted_says outcome)
        row_35 e = on_stray ws st score spans all e λ m i no.
            rw (said_35 e) (rows.clash_35 s g (omega arith) m i (λ is. false_true (sym no ∙ so.is_matched m is)))

        row : strays ws st score spans all ≡ false → ClashRow ar ws st score spans marks (counted_says outcome)
        row e = rw (said e) (rows.clashes s g h (λ m i. stands m i (matched_all ws st score spans all e m i)))

  clash_row : ClashRow ar ws st score spans marks (counted_says outcome)
  clash_row = shapes (good_or_not ar ws st)
    where
      bits : GoodShapes ar ws st → Good ar score spans → Dec (length marks < length score) → ClashRow ar ws st score spans marks (counted_says outcome)
      bits s g (yes h) = rw (said_30 s g h) (rows.clash_30 s g h)
      bits s g (no h) = let k : length score ≤ length marks = omega arith in
          ⊎_elim (row_35 s g k) (row s g k) (test (strays ws st score spans all))

      nodes : GoodShapes ar ws st → Good ar score spans ⊎ (Good ar score spans → ⊥) → ClashRow ar ws st score spans marks (counted_says outcome)
      nodes s (inr n) = rw (said_31 s n) (rows.clash_31 s n)
      nodes s (inl g) = bits s g (dec_lt (length marks) (length score))

      shapes : GoodShapes ar ws st ⊎ (GoodShapes ar ws st → ⊥) → ClashRow ar ws st score spans marks (counted_says outcome)
      shapes (inr n) = rw (said_19 n) (rows.clash_19 n)
      shapes (inl s) = nodes s (score_or_not ar score spans small (test (score_good ar score spans)))

  clash_only : (o : Says) → ClashRow ar ws st score spans marks o → counted_says outcome ≡ o
  clash_only _ (rows.clash_19 n) = ap counted_says (said_19 n)
  clash_only _ (rows.clash_31 s n) = ap counted_says (said_31 s n)
  clash_only _ (rows.clash_30 s g h) = ap counted_says (said_30 s g h)
  clash_only _ (rows.clash_35 s g h m i n) = ap counted_says (said_35 s g h (is_stray s g h m i n))
  clash_only _ (rows.clashes s g h is) = ap counted_says (said s g h (none_strays s g h is))

  pub by_clash : By (ClashRow ar ws st score spans marks) (counted_says outcome)
  by_clash = (clash_row, clash_only)
