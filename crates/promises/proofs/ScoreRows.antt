-- Rows 13 to 17: the score's tests give them, and give nothing else.
use Rattle.std.specs.Prelude.{Err, Ok, Result}
use mathlib.Core.Path.{◌≡◌, refl, ap, ◌∙◌, sym}
use mathlib.Core.Bool.{Bool, true, false, cond}
use mathlib.Core.List.{List}
use Prim.Native.Nat.{ℕ, ◌<◌, ◌+◌, ◌*◌}
use native.Mathlib.Omega.{arith}
use native.Mathlib.Nat.{zero-add}
use borrow.Author.Tests.{ltb-true, lt-ltb}
use lib.Dec.{ltb}
use lib.ListN.{length, drop}
use Rattle.kinds.specs.declared.Reason.{Reason}
use Rattle.kinds.specs.declared.Reason.TheVariants as reason
use Rattle.term.specs.Terms.{span, depth}
use Rattle.term.specs.Reading.{met, reading}
use Rattle.term.specs.declared.Fault.{Fault}
use Rattle.term.specs.declared.Fault.TheVariants.{Ends, NoSymbol, Many, Deep}
use Rattle.term.specs.declared.Met.{Met}
use Rattle.term.proofs.LawsReading.{whole_in}
use Rattle.term.proofs.WholeTerm.{whole_term}
use Rattle.term.proofs.TermWhole.{read_back}
use Rattle.term.proofs.FirstFault.{fault_of, of_fault}
use Rattle.contents.specs.Tables.{score_limits, score_reason, whole_score, score_of}
use Rattle.kinds.specs.Limits.{score_levels}
use Rattle.kinds.specs.Reasons.{number_of, refused_at}
use Rattle.term.proofs.FaultPlaces.{ends_at_end, many_at_stop}
use Rattle.kinds.proofs.Refusals.{same_refusal}
use Rattle.promises.proofs.ByNumber.{RefusedAs, by_reason, refusing}
use Rattle.promises.specs.Refusals.{ScoreFault, ScoreRow, row_13, row_14, row_15, row_16, row_17}

module _ (ar sc : List ℕ) (first end : ℕ) (whole : first + 2 * length sc ≡ end) where
  abbrev Row : Reason → ℕ → Type 0
  Row r i = ScoreRow ar sc first end (number_of r) (first + 2 * i)

  by_fault : (f : Fault) (i : ℕ) → ScoreFault ar sc f i → Row (score_reason f) i
  by_fault Ends i x =
      let z = ends_at_end ar sc (score_limits 0) x (omega arith) in
      let place : end ≡ first + 2 * i = omega (arith, whole, z) in
      rw (← place) (row_14 (rw z at x))
  by_fault NoSymbol i x = row_13 i x
  by_fault Many i x = let z = many_at_stop ar sc (score_limits 0) x (omega arith) in rw z (row_17 (rw z at x))
  by_fault Deep i x = row_15 i x

  surplus : (m : Met) → reading ar sc (score_limits 0) score_levels 0 ≡ Ok m → m.end < length sc → Row reason.Surplus m.end
  surplus m e h =
      let a = whole_term ar sc (score_limits 0) score_levels 0 m e in
      let w = whole_in ar sc (score_limits 0) score_levels 0 m e in
      let z : m.end ≡ span a.tree = a.size ∙ zero-add (span a.tree) in
      rw z (row_16 a.tree a.fits (omega (arith, a.flat)) (omega (arith, w.few, z)) (rw (← z) a.words) (omega (arith, z, h)))

  pub score_row : (r : Reason) (i : ℕ) → score_of ar sc ≡ Err (refused_at r i) → Row r i
  unfolding score_of
  score_row r i e = go (reading ar sc (score_limits 0) score_levels 0) refl e
    where
      past : (m : Met) → reading ar sc (score_limits 0) score_levels 0 ≡ Ok m → (b : Bool) → ltb m.end (length sc) ≡ b
          → cond b (Err (refused_at reason.Surplus m.end)) (Ok m) ≡ Err (refused_at r i) → Row r i
      past m em false eb d = let z : ◌≡◌ {A = ℕ} 0 1 = cc in absurd (omega arith)
      past m em true eb d =
          let w = same_refusal d in
          let x : reason.Surplus ≡ r = w.0 in
          let y : m.end ≡ i = w.1 in
          rw (← x, ← y) (surplus m em (ltb-true m.end (length sc) eb))

      go : (x : Result Met (Fault × ℕ)) → reading ar sc (score_limits 0) score_levels 0 ≡ x → whole_score x (length sc) ≡ Err (refused_at r i) → Row r i
      go (Err (f, p)) ex d =
          let w = same_refusal d in
          let y : score_reason f ≡ r = w.0 in
          let z : p ≡ i = w.1 in
          rw (← y, ← z) (by_fault f p (fault_of ar sc (score_limits 0) score_levels 0 f p ex))
      go (Ok m) ex d = past m ex (ltb m.end (length sc)) refl d

  fault_row : (f : Fault) (i : ℕ) → ScoreFault ar sc f i → score_of ar sc ≡ Err (refused_at (score_reason f) i)
  unfolding score_of
  fault_row f i x = ap (λ y. whole_score y (length sc)) (of_fault ar sc (score_limits 0) x)

  -- a row is of a word, or of the section's end
  pub record ScoreRefused (n p : ℕ) : Type 0 where
    pub word : ℕ
    pub place : p ≡ first + 2 * word
    pub refused : RefusedAs refusing (score_of ar sc) n word

  at_word : (r : Reason) (i : ℕ) → score_of ar sc ≡ Err (refused_at r i) → ScoreRefused (number_of r) (first + 2 * i)
  at_word r i e = record { word = i; place = refl; refused = by_reason refusing r e }

  pub row_score : {n p : ℕ} → ScoreRow ar sc first end n p → ScoreRefused n p
  unfolding score_of
  row_score (row_13 i x) = at_word reason.ScoreWord i (fault_row NoSymbol i x)
  row_score (row_14 x) = record {
    word = length sc;
    place = sym whole;
    refused =
        by_reason refusing reason.ScoreEnds (fault_row Ends (length sc) x);
  }
  row_score (row_15 i x) = at_word reason.ScoreDepth i (fault_row Deep i x)
  row_score (row_16 t fits flat small words h) =
      let b = read_back ar sc (score_limits 0) t score_levels 0 (drop (span t) sc) fits (omega arith) (omega arith) words in
      at_word reason.Surplus (span t)
      (ap (λ y. whole_score y (length sc)) b.0 ∙ ap (λ x. whole_score (Ok (met x (depth t))) (length sc)) (zero-add (span t))
      ∙ rw (lt-ltb (span t) (length sc) h) refl)
  row_score (row_17 x) = at_word reason.ScoreNodes 4096 (fault_row Many 4096 x)
