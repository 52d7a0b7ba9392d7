-- Rows 1 to 6: the tests of trailer and symbols give them, and give nothing else.
--   trailer_row row_trailer        1 to 4
--   trailer_framed framed_trailer  and where none of them is given
--   symbol_row row_symbol          5, 6
use Rattle.kinds.specs.declared.Refusal.{Refusal}
use Rattle.std.specs.Prelude.{Err, Ok, Result}
use mathlib.Core.Path.{◌≡◌, refl, ap, sym, ◌∙◌}
use mathlib.Core.Bool.{Bool, true, false}
use mathlib.Core.List.{List, [], ◌∷◌}
use Prim.Native.Nat.{ℕ, zero, suc, ◌+◌, ◌-◌, ◌%◌, ◌<◌, ◌≤◌}
use native.Mathlib.Omega.{arith}
use native.Mathlib.Decide.{dec_lt, ℕ_discrete}
use borrow.Author.Tests.{leb-true, leb-false, eqb-true, eqb-false, le-leb, lt-leb}
use lib.Dec.{leb, eqb}
use lib.ListN.{length, get_or}
use Rattle.kinds.specs.Lists.{unless}
use Rattle.kinds.specs.declared.Reason.{Reason}
use Rattle.kinds.specs.declared.Reason.TheVariants.{Short, Long, EndBytes, Trailer, Symbols, Children}
use Rattle.sections.specs.Sections.{places, distances_of, trailer_of, over_at, symbols_of}
use Rattle.sections.specs.declared.Places.{Places}
use Rattle.sections.proofs.LawsSections.{never, trailer_short, trailer_long, trailer_first, trailer_second, trailer_to, distances_at, symbols_none, symbols_many, symbols_each}
use Rattle.kinds.specs.Reasons.{number_of, refused_at}
use Rattle.kinds.proofs.Refusals.{same_refusal}
use Rattle.promises.proofs.ByNumber.{RefusedAs, by_reason, refusing}
use Rattle.promises.specs.Refusals.{Sized, Signed, trailer_at, to_symbols, to_shapes, to_score, TrailerRow, row_1, row_2, row_3, row_4, Framed, SymbolRow, row_5, row_6}

on_test {κ} : {C : Type κ} (t : Bool) (x y z : Result Places Refusal) → unless t x y ≡ z → (t ≡ false → x ≡ z → C) → (t ≡ true → y ≡ z → C) → C
on_test true x y z e no-case yes-case = yes-case refl e
on_test false x y z e no-case yes-case = no-case refl e

not_refused {κ} : {C : Type κ} {r : Reason} {p : ℕ} {q : Places} → Ok q ≡ Err (refused_at r p) → C
not_refused e = never (sym e)

-- ---- 4

module _ (e a b c : ℕ) where
  distances_refused : (r : Reason) (p : ℕ) → distances_of e a b c ≡ Err (refused_at r p) → (Trailer ≡ r) × (e ≡ p)
      × ((a ≡ e) × (b ≤ a) × (c ≤ b) × (b % 2 ≡ 0) × (c % 2 ≡ 0) → ⊥)
  unfolding distances_of
  distances_refused r p h =
      on_test (eqb a e) _ _ _ h (λ t x. told x (λ d. eqb-false a e t d.0)) λ t₁ h₁.
      on_test (leb b a) _ _ _ h₁ (λ t x. told x (λ d. let g = leb-false b a t in let f = d.1 in omega arith)) λ t₂ h₂.
      on_test (leb c b) _ _ _ h₂ (λ t x. told x (λ d. let g = leb-false c b t in let f = d.2 in omega arith)) λ t₃ h₃.
      on_test (eqb (b % 2) 0) _ _ _ h₃ (λ t x. told x (λ d. eqb-false (b % 2) 0 t d.3)) λ t₄ h₄.
      on_test (eqb (c % 2) 0) _ _ _ h₄ (λ t x. told x (λ d. eqb-false (c % 2) 0 t d.4)) λ t₅ h₅.
      not_refused h₅
    where
      told : {N : Type 0} → ◌≡◌ {A = Result Places Refusal} (Err (refused_at Trailer e)) (Err (refused_at r p)) → N → (Trailer ≡ r) × (e ≡ p) × N
      told x n = let w = same_refusal x in let y : Trailer ≡ r = w.0 in let z : e ≡ p = w.1 in (y, z, n)

  distances_placed : (q : Places) → distances_of e a b c ≡ Ok q → ((a ≡ e) × (b ≤ a) × (c ≤ b) × (b % 2 ≡ 0) × (c % 2 ≡ 0))
      × (q ≡ places (e - b) (e - c) e)
  unfolding distances_of
  distances_placed q h =
      on_test (eqb a e) _ _ _ h (λ t x. never x) λ t₁ h₁.
      on_test (leb b a) _ _ _ h₁ (λ t x. never x) λ t₂ h₂.
      on_test (leb c b) _ _ _ h₂ (λ t x. never x) λ t₃ h₃.
      on_test (eqb (b % 2) 0) _ _ _ h₃ (λ t x. never x) λ t₄ h₄.
      on_test (eqb (c % 2) 0) _ _ _ h₄ (λ t x. never x) λ t₅ h₅.
      let z : q ≡ places (e - b) (e - c) e = cc in
      ((eqb-true a e t₁, leb-true b a t₂, leb-true c b t₃, eqb-true (b % 2) 0 t₄, eqb-true (c % 2) 0 t₅), z)

  -- a test fails
  distances_not : ((a ≡ e) × (b ≤ a) × (c ≤ b) × (b % 2 ≡ 0) × (c % 2 ≡ 0) → ⊥) → distances_of e a b c ≡ Err (refused_at Trailer e)
  distances_not n = go (distances_of e a b c) refl
    where
      go : (s : Result Places Refusal) → distances_of e a b c ≡ s → s ≡ Err (refused_at Trailer e)
      go (Ok q) d = absurd (n (distances_placed q d).0)
      go (Err why) d = let x = distances_refused why.0 why.1 d in rw (← x.0, ← x.1) refl

-- ---- 1 to 4
module _ (file : List ℕ) where
  pub trailer_row : (r : Reason) (p : ℕ) → trailer_of file ≡ Err (refused_at r p) → TrailerRow file (number_of r) p
  unfolding trailer_of
  trailer_row r p h =
      on_test (leb 8 (length file)) _ _ _ h
      (λ t x. let w = same_refusal x in let y : Short ≡ r = w.0 in let z : length file ≡ p = w.1 in rw (← y, ← z) (row_1 (leb-false 8 (length file) t))) λ t₁ h₁.
      on_test (leb (length file) 8744) _ _ _ h₁
      (λ t x. let w = same_refusal x in let y : Long ≡ r = w.0 in let z : length file ≡ p = w.1 in rw (← y, ← z) (row_2 (leb-false (length file) 8744 t))) λ t₂ h₂.
      let sized : Sized file = (leb-true 8 (length file) t₁, leb-true (length file) 8744 t₂) in
      on_test (eqb (get_or file (length file - 2) 0) 83) _ _ _ h₂
      (λ t x. let w = same_refusal x in let y : EndBytes ≡ r = w.0 in let z : length file - 2 ≡ p = w.1 in
      rw (← y, ← z) (row_3 sized (λ d. eqb-false (get_or file (length file - 2) 0) 83 t d.0))) λ t₃ h₃.
      on_test (eqb (get_or file (length file - 1) 0) 67) _ _ _ h₃
      (λ t x. let w = same_refusal x in let y : EndBytes ≡ r = w.0 in let z : length file - 2 ≡ p = w.1 in
      rw (← y, ← z) (row_3 sized (λ d. eqb-false (get_or file (length file - 1) 0) 67 t d.1))) λ t₄ h₄.
      let signed : Signed file = (eqb-true (get_or file (length file - 2) 0) 83 t₃, eqb-true (get_or file (length file - 1) 0) 67 t₄) in
      let d = distances_refused (trailer_at file) (to_symbols file) (to_shapes file) (to_score file) r p h₄ in
      rw (← d.0, ← d.1) (row_4 sized signed d.2)

  pub trailer_framed : (q : Places) → trailer_of file ≡ Ok q → Framed file q
  unfolding trailer_of
  trailer_framed q h =
      on_test (leb 8 (length file)) _ _ _ h (λ t x. never x) λ t₁ h₁.
      on_test (leb (length file) 8744) _ _ _ h₁ (λ t x. never x) λ t₂ h₂.
      on_test (eqb (get_or file (length file - 2) 0) 83) _ _ _ h₂ (λ t x. never x) λ t₃ h₃.
      on_test (eqb (get_or file (length file - 1) 0) 67) _ _ _ h₃ (λ t x. never x) λ t₄ h₄.
      let d = distances_placed (trailer_at file) (to_symbols file) (to_shapes file) (to_score file) q h₄ in
      record {
        sized = (leb-true 8 (length file) t₁, leb-true (length file) 8744 t₂);
        signed = (eqb-true (get_or file (length file - 2) 0) 83 t₃, eqb-true (get_or file (length file - 1) 0) 67 t₄);
        distanced = d.0;
        at = d.1;
      }

  to_distances : Sized file → Signed file → trailer_of file ≡ distances_of (trailer_at file) (to_symbols file) (to_shapes file) (to_score file)
  to_distances s t = trailer_to file s.0 s.1 t.0 t.1 refl refl refl

  pub framed_trailer : (q : Places) → Framed file q → trailer_of file ≡ Ok q
  framed_trailer q f =
      let d = f.distanced in
      to_distances f.sized f.signed
      ∙ distances_at (trailer_at file) (to_symbols file) (to_shapes file) (to_score file) d.0 d.1 d.2 d.3 d.4 ∙ ap Ok (sym f.at)

  not_signed : Sized file → (Signed file → ⊥) → trailer_of file ≡ Err (refused_at EndBytes (length file - 2))
  not_signed s n = go (ℕ_discrete (get_or file (length file - 2) 0) 83)
    where
      go : Dec (get_or file (length file - 2) 0 ≡ 83) → trailer_of file ≡ Err (refused_at EndBytes (length file - 2))
      go (no h) = trailer_first file s.0 s.1 h
      go (yes h) = trailer_second file s.0 s.1 h (λ k. n (h, k))

  pub row_trailer : {n p : ℕ} → TrailerRow file n p → RefusedAs refusing (trailer_of file) n p
  row_trailer (row_1 h) = by_reason refusing Short (trailer_short file h)
  row_trailer (row_2 h) = by_reason refusing Long (trailer_long file (omega arith) h)
  row_trailer (row_3 s n) = by_reason refusing EndBytes (not_signed s n)
  row_trailer (row_4 s t n) = by_reason refusing Trailer (to_distances s t ∙ distances_not (trailer_at file) (to_symbols file) (to_shapes file) (to_score file) n)

-- ---- 5, 6
on_symbols_lem {κ} : {C : Type κ} (t : Bool) (x y z : Result Unit Refusal) → unless t x y ≡ z → (t ≡ false → x ≡ z → C) → (t ≡ true → y ≡ z → C) → C
on_symbols_lem true x y z e no-case yes-case = yes-case refl e
on_symbols_lem false x y z e no-case yes-case = no-case refl e

-- the first count over 4, in counts before which k others stand
record Over (xs : List ℕ) (k p : ℕ) : Type 0 where
  index : ℕ
  place : k + index ≡ p
  inside : index < length xs
  over : 4 < get_or xs index 0
  first : (i : ℕ) → i < index → get_or xs i 0 ≤ 4

over_at_lem : (xs : List ℕ) (k : ℕ) (r : Reason) (p : ℕ) → over_at k xs ≡ Err (refused_at r p) → (Children ≡ r) × Over xs k p
unfolding over_at
over_at_lem [] k r p e = let z : ◌≡◌ {A = ℕ} 0 1 = cc in absurd (omega arith)
over_at_lem (x ∷ xs) k r p e =
    on_symbols_lem (leb x 4) _ _ _ e
    (λ t d. let w = same_refusal d in let y : Children ≡ r = w.0 in let z : k ≡ p = w.1 in
    (y, record { index = 0; place = omega arith; inside = omega arith; over = leb-false x 4 t; first = λ i h. absurd (omega arith) }))
    (λ t d. let o = over_at_lem xs (k + 1) r p d in (o.0, more (leb-true x 4 t) o.1))
  where
    more : x ≤ 4 → Over xs (k + 1) p → Over (x ∷ xs) k p
    more h o = record { index = suc o.index; place = omega (arith, o.place); inside = omega (arith, o.inside); over = o.over; first = first }
      where
        first : (i : ℕ) → i < suc o.index → get_or (x ∷ xs) i 0 ≤ 4
        first zero l = h
        first (suc i) l = o.first i (omega arith)

at_over : (xs : List ℕ) (k p : ℕ) → p < length xs → 4 < get_or xs p 0 → ((i : ℕ) → i < p → get_or xs i 0 ≤ 4) → over_at k xs ≡ Err (refused_at Children (k + p))
unfolding over_at
at_over [] k p h o f = absurd (omega arith)
at_over (x ∷ xs) k zero h o f = let z : k + 0 ≡ k = omega arith in rw (lt-leb x 4 o, z) refl
at_over (x ∷ xs) k (suc p) h o f =
    let z : k + 1 + p ≡ k + suc p = omega arith in
    rw (le-leb x 4 (f 0 (omega arith))) (at_over xs (k + 1) p (omega arith) o (λ i l. f (suc i) (omega arith)) ∙ ap (λ n. Err (refused_at Children n)) z)

module _ (ar : List ℕ) where
  pub symbol_row : (r : Reason) (p : ℕ) → symbols_of ar ≡ Err (refused_at r p) → SymbolRow ar (number_of r) p
  unfolding symbols_of
  symbol_row r p e =
      on_symbols_lem (leb 1 (length ar)) _ _ _ e
      (λ t d. let w = same_refusal d in let y : Symbols ≡ r = w.0 in let z : 0 ≡ p = w.1 in
      rw (← y, ← z) (row_5 (λ n. let f = leb-false 1 (length ar) t in let g = n.0 in omega arith))) λ t₁ e₁.
      on_symbols_lem (leb (length ar) 32) _ _ _ e₁
      (λ t d. let w = same_refusal d in let y : Symbols ≡ r = w.0 in let z : 0 ≡ p = w.1 in
      rw (← y, ← z) (row_5 (λ n. let f = leb-false (length ar) 32 t in let g = n.1 in omega arith))) λ t₂ e₂.
      let o = over_at_lem ar 0 r p e₂ in
      let x = o.1 in
      let z : x.index ≡ p = omega (arith, x.place) in
      rw (← o.0, ← z) (row_6 (leb-true 1 (length ar) t₁) (leb-true (length ar) 32 t₂) x.index x.inside x.over x.first)

  pub row_symbol : {n p : ℕ} → SymbolRow ar n p → RefusedAs refusing (symbols_of ar) n p
  row_symbol (row_5 n) = by_reason refusing Symbols (go (dec_lt (length ar) 1) (dec_lt 32 (length ar)))
    where
      go : Dec (length ar < 1) → Dec (32 < length ar) → symbols_of ar ≡ Err (refused_at Symbols 0)
      go (yes h) d = symbols_none ar h
      go (no h) (yes k) = symbols_many ar (omega arith) k
      go (no h) (no k) = absurd (n (omega arith))
  row_symbol (row_6 a b p h o f) = let z : 0 + p ≡ p = omega arith in
      by_reason refusing Children (symbols_each ar a b ∙ at_over ar 0 p h o f ∙ ap (λ n. Err (refused_at Children n)) z)
