-- Refusals 1 to 6, way by way.
--   first_over                                       6: the first count above 4
--   symbols_none symbols_many symbols_each           5
--   symbols_over                                     5 passed, and 6
--   trailer_short trailer_long trailer_first trailer_second   1 to 3
--   trailer_to distances_at                          1 to 3 passed, and 4
--   Placed distances_in trailer_in                   what a file that granted 1 to 4 has
--   sections_in sections_placed sections_good sections_symbols sections_trailer   1 to 6
use Rattle.kinds.specs.declared.Refusal.{Refusal}
use Rattle.kinds.specs.Reasons.{refused_at}
use Prim.Native.Nat.{ℕ, ◌+◌, ◌*◌, ◌-◌, ◌/◌, ◌%◌, ◌<◌, ◌≤◌}
use mathlib.Core.Path.{◌≡◌, refl, ap, sym, ◌∙◌}
use mathlib.Core.List.{List, [], ◌∷◌}
use mathlib.Core.Bool.{Bool, true, false, cond}
use native.Mathlib.Omega.{arith}
use borrow.Author.Tests.{le-leb, lt-leb, lt-ltb, le-ltb, eq-eqb, ne_eqb, leb-true, leb-false, eqb-true}
use lib.Dec.{leb, ltb, eqb}
use Rattle.std.specs.Prelude.{Option, Some, None, position, Err, Ok, Result}
use Rattle.std.specs.List.{position_from}
use Rattle.std.proofs.lemmas.Iterator.Adapters.{position_from-zero}
use lib.ListN.{length, get_or, take}
use Rattle.kinds.specs.Lists.{unless}
use Rattle.kinds.specs.declared.Reason.{Reason}
use Rattle.kinds.specs.declared.Reason.TheVariants.{Short, Long, EndBytes, Trailer, Symbols, Children}
use Rattle.sections.specs.Bytes.{word_at}
use Rattle.sections.specs.Sections.{places, distances_of, trailer_of, over_at, symbols_of, judged, with_symbols, sections_of, granted}
use Rattle.sections.specs.declared.Places.{Places}

-- ---- symbols

-- the verdict on the first count above 4, where there is one
abbrev pub first_over : Option ℕ → Result Unit Refusal
first_over (Some i) = Err (refused_at Children i)
first_over None = granted

counts_over : (i : ℕ) (ar : List ℕ) → over_at i ar ≡ first_over (position_from (λ n. ltb 4 n) i ar)
unfolding over_at
counts_over i [] = refl
counts_over i (x ∷ xs) = go (leb x 4) refl (counts_over (i + 1) xs)
  where
    go : (b : Bool) → leb x 4 ≡ b → over_at (i + 1) xs ≡ first_over (position_from (λ n. ltb 4 n) (i + 1) xs)
        → unless (leb x 4) (Err (refused_at Children i)) (over_at (i + 1) xs) ≡ first_over (cond (ltb 4 x) (Some i) (position_from (λ n. ltb 4 n) (i + 1) xs))
    go true e ih = rw (e, le-ltb 4 x (leb-true x 4 e)) ih
    go false e ih = rw (e, lt-ltb 4 x (leb-false x 4 e)) refl

module _ (ar : List ℕ) where
  pub symbols_none : length ar < 1 → symbols_of ar ≡ Err (refused_at Symbols 0)
  unfolding symbols_of
  symbols_none h = rw (lt-leb 1 (length ar) h)

  pub symbols_many : 1 ≤ length ar → 32 < length ar → symbols_of ar ≡ Err (refused_at Symbols 0)
  unfolding symbols_of
  symbols_many h g = rw (le-leb 1 (length ar) h, lt-leb (length ar) 32 g)

  pub symbols_each : 1 ≤ length ar → length ar ≤ 32 → symbols_of ar ≡ over_at 0 ar
  unfolding symbols_of
  symbols_each h g = rw (le-leb 1 (length ar) h, le-leb (length ar) 32 g)

  pub symbols_over : {o : Option ℕ} → 1 ≤ length ar → length ar ≤ 32 → position (λ n. ltb 4 n) ar ≡ o → symbols_of ar ≡ first_over o
  symbols_over h g e = symbols_each h g ∙ counts_over 0 ar ∙ ap first_over (sym (position_from-zero (λ n. ltb 4 n) ar) ∙ e)

-- ---- the trailer

module _ (s : List ℕ) where
  pub trailer_short : length s < 8 → trailer_of s ≡ Err (refused_at Short (length s))
  unfolding trailer_of
  trailer_short h = rw (lt-leb 8 (length s) h)

  pub trailer_long : 8 ≤ length s → 8744 < length s → trailer_of s ≡ Err (refused_at Long (length s))
  unfolding trailer_of
  trailer_long a h = rw (le-leb 8 (length s) a, lt-leb (length s) 8744 h)

  pub trailer_first : 8 ≤ length s → length s ≤ 8744 → (get_or s (length s - 2) 0 ≡ 83 → ⊥) → trailer_of s ≡ Err (refused_at EndBytes (length s - 2))
  unfolding trailer_of
  trailer_first a b h = rw (le-leb 8 (length s) a, le-leb (length s) 8744 b, ne_eqb _ _ h)

  pub trailer_second : 8 ≤ length s → length s ≤ 8744 → get_or s (length s - 2) 0 ≡ 83 → (get_or s (length s - 1) 0 ≡ 67 → ⊥)
      → trailer_of s ≡ Err (refused_at EndBytes (length s - 2))
  unfolding trailer_of
  trailer_second a b c h = rw (le-leb 8 (length s) a, le-leb (length s) 8744 b, eq-eqb _ _ c, ne_eqb _ _ h)

pub trailer_to : (s : List ℕ) → 8 ≤ length s → length s ≤ 8744 → get_or s (length s - 2) 0 ≡ 83 → get_or s (length s - 1) 0 ≡ 67 → {a b c : ℕ}
    → a ≡ word_at s (length s - 8) → b ≡ word_at s (length s - 6) → c ≡ word_at s (length s - 4) → trailer_of s ≡ distances_of (length s - 8) a b c
unfolding trailer_of
trailer_to s h1 h2 h3 h4 {a} {b} {c} ea eb ec =
    let e : trailer_of s ≡ distances_of (length s - 8) (word_at s (length s - 8)) (word_at s (length s - 6)) (word_at s (length s - 4)) =
    rw (le-leb _ _ h1, le-leb _ _ h2, eq-eqb _ _ h3, eq-eqb _ _ h4) in
    rw (ea, eb, ec) e

pub distances_at : (e a b c : ℕ) → a ≡ e → b ≤ a → c ≤ b → b % 2 ≡ 0 → c % 2 ≡ 0 → distances_of e a b c ≡ Ok (places (e - b) (e - c) e)
unfolding distances_of
distances_at e a b c ea ba cb eb ec = rw (eq-eqb a e ea, le-leb b a ba, le-leb c b cb, eq-eqb (b % 2) 0 eb, eq-eqb (c % 2) 0 ec)

-- ---- what a file that granted 1 to 6 has

pub record Placed (s : List ℕ) (p : Places) : Type 0 where
  pub first : p.shapes ≤ p.score
  pub second : p.score ≤ p.end
  pub size : p.end + 8 ≡ length s
  pub short : length s ≤ 8744
  pub all : ℕ
  pub nodes : ℕ
  pub words : p.end ≡ p.shapes + 2 * all
  pub score_words : p.end ≡ p.score + 2 * nodes

-- a refusal is no place
pub never {κ} : {C : Type κ} {r : Reason} {q : ℕ} {p : Places} → Err (refused_at r q) ≡ Ok p → C
never e = let z : ◌≡◌ {A = ℕ} 0 1 = cc in absurd (omega arith)

on_unless {κ} : {C : Type κ} (t : Bool) (r : Reason) (q : ℕ) (x : Result Places Refusal) (p : Places) → unless t (Err (refused_at r q)) x ≡ Ok p → (t ≡ true → x ≡ Ok p → C)
    → C
on_unless true r q x p e k = k refl e
on_unless false r q x p e k = never e

pub distances_in : (e a b c : ℕ) (p : Places) → distances_of e a b c ≡ Ok p → (b ≤ e) × (c ≤ b) × (b % 2 ≡ 0) × (c % 2 ≡ 0)
    × (p ≡ places (e - b) (e - c) e)
unfolding distances_of
distances_in e a b c p h =
    on_unless (eqb a e) Trailer e _ p h λ t1 h1.
    on_unless (leb b a) Trailer e _ p h1 λ t2 h2.
    on_unless (leb c b) Trailer e _ p h2 λ t3 h3.
    on_unless (eqb (b % 2) 0) Trailer e _ p h3 λ t4 h4.
    on_unless (eqb (c % 2) 0) Trailer e _ p h4 λ t5 h5.
    let ae = eqb-true a e t1 in
    let ba = leb-true b a t2 in
    let q : p ≡ places (e - b) (e - c) e = cc in
    (omega arith, leb-true c b t3, eqb-true (b % 2) 0 t4, eqb-true (c % 2) 0 t5, q)

pub trailer_in : (s : List ℕ) (p : Places) → trailer_of s ≡ Ok p → Placed s p
unfolding trailer_of
trailer_in s p h =
    on_unless (leb 8 (length s)) Short (length s) _ p h λ t1 h1.
    on_unless (leb (length s) 8744) Long (length s) _ p h1 λ t2 h2.
    on_unless (eqb (get_or s (length s - 2) 0) 83) EndBytes (length s - 2) _ p h2 λ t3 h3.
    on_unless (eqb (get_or s (length s - 1) 0) 67) EndBytes (length s - 2) _ p h3 λ t4 h4.
    placed (leb-true 8 (length s) t1) (leb-true (length s) 8744 t2) (word_at s (length s - 6)) (word_at s (length s - 4))
    (distances_in (length s - 8) (word_at s (length s - 8)) (word_at s (length s - 6)) (word_at s (length s - 4)) p h4)
  where
    placed : 8 ≤ length s → length s ≤ 8744 → (b c : ℕ) → (b ≤ length s - 8) × (c ≤ b) × (b % 2 ≡ 0) × (c % 2 ≡ 0)
        × (p ≡ places (length s - 8 - b) (length s - 8 - c) (length s - 8)) → Placed s p
    placed u v b c d =
        rw d.4 (record {
          first = omega (arith, d.0, d.1);
          second = omega arith;
          size = omega arith;
          short = v;
          all = b / 2;
          nodes = c / 2;
          words = omega (arith, d.0, d.2);
          score_words = omega (arith, d.0, d.1, d.3);
        })

pub never_bad {κ} : {C : Type κ} {r : Reason} {q : ℕ} → Err (refused_at r q) ≡ granted → C
never_bad e = let z : ◌≡◌ {A = ℕ} 0 1 = cc in absurd (omega arith)

pub sections_in : (s : List ℕ) (p : Places) → sections_of s ≡ Ok p → (trailer_of s ≡ Ok p) × (symbols_of (take p.shapes s) ≡ granted)
unfolding sections_of
sections_in s p h = go (trailer_of s) refl h
  where
    inner : (q : Places) (v : Result Unit Refusal) → judged v (Ok q) ≡ Ok p → (v ≡ granted) × (q ≡ p)
    inner q (Ok _) e = let z : q ≡ p = cc in (refl, z)
    inner q (Err why) e = never e

    go : (t : Result Places Refusal) → trailer_of s ≡ t → with_symbols s t ≡ Ok p → (trailer_of s ≡ Ok p) × (symbols_of (take p.shapes s) ≡ granted)
    go (Err why) e k = never k
    go (Ok q) e k =
        let w = inner q (symbols_of (take q.shapes s)) k in
        (e ∙ ap Ok w.1, rw (← w.1) w.0)

pub sections_placed : (s : List ℕ) (p : Places) → sections_of s ≡ Ok p → Placed s p
sections_placed s p h = trailer_in s p (sections_in s p h).0

pub sections_good : (s : List ℕ) (p : Places) → trailer_of s ≡ Ok p → symbols_of (take p.shapes s) ≡ granted → sections_of s ≡ Ok p
unfolding sections_of
sections_good s p e g = ap (with_symbols s) e ∙ rw g

pub sections_symbols : (s : List ℕ) (p : Places) {r : Reason} {i : ℕ} → trailer_of s ≡ Ok p → symbols_of (take p.shapes s) ≡ Err (refused_at r i)
    → sections_of s ≡ Err (refused_at r i)
unfolding sections_of
sections_symbols s p e g = ap (with_symbols s) e ∙ rw g

pub sections_trailer : (s : List ℕ) {r : Reason} {i : ℕ} → trailer_of s ≡ Err (refused_at r i) → sections_of s ≡ Err (refused_at r i)
unfolding sections_of
sections_trailer s e = ap (with_symbols s) e
