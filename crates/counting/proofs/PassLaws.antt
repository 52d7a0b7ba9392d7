-- From match to match.
--   next_here next_end next_turn   the search for the next match: it is here; none is left; the next numbers are none
--   none_left, low_in low_found none_low   what a mark's bits from a number on tell
--   found_few                      how many there are at most
--   rest_from At                   the matches from number k on; k is where the first of them is, or the end
--   pass_start pass_next pass_end  a loop over all matches by their numbers
--   left first_next first_end      what is left to a walk over them: the first of them, or none
use Prim.Native.Nat.{ℕ, zero, suc, ◌+◌, ◌-◌, ◌*◌, ◌/◌, ◌%◌, ◌^◌, ◌<◌, ◌≤◌}
use mathlib.Core.Path.{◌≡◌, refl, ap, ap₂, sym, ◌∙◌}
use mathlib.Core.List.{List, [], ◌∷◌}
use mathlib.Core.Bool.{Bool, true, false}
use native.Mathlib.Omega.{arith}
use native.Mathlib.Nat.{add-zero, zero-add, div-le_self}
use native.Mathlib.Decide.{dec_lt}
use lib.Dec.{eqb}
use lib.ListN.{length, get_or}
use lib.Count.{count_trailing_zeros}
use lib.Pow.{pow_mono}
use Rattle.kinds.specs.Bits.{bit}
use Rattle.kinds.proofs.BitLaws.{clear_or_set, no_bit, low_clear, low_set, bit_shifted, bit_past}
use Rattle.counting.specs.Counting.{Match, match_of, found, found_from, found_in}
use Rattle.counting.specs.Passing.{next_of}
use Rattle.counting.specs.declared.passing.Matches.{Matches}

-- ---- a mark's bits from number k on
module _ (ms : List ℕ) (k : ℕ) (fits : get_or ms (k / 16) 0 < 2 ^ 16) where
  abbrev mark : ℕ
  mark = get_or ms (k / 16) 0

  abbrev rest : ℕ
  rest = mark / 2 ^ (k % 16)

  -- number k + i, where the mark has a bit for it
  at_number : (i b : ℕ) → k % 16 + i < 16 → bit rest i ≡ b → found ms (match_of (k + i)) ≡ eqb b 1
  at_number i b h e =
      let q : (k + i) / 16 ≡ k / 16 = omega arith in
      let r : (k + i) % 16 ≡ k % 16 + i = omega arith in
      rw (q, r) (ap (λ n. eqb n 1) (sym (bit_shifted mark (k % 16) i) ∙ e))

  pub none_left : rest ≡ 0 → (i : ℕ) → i < 16 - k % 16 → found ms (match_of (k + i)) ≡ false
  none_left z i h = at_number i 0 (omega arith) (ap (λ n. bit n i) z ∙ clear_or_set 0 i (no_bit i))

  module _ (more : rest ≡ 0 → ⊥) where
    abbrev low : ℕ
    low = count_trailing_zeros 16 rest

    low_one : bit rest low ≡ 1
    low_one = low_set 16 rest (let l = div-le_self mark (2 ^ (k % 16)) in omega arith) (omega arith)

    pub low_in : k % 16 + low < 16
    low_in = go (dec_lt (k % 16 + low) 16)
      where
        go : Dec (k % 16 + low < 16) → k % 16 + low < 16
        go (yes h) = h
        go (no h) =
            let p : 2 ^ 16 ≤ 2 ^ (k % 16 + low) = pow_mono {i = 16} {j = k % 16 + low} (omega arith) in
            let z = bit_past mark (k % 16 + low) (omega arith) in
            let o = sym (bit_shifted mark (k % 16) low) ∙ low_one in
            absurd (omega arith)

    pub low_found : found ms (match_of (k + low)) ≡ true
    low_found = at_number low 1 low_in low_one

    pub none_low : (i : ℕ) → i < low → found ms (match_of (k + i)) ≡ false
    none_low i h = at_number i 0 (let l = low_in in omega arith) (low_clear 16 rest i h)

-- ---- the next match
module _ (ms : List ℕ) where
  next_past : (d k n : ℕ) → ((i : ℕ) → i < d → found ms (match_of (k + i)) ≡ false) → next_of ms k (d + n) ≡ next_of ms (k + d) n
  unfolding next_of
  next_past zero k n h = rw (zero-add n, add-zero k)
  next_past (suc d) k n h =
      let e : found ms (match_of k) ≡ false = rw add-zero at (h 0 (omega arith)) in
      let z : suc k + d ≡ k + suc d = omega arith in
      let w : suc d + n ≡ suc (d + n) = omega arith in
      ap (next_of ms k) w
      ∙ rw (e, ← z) (next_past d (suc k) n (λ i l. let y : k + suc i ≡ suc k + i = omega arith in rw y at (h (suc i) (omega arith))))

  pub next_turn : (k d e : ℕ) → k + d ≤ e → ((i : ℕ) → i < d → found ms (match_of (k + i)) ≡ false) → next_of ms k (e - k) ≡ next_of ms (k + d) (e - (k + d))
  next_turn k d e h none = let z : e - k ≡ d + (e - (k + d)) = omega arith in ap (next_of ms k) z ∙ next_past d k (e - (k + d)) none

  pub next_here : (k e : ℕ) → k < e → found ms (match_of k) ≡ true → next_of ms k (e - k) ≡ k
  unfolding next_of
  next_here k e h f = let z : e - k ≡ suc (e - suc k) = omega arith in ap (next_of ms k) z ∙ rw f refl

  pub next_end : (k e : ℕ) → e ≤ k → next_of ms k (e - k) ≡ k
  unfolding next_of
  next_end k e h = let z : e - k ≡ 0 = omega arith in ap (next_of ms k) z

  -- ---- the matches from a number on
  from_found : (k n : ℕ) → found ms (match_of k) ≡ true → found_from ms k (suc n) ≡ match_of k ∷ found_from ms (suc k) n
  unfolding found_from
  from_found k n e = rw e refl

  from_clear : (k n : ℕ) → found ms (match_of k) ≡ false → found_from ms k (suc n) ≡ found_from ms (suc k) n
  unfolding found_from
  from_clear k n e = rw e refl

  pub found_few : (k n : ℕ) → length (found_from ms k n) ≤ n
  unfolding found_from
  found_few k zero = omega arith
  found_few k (suc n) = go (found ms (match_of k)) refl (found_few (suc k) n)
    where
      go : (b : Bool) → found ms (match_of k) ≡ b → length (found_from ms (suc k) n) ≤ n → length (found_from ms k (suc n)) ≤ suc n
      go true e l = rw (from_found k n e) (omega arith)
      go false e l = rw (from_clear k n e) (omega arith)

  record Next (k n r : ℕ) : Type 0 where
    low : k ≤ r
    high : r ≤ k + n
    hit : r < k + n → found ms (match_of r) ≡ true
    left : found_from ms k n ≡ found_from ms r (k + n - r)

  next_is : (n k : ℕ) → Next k n (next_of ms k n)
  unfolding next_of
  next_is zero k =
      let z : k + 0 - k ≡ 0 = omega arith in
      record { low = omega arith; high = omega arith; hit = λ h. absurd (omega arith); left = ap (found_from ms k) (sym z) }
  next_is (suc n) k = go (found ms (match_of k)) refl (next_is n (suc k))
    where
      go : (b : Bool) → found ms (match_of k) ≡ b → Next (suc k) n (next_of ms (suc k) n) → Next k (suc n) (next_of ms k (suc n))
      go true e ih =
          let z : k + suc n - k ≡ suc n = omega arith in
          rw e (record { low = omega arith; high = omega arith; hit = λ h. e; left = ap (found_from ms k) (sym z) })
      go false e ih =
          let l = ih.low in let h = ih.high in
          let z : suc k + n ≡ k + suc n = omega arith in
          rw e (record {
            low = omega arith;
            high = omega arith;
            hit = λ g. ih.hit (omega arith);
            left = from_clear k n e ∙ ih.left ∙ ap (λ s. found_from ms (next_of ms (suc k) n) (s - next_of ms (suc k) n)) z;
          })

  abbrev pub rest_from : ℕ → List Match
  rest_from k = found_from ms k (16 * length ms - k)

  pub record At (k : ℕ) : Type 0 where
    pub inside : k ≤ 16 * length ms
    pub hit : k < 16 * length ms → found ms (match_of k) ≡ true

  at_next : (k r : ℕ) → k ≤ 16 * length ms → r ≡ next_of ms k (16 * length ms - k) → At r × (k ≤ r) × (rest_from k ≡ rest_from r)
  at_next k r h e =
      let n = next_is (16 * length ms - k) k in
      let z : k + (16 * length ms - k) ≡ 16 * length ms = omega arith in
      let hi : next_of ms k (16 * length ms - k) ≤ 16 * length ms = let l = n.high in omega arith in
      rw e (
        record { inside = hi; hit = λ l. n.hit (omega (arith, z)) },
        n.low,
        n.left ∙ ap (λ s. found_from ms (next_of ms k (16 * length ms - k)) (s - next_of ms k (16 * length ms - k))) z,
      )

  pub pass_start : (k : ℕ) → k ≡ next_of ms 0 (16 * length ms - 0) → At k × (found_in ms ≡ rest_from k)
  pass_start k e =
      let a = at_next 0 k (omega arith) e in
      let z : 16 * length ms - 0 ≡ 16 * length ms = omega arith in
      (a.0, ap (found_from ms 0) (sym z) ∙ a.2)

  pub record Turn (k r : ℕ) : Type 0 where
    pub at : At r
    pub more : k < r
    pub one : rest_from k ≡ match_of k ∷ rest_from r

  pub pass_next : (k r : ℕ) → At k → k / 16 < length ms → r ≡ next_of ms (k + 1) (16 * length ms - (k + 1)) → Turn k r
  pass_next k r a h e =
      let n = at_next (k + 1) r (omega arith) e in
      let low = n.1 in
      let z : 16 * length ms - k ≡ suc (16 * length ms - (k + 1)) = omega arith in
      let s : suc k ≡ k + 1 = omega arith in
      record {
        at = n.0;
        more = omega (arith, low);
        one = ap (found_from ms k) z ∙ from_found k (16 * length ms - (k + 1)) (a.hit (omega arith))
            ∙ ap (λ l. match_of k ∷ l) (ap (λ i. found_from ms i (16 * length ms - (k + 1))) s ∙ n.2);
      }

  pub pass_end : (k : ℕ) → length ms ≤ k / 16 → rest_from k ≡ []
  unfolding found_from
  pass_end k h = let z : 16 * length ms - k ≡ 0 = omega arith in ap (found_from ms k) z

  -- those from k on, where r is the number of the first
  module _ (k r : ℕ) (h : k ≤ 16 * length ms) (e : r ≡ next_of ms k (16 * length ms - k)) where
    same : found_from ms k (16 * length ms - k) ≡ rest_from r
    same =
        let n = next_is (16 * length ms - k) k in
        let z : k + (16 * length ms - k) ≡ 16 * length ms = omega arith in
        n.left ∙ ap₂ (λ q s. found_from ms q (s - q)) (sym e) z

    pub first_next : r / 16 < length ms → rest_from k ≡ match_of r ∷ rest_from (r + 1)
    first_next l =
        let n = next_is (16 * length ms - k) k in
        let s : 16 * length ms - r ≡ suc (16 * length ms - (r + 1)) = omega arith in
        let t : suc r ≡ r + 1 = omega arith in
        let f : found ms (match_of r) ≡ true = ap (λ q. found ms (match_of q)) e ∙ n.hit (omega arith) in
        same ∙ ap (found_from ms r) s ∙ from_found r (16 * length ms - (r + 1)) f ∙ ap (λ i. match_of r ∷ found_from ms i (16 * length ms - (r + 1))) t

    pub first_end : length ms ≤ r / 16 → rest_from k ≡ []
    unfolding found_from
    first_end l = let z : 16 * length ms - r ≡ 0 = omega arith in same ∙ ap (found_from ms r) z

-- those that are left to a walk over the matches
abbrev pub left : Matches → List Match
left s = rest_from s.marks.now s.from
