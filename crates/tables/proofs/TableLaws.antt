-- One turn of each loop.
use mathlib.Core.Path.{◌≡◌, refl, ap, sym, ◌∙◌}
use mathlib.Core.List.{List, [], ◌∷◌, ◌++◌, append-nil}
use Prim.Native.Nat.{ℕ, zero, suc, ◌+◌, ◌-◌, ◌*◌, ◌/◌, ◌%◌, ◌^◌, ◌≤◌, ◌<◌}
use native.Mathlib.Omega.{arith}
use native.Mathlib.Numerals.{add-one}
use borrow.Author.Tests.{eq-eqb, ne_eqb, lt-ltb, le-ltb, le-leb, lt-leb}
use lib.ListN.{length, get_or, take, drop, drop_of_length-le}
use lib.Seq.{sets, sets-eq, length-take-le}
use Rattle.tables.specs.ShapeTables.{word_at, span_from, span_at, seek_from, kids_from, kids_at, node_word, area_words, entry_w, entries_from}

module _ (ar ws : List ℕ) where
  pub span_end : (k at need : ℕ) → k ≤ 0 → span_from ar ws k at need ≡ 0
  unfolding span_from
  span_end zero at need h = refl
  span_end (suc k) at need h = absurd (omega arith)

  pub span_none : (k at need : ℕ) → need ≡ 0 → span_from ar ws k at need ≡ 0
  unfolding span_from
  span_none zero at need h = refl
  span_none (suc k) at zero h = refl
  span_none (suc k) at (suc need) h = absurd (omega arith)

  pub span_next : (k at need : ℕ) → 0 < k → (need ≡ 0 → ⊥)
      → span_from ar ws k at need ≡ suc (span_from ar ws (k - 1) (at + 1) (need - 1 + get_or ar (word_at ws at) 0))
  unfolding span_from
  span_next zero at need h n = absurd (omega arith)
  span_next (suc k) at zero h n = absurd (n refl)
  span_next (suc k) at (suc need) h n =
      let e : suc k - 1 ≡ k = omega arith in
      let d : suc need - 1 ≡ need = omega arith in
      rw (e, d, add-one at) refl

  pub span_short : (k at need : ℕ) → span_from ar ws k at need ≤ k
  unfolding span_from
  span_short zero at need = omega arith
  span_short (suc k) at zero = omega arith
  span_short (suc k) at (suc need) = let h = span_short k (suc at) (need + get_or ar (word_at ws at) 0) in omega arith

module _ (ar ws : List ℕ) (st r one : ℕ) where
  pub seek_end : (k c v : ℕ) → k ≤ 0 → seek_from ar ws st r one k c v ≡ v
  unfolding seek_from
  seek_end zero c v h = refl
  seek_end (suc k) c v h = absurd (omega arith)

  pub seek_there : (k c v : ℕ) → r ≤ c → seek_from ar ws st r one k c v ≡ v
  unfolding seek_from
  seek_there zero c v h = refl
  seek_there (suc k) c v h = rw (le-ltb c r h) refl

  pub seek_down : (k c v : ℕ) → 0 < k → c < r → r < c + span_at ar ws (st + c)
      → seek_from ar ws st r one k c v ≡ seek_from ar ws st r one (k - 1) (c + 1) ((5 * v + one) % 65536)
  unfolding seek_from
  seek_down zero c v h l g = absurd (omega arith)
  seek_down (suc k) c v h l g = let e : suc k - 1 ≡ k = omega arith in rw (e, lt-ltb c r l, lt-ltb r (c + span_at ar ws (st + c)) g) refl

  pub seek_on : (k c v : ℕ) → 0 < k → c < r → c + span_at ar ws (st + c) ≤ r
      → seek_from ar ws st r one k c v ≡ seek_from ar ws st r one (k - 1) (c + span_at ar ws (st + c)) ((v + one) % 65536)
  unfolding seek_from
  seek_on zero c v h l g = absurd (omega arith)
  seek_on (suc k) c v h l g = let e : suc k - 1 ≡ k = omega arith in rw (e, lt-ltb c r l, le-ltb r (c + span_at ar ws (st + c)) g) refl

module _ (ar ws : List ℕ) (st e : ℕ) where
  pub kids_end : (k c m : ℕ) → k ≤ 0 → kids_from ar ws st e k c m ≡ m
  unfolding kids_from
  kids_end zero c m h = refl
  kids_end (suc k) c m h = absurd (omega arith)

  pub kids_there : (k c m : ℕ) → e ≤ c → kids_from ar ws st e k c m ≡ m
  unfolding kids_from
  kids_there zero c m h = refl
  kids_there (suc k) c m h = rw (le-ltb c e h) refl

  pub kids_on : (k c m : ℕ) → 0 < k → c < e → word_at ws (st + c) < 65535
      → kids_from ar ws st e k c m ≡ kids_from ar ws st e (k - 1) (c + span_at ar ws (st + c)) ((m + 2 ^ c) % 65536)
  unfolding kids_from
  kids_on zero c m h l n = absurd (omega arith)
  kids_on (suc k) c m h l n = let d : suc k - 1 ≡ k = omega arith in rw (d, lt-ltb c e l, lt-leb 65535 (word_at ws (st + c)) n) refl

  pub kids_off : (k c m : ℕ) → 0 < k → c < e → 65535 ≤ word_at ws (st + c)
      → kids_from ar ws st e k c m ≡ kids_from ar ws st e (k - 1) (c + span_at ar ws (st + c)) m
  unfolding kids_from
  kids_off zero c m h l n = absurd (omega arith)
  kids_off (suc k) c m h l n = let d : suc k - 1 ≡ k = omega arith in rw (d, lt-ltb c e l, le-leb 65535 (word_at ws (st + c)) n) refl

module _ (ar ws ss : List ℕ) where
  pub entry_none : (k : ℕ) → length ss ≤ k / 16 % 16 → entry_w ar ws ss k ≡ 0
  unfolding entry_w
  entry_none k h = rw (le-ltb (k / 16 % 16) (length ss) h) refl

  pub entry_past : (k : ℕ) → k / 16 % 16 < length ss → span_at ar ws (get_or ss (k / 16 % 16) 0) ≤ k % 16 → entry_w ar ws ss k ≡ 0
  unfolding entry_w
  entry_past k h l = rw (lt-ltb (k / 16 % 16) (length ss) h, le-ltb (k % 16) (span_at ar ws (get_or ss (k / 16 % 16) 0)) l) refl

  pub entry_in_lem : (k : ℕ) → k / 16 % 16 < length ss → k % 16 < span_at ar ws (get_or ss (k / 16 % 16) 0)
      → entry_w ar ws ss k ≡ node_word ar ws (get_or ss (k / 16 % 16) 0) (k / area_words) (k % 16)
  unfolding entry_w
  entry_in_lem k h l = rw (lt-ltb (k / 16 % 16) (length ss) h, lt-ltb (k % 16) (span_at ar ws (get_or ss (k / 16 % 16) 0)) l) refl

  pub entries_next : (k n m : ℕ) → n ≡ suc m → entries_from ar ws ss k n ≡ entry_w ar ws ss k ∷ entries_from ar ws ss (k + 1) m
  unfolding entries_from
  entries_next k n m e = rw e refl

  pub entries_end : (k n : ℕ) → n ≤ 0 → entries_from ar ws ss k n ≡ []
  unfolding entries_from
  entries_end k zero h = refl
  entries_end k (suc n) h = absurd (omega arith)

  pub entries_length : (k n : ℕ) → length (entries_from ar ws ss k n) ≡ n
  unfolding entries_from
  entries_length k zero = refl
  entries_length k (suc n) = ap suc (entries_length (k + 1) n)

-- a part that is filled, and what stands behind it
pub part_filled : (l ws : List ℕ) → length ws ≤ length l → sets (take (length ws) l) 0 ws ++ drop (length ws) l ≡ sets l 0 ws
part_filled l ws h =
    let n : length ws ≡ 0 + length ws = omega arith in
    ap (λ p. p ++ drop (length ws) l)
    (sets-eq ws (take (length ws) l) 0 (omega (arith, length-take-le (length ws) l h))
    ∙ ap (λ p. ws ++ p) (drop_of_length-le (take (length ws) l) (omega (arith, length-take-le (length ws) l h)))
    ∙ append-nil ws)
    ∙ ap (λ m. ws ++ drop m l) n
    ∙ sym (sets-eq ws l 0 (omega arith))

module _ (ar ws : List ℕ) (st x r : ℕ) where
  pub word_0 : x ≡ 0 → node_word ar ws st x r ≡ seek_from ar ws st r 1 16 0 0
  unfolding node_word
  word_0 h = rw (eq-eqb x 0 h) refl

  pub word_1 : x ≡ 1 → node_word ar ws st x r ≡ seek_from ar ws st r 0 16 0 1
  unfolding node_word
  word_1 h = rw (ne_eqb x 0 (λ z. omega arith), eq-eqb x 1 h) refl

  pub word_2 : x ≡ 2 → node_word ar ws st x r ≡ span_at ar ws (st + r)
  unfolding node_word
  word_2 h = rw (ne_eqb x 0 (λ z. omega arith), ne_eqb x 1 (λ z. omega arith), eq-eqb x 2 h) refl

  pub word_3 : x ≡ 3 → node_word ar ws st x r ≡ word_at ws (st + r)
  unfolding node_word
  word_3 h = rw (ne_eqb x 0 (λ z. omega arith), ne_eqb x 1 (λ z. omega arith), ne_eqb x 2 (λ z. omega arith), eq-eqb x 3 h) refl

  pub word_4 : (x ≡ 0 → ⊥) → (x ≡ 1 → ⊥) → (x ≡ 2 → ⊥) → (x ≡ 3 → ⊥) → node_word ar ws st x r ≡ kids_at ar ws st r
  unfolding node_word
  word_4 a b c d = rw (ne_eqb x 0 a, ne_eqb x 1 b, ne_eqb x 2 c, ne_eqb x 3 d) refl
