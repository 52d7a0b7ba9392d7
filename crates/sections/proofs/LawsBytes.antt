-- Words along bytes.
--   fill_next fill_end      a loop that stores them
--   length_words            an even number of bytes
--   words_take words_drop   parts of words are words of parts
use Prim.Native.Nat.{ℕ, zero, suc, ◌+◌, ◌*◌, ◌<◌, ◌≤◌}
use mathlib.Core.Path.{◌≡◌, refl, ap}
use mathlib.Core.List.{List, [], ◌∷◌, ◌++◌}
use native.Mathlib.Omega.{arith}
use native.Mathlib.Numerals.{add-one}
use lib.ListN.{length, get_or, take, drop, set}
use lib.Seq.{sets}
use Rattle.sections.specs.Bytes.{words_of}

-- two bytes more
pub fill_next : (o : List ℕ) (k : ℕ) (rest pair next : List ℕ) {at after w : ℕ} → rest ≡ pair ++ next → length pair ≡ 2
    → at ≡ k → after ≡ k + 1 → w ≡ get_or pair 0 0 + get_or pair 1 0 * 256
    → sets o k (words_of rest) ≡ sets (set o at w) after (words_of next)
unfolding words_of
fill_next o k rest [] next e l ea en ew = absurd (omega arith)
fill_next o k rest (x ∷ []) next e l ea en ew = absurd (omega arith)
fill_next o k rest (x ∷ y ∷ z ∷ pair) next e l ea en ew = absurd (omega arith)
fill_next o k rest (x ∷ y ∷ []) next {at} {after} {w} e l ea en ew =
    let v : w ≡ x + 256 * y = omega arith in
    rw (e, ea, en, v, add-one k) refl

pub fill_end : (o : List ℕ) (k : ℕ) (rest : List ℕ) → length rest < 2 → sets o k (words_of rest) ≡ o
unfolding words_of
fill_end o k [] h = refl
fill_end o k (x ∷ []) h = refl
fill_end o k (x ∷ y ∷ rest) h = absurd (omega arith)

-- an even number of bytes
pub length_words : (n : ℕ) (b : List ℕ) → length b ≡ 2 * n → length (words_of b) ≡ n
unfolding words_of
length_words zero [] h = refl
length_words zero (x ∷ b) h = absurd (omega arith)
length_words (suc n) [] h = absurd (omega arith)
length_words (suc n) (x ∷ []) h = absurd (omega arith)
length_words (suc n) (x ∷ y ∷ b) h = ap suc (length_words n b (omega arith))

-- ---- parts of words are words of parts

pub words_take : (m : ℕ) (b : List ℕ) → 2 * m ≤ length b → take m (words_of b) ≡ words_of (take (2 * m) b)
unfolding words_of
words_take zero b h = refl
words_take (suc m) [] h = absurd (omega arith)
words_take (suc m) (x ∷ []) h = absurd (omega arith)
words_take (suc m) (x ∷ y ∷ r) h =
    let e : 2 * suc m ≡ suc (suc (2 * m)) = omega arith in
    rw e (ap (λ (l : List ℕ). (x + 256 * y) ∷ l) (words_take m r (omega arith)))

pub words_drop : (m : ℕ) (b : List ℕ) → 2 * m ≤ length b → drop m (words_of b) ≡ words_of (drop (2 * m) b)
unfolding words_of
words_drop zero b h = refl
words_drop (suc m) [] h = absurd (omega arith)
words_drop (suc m) (x ∷ []) h = absurd (omega arith)
words_drop (suc m) (x ∷ y ∷ r) h =
    let e : 2 * suc m ≡ suc (suc (2 * m)) = omega arith in
    rw e (words_drop m r (omega arith))
