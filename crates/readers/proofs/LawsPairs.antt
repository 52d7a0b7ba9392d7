-- Pairs and blocks, by index into the words.
--   pair_list_length pair_list_at pair_list_none pair_list_take pair_list_drop  the pairs from a word on
--   pairs_list pairs_none counted_list counted_none   the reader of pairs, and of a count and that many pairs
--   fits_out fits_middle fits_is fits_in              does a block lie within the words
--   block_list block_none                             the reader of a block
--   pair_words_append pair_words_length pairs_words pair_words_list  pairs as words
use mathlib.Core.Path.{◌≡◌, refl, ap, ap₂, sym, ◌∙◌}
use mathlib.Core.Bool.{true, false}
use mathlib.Core.List.{List, [], ◌∷◌, ◌++◌}
use mathlib.Core.Option.{Option, none, some}
use Prim.Native.Nat.{ℕ, zero, suc, ◌+◌, ◌*◌, ◌-◌, ◌<◌, ◌≤◌}
use native.Mathlib.Omega.{arith}
use native.Mathlib.Decide.{dec_lt}
use borrow.Author.Tests.{lt-leb}
use lib.Dec.{leb}
use lib.ListN.{length, get_or, get_elem?, take, drop, length-drop, drop_of_length-le}
use lib.Seq.{drop-cons}
use Rattle.kinds.specs.Lists.{bind}
use Rattle.kinds.proofs.Bools.{leb_is, leb_not}
use Rattle.readers.specs.PlanParts.{pairs, pair_words, counted_pairs, block_at}
use Rattle.readers.specs.BlockWords.{pair_list, middle, outs_at, nexts_at, block_fits}

pub pair_list_length : (n : ℕ) (ws : List ℕ) (b : ℕ) → length (pair_list ws b n) ≡ n
unfolding pair_list
pair_list_length zero ws b = refl
pair_list_length (suc n) ws b = ap suc (pair_list_length n ws (b + 2))

pub pair_list_at : (n : ℕ) (ws : List ℕ) (b i : ℕ) → i < n → get_elem? (pair_list ws b n) i ≡ some (get_or ws (b + 2 * i) 0, get_or ws (b + 2 * i + 1) 0)
unfolding pair_list
pair_list_at zero ws b i h = absurd (omega arith)
pair_list_at (suc n) ws b zero h = let e : b ≡ b + 2 * 0 = omega arith in ap (λ (k : ℕ). some (get_or ws k 0, get_or ws (k + 1) 0)) e
pair_list_at (suc n) ws b (suc i) h =
    let e : b + 2 + 2 * i ≡ b + 2 * suc i = omega arith in
    pair_list_at n ws (b + 2) i (omega arith) ∙ ap (λ (k : ℕ). some (get_or ws k 0, get_or ws (k + 1) 0)) e

pub pair_list_none : (n : ℕ) (ws : List ℕ) (b i : ℕ) → n ≤ i → get_elem? (pair_list ws b n) i ≡ none
unfolding pair_list
pair_list_none zero ws b i h = refl
pair_list_none (suc n) ws b zero h = absurd (omega arith)
pair_list_none (suc n) ws b (suc i) h = pair_list_none n ws (b + 2) i (omega arith)

pub pair_list_take : (i n : ℕ) (ws : List ℕ) (b : ℕ) → i ≤ n → take i (pair_list ws b n) ≡ pair_list ws b i
unfolding pair_list
pair_list_take zero n ws b h = refl
pair_list_take (suc i) zero ws b h = absurd (omega arith)
pair_list_take (suc i) (suc n) ws b h = ap (λ (l : List (ℕ × ℕ)). (get_or ws b 0, get_or ws (b + 1) 0) ∷ l) (pair_list_take i n ws (b + 2) (omega arith))

pub pair_list_drop : (i n : ℕ) (ws : List ℕ) (b : ℕ) → i ≤ n → drop i (pair_list ws b n) ≡ pair_list ws (b + 2 * i) (n - i)
unfolding pair_list
pair_list_drop zero n ws b h = let e : b ≡ b + 2 * 0 = omega arith in let d : n ≡ n - 0 = omega arith in ap₂ (λ (k m : ℕ). pair_list ws k m) e d
pair_list_drop (suc i) zero ws b h = absurd (omega arith)
pair_list_drop (suc i) (suc n) ws b h =
    let e : b + 2 + 2 * i ≡ b + 2 * suc i = omega arith in
    let d : n - i ≡ suc n - suc i = omega arith in
    pair_list_drop i n ws (b + 2) (omega arith) ∙ ap₂ (λ (k m : ℕ). pair_list ws k m) e d

-- ---- the readers
pub pairs_list : (n : ℕ) (ws : List ℕ) (b : ℕ) → b + 2 * n ≤ length ws → pairs n (drop b ws) ≡ some (pair_list ws b n, drop (b + 2 * n) ws)
unfolding pairs pair_list
pairs_list zero ws b h = let e : b ≡ b + 2 * 0 = omega arith in ap (λ (k : ℕ). some ([], drop k ws)) e
pairs_list (suc n) ws b h =
    let a = get_or ws b 0 in
    let d₁ = drop-cons ws b 0 (omega arith) in
    let d₂ = drop-cons ws (suc b) 0 (omega arith) in
    let e₁ : suc (suc b) ≡ b + 2 = omega arith in
    let e₂ : suc b ≡ b + 1 = omega arith in
    let e₃ : b + 2 + 2 * n ≡ b + 2 * suc n = omega arith in
    ap (λ (l : List ℕ). pairs (suc n) l) (d₁ ∙ ap (λ (l : List ℕ). a ∷ l) d₂)
    ∙ ap (λ (o : Option (List (ℕ × ℕ) × List ℕ)). bind o (λ r. some ((a, get_or ws (suc b) 0) ∷ r.0, r.1)))
    (ap (λ (k : ℕ). pairs n (drop k ws)) e₁ ∙ pairs_list n ws (b + 2) (omega arith))
    ∙ ap₂ (λ (y k : ℕ). some ((a, get_or ws y 0) ∷ pair_list ws (b + 2) n, drop k ws)) e₂ e₃

pub pairs_none : (n : ℕ) (ws : List ℕ) → length ws < 2 * n → pairs n ws ≡ none
unfolding pairs
pairs_none zero ws h = absurd (omega arith)
pairs_none (suc n) [] h = refl
pairs_none (suc n) (a ∷ []) h = refl
pairs_none (suc n) (a ∷ b ∷ ws) h = rw (pairs_none n ws (omega arith))

pub counted_list : (ws : List ℕ) (b : ℕ) → b + 1 + 2 * get_or ws b 0 ≤ length ws
    → counted_pairs (drop b ws) ≡ some (pair_list ws (b + 1) (get_or ws b 0), drop (b + 1 + 2 * get_or ws b 0) ws)
unfolding counted_pairs
counted_list ws b h =
    let e : suc b ≡ b + 1 = omega arith in
    ap counted_pairs (drop-cons ws b 0 (omega arith)) ∙ ap (λ (k : ℕ). pairs (get_or ws b 0) (drop k ws)) e ∙ pairs_list (get_or ws b 0) ws (b + 1) h

pub counted_none : (ws : List ℕ) (b : ℕ) → length ws < b + 1 + 2 * get_or ws b 0 → counted_pairs (drop b ws) ≡ none
unfolding counted_pairs
counted_none ws b h = go (dec_lt b (length ws))
  where
    go : Dec (b < length ws) → counted_pairs (drop b ws) ≡ none
    go (yes l) = rw (drop-cons ws b 0 l) (pairs_none (get_or ws b 0) (drop (suc b) ws) (let k = length-drop (suc b) ws in omega arith))
    go (no l) = rw (drop_of_length-le ws {i = b} (omega arith))

-- ---- a block
module _ (plan : List ℕ) (b : ℕ) where
  pub fits_out : length plan ≤ b → block_fits plan b ≡ false
  unfolding block_fits
  fits_out h = let l : length plan < middle plan b + 1 + 2 * get_or plan (middle plan b) 0 = omega arith in lt-leb _ _ l

  pub fits_middle : length plan ≤ middle plan b → block_fits plan b ≡ false
  unfolding block_fits
  fits_middle h = let l : length plan < middle plan b + 1 + 2 * get_or plan (middle plan b) 0 = omega arith in lt-leb _ _ l

  pub fits_is : block_fits plan b ≡ leb (middle plan b + 1 + 2 * get_or plan (middle plan b) 0) (length plan)
  unfolding block_fits
  fits_is = refl

  pub fits_in : block_fits plan b ≡ true → middle plan b + 1 + 2 * get_or plan (middle plan b) 0 ≤ length plan
  unfolding block_fits
  fits_in e = leb_is _ _ e

  pub block_list : block_fits plan b ≡ true → block_at (drop b plan) ≡ some (outs_at plan b, nexts_at plan b)
  unfolding block_at
  block_list e = let h = fits_in e in rw (counted_list plan b (omega arith), counted_list plan (middle plan b) h)

  pub block_none : block_fits plan b ≡ false → block_at (drop b plan) ≡ none
  unfolding block_at block_fits
  block_none e = go (dec_lt (length plan) (middle plan b)) (leb_not _ _ e)
    where
      go : Dec (length plan < middle plan b) → length plan < middle plan b + 1 + 2 * get_or plan (middle plan b) 0 → block_at (drop b plan) ≡ none
      go (yes h) l = rw (counted_none plan b h)
      go (no h) l = let g : middle plan b ≤ length plan = omega arith in rw (counted_list plan b g, counted_none plan (middle plan b) l)

-- ---- pairs as words
pub pair_words_append : (xs ys : List (ℕ × ℕ)) → pair_words (xs ++ ys) ≡ pair_words xs ++ pair_words ys
pair_words_append [] ys = refl
pair_words_append (x ∷ xs) ys = ap (λ (l : List ℕ). x.0 ∷ x.1 ∷ l) (pair_words_append xs ys)

pub pair_words_length : (xs : List (ℕ × ℕ)) → length (pair_words xs) ≡ 2 * length xs
pair_words_length [] = refl
pair_words_length (x ∷ xs) = let h = pair_words_length xs in omega arith

pub pairs_words : (xs : List (ℕ × ℕ)) (r : List ℕ) → pairs (length xs) (pair_words xs ++ r) ≡ some (xs, r)
unfolding pairs
pairs_words [] r = refl
pairs_words (x ∷ xs) r = rw (pairs_words xs r)

pub pair_words_list : (n : ℕ) (ws : List ℕ) (b : ℕ) → b + 2 * n ≤ length ws → pair_words (pair_list ws b n) ≡ take (2 * n) (drop b ws)
unfolding pair_list
pair_words_list zero ws b h = refl
pair_words_list (suc n) ws b h =
    let e₁ : suc (suc b) ≡ b + 2 = omega arith in
    let e₂ : suc b ≡ b + 1 = omega arith in
    let e₃ : 2 * suc n ≡ suc (suc (2 * n)) = omega arith in
    ap₂ (λ (y : ℕ) (l : List ℕ). get_or ws b 0 ∷ get_or ws y 0 ∷ l) (sym e₂)
    (pair_words_list n ws (b + 2) (omega arith) ∙ ap (λ (k : ℕ). take (2 * n) (drop k ws)) (sym e₁))
    ∙ sym (ap₂ (λ (k : ℕ) (l : List ℕ). take k l) e₃
    (drop-cons ws b 0 (omega arith) ∙ ap (λ (l : List ℕ). get_or ws b 0 ∷ l) (drop-cons ws (suc b) 0 (omega arith))))
