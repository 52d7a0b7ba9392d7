-- Bits of a mark or a mask.
--   one_shifted or_with bit_same bit_other   a bit set, and the others
--   clear_or_set no_bit bits_same            a bit is 0 or 1; numbers with the same bits are the same
--   bit_zero bit_suc                         the lowest bit, and the bits of the half
--   low_clear low_set, bit_shifted bit_past  the lowest bit that is set; bits above
--   ones_bits ones_most ones_with            how many are set; when one more is set
use Prim.Native.Nat.{ℕ, zero, suc, ◌+◌, ◌-◌, ◌*◌, ◌/◌, ◌%◌, ◌^◌, ◌<◌, ◌≤◌, max}
use mathlib.Core.Path.{◌≡◌, refl, ap, ap₂, sym, ◌∙◌}
use mathlib.Core.Bool.{cond}
use mathlib.Core.Logic.{◌↔◌}
use native.Mathlib.Omega.{arith}
use native.Mathlib.Nat.{div-one, div-div-eq-div-mul, pow-succ', mod-lt, add-mul, one-mul, add-zero, pow-suc, div-eq_of_lt}
use native.Mathlib.Decide.{dec_lt}
use lib.Dec.{eqb, lit<}
use lib.Arith.{lt-one}
use lib.Bits.{bit_or, or_step, or_block, or_zero_r, or_shr, or_mod}
use lib.Count.{ones, ones_step, count_trailing_zeros, under}
use lib.Pow.{split, pow_pos, pow-add, pow-lt, shl-shr, shl_exact, high}
use Rattle.kinds.specs.Bits.{bit, clear_bit, with_bit, sum_to}

-- ---- one bit

low_or : (q : ℕ) → bit_or q 1 ≡ q / 2 * 2 + 1
low_or q = or_step q 1 ∙ ap₂ (λ (x y : ℕ). x * 2 + y) (or_zero_r (q / 2)) (at_most_one (q % 2) (mod-lt q (lit< tt)))
  where
    at_most_one : (x : ℕ) → x < 2 → max x 1 ≡ 1
    at_most_one x h = omega arith

-- 1 << j in 16 bits
pub one_shifted : (j : ℕ) → j < 16 → 1 * 2 ^ j % 65536 ≡ 2 ^ j
one_shifted j h = shl_exact 1 j 16 (lit< tt) (omega arith) ∙ one-mul (2 ^ j)

module _ (m j : ℕ) where
  parts : m / 2 ^ j * 2 ^ j + m % 2 ^ j ≡ m
  parts = split m j

  next_parts : (m / 2 ^ j + 1) * 2 ^ j + m % 2 ^ j ≡ m + 2 ^ j
  next_parts =
      let e : (m / 2 ^ j + 1) * 2 ^ j ≡ m / 2 ^ j * 2 ^ j + 2 ^ j =
      add-mul (m / 2 ^ j) 1 (2 ^ j) ∙ ap (λ (x : ℕ). m / 2 ^ j * 2 ^ j + x) (one-mul (2 ^ j)) in
      omega (arith, e, parts)

  or_bit : bit_or m (2 ^ j) ≡ (m / 2 ^ j / 2 * 2 + 1) * 2 ^ j + m % 2 ^ j
  or_bit =
      ap₂ bit_or (sym parts) (sym (add-zero (1 * 2 ^ j) ∙ one-mul (2 ^ j)))
      ∙ or_block j (m / 2 ^ j) 1 (m % 2 ^ j) 0 (mod-lt m (pow_pos j)) (pow_pos j)
      ∙ ap₂ (λ (x y : ℕ). x * 2 ^ j + y) (low_or (m / 2 ^ j)) (or_zero_r (m % 2 ^ j))

  -- to set a bit is with_bit
  pub or_with : bit_or m (2 ^ j) ≡ with_bit m j
  or_with = or_bit ∙ go (m / 2 ^ j % 2) refl (mod-lt (m / 2 ^ j) (lit< tt))
    where
      go : (b : ℕ) → m / 2 ^ j % 2 ≡ b → b < 2 → (m / 2 ^ j / 2 * 2 + 1) * 2 ^ j + m % 2 ^ j ≡ with_bit m j
      go zero e h =
          let q : m / 2 ^ j / 2 * 2 + 1 ≡ m / 2 ^ j + 1 = omega arith in
          ap (λ (x : ℕ). x * 2 ^ j + m % 2 ^ j) q ∙ next_parts ∙ sym (ap (λ (t : ℕ). cond (eqb t 1) m (m + 2 ^ j)) e)
      go (suc zero) e h =
          let q : m / 2 ^ j / 2 * 2 + 1 ≡ m / 2 ^ j = omega arith in
          ap (λ (x : ℕ). x * 2 ^ j + m % 2 ^ j) q ∙ parts ∙ sym (ap (λ (t : ℕ). cond (eqb t 1) m (m + 2 ^ j)) e)
      go (suc (suc b)) e h = absurd (omega arith)

-- 2 ^ j has no bit but j
one_bit : (i j : ℕ) → (i ≡ j → ⊥) → 2 ^ j / 2 ^ i % 2 ≡ 0
one_bit i j ne = go (dec_lt i j)
  where
    go : Dec (i < j) → 2 ^ j / 2 ^ i % 2 ≡ 0
    go (yes h) =
        let d = j - suc i in
        let e : j ≡ suc d + i = omega arith in
        ap (λ (x : ℕ). 2 ^ x / 2 ^ i % 2) e
        ∙ ap (λ (x : ℕ). x / 2 ^ i % 2) (pow-add 2 (suc d) i)
        ∙ ap (λ (x : ℕ). x % 2) (shl-shr (2 ^ suc d) i)
        ∙ omega (arith, pow-suc 2 d)
    go (no h) = let lt : j < i = omega arith in ap (λ (x : ℕ). x % 2) (div-eq_of_lt (pow-lt lt))

module _ (m j : ℕ) where
  -- the bit that is set
  pub bit_same : bit (with_bit m j) j ≡ 1
  bit_same =
      ap (λ (x : ℕ). x / 2 ^ j % 2) (sym (or_with m j) ∙ or_bit m j)
      ∙ ap (λ (x : ℕ). x % 2) (high (m / 2 ^ j / 2 * 2 + 1) j (mod-lt m (pow_pos j)))
      ∙ omega arith

  -- and the others
  pub bit_other : (i : ℕ) → (i ≡ j → ⊥) → bit (with_bit m j) i ≡ bit m i
  bit_other i ne =
      ap (λ (x : ℕ). x / 2 ^ i % 2) (sym (or_with m j))
      ∙ ap (λ (x : ℕ). x % 2) (or_shr m (2 ^ j) i)
      ∙ or_mod (m / 2 ^ i) (2 ^ j / 2 ^ i) 1
      ∙ ap (bit_or (m / 2 ^ i % 2)) (one_bit i j ne)
      ∙ or_zero_r (m / 2 ^ i % 2)

-- ---- 0 or 1

-- a bit that is not set is clear
pub clear_or_set : (m j : ℕ) → (bit m j ≡ 1 → ⊥) → bit m j ≡ 0
clear_or_set m j n = go (bit m j) refl (mod-lt (m / 2 ^ j) (lit< tt))
  where
    go : (b : ℕ) → bit m j ≡ b → b < 2 → bit m j ≡ 0
    go zero e h = e
    go (suc zero) e h = absurd (n e)
    go (suc (suc b)) e h = absurd (omega arith)

-- a mark that is 0 has no bit
pub no_bit : (j : ℕ) → bit 0 j ≡ 1 → ⊥
no_bit j e = let z : 0 / 2 ^ j ≡ 0 = div-eq_of_lt (pow_pos j) in let y : 0 / 2 ^ j % 2 ≡ 0 = rw z in omega arith

-- numbers with the same bits are the same
bit_zero : (m : ℕ) → bit m 0 ≡ m % 2
bit_zero m = ap (λ (x : ℕ). x % 2) (div-one m)

bit_suc : (m j : ℕ) → bit (m / 2) j ≡ bit m (suc j)
bit_suc m j = ap (λ (x : ℕ). x % 2) (div-div-eq-div-mul m 2 (2 ^ j) ∙ ap (λ (x : ℕ). m / x) (sym (pow-succ' 2 j)))

-- the lowest bit that is set
pub low_clear : (w n i : ℕ) → i < count_trailing_zeros w n → bit n i ≡ 0
unfolding count_trailing_zeros
low_clear zero n i h = absurd (omega arith)
low_clear (suc w) n i h = go (n % 2) refl i h (low_clear w (n / 2))
  where
    go : (b : ℕ) → n % 2 ≡ b → (i : ℕ) → i < under b (count_trailing_zeros w (n / 2)) → ((j : ℕ) → j < count_trailing_zeros w (n / 2) → bit (n / 2) j ≡ 0) → bit n i ≡ 0
    go zero e zero l ih = bit_zero n ∙ e
    go zero e (suc i) l ih = sym (bit_suc n i) ∙ ih i (omega arith)
    go (suc b) e i l ih = absurd (omega arith)

pub low_set : (w n : ℕ) → n < 2 ^ w → 0 < n → bit n (count_trailing_zeros w n) ≡ 1
unfolding count_trailing_zeros
low_set zero n h g = let z = lt-one h in absurd (omega arith)
low_set (suc w) n h g = go (n % 2) refl (mod-lt n (lit< tt)) (λ l. low_set w (n / 2) (omega (arith, pow-succ' 2 w)) l)
  where
    go : (b : ℕ) → n % 2 ≡ b → b < 2 → (0 < n / 2 → bit (n / 2) (count_trailing_zeros w (n / 2)) ≡ 1) → bit n (under b (count_trailing_zeros w (n / 2))) ≡ 1
    go zero e l ih = sym (bit_suc n (count_trailing_zeros w (n / 2))) ∙ ih (omega arith)
    go (suc zero) e l ih = bit_zero n ∙ e
    go (suc (suc b)) e l ih = absurd (omega arith)

-- the bits of what is left when the lowest are shifted out
pub bit_shifted : (m a i : ℕ) → bit (m / 2 ^ a) i ≡ bit m (a + i)
bit_shifted m a i = ap (λ (x : ℕ). x % 2) (div-div-eq-div-mul m (2 ^ a) (2 ^ i) ∙ ap (λ (x : ℕ). m / x) (sym (pow-add 2 a i)))

pub bit_past : (m a : ℕ) → m < 2 ^ a → bit m a ≡ 0
bit_past m a h = ap (λ (x : ℕ). x % 2) (div-eq_of_lt h)

bits_same_up : (n a b : ℕ) → a ≤ n → b ≤ n → ((j : ℕ) → bit a j ≡ bit b j) → a ≡ b
bits_same_up zero a b la lb h = omega arith
bits_same_up (suc n) a b la lb h =
    let ih = bits_same_up n (a / 2) (b / 2) (omega arith) (omega arith) (λ j. bit_suc a j ∙ h (suc j) ∙ sym (bit_suc b j)) in
    let z : a % 2 ≡ b % 2 = sym (bit_zero a) ∙ h 0 ∙ bit_zero b in
    omega arith

pub bits_same : (a b : ℕ) → ((j : ℕ) → (bit a j ≡ 1) ↔ (bit b j ≡ 1)) → a ≡ b
bits_same a b h = bits_same_up (a + b) a b (omega arith) (omega arith) (λ j. one_or_none j (bit a j) refl (mod-lt (a / 2 ^ j) (lit< tt)))
  where
    one_or_none : (j c : ℕ) → bit a j ≡ c → c < 2 → bit a j ≡ bit b j
    one_or_none j zero e l = e ∙ sym (clear_or_set b j (λ d. let z = (h j).1 d in omega arith))
    one_or_none j (suc zero) e l = e ∙ sym ((h j).0 e)
    one_or_none j (suc (suc c)) e l = absurd (omega arith)

-- ---- the ones of a number below 2 ^ k are its first k bits

up_ext : (n : ℕ) (f g : ℕ → ℕ) → ((j : ℕ) → j < n → f j ≡ g j) → sum_to n f ≡ sum_to n g
up_ext zero f g e = refl
up_ext (suc n) f g e = ap₂ (λ (x y : ℕ). x + y) (e 0 (omega arith)) (up_ext n (λ j. f (suc j)) (λ j. g (suc j)) (λ j h. e (suc j) (omega arith)))

pub ones_bits : (k m : ℕ) → m < 2 ^ k → ones m ≡ sum_to k (bit m)
unfolding ones
ones_bits zero m h = ap ones (lt-one h)
ones_bits (suc k) m h =
    let half : m / 2 < 2 ^ k = omega (arith, pow-succ' 2 k) in
    ones_step m
    ∙ ap₂ (λ (x y : ℕ). x + y)
    (sym (ap (λ (x : ℕ). x % 2) (div-one m)))
    (ones_bits k (m / 2) half
    ∙ up_ext k (bit (m / 2)) (λ j. bit m (suc j)) (λ j l. bit_suc m j))

pub ones_most : (k m : ℕ) → sum_to k (bit m) ≤ k
ones_most k m = up_most k (bit m) (λ j. let l : m / 2 ^ j % 2 < 2 = mod-lt (m / 2 ^ j) (lit< tt) in omega arith)
  where
    up_most : (n : ℕ) (f : ℕ → ℕ) → ((j : ℕ) → f j ≤ 1) → sum_to n f ≤ n
    up_most zero f h = omega arith
    up_most (suc n) f h = let r = up_most n (λ j. f (suc j)) (λ j. h (suc j)) in let z = h 0 in omega arith

-- a sum of which one part grows
up_more : (n j d : ℕ) (f g : ℕ → ℕ) → j < n → g j ≡ f j + d → ((i : ℕ) → (i ≡ j → ⊥) → g i ≡ f i) → sum_to n g ≡ sum_to n f + d
up_more zero j d f g h e o = absurd (omega arith)
up_more (suc n) zero d f g h e o =
    let r = up_ext n (λ i. g (suc i)) (λ i. f (suc i)) (λ i l. o (suc i) (λ z. omega arith)) in
    omega (arith, e, r)
up_more (suc n) (suc j) d f g h e o =
    let r = up_more n j d (λ i. f (suc i)) (λ i. g (suc i)) (omega arith) e (λ i ne. o (suc i) (λ z. ne (omega arith))) in
    let z = o 0 (λ z. omega arith) in
    omega (arith, r, z)

pub ones_with : (k m j : ℕ) → j < k → sum_to k (bit (with_bit m j)) ≡ sum_to k (bit m) + clear_bit m j
ones_with k m j h = up_more k j (clear_bit m j) (bit m) (bit (with_bit m j)) h
    (let b = bit_same m j in let l : m / 2 ^ j % 2 < 2 = mod-lt (m / 2 ^ j) (lit< tt) in omega arith) (bit_other m j)
