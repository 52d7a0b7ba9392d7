-- A number by its bits, and a list of marks, each from where the code stands.
--   bits_fit bit_of                   how large a number is, and which bits it has
--   BitsFrom                          a number has the bits that f tells, from bit j on
--   bits_begin bits_half bits_room bits_down bits_end   none, how large it is, one more below them, all
--   MarksFrom                         the marks that f tells are written and counted up to a node
--   marks_begin marks_next marks_end  none, one more, all
use Prim.Native.Nat.{ℕ, zero, suc, ◌+◌, ◌-◌, ◌*◌, ◌/◌, ◌%◌, ◌^◌, ◌<◌, ◌≤◌}
use mathlib.Core.Path.{◌≡◌, ap, ap₂, sym, ◌∙◌}
use mathlib.Core.Bool.{Bool, true, false, cond, ◌&&◌}
use mathlib.Core.List.{List, [], ◌∷◌, map}
use native.Mathlib.Omega.{arith}
use native.Mathlib.Nat.{add-zero, div-one, pow-succ', sub-zero, zero-add}
use borrow.Author.Tests.{lt-ltb, le-ltb}
use lib.Count.{ones, ones-le}
use lib.Dec.{eqb, ltb}
use lib.ListN.{length, set, length-map}
use lib.Pow.{pow_pos}
use lib.Seq.{sets}
use Rattle.kinds.specs.Bits.{bit}
use Rattle.kinds.specs.Lists.{range}
use Rattle.kinds.proofs.Bools.{not_true, eqb_is, ltb_suc}
use Rattle.kinds.proofs.BitLaws.{no_bit, bit_shifted, ones_bits}
use Rattle.kinds.proofs.Members.{length_range}
use Rattle.counting.specs.Counting.{total}
use Rattle.comparing.specs.Comparing.{of_bits}

range_next : (c n : ℕ) → c < n → range c (n - c) ≡ c ∷ range (suc c) (n - suc c)
range_next c n h = let e : n - c ≡ suc (n - suc c) = omega arith in ap (range c) e

none_left : (c n : ℕ) → n ≤ c → range c (n - c) ≡ []
none_left c n h = let e : n - c ≡ 0 = omega arith in ap (range c) e

-- ---- bits
pub bits_fit : (k : ℕ) (bs : List Bool) → length bs ≤ k → of_bits bs < 2 ^ k
bits_fit k [] h = pow_pos k
bits_fit zero (b ∷ bs) h = absurd (omega arith)
bits_fit (suc k) (b ∷ bs) h = go b (bits_fit k bs (omega arith))
  where
    go : (c : Bool) → of_bits bs < 2 ^ k → of_bits bs * 2 + cond c 1 0 < 2 ^ suc k
    go true l = omega (arith, l, pow-succ' 2 k)
    go false l = omega (arith, l, pow-succ' 2 k)

low_bit : (m : ℕ) (b : Bool) → eqb (bit (m * 2 + cond b 1 0) 0) 1 ≡ b
low_bit m true = let e : bit (m * 2 + 1) 0 ≡ 1 = ap (λ (x : ℕ). x % 2) (div-one (m * 2 + 1)) ∙ omega arith in ap (λ x. eqb x 1) e
low_bit m false = let e : bit (m * 2 + 0) 0 ≡ 0 = ap (λ (x : ℕ). x % 2) (div-one (m * 2 + 0)) ∙ omega arith in ap (λ x. eqb x 1) e

high_bit : (m : ℕ) (b : Bool) (j : ℕ) → bit (m * 2 + cond b 1 0) (suc j) ≡ bit m j
high_bit m b j = let e : 1 + j ≡ suc j = omega arith in
    ap (bit (m * 2 + cond b 1 0)) (sym e) ∙ sym (bit_shifted (m * 2 + cond b 1 0) 1 j) ∙ ap (λ x. bit x j) (half b)
  where
    half : (c : Bool) → (m * 2 + cond c 1 0) / 2 ^ 1 ≡ m
    half true = omega arith
    half false = omega arith

pub bit_of : (f : ℕ → Bool) (k c j : ℕ) → eqb (bit (of_bits (map f (range c k))) j) 1 ≡ (ltb j k && f (c + j))
bit_of f zero c j =
    not_true (eqb (bit 0 j) 1) (λ e. no_bit j (eqb_is (bit 0 j) 1 e)) ∙ ap (λ b. b && f (c + j)) (sym (le-ltb j 0 (omega arith)))
bit_of f (suc k) c zero =
    low_bit (of_bits (map f (range (suc c) k))) (f c) ∙ ap₂ (λ b x. b && f x) (sym (lt-ltb 0 (suc k) (omega arith))) (sym (add-zero c))
bit_of f (suc k) c (suc j) =
    let e : suc c + j ≡ c + suc j = omega arith in
    ap (λ x. eqb x 1) (high_bit (of_bits (map f (range (suc c) k))) (f c) j) ∙ bit_of f k (suc c) j ∙ ap₂ (λ b x. b && f x) (sym (ltb_suc j k)) e

-- m has the bits that f tells, those from j on of n
pub record BitsFrom (f : ℕ → Bool) (n m j : ℕ) : Type 0 where
  pub is : m ≡ of_bits (map f (range j (n - j)))
  pub inside : j ≤ n

pub bits_begin : (f : ℕ → Bool) (n : ℕ) → BitsFrom f n 0 n
bits_begin f n = record { is = sym (ap (λ l. of_bits (map f l)) (none_left n n (omega arith))); inside = omega arith }

module _ {f : ℕ → Bool} {n m : ℕ} where
  pub bits_end : BitsFrom f n m 0 → m ≡ of_bits (map f (range 0 n))
  bits_end b = b.is ∙ ap (λ k. of_bits (map f (range 0 k))) (sub-zero n)

  module _ {j : ℕ} (b : BitsFrom f n m (suc j)) where
    pub bits_half : n ≤ 16 → m < 2 ^ 15
    bits_half l =
        let e : length (map f (range (suc j) (n - (suc j)))) ≡ n - (suc j) = length-map (range (suc j) (n - (suc j))) f ∙ length_range (suc j) (n - (suc j)) in
        omega (arith, b.is, b.inside, bits_fit 15 (map f (range (suc j) (n - (suc j)))) (omega arith))

    module _ {c : ℕ} (e : c ≡ cond (f j) 1 0) where
      pub bits_room : n ≤ 16 → m * 2 + c < 2 ^ 16
      bits_room l = go (f j) e
        where
          go : (d : Bool) → c ≡ cond d 1 0 → m * 2 + c < 2 ^ 16
          go true k = omega (arith, bits_half l)
          go false k = omega (arith, bits_half l)

      pub bits_down : BitsFrom f n (m * 2 + c) j
      bits_down = record {
        is =
            ap₂ (λ (x y : ℕ). x * 2 + y) b.is e
            ∙ sym (ap (λ l. of_bits (map f l)) (range_next j n (omega (arith, b.inside))));
        inside = omega (arith, b.inside);
      }

-- ---- marks
pub record MarksFrom (f : ℕ → ℕ) (n : ℕ) (marks₀ marks : List ℕ) (sum x : ℕ) : Type 0 where
  pub written : sets marks x (map f (range x (n - x))) ≡ sets marks₀ 0 (map f (range 0 n))
  pub counted : sum + total (map f (range x (n - x))) ≡ total (map f (range 0 n))
  pub few : sum ≤ 16 * x

pub marks_begin : (f : ℕ → ℕ) (n : ℕ) (marks : List ℕ) → MarksFrom f n marks marks 0 0
marks_begin f n marks = record {
  written = ap (λ k. sets marks 0 (map f (range 0 k))) (sub-zero n);
  counted = zero-add (total (map f (range 0 (n - 0)))) ∙ ap (λ k. total (map f (range 0 k))) (sub-zero n);
  few = omega arith;
}

module _ {f : ℕ → ℕ} {n : ℕ} {marks₀ marks : List ℕ} {sum x : ℕ} (b : MarksFrom f n marks₀ marks sum x) where
  pub marks_next : x < n → {m : ℕ} → m ≡ f x → m < 2 ^ 16 → MarksFrom f n marks₀ (set marks x m) (sum + ones m) (x + 1)
  unfolding total
  marks_next h {m} e l =
      let one : suc x ≡ x + 1 = omega arith in
      let rest : map f (range x (n - x)) ≡ m ∷ map f (range (x + 1) (n - (x + 1))) =
      ap (map f) (range_next x n h) ∙ ap₂ (λ k i. k ∷ map f (range i (n - i))) (sym e) one in
      let t : total (map f (range x (n - x))) ≡ ones m + total (map f (range (x + 1) (n - (x + 1)))) =
      ap total rest ∙ ap (λ (k : ℕ). k + total (map f (range (x + 1) (n - (x + 1))))) (sym (ones_bits 16 m l)) in
      record {
        written = ap (λ i. sets (set marks x m) i (map f (range (x + 1) (n - (x + 1))))) (sym one) ∙ sym (ap (sets marks x) rest) ∙ b.written;
        counted = turned sum (ones m) _ _ _ t b.counted;
        few = omega (arith, b.few, ones-le 16 m l);
      }
    where
      turned : (s o r t w : ℕ) → t ≡ o + r → s + t ≡ w → s + o + r ≡ w
      turned s o r t w p q = omega arith

  pub marks_end : n ≤ x → (sum ≡ total (map f (range 0 n))) × (marks ≡ sets marks₀ 0 (map f (range 0 n)))
  unfolding total
  marks_end h =
      let e = none_left x n h in
      (sym (add-zero sum) ∙ ap (λ l. sum + total (map f l)) (sym e) ∙ b.counted, ap (λ l. sets marks x (map f l)) (sym e) ∙ b.written)
