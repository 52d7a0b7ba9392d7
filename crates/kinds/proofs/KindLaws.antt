-- The position kind, case by case.
--   child_bad child_none child_many child_far child_at_lem  a position followed by a child number, by codes
--   no_zero, zero_next zero_stop zero_end  is a code in use: no 0 among its digits, from the last one on
--   digits_next digits_end                        how many digits, from the last one on
--   padded_start padded_next padded_end padded_room   a code, with zeros put after it one by one
--   pads_less pads_more pads_same           document order by padded codes
use mathlib.Core.Path.{◌≡◌, refl, ap, sym, ◌∙◌}
use mathlib.Core.Bool.{Bool, true, false, ◌&&◌, ◌||◌}
use mathlib.Core.List.{[], ◌∷◌}
use Prim.Native.Nat.{ℕ, suc, ◌+◌, ◌-◌, ◌*◌, ◌/◌, ◌%◌, ◌^◌, ◌≤◌, ◌<◌}
use native.Mathlib.Omega.{arith}
use native.Mathlib.Nat.{mul_assoc, mul-one, pow-succ', mul-le-mul_left}
use borrow.Author.Tests.{eq-eqb, ne_eqb, lt-ltb, le-ltb, le-leb, lt-leb}
use lib.Dec.{eqb, ltb}
use Rattle.std.specs.Prelude.{Some, None}
use lib.ListN.{length, length-append}
use Rattle.kinds.specs.Lists.{all}
use Rattle.kinds.specs.Positions.{before, decode, pad_to, largest, code_good}
use Rattle.kinds.specs.Kinds.{position, child_of}
use Rattle.kinds.specs.declared.Position.{Position}
use Rattle.kinds.proofs.Bools.{and_true, and_false}
use Rattle.kinds.proofs.ListLaws.{all_append}
use Rattle.kinds.proofs.Codes.{five_pos, decode_nil, decode_more, decode_short, decode_digits, code_decode, pad_code, pad_lt, before_pad}

module _ (p : Position) (i : ℕ) where
  pub child_bad : code_good p.0 ≡ false → child_of p i ≡ None
  child_bad e = rw e

  module _ (good : code_good p.0 ≡ true) where
    pub child_none : i < 1 → child_of p i ≡ None
    child_none h = rw (good, lt-leb 1 i h)

    pub child_many : 4 < i → child_of p i ≡ None
    child_many h = rw (good, le-leb 1 i (omega arith), lt-leb i 4 h)

    pub child_far : 1 ≤ i → i ≤ 4 → largest < 5 * p.0 + i → child_of p i ≡ None
    child_far l u h = rw (good, le-leb 1 i l, le-leb i 4 u, lt-leb (5 * p.0 + i) largest h)

    pub child_at_lem : 1 ≤ i → i ≤ 4 → 5 * p.0 + i ≤ largest → child_of p i ≡ Some (position (5 * p.0 + i))
    child_at_lem l u h = rw (good, le-leb 1 i l, le-leb i 4 u, le-leb (5 * p.0 + i) largest h)

-- ---- no 0 among the digits
abbrev pub no_zero : ℕ → Bool
no_zero c = all (λ d. ltb 0 d) (decode c)

zero_last : (c : ℕ) → 0 < c → c < 78125 → no_zero c ≡ (no_zero (c / 5) && (ltb 0 (c % 5) && true))
zero_last c h l = ap (all (λ d. ltb 0 d)) (decode_more c h l) ∙ all_append (λ d. ltb 0 d) (decode (c / 5)) (c % 5 ∷ [])

pub zero_next : (c : ℕ) → 0 < c → c < 78125 → (c % 5 ≡ 0 → ⊥) → no_zero c ≡ no_zero (c / 5)
zero_next c h l n = zero_last c h l ∙ rw (lt-ltb 0 (c % 5) (omega arith)) (and_true (no_zero (c / 5)) refl)

pub zero_stop : (c : ℕ) → 0 < c → c < 78125 → c % 5 ≡ 0 → no_zero c ≡ false
zero_stop c h l e = zero_last c h l ∙ rw (le-ltb 0 (c % 5) (omega arith)) (and_false (no_zero (c / 5)) refl)

pub zero_end : (c : ℕ) → c ≤ 0 → no_zero c ≡ true
zero_end c h = let e : c ≡ 0 = omega arith in ap no_zero e ∙ ap (all (λ d. ltb 0 d)) (decode_nil 7)

-- ---- how many digits
pub digits_next : (c : ℕ) → 0 < c → c < 78125 → length (decode c) ≡ length (decode (c / 5)) + 1
digits_next c h l = ap length (decode_more c h l) ∙ length-append (decode (c / 5)) (c % 5 ∷ [])

pub digits_end : (c : ℕ) → c ≤ 0 → length (decode c) ≡ 0
digits_end c h = let e : c ≡ 0 = omega arith in ap (λ (x : ℕ). length (decode x)) e ∙ ap length (decode_nil 7)

-- ---- zeros put after a code
pub padded_start : (c : ℕ) → c < 78125 → c * 5 ^ (7 - length (decode c)) ≡ pad_to 7 (decode c)
padded_start c h =
    let s = decode_short 7 c in
    let e : length (decode c) + (7 - length (decode c)) ≡ 7 = omega arith in
    ap (λ (x : ℕ). x * 5 ^ (7 - length (decode c))) (sym (code_decode c h))
    ∙ sym (pad_code (decode c) (7 - length (decode c)))
    ∙ ap (λ (k : ℕ). pad_to k (decode c)) e

pub padded_next : (c n : ℕ) → n < 7 → c * 5 ^ (7 - n) ≡ c * 5 * 5 ^ (7 - (n + 1))
padded_next c n h =
    let e : 7 - n ≡ suc (7 - (n + 1)) = omega arith in
    ap (λ (k : ℕ). c * 5 ^ k) e ∙ ap (λ (x : ℕ). c * x) (pow-succ' 5 (7 - (n + 1))) ∙ sym (mul_assoc c 5 (5 ^ (7 - (n + 1))))

pub padded_end : (c n : ℕ) → 7 ≤ n → c * 5 ^ (7 - n) ≡ c
padded_end c n h = let e : 7 - n ≡ 0 = omega arith in ap (λ (k : ℕ). c * 5 ^ k) e ∙ mul-one c

-- it stays below 5 ^ 7
pub padded_room : (c n k : ℕ) → c * 5 ^ n ≡ pad_to 7 (decode k) → c < 78125
padded_room c n k e =
    let m : c * 1 ≤ c * 5 ^ n = mul-le-mul_left c (five_pos n) in
    let l : pad_to 7 (decode k) < 78125 = pad_lt 7 (decode k) (decode_digits 7 k) in
    omega (arith, m, l, e)

-- ---- document order
module _ (a b : ℕ) where
  by_pads : before (decode a) (decode b) ≡
      (ltb (pad_to 7 (decode a)) (pad_to 7 (decode b)) ||
      (eqb (pad_to 7 (decode a)) (pad_to 7 (decode b)) && ltb (length (decode a)) (length (decode b))))
  by_pads = before_pad 7 (decode a) (decode b) (decode_digits 7 a) (decode_digits 7 b) (decode_short 7 a) (decode_short 7 b)

  pub pads_less : pad_to 7 (decode a) < pad_to 7 (decode b) → before (decode a) (decode b) ≡ true
  pads_less h = by_pads ∙ rw (lt-ltb (pad_to 7 (decode a)) (pad_to 7 (decode b)) h)

  pub pads_more : pad_to 7 (decode b) < pad_to 7 (decode a) → before (decode a) (decode b) ≡ false
  pads_more h = by_pads ∙ rw (
    le-ltb (pad_to 7 (decode a)) (pad_to 7 (decode b)) (omega arith),
    ne_eqb (pad_to 7 (decode a)) (pad_to 7 (decode b))
        (λ e. omega arith),
  )

  pub pads_same : pad_to 7 (decode a) ≡ pad_to 7 (decode b) → before (decode a) (decode b) ≡ ltb (length (decode a)) (length (decode b))
  pads_same h = by_pads ∙ rw (le-ltb (pad_to 7 (decode a)) (pad_to 7 (decode b)) (omega arith), eq-eqb (pad_to 7 (decode a)) (pad_to 7 (decode b)) h)
