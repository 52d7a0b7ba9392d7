-- Tests: one that passes is `b ≡ true`.
--   and_l and_r both and_false and_true       the parts of a test of two that must both pass
--   or_l or_r or_case neither or_first  of two of which one must
--   test bool_ext not_true of_not of_not_false   one or the other; equal tests; what is not true is false; denied tests
--   false_true                                both at once proves anything
--   eqb_is is_eqb ltb_is is_ltb leb_is is_leb, ltb_not leb_not   what a test of two numbers says
--   Order order, ltb_irrefl ltb_suc ltb_shift eqb_shift   less, equal or more
--   half_leb key_order                        with half of a number; of two numbers in one
use mathlib.Core.Path.{◌≡◌, refl, sym, ◌∙◌}
use mathlib.Core.Bool.{Bool, true, false, not, ◌&&◌, ◌||◌, false≢true}
use mathlib.Core.Logic.{◌⊎◌, inl, inr}
use Prim.Native.Nat.{ℕ, suc, ◌+◌, ◌*◌, ◌/◌, ◌<◌, ◌≤◌}
use native.Mathlib.Omega.{arith}
use native.Mathlib.Decide.{dec_lt, dec_le}
use borrow.Author.Tests.{ltb-true, ltb-false, leb-true, leb-false, eqb-true, lt-ltb, le-ltb, le-leb, lt-leb, eq-eqb, ne_eqb}
use lib.Dec.{eqb, ltb, leb, leb-suc-suc}

pub and_l : {a : Bool} (b : Bool) → (a && b) ≡ true → a ≡ true
and_l {a = true} b h = refl
and_l {a = false} b h = h

pub and_r : (a : Bool) {b : Bool} → (a && b) ≡ true → b ≡ true
and_r true h = h
and_r false h = absurd (false≢true h)

pub both : {a b : Bool} → a ≡ true → b ≡ true → (a && b) ≡ true
both {a = true} x y = y
both {a = false} x y = x

pub and_false : (a : Bool) {b : Bool} → b ≡ false → (a && b) ≡ false
and_false true e = e
and_false false e = refl

pub and_true : (a : Bool) {b : Bool} → b ≡ true → (a && b) ≡ a
and_true true e = e
and_true false e = refl

pub or_l : {a : Bool} (b : Bool) → a ≡ true → (a || b) ≡ true
or_l {a = true} b h = refl
or_l {a = false} b h = absurd (false≢true h)

pub or_r : (a : Bool) {b : Bool} → b ≡ true → (a || b) ≡ true
or_r true h = refl
or_r false h = h

pub or_case : (a : Bool) {b : Bool} → (a || b) ≡ true → (a ≡ true) ⊎ (b ≡ true)
or_case true h = inl refl
or_case false h = inr h

pub neither : {a b : Bool} → a ≡ false → b ≡ false → (a || b) ≡ false
neither x y = rw (x, y)

pub or_first : (a b : Bool) → (a || b) ≡ false → a ≡ false
or_first false b e = refl
or_first true b e = e

pub false_true {κ} : {C : Type κ} → false ≡ true → C
false_true e = absurd (false≢true e)

pub test : (b : Bool) → (b ≡ true) ⊎ (b ≡ false)
test true = inl refl
test false = inr refl

pub bool_ext : (a b : Bool) → (a ≡ true → b ≡ true) → (b ≡ true → a ≡ true) → a ≡ b
bool_ext true b f g = sym (f refl)
bool_ext false true f g = g refl
bool_ext false false f g = refl

pub not_true : (b : Bool) → (b ≡ true → ⊥) → b ≡ false
not_true true h = absurd (h refl)
not_true false h = refl

pub of_not : (b : Bool) → not b ≡ true → b ≡ false
of_not true e = absurd (false≢true e)
of_not false e = refl

pub of_not_false : (b : Bool) → not b ≡ false → b ≡ true
of_not_false true e = refl
of_not_false false e = absurd (false≢true (sym e))

-- ---- tests of two numbers
pub eqb_is : (m n : ℕ) → eqb m n ≡ true → m ≡ n
eqb_is m n e = eqb-true m n e

pub is_eqb : (m n : ℕ) → m ≡ n → eqb m n ≡ true
is_eqb m n e = eq-eqb m n e

pub ltb_is : (m n : ℕ) → ltb m n ≡ true → m < n
ltb_is m n e = ltb-true m n e

pub is_ltb : (m n : ℕ) → m < n → ltb m n ≡ true
is_ltb m n h = lt-ltb m n h

pub ltb_not : (m n : ℕ) → ltb m n ≡ false → n ≤ m
ltb_not m n e = ltb-false m n e

pub leb_is : (m n : ℕ) → leb m n ≡ true → m ≤ n
leb_is m n e = leb-true m n e

pub is_leb : (m n : ℕ) → m ≤ n → leb m n ≡ true
is_leb m n h = le-leb m n h

pub leb_not : (m n : ℕ) → leb m n ≡ false → n < m
leb_not m n e = leb-false m n e

pub data Order (m n : ℕ) : Type 0 where
  less : m < n → Order m n
  equal : m ≡ n → Order m n
  more : n < m → Order m n

pub order : (m n : ℕ) → Order m n
order m n = go (dec_lt m n) (dec_lt n m)
  where
    go : Dec (m < n) → Dec (n < m) → Order m n
    go (yes h) b = less h
    go (no h) (yes g) = more g
    go (no h) (no g) = equal (omega arith)

pub ltb_irrefl : (n : ℕ) → ltb n n ≡ false
ltb_irrefl n = le-ltb n n (omega arith)

pub ltb_suc : (m n : ℕ) → ltb (suc m) (suc n) ≡ ltb m n
ltb_suc m n = leb-suc-suc (suc m) n

pub ltb_shift : (n x y : ℕ) → ltb (n + x) (n + y) ≡ ltb x y
ltb_shift n x y = bool_ext (ltb (n + x) (n + y)) (ltb x y) (λ e. let h = ltb_is (n + x) (n + y) e in is_ltb x y (omega arith))
    (λ e. let h = ltb_is x y e in is_ltb (n + x) (n + y) (omega arith))

pub eqb_shift : (n x y : ℕ) → eqb (n + x) (n + y) ≡ eqb x y
eqb_shift n x y = bool_ext (eqb (n + x) (n + y)) (eqb x y) (λ e. let h = eqb_is (n + x) (n + y) e in is_eqb x y (omega arith))
    (λ e. let h = eqb_is x y e in is_eqb (n + x) (n + y) (omega arith))

-- half of a number
pub half_leb : (x n : ℕ) → leb x (n / 2) ≡ leb (2 * x) n
half_leb x n = go (dec_le (2 * x) n)
  where
    go : Dec (2 * x ≤ n) → leb x (n / 2) ≡ leb (2 * x) n
    go (yes h) = let l : x ≤ n / 2 = omega arith in le-leb _ _ l ∙ sym (le-leb _ _ h)
    go (no h) = let l : n / 2 < x = omega arith in let g : n < 2 * x = omega arith in lt-leb _ _ l ∙ sym (lt-leb _ _ g)

-- two numbers in one: by the first, and then by the second
pub key_order : (a b s t : ℕ) → s < 16 → t < 16 → ltb (16 * a + s) (16 * b + t) ≡ (ltb a b || (eqb a b && ltb s t))
key_order a b s t hs ht = go (order a b)
  where
    go : Order a b → ltb (16 * a + s) (16 * b + t) ≡ (ltb a b || (eqb a b && ltb s t))
    go (less l) = rw (is_ltb a b l) (is_ltb (16 * a + s) (16 * b + t) (omega arith))
    go (equal e) = rw (e, ltb_irrefl b, is_eqb b b refl) (ltb_shift (16 * b) s t)
    go (more l) = rw (le-ltb a b (omega arith), ne_eqb a b (λ e. omega arith)) (le-ltb (16 * a + s) (16 * b + t) (omega arith))
