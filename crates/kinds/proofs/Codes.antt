-- Codes of positions.
--   code_from_append code_from_is code_join code_snoc code_le five_pos  the code of a position put after another
--   Proper proper_nil proper_cons proper_head proper_tail proper_append proper_right   child numbers are 1 to 4
--   Small small_code small_prefix small_rest small_snoc   and at most six of them: the positions in use
--   decode_nil decode_last decode_more decode_fewer decode_short decode_digits   the digits of a code
--   decode_of decode_proper decode_code code_of_lem code_decode code_same   back and forth
--   code_good_lem                         the codes in use
--   pad_nil pad_code pad_lt before_pad pad_before    document order by padded codes
use mathlib.Core.Path.{◌≡◌, refl, ap, ap₂, sym, ◌∙◌}
use mathlib.Core.List.{[], ◌∷◌, ◌++◌, append_assoc, append-nil}
use mathlib.Core.Bool.{Bool, true, false, ◌&&◌, ◌||◌, false≢true}
use mathlib.Core.Logic.{⊎_elim}
use Prim.Native.Nat.{ℕ, zero, suc, ◌+◌, ◌-◌, ◌*◌, ◌/◌, ◌%◌, ◌^◌, ◌≤◌, ◌<◌}
use native.Mathlib.Omega.{arith}
use native.Mathlib.Nat.{zero-add, zero-mul, suc-mul, add-mul, mul_assoc, mul_comm, mod-lt, pow-suc, mul-le-mul_left, mul-le-mul_right}
use borrow.Author.Tests.{eq-eqb, ne_eqb, le-ltb}
use lib.Dec.{eqb, ltb, lit<}
use lib.ListN.{length, length-append}
use lib.Pow.{pow-add}
use Rattle.kinds.specs.Lists.{same}
use Rattle.kinds.specs.Positions.{Pos, before, code, code_from, decode, decode_to, pad_to, code_good}
use Rattle.kinds.proofs.Bools.{both, and_false, is_eqb, is_ltb, is_leb, ltb_irrefl, ltb_shift, eqb_shift, ltb_suc, Order, less, equal, more, order}
use Rattle.kinds.proofs.Members.{∈_left, ∈_right, ∈_append, all_of_lem, same_is, same_refl}
use Rattle.kinds.specs.Members.{◌∈◌, here, there}
use Rattle.kinds.proofs.Prefixes.{◌≼◌, ≼_length}

-- ---- a position put after another
pub code_from_append : (p q : Pos) (c : ℕ) → code_from c (p ++ q) ≡ code_from (code_from c p) q
code_from_append [] q c = refl
code_from_append (i ∷ p) q c = code_from_append p q (5 * c + i)

pub code_from_is : (q : Pos) (c : ℕ) → code_from c q ≡ c * 5 ^ length q + code q
code_from_is [] c = omega arith
code_from_is (i ∷ q) c =
    let u = code_from_is q (5 * c + i) in
    let v = code_from_is q (5 * 0 + i) in
    let n = 5 ^ length q in
    let e : (5 * c + i) * n ≡ 5 * c * n + i * n = add-mul (5 * c) i n in
    let d : (5 * 0 + i) * n ≡ i * n = ap (λ (x : ℕ). x * n) (zero-add i) in
    let h : c * 5 ^ suc (length q) ≡ 5 * c * n =
    ap (λ (x : ℕ). c * x) (pow-suc 5 (length q) ∙ mul_comm n 5) ∙ sym (mul_assoc c 5 n) ∙ ap (λ (x : ℕ). x * n) (mul_comm c 5) in
    u ∙ omega (arith, v, e, d, h)

pub code_join : (p q : Pos) → code (p ++ q) ≡ code p * 5 ^ length q + code q
code_join p q = code_from_append p q 0 ∙ code_from_is q (code p)

pub code_snoc : (p : Pos) (i : ℕ) → code (p ++ (i ∷ [])) ≡ 5 * code p + i
code_snoc p i = code_from_append p (i ∷ []) 0

pub five_pos : (n : ℕ) → 1 ≤ 5 ^ n
five_pos zero = omega arith
five_pos (suc n) = let z = five_pos n in omega (arith, pow-suc 5 n)

pub code_le : (p q : Pos) → code p ≤ code (p ++ q)
code_le p q =
    let m : code p * 1 ≤ code p * 5 ^ length q = mul-le-mul_left (code p) (five_pos (length q)) in
    omega (arith, m, code_join p q)

-- ---- child numbers are 1 to 4
abbrev pub Proper : Pos → Type 0
Proper p = (d : ℕ) → d ∈ p → (1 ≤ d) × (d ≤ 4)

pub proper_nil : Proper []
proper_nil d m = elim m [ ]

pub proper_cons : {i : ℕ} {p : Pos} → 1 ≤ i → i ≤ 4 → Proper p → Proper (i ∷ p)
proper_cons l u h d (here e) = rw e (l, u)
proper_cons l u h d (there m) = h d m

pub proper_head : {i : ℕ} {p : Pos} → Proper (i ∷ p) → (1 ≤ i) × (i ≤ 4)
proper_head {i} h = h i (here refl)

pub proper_tail : {i : ℕ} {p : Pos} → Proper (i ∷ p) → Proper p
proper_tail h d m = h d (there m)

pub proper_append : (p q : Pos) → Proper p → Proper q → Proper (p ++ q)
proper_append p q a b d m = ⊎_elim (a d) (b d) (∈_append p m)

pub proper_right : (p q : Pos) → Proper (p ++ q) → Proper q
proper_right p q h d m = h d (∈_right p m)

-- and at most six of them
pub record Small (p : Pos) : Type 0 where
  pub short : length p ≤ 6
  pub digits : Proper p

pub small_prefix : {p q : Pos} → p ≼ q → Small p → Small q
small_prefix {p} {q} h s = record {
  short = let l = ≼_length h in let m = s.short in omega arith;
  digits =
      λ d m. s.digits d (rw h.eq (∈_left h.by m));
}

pub small_rest : (c q : Pos) → Small (c ++ q) → Small q
small_rest c q s = record { short = let m = rw length-append at s.short in omega arith; digits = proper_right c q s.digits }

pub small_snoc : (p : Pos) (i : ℕ) → Small p → length p ≤ 5 → 1 ≤ i → i ≤ 4 → Small (p ++ (i ∷ []))
small_snoc p i s l a b = record { short = rw length-append (omega arith); digits = proper_append p (i ∷ []) s.digits (proper_cons a b proper_nil) }

-- the largest code of n numbers after code c
abbrev top : ℕ → ℕ → ℕ
top zero c = c
top (suc n) c = top n (5 * c + 4)

top_over : (n c : ℕ) → c ≤ top n c
top_over zero c = omega arith
top_over (suc n) c = let h = top_over n (5 * c + 4) in omega arith

code_under : (p : Pos) (n c b : ℕ) → length p ≤ n → Proper p → c ≤ b → code_from c p ≤ top n b
code_under [] n c b l h e = let t = top_over n b in omega arith
code_under (i ∷ p) zero c b l h e = absurd (omega arith)
code_under (i ∷ p) (suc n) c b l h e = let d = proper_head h in code_under p n (5 * c + i) (5 * b + 4) (omega arith) (proper_tail h) (omega arith)

pub small_code : (p : Pos) → Small p → code p ≤ 15624
small_code p s = code_under p 6 0 0 s.short s.digits (omega arith)

-- ---- the digits of a code
pub decode_nil : (k : ℕ) → decode_to k 0 ≡ []
unfolding decode_to
decode_nil zero = refl
decode_nil (suc k) = refl

-- a code that is not 0 has a last digit
pub decode_last : (k c : ℕ) → 0 < c → decode_to (suc k) c ≡ decode_to k (c / 5) ++ (c % 5 ∷ [])
unfolding decode_to
decode_last k c h = rw (ne_eqb c 0 (λ e. omega arith))

-- one digit fewer is enough
pub decode_fewer : (k c : ℕ) → c < 5 ^ k → decode_to (suc k) c ≡ decode_to k c
decode_fewer zero c h = let e : c ≡ 0 = omega arith in ap (decode_to 1) e ∙ decode_nil 1 ∙ sym (ap (decode_to 0) e ∙ decode_nil 0)
decode_fewer (suc k) zero h = decode_nil (suc (suc k)) ∙ sym (decode_nil (suc k))
decode_fewer (suc k) (suc c) h =
    let b : suc c / 5 < 5 ^ k = omega (arith, pow-suc 5 k) in
    decode_last (suc k) (suc c) (omega arith)
    ∙ ap (λ p. p ++ (suc c % 5 ∷ [])) (decode_fewer k (suc c / 5) b)
    ∙ sym (decode_last k (suc c) (omega arith))

pub decode_more : (c : ℕ) → 0 < c → c < 78125 → decode c ≡ decode (c / 5) ++ (c % 5 ∷ [])
decode_more c h l = decode_last 6 c h ∙ ap (λ p. p ++ (c % 5 ∷ [])) (sym (decode_fewer 6 (c / 5) (omega arith)))

pub decode_short : (k c : ℕ) → length (decode_to k c) ≤ k
unfolding decode_to
decode_short zero c = omega arith
decode_short (suc k) zero = omega arith
decode_short (suc k) (suc c) = rw (decode_last k (suc c) (omega arith), length-append) (let h = decode_short k (suc c / 5) in omega arith)

pub decode_digits : (k c d : ℕ) → d ∈ decode_to k c → d ≤ 4
unfolding decode_to
decode_digits zero c d m = elim m [ ]
decode_digits (suc k) zero d m = elim m [ ]
decode_digits (suc k) (suc c) d m =
    ⊎_elim (decode_digits k (suc c / 5) d) last (∈_append (decode_to k (suc c / 5)) (rw (decode_last k (suc c) (omega arith)) at m))
  where
    last : d ∈ (suc c % 5 ∷ []) → d ≤ 4
    last (here e) = let h : suc c % 5 < 5 = mod-lt (suc c) (lit< tt) in omega arith
    last (there x5) = elim x5 [ ]

-- ---- back and forth
-- the digits of a position that is put after a code
pub decode_of : (p : Pos) (c j : ℕ) → Proper p → decode_to (length p + j) (code_from c p) ≡ decode_to j c ++ p
decode_of [] c j h = ap (λ (k : ℕ). decode_to k c) (zero-add j) ∙ sym (append-nil (decode_to j c))
decode_of (i ∷ p) c j h =
    let b = proper_head h in
    let e : suc (length p) + j ≡ length p + suc j = omega arith in
    let d : (5 * c + i) / 5 ≡ c = omega arith in
    let m : (5 * c + i) % 5 ≡ i = omega arith in
    ap (λ (k : ℕ). decode_to k (code_from (5 * c + i) p)) e
    ∙ decode_of p (5 * c + i) (suc j) (proper_tail h)
    ∙ ap (λ xs. xs ++ p) (decode_last j (5 * c + i) (omega arith) ∙ ap₂ (λ x y. decode_to j x ++ (y ∷ [])) d m)
    ∙ append_assoc (decode_to j c) (i ∷ []) p

pub decode_proper : (p : Pos) → Proper p → length p ≤ 7 → decode (code p) ≡ p
decode_proper p h l =
    let e : 7 ≡ length p + (7 - length p) = omega arith in
    ap (λ (k : ℕ). decode_to k (code p)) e ∙ decode_of p 0 (7 - length p) h ∙ ap (λ xs. xs ++ p) (decode_nil (7 - length p))

pub decode_code : (p : Pos) → Small p → decode (code p) ≡ p
decode_code p s = decode_proper p s.digits (let l = s.short in omega arith)

pub code_of_lem : (k c : ℕ) → c < 5 ^ k → code (decode_to k c) ≡ c
code_of_lem zero c h = let e : c ≡ 0 = omega arith in ap (λ (x : ℕ). code (decode_to 0 x)) e ∙ ap code (decode_nil 0) ∙ sym e
code_of_lem (suc k) zero h = ap code (decode_nil (suc k))
code_of_lem (suc k) (suc c) h =
    let b : suc c / 5 < 5 ^ k = omega (arith, pow-suc 5 k) in
    let ih = code_of_lem k (suc c / 5) b in
    ap code (decode_last k (suc c) (omega arith)) ∙ code_snoc (decode_to k (suc c / 5)) (suc c % 5) ∙ omega arith

pub code_decode : (c : ℕ) → c < 78125 → code (decode c) ≡ c
code_decode c h = code_of_lem 7 c h

pub code_same : (p q : Pos) → Proper p → Proper q → length p ≤ 7 → length q ≤ 7 → eqb (code p) (code q) ≡ same p q
code_same p q hp hq lp lq = go (same p q) refl
  where
    go : (b : Bool) → same p q ≡ b → eqb (code p) (code q) ≡ b
    go true e = eq-eqb (code p) (code q) (ap code (same_is p q e))
    go false e =
        ne_eqb (code p) (code q) (λ z.
        let i : p ≡ q = sym (decode_proper p hp lp) ∙ ap decode z ∙ decode_proper q hq lq in
        false≢true (sym e ∙ rw i (same_refl q)))

-- ---- the codes in use
pub code_good_lem : (p : Pos) → Small p → code_good (code p) ≡ true
code_good_lem p s = both (is_leb (code p) 15624 (small_code p s))
    (rw (decode_code p s) (all_of_lem (λ d. ltb 0 d) p (λ d m. is_ltb 0 d (s.digits d m).0)))

-- ---- document order by padded codes
pub pad_nil : (k : ℕ) → pad_to k [] ≡ 0
pad_nil zero = refl
pad_nil (suc k) = refl

-- a code, with zeros put after it
pub pad_code : (p : Pos) (m : ℕ) → pad_to (length p + m) p ≡ code p * 5 ^ m
pad_code [] m = ap (λ (k : ℕ). pad_to k []) (zero-add m) ∙ pad_nil m ∙ sym (zero-mul (5 ^ m))
pad_code (i ∷ p) m =
    let n = length p in
    let e : suc n + m ≡ suc (n + m) = omega arith in
    let w : 5 ^ (n + m) ≡ 5 ^ n * 5 ^ m = pow-add 5 n m in
    let c : code (i ∷ p) ≡ i * 5 ^ n + code p = code_from_is p (5 * 0 + i) ∙ ap (λ (x : ℕ). x * 5 ^ n + code p) (zero-add i) in
    let d : (i * 5 ^ n + code p) * 5 ^ m ≡ i * 5 ^ n * 5 ^ m + code p * 5 ^ m = add-mul (i * 5 ^ n) (code p) (5 ^ m) in
    ap (λ (k : ℕ). pad_to k (i ∷ p)) e
    ∙ ap₂ (λ (x y : ℕ). i * x + y) w (pad_code p m)
    ∙ ap (λ (x : ℕ). x + code p * 5 ^ m) (sym (mul_assoc i (5 ^ n) (5 ^ m)))
    ∙ sym (ap (λ (x : ℕ). x * 5 ^ m) c ∙ d)

pub pad_lt : (k : ℕ) (p : Pos) → ((d : ℕ) → d ∈ p → d ≤ 4) → pad_to k p < 5 ^ k
pad_lt zero p h = omega arith
pad_lt (suc k) [] h = let w = pad_lt k [] h in omega (arith, pow-suc 5 k)
pad_lt (suc k) (i ∷ p) h =
    let w = pad_lt k p (λ d m. h d (there m)) in
    let m : i * 5 ^ k ≤ 4 * 5 ^ k = mul-le-mul_right (5 ^ k) (h i (here refl)) in
    omega (arith, pow-suc 5 k)

-- a smaller number in front decides
pad_less : (k i j : ℕ) (p q : Pos) → ((d : ℕ) → d ∈ p → d ≤ 4) → i < j → i * 5 ^ k + pad_to k p < j * 5 ^ k + pad_to k q
pad_less k i j p q h l =
    let m : suc i * 5 ^ k ≤ j * 5 ^ k = mul-le-mul_right (5 ^ k) l in
    let s : suc i * 5 ^ k ≡ i * 5 ^ k + 5 ^ k = suc-mul i (5 ^ k) in
    omega (arith, pad_lt k p h, m, s)

-- for any digits: the padded codes, and where they are equal the lengths
pub before_pad : (k : ℕ) (p q : Pos) → ((d : ℕ) → d ∈ p → d ≤ 4) → ((d : ℕ) → d ∈ q → d ≤ 4) → length p ≤ k → length q ≤ k
    → before p q ≡ (ltb (pad_to k p) (pad_to k q) || (eqb (pad_to k p) (pad_to k q) && ltb (length p) (length q)))
before_pad zero [] [] hp hq lp lq = refl
before_pad zero (i ∷ p) q hp hq lp lq = absurd (omega arith)
before_pad zero [] (j ∷ q) hp hq lp lq = absurd (omega arith)
before_pad (suc k) [] [] hp hq lp lq = refl
before_pad (suc k) [] (j ∷ q) hp hq lp lq = go (pad_to (suc k) (j ∷ q))
  where
    go : (x : ℕ) → true ≡ (ltb 0 x || (eqb 0 x && ltb 0 (suc (length q))))
    go zero = sym (is_ltb 0 (suc (length q)) (omega arith))
    go (suc x) = rw (is_ltb 0 (suc x) (omega arith))
before_pad (suc k) (i ∷ p) [] hp hq lp lq =
    rw (le-ltb (pad_to (suc k) (i ∷ p)) 0 (omega arith), le-ltb (suc (length p)) 0 (omega arith))
    (sym (and_false (eqb (pad_to (suc k) (i ∷ p)) 0) refl))
before_pad (suc k) (i ∷ p) (j ∷ q) hp hq lp lq =
    go (order i j) (before_pad k p q (λ d m. hp d (there m)) (λ d m. hq d (there m)) (omega arith) (omega arith))
  where
    go : Order i j → before p q ≡ (ltb (pad_to k p) (pad_to k q) || (eqb (pad_to k p) (pad_to k q) && ltb (length p) (length q)))
        → (ltb i j || (eqb i j && before p q)) ≡
        (ltb (i * 5 ^ k + pad_to k p) (j * 5 ^ k + pad_to k q) ||
        (eqb (i * 5 ^ k + pad_to k p) (j * 5 ^ k + pad_to k q) && ltb (suc (length p)) (suc (length q))))
    go (less l) ih = rw (is_ltb i j l, is_ltb (i * 5 ^ k + pad_to k p) (j * 5 ^ k + pad_to k q) (pad_less k i j p q (λ d m. hp d (there m)) l))
    go (equal e) ih = rw (
      e,
      ltb_irrefl j,
      is_eqb j j refl,
      ltb_shift (j * 5 ^ k) (pad_to k p) (pad_to k q),
      eqb_shift (j * 5 ^ k) (pad_to k p)
          (pad_to k q),
      ltb_suc (length p) (length q),
    ) ih
    go (more l) ih =
        let h = pad_less k j i q p (λ d m. hq d (there m)) l in
        rw (
          le-ltb i j (omega arith),
          ne_eqb i j (λ e. omega arith),
          le-ltb (i * 5 ^ k + pad_to k p) (j * 5 ^ k + pad_to k q) (omega arith),
          ne_eqb
              (i * 5 ^ k + pad_to k p) (j * 5 ^ k + pad_to k q) (λ e. omega arith),
        )

-- for child numbers: the padded codes alone
pub pad_before : (k : ℕ) (p q : Pos) → Proper p → Proper q → length p ≤ k → length q ≤ k → ltb (pad_to k p) (pad_to k q) ≡ before p q
pad_before zero [] [] hp hq lp lq = refl
pad_before zero (i ∷ p) q hp hq lp lq = absurd (omega arith)
pad_before zero [] (j ∷ q) hp hq lp lq = absurd (omega arith)
pad_before (suc k) [] [] hp hq lp lq = refl
pad_before (suc k) [] (j ∷ q) hp hq lp lq =
    is_ltb 0 (j * 5 ^ k + pad_to k q) (let l = pad_less k 0 j [] q (λ d m. elim m [ ]) (proper_head hq).0 in omega arith)
pad_before (suc k) (i ∷ p) [] hp hq lp lq = le-ltb (i * 5 ^ k + pad_to k p) 0 (omega arith)
pad_before (suc k) (i ∷ p) (j ∷ q) hp hq lp lq = go (order i j) (pad_before k p q (proper_tail hp) (proper_tail hq) (omega arith) (omega arith))
  where
    go : Order i j → ltb (pad_to k p) (pad_to k q) ≡ before p q
        → ltb (i * 5 ^ k + pad_to k p) (j * 5 ^ k + pad_to k q) ≡ (ltb i j || (eqb i j && before p q))
    go (less l) ih = rw (is_ltb i j l) (is_ltb (i * 5 ^ k + pad_to k p) (j * 5 ^ k + pad_to k q) (pad_less k i j p q (λ d m. (hp d (there m)).1) l))
    go (equal e) ih = rw (e, ltb_irrefl j, is_eqb j j refl) (ltb_shift (j * 5 ^ k) (pad_to k p) (pad_to k q) ∙ ih)
    go (more l) ih =
        let h = pad_less k j i q p (λ d m. (hq d (there m)).1) l in
        rw (le-ltb i j (omega arith), ne_eqb i j (λ e. omega arith)) (le-ltb (i * 5 ^ k + pad_to k p) (j * 5 ^ k + pad_to k q) (omega arith))
