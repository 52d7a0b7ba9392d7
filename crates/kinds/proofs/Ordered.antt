-- Document order.
--   Before before_irrefl before_trans before_total    a strict total order
--   before_asym before_pass                           what comes before is not after; what does not come before is passed on
--   before_more more_before before_append child_before   and what is under a position
--   ordered_unique                                    a list in document order is determined by its elements
use mathlib.Core.Path.{◌≡◌, refl, ap, sym, ◌∙◌}
use mathlib.Core.Bool.{true, false, ◌&&◌, false≢true}
use mathlib.Core.List.{List, [], ◌∷◌, ◌++◌}
use mathlib.Core.Logic.{◌⊎◌, inl, inr, ⊎_elim}
use Prim.Native.Nat.{ℕ, ◌<◌}
use native.Mathlib.Omega.{arith}
use lib.Dec.{eqb, ltb}
use Rattle.kinds.specs.Positions.{Pos, before}
use Rattle.kinds.proofs.Bools.{and_l, and_r, both, or_l, or_r, or_case, not_true, eqb_is, is_eqb, ltb_is, is_ltb, ltb_irrefl, Order, less, equal, more, order}
use Rattle.kinds.specs.Members.{◌∈◌, here, there, ◌⊆◌, Pairwise}
use Rattle.kinds.proofs.Prefixes.{◌≼◌, ≼_cons}

abbrev pub Before : Pos → Pos → Type 0
Before p q = before p q ≡ true

pub before_irrefl : (p : Pos) → Before p p → ⊥
before_irrefl [] e = false≢true e
before_irrefl (i ∷ p) e = ⊎_elim (λ (l : ltb i i ≡ true). let h = ltb_is i i l in omega arith)
    (λ (t : (eqb i i && before p p) ≡ true). before_irrefl p (and_r (eqb i i) t)) (or_case (ltb i i) e)

pub before_trans : (p q r : Pos) → Before p q → Before q r → Before p r
before_trans [] [] r a b = absurd (false≢true a)
before_trans [] (j ∷ q) [] a b = absurd (false≢true b)
before_trans [] (j ∷ q) (k ∷ r) a b = refl
before_trans (i ∷ p) [] r a b = absurd (false≢true a)
before_trans (i ∷ p) (j ∷ q) [] a b = absurd (false≢true b)
before_trans (i ∷ p) (j ∷ q) (k ∷ r) a b = go (or_case (ltb i j) a) (or_case (ltb j k) b) (before_trans p q r)
  where
    go : (ltb i j ≡ true) ⊎ ((eqb i j && before p q) ≡ true) → (ltb j k ≡ true) ⊎ ((eqb j k && before q r) ≡ true)
        → (Before p q → Before q r → Before p r) → Before (i ∷ p) (k ∷ r)
    go (inl x) (inl y) ih = let u = ltb_is i j x in let v = ltb_is j k y in or_l _ (is_ltb i k (omega arith))
    go (inl x) (inr y) ih = let u = ltb_is i j x in let v = eqb_is j k (and_l (before q r) y) in or_l _ (is_ltb i k (omega arith))
    go (inr x) (inl y) ih = let u = eqb_is i j (and_l (before p q) x) in let v = ltb_is j k y in or_l _ (is_ltb i k (omega arith))
    go (inr x) (inr y) ih =
        let u = eqb_is i j (and_l (before p q) x) in
        let v = eqb_is j k (and_l (before q r) y) in
        or_r (ltb i k) (both {a = eqb i k} (is_eqb i k (u ∙ v)) (ih (and_r (eqb i j) x) (and_r (eqb j k) y)))

pub before_total : (p q : Pos) → Before p q ⊎ ((p ≡ q) ⊎ Before q p)
before_total [] [] = inr (inl refl)
before_total [] (j ∷ q) = inl refl
before_total (i ∷ p) [] = inr (inr refl)
before_total (i ∷ p) (j ∷ q) = go (order i j) (before_total p q)
  where
    go : Order i j → Before p q ⊎ ((p ≡ q) ⊎ Before q p) → Before (i ∷ p) (j ∷ q) ⊎ (((i ∷ p) ≡ (j ∷ q)) ⊎ Before (j ∷ q) (i ∷ p))
    go (less l) ih = inl (or_l _ (is_ltb i j l))
    go (more l) ih = inr (inr (or_l _ (is_ltb j i l)))
    go (equal e) (inl h) = inl (or_r (ltb i j) (both {a = eqb i j} (is_eqb i j e) h))
    go (equal e) (inr (inl h)) = inr (inl (rw (e, h)))
    go (equal e) (inr (inr h)) = inr (inr (or_r (ltb j i) (both {a = eqb j i} (is_eqb j i (sym e)) h)))

-- what comes before p comes before what is under p
pub before_more : (q p r : Pos) → Before q p → Before q (p ++ r)
before_more [] [] r e = absurd (false≢true e)
before_more [] (j ∷ p) r e = refl
before_more (i ∷ q) [] r e = absurd (false≢true e)
before_more (i ∷ q) (j ∷ p) r e =
    ⊎_elim (λ (l : ltb i j ≡ true). or_l _ l)
    (λ (t : (eqb i j && before q p) ≡ true). or_r (ltb i j) (both {a = eqb i j} (and_l (before q p) t) (before_more q p r (and_r (eqb i j) t))))
    (or_case (ltb i j) e)

-- what p comes before, and is not under p, what is under p comes before
pub more_before : (p r q : Pos) → Before p q → (q ≼ p → ⊥) → Before (p ++ r) q
more_before [] r [] e n = absurd (false≢true e)
more_before [] r (j ∷ q) e n = absurd (n (record { by = j ∷ q; eq = refl }))
more_before (i ∷ p) r [] e n = absurd (false≢true e)
more_before (i ∷ p) r (j ∷ q) e n =
    ⊎_elim (λ (l : ltb i j ≡ true). or_l _ l)
    (λ (t : (eqb i j && before p q) ≡ true). or_r (ltb i j)
    (both {a = eqb i j} (and_l (before p q) t) (more_before p r q (and_r (eqb i j) t) (λ h. n (≼_cons (eqb_is i j (and_l (before p q) t)) h)))))
    (or_case (ltb i j) e)

pub before_append : (c p q : Pos) → before (c ++ p) (c ++ q) ≡ before p q
before_append [] p q = refl
before_append (i ∷ c) p q = rw (is_eqb i i refl, ltb_irrefl i) (before_append c p q)

pub child_before : (p : Pos) (i j : ℕ) → i < j → Before (p ++ (i ∷ [])) (p ++ (j ∷ []))
child_before p i j l = before_append p (i ∷ []) (j ∷ []) ∙ or_l _ (is_ltb i j l)

pub ordered_unique : (xs ys : List Pos) → Pairwise Before xs → Pairwise Before ys → xs ⊆ ys → ys ⊆ xs → xs ≡ ys
ordered_unique [] [] a b f g = refl
ordered_unique [] (y ∷ ys) a b f g = elim (g y (here refl)) [ ]
ordered_unique (x ∷ xs) [] a b f g = elim (f x (here refl)) [ ]
ordered_unique (x ∷ xs) (y ∷ ys) a b f g =
    rw first (ap (λ l. y ∷ l) (ordered_unique xs ys a.1 b.1 (λ z m. left z m (f z (there m))) (λ z m. right z m (g z (there m)))))
  where
    heads : x ∈ (y ∷ ys) → y ∈ (x ∷ xs) → x ≡ y
    heads (here e) j = e
    heads (there i) (here e) = sym e
    heads (there i) (there j) = absurd (before_irrefl x (before_trans x y x (a.0 y j) (b.0 x i)))

    first : x ≡ y
    first = heads (f x (here refl)) (g y (here refl))

    left : (z : Pos) → z ∈ xs → z ∈ (y ∷ ys) → z ∈ ys
    left z m (here e) = absurd (before_irrefl x (a.0 x (rw (first, ← e) m)))
    left z m (there i) = i

    right : (z : Pos) → z ∈ ys → z ∈ (x ∷ xs) → z ∈ xs
    right z m (here e) = absurd (before_irrefl y (b.0 y (rw (← first, ← e) m)))
    right z m (there i) = i

pub before_asym : (p q : Pos) → before p q ≡ true → before q p ≡ false
before_asym p q e = not_true (before q p) (λ d. before_irrefl p (before_trans p q p e d))

pub before_pass : (p q r : Pos) → before q p ≡ false → before r q ≡ false → before r p ≡ false
before_pass p q r a b = not_true (before r p) (λ d. go d (before_total p q))
  where
    go : before r p ≡ true → Before p q ⊎ ((p ≡ q) ⊎ Before q p) → ⊥
    go d (inl c) = false≢true (sym b ∙ before_trans r p q d c)
    go d (inr (inl c)) = false≢true (sym b ∙ rw (← c) d)
    go d (inr (inr c)) = false≢true (sym a ∙ c)
