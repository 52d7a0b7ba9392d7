-- Lists whose elements are related pairwise: an earlier one to each later one.
--   pairwise_append pairwise_filter pairwise_map pairwise_gather pairwise_range   how lists are made
--   pairwise_two pairwise_perm    where the relation is symmetric
--   pairwise_distinct             where nothing is related to itself
--   pairwise_sort                 a sorted list: no later element comes before an earlier one
use mathlib.Core.Path.{◌≡◌, refl, sym, ◌∙◌}
use mathlib.Core.Bool.{Bool, true, false, cond}
use mathlib.Core.List.{List, [], ◌∷◌, ◌++◌, map}
use mathlib.Core.Logic.{◌⊎◌, inl, inr, ⊎_elim}
use Prim.Native.Nat.{ℕ, zero, suc, ◌<◌}
use native.Mathlib.Omega.{arith}
use Rattle.kinds.specs.Lists.{filter, gather, range, insert, sort}
use Rattle.kinds.proofs.Members.{∈_append, in_filter, on_map, on_gather, in_range, Distinct, Perm, done, keep, swap, then, perm_in, perm_sym, insert_perm}
use Rattle.kinds.specs.Members.{◌∈◌, here, there, Pairwise}

module _ {A : Type 0} (R : A → A → Type 0) where
  pub pairwise_append : (xs ys : List A) → Pairwise R xs → Pairwise R ys → ((x y : A) → x ∈ xs → y ∈ ys → R x y) → Pairwise R (xs ++ ys)
  pairwise_append [] ys a b h = b
  pairwise_append (x ∷ xs) ys a b h =
      (λ y m. ⊎_elim (λ i. a.0 y i) (λ i. h x y (here refl) i) (∈_append xs m), pairwise_append xs ys a.1 b (λ u v i j. h u v (there i) j))

  pub pairwise_filter : (p : A → Bool) (xs : List A) → Pairwise R xs → Pairwise R (filter p xs)
  pairwise_filter p [] a = a
  pairwise_filter p (x ∷ xs) a = go (p x) (pairwise_filter p xs a.1)
    where
      go : (b : Bool) → Pairwise R (filter p xs) → Pairwise R (cond b (x ∷ filter p xs) (filter p xs))
      go true ih = (λ y m. a.0 y (in_filter p xs m).0, ih)
      go false ih = ih

  -- where the relation is symmetric: two elements are one, or are related
  pub pairwise_two : ((x y : A) → R x y → R y x) → (xs : List A) → Pairwise R xs → (x y : A) → x ∈ xs → y ∈ xs → (x ≡ y) ⊎ R x y
  pairwise_two sy (z ∷ xs) a x y (here e) (here d) = inl (e ∙ sym d)
  pairwise_two sy (z ∷ xs) a x y (here e) (there j) = inr (rw e (a.0 y j))
  pairwise_two sy (z ∷ xs) a x y (there i) (here d) = inr (rw d (sy z x (a.0 x i)))
  pairwise_two sy (z ∷ xs) a x y (there i) (there j) = pairwise_two sy xs a.1 x y i j
  pairwise_two sy [] a x y x5 _ = elim x5 [ ]

  -- where nothing is related to itself: no element twice
  pub pairwise_distinct : ((x : A) → R x x → ⊥) → (xs : List A) → Pairwise R xs → Distinct xs
  pairwise_distinct ir [] a = tt
  pairwise_distinct ir (x ∷ xs) a = (λ m. ir x (a.0 x m), pairwise_distinct ir xs a.1)

  -- where the relation is symmetric, the order does not matter
  pub pairwise_perm : ((x y : A) → R x y → R y x) → {xs ys : List A} → Perm xs ys → Pairwise R xs → Pairwise R ys
  pairwise_perm sy done a = tt
  pairwise_perm sy (keep x p) a = (λ y m. a.0 y (perm_in (perm_sym p) y m), pairwise_perm sy p a.1)
  pairwise_perm sy (swap x y xs) a = (first, (λ z m. a.0 z (there m), a.1.1))
    where
      first : (z : A) → z ∈ (x ∷ xs) → R y z
      first z (here e) = rw e (sy x y (a.0 y (here refl)))
      first z (there m) = a.1.0 z m
  pairwise_perm sy (then p q) a = pairwise_perm sy q (pairwise_perm sy p a)

module _ {A B : Type 0} (S : A → A → Type 0) (R : B → B → Type 0) where
  pub pairwise_map : (f : A → B) (xs : List A) → ((x y : A) → x ∈ xs → y ∈ xs → S x y → R (f x) (f y)) → Pairwise S xs → Pairwise R (map f xs)
  pairwise_map f [] h a = tt
  pairwise_map f (x ∷ xs) h a = (
    λ y m. on_map f xs m λ z i e. rw e (h x z (here refl) (there i) (a.0 z i)),
    pairwise_map f xs
        (λ u v i j. h u v (there i) (there j)) a.1,
  )

  pub pairwise_gather : (f : A → List B) (xs : List A) → ((x : A) → x ∈ xs → Pairwise R (f x))
      → ((x y : A) → x ∈ xs → y ∈ xs → S x y → (u v : B) → u ∈ f x → v ∈ f y → R u v) → Pairwise S xs → Pairwise R (gather f xs)
  pairwise_gather f [] g h a = tt
  pairwise_gather f (x ∷ xs) g h a = pairwise_append R (f x) (gather f xs) (g x (here refl))
      (pairwise_gather f xs (λ y i. g y (there i)) (λ u v i j. h u v (there i) (there j)) a.1)
      (λ u v i m. on_gather f xs m λ y j k. h x y (here refl) (there j) (a.0 y j) u v i k)

pub pairwise_range : (c n : ℕ) → Pairwise ◌<◌ (range c n)
pairwise_range c zero = tt
pairwise_range c (suc n) = (λ y m. let h = in_range n (suc c) y m in omega arith, pairwise_range (suc c) n)

-- an order of two that is no order of equals, and in which what does not come before is passed on
module _ {A : Type 0} (lt : A → A → Bool) (asym : (x y : A) → lt x y ≡ true → lt y x ≡ false)
    (pass : (x y z : A) → lt y x ≡ false → lt z y ≡ false → lt z x ≡ false) where
  abbrev NotBefore : A → A → Type 0
  NotBefore x y = lt y x ≡ false

  pairwise_insert : (a : A) (xs : List A) → Pairwise NotBefore xs → Pairwise NotBefore (insert lt a xs)
  pairwise_insert a [] p = (λ y m. elim m [ ], tt)
  pairwise_insert a (x ∷ xs) p = go (lt x a) refl (pairwise_insert a xs p.1)
    where
      later : lt x a ≡ false → (y : A) → y ∈ (x ∷ xs) → lt y a ≡ false
      later e y (here i) = rw i e
      later e y (there i) = pass a x y e (p.0 y i)

      first : lt x a ≡ true → (y : A) → y ∈ (a ∷ xs) → lt y x ≡ false
      first e y (here i) = rw i (asym x a e)
      first e y (there i) = p.0 y i

      go : (b : Bool) → lt x a ≡ b → Pairwise NotBefore (insert lt a xs) → Pairwise NotBefore (cond b (x ∷ insert lt a xs) (a ∷ x ∷ xs))
      go true e ih = (λ y m. first e y (perm_in (perm_sym (insert_perm lt a xs)) y m), ih)
      go false e ih = (later e, p)

  pub pairwise_sort : (xs : List A) → Pairwise NotBefore (sort lt xs)
  pairwise_sort [] = tt
  pairwise_sort (x ∷ xs) = pairwise_insert x (sort lt xs) (pairwise_sort xs)
