-- Sums of a number for each element.
--   sum_same sum_append sum_map sum_zero sum_perm
use mathlib.Core.Path.{◌≡◌, refl, ap, sym, ◌∙◌}
use mathlib.Core.List.{List, [], ◌∷◌, ◌++◌, map}
use Prim.Native.Nat.{ℕ, ◌+◌}
use native.Mathlib.Omega.{arith}
use native.Mathlib.Nat.{zero-add}
use Rattle.kinds.specs.Lists.{sum}
use Rattle.kinds.proofs.Members.{Perm, done, keep, swap, then}
use Rattle.kinds.specs.Members.{◌∈◌, here, there}

module _ {ℓ} {A : Type ℓ} where
  pub sum_same : (F G : A → ℕ) (xs : List A) → ((x : A) → x ∈ xs → F x ≡ G x) → sum (map F xs) ≡ sum (map G xs)
  sum_same F G [] h = refl
  sum_same F G (x ∷ xs) h = rw (h x (here refl), sum_same F G xs (λ y m. h y (there m)))

  pub sum_append : (F : A → ℕ) (xs ys : List A) → sum (map F (xs ++ ys)) ≡ sum (map F xs) + sum (map F ys)
  sum_append F [] ys = sym (zero-add _)
  sum_append F (x ∷ xs) ys = rw (sum_append F xs ys) (omega arith)

  pub sum_zero : (F : A → ℕ) (xs : List A) → ((x : A) → x ∈ xs → F x ≡ 0) → sum (map F xs) ≡ 0
  sum_zero F [] h = refl
  sum_zero F (x ∷ xs) h = rw (h x (here refl), sum_zero F xs (λ y m. h y (there m)))

  pub sum_perm : (F : A → ℕ) {xs ys : List A} → Perm xs ys → sum (map F xs) ≡ sum (map F ys)
  sum_perm F done = refl
  sum_perm F (keep x p) = ap (λ k. F x + k) (sum_perm F p)
  sum_perm F (swap x y xs) = omega arith
  sum_perm F (then p q) = sum_perm F p ∙ sum_perm F q

pub sum_map {ℓ κ} : {A : Type ℓ} {B : Type κ} (F : B → ℕ) (G : A → B) (xs : List A) → sum (map F (map G xs)) ≡ sum (map (λ x. F (G x)) xs)
sum_map F G [] = refl
sum_map F G (x ∷ xs) = ap (λ k. F (G x) + k) (sum_map F G xs)
