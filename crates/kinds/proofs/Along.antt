-- Two lists of one length, each element with the one at its place.
--   Along                         a relation holds along them
--   along_append along_map along_weaken   put together; the first mapped; a weaker relation
--   along_at along_length         at one place; they are of one length
use Prim.Native.Nat.{ℕ, zero, suc}
use mathlib.Core.Path.{◌≡◌, refl, ap}
use mathlib.Core.List.{List, [], ◌∷◌, ◌++◌, map}
use mathlib.Core.Option.{some}
use lib.ListN.{length, get_elem?}
use Rattle.kinds.proofs.Options.{none_not}

pub data Along {A B : Type 0} (R : A → B → Type 0) : List A → List B → Type 0 where
  along_nil : Along R [] []
  along_cons : {a : A} {b : B} {xs : List A} {ys : List B} → R a b → Along R xs ys → Along R (a ∷ xs) (b ∷ ys)

module _ {A B : Type 0} {R : A → B → Type 0} where
  pub along_append : {xs us : List A} {ys vs : List B} → Along R xs ys → Along R us vs → Along R (xs ++ us) (ys ++ vs)
  along_append along_nil k = k
  along_append (along_cons r h) k = along_cons r (along_append h k)

  pub along_at : {xs : List A} {ys : List B} → Along R xs ys → (j : ℕ) {a : A} → get_elem? xs j ≡ some a → (b : B) × (get_elem? ys j ≡ some b) × R a b
  along_at along_nil j e = none_not e
  along_at (along_cons {a = c} {b} r h) zero {a} e = let z : c ≡ a = cc in (b, refl, rw (← z) r)
  along_at (along_cons r h) (suc j) e = along_at h j e

  pub along_length : {xs : List A} {ys : List B} → Along R xs ys → length xs ≡ length ys
  along_length along_nil = refl
  along_length (along_cons r h) = ap suc (along_length h)

  pub along_weaken : {S : A → B → Type 0} → ((a : A) (b : B) → R a b → S a b) → {xs : List A} {ys : List B} → Along R xs ys → Along S xs ys
  along_weaken f along_nil = along_nil
  along_weaken f (along_cons {a = a} {b} r h) = along_cons (f a b r) (along_weaken f h)

pub along_map : {A B C : Type 0} {R : C → B → Type 0} (f : A → C) {xs : List A} {ys : List B} → Along (λ a b. R (f a) b) xs ys → Along R (map f xs) ys
along_map f along_nil = along_nil
along_map f (along_cons r h) = along_cons r (along_map f h)
