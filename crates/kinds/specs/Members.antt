-- Lists as finite sets.
--   _∈_     a list has an element
--   _⊆_     each element of the one is in the other
--   Pairwise   an earlier element is related to each later one
--   Below   each number is below n, as a slice of bytes (256) or of words (65,536) holds them
use Rattle.std.specs.Prelude.{◌≡◌, List, [], ◌∷◌, ℕ, ◌<◌}

infix 40 ◌∈◌
pub data ◌∈◌ {ℓ} {A : Type ℓ} (a : A) : List A → Type ℓ where
  here : {x : A} {xs : List A} → a ≡ x → a ∈ (x ∷ xs)
  there : {x : A} {xs : List A} → a ∈ xs → a ∈ (x ∷ xs)

infix 40 ◌⊆◌
abbrev pub ◌⊆◌ {ℓ} : {A : Type ℓ} → List A → List A → Type ℓ
◌⊆◌ {A = A} xs ys = (x : A) → x ∈ xs → x ∈ ys

abbrev pub Below : ℕ → List ℕ → Type 0
Below n ws = (w : ℕ) → w ∈ ws → w < n

module _ {A : Type 0} (R : A → A → Type 0) where
  abbrev pub Pairwise : List A → Type 0
  Pairwise [] = Unit {0}
  Pairwise (x ∷ xs) = ((y : A) → y ∈ xs → R x y) × Pairwise xs
