-- Any call that answers what it finds, or 34: it is enough that it answers all that there is to find, and finds something or refuses.
use mathlib.Core.Path.{◌≡◌, ap, sym, ◌∙◌, subst}
use mathlib.Core.List.{List}
use mathlib.Core.Logic.{◌⊎◌, inl, inr}
use Prim.Native.Nat.{ℕ}
use native.Mathlib.Omega.{arith}
use Rattle.kinds.specs.Reasons.{Says, gives, refusal}
use Rattle.promises.specs.Found.{FoundRow, nothing, finds}
use Rattle.promises.specs.Told.{By}

no_refusal : (vs : List ℕ) → gives vs ≡ refusal 34 0 → ⊥
no_refusal vs e = let z : ◌≡◌ {A = ℕ} 0 34 = ap (λ (s : Says). s.number) e in omega arith

module _ {A B : Type 0} (Found : A → Type 0) (values : A → List ℕ) (says : B → Says) (refused : B) (answer : A → B) (outcome : B) where
  pub by_found : says refused ≡ refusal 34 0 → ((a : A) → says (answer a) ≡ gives (values a)) → ((a : A) → Found a → outcome ≡ answer a)
      → ((a : A) × Found a) ⊎ (outcome ≡ refused) → By (FoundRow Found values) (says outcome)
  by_found says-34 says-it is either = (row either, only)
    where
      found_says : (a : A) → Found a → says outcome ≡ gives (values a)
      found_says a h = ap says (is a h) ∙ says-it a

      row : ((a : A) × Found a) ⊎ (outcome ≡ refused) → FoundRow Found values (says outcome)
      row (inl x) = subst (FoundRow Found values) (sym (found_says x.0 x.1)) (finds x.0 x.1)
      row (inr e) =
          let refusing : says outcome ≡ refusal 34 0 = ap says e ∙ says-34 in
          subst (FoundRow Found values) (sym refusing) (nothing (λ a h. no_refusal (values a) (sym (found_says a h) ∙ refusing)))

      refuses : ((a : A) → Found a → ⊥) → ((a : A) × Found a) ⊎ (outcome ≡ refused) → says outcome ≡ refusal 34 0
      refuses n (inl x) = absurd (n x.0 x.1)
      refuses n (inr e) = ap says e ∙ says-34

      only : (o : Says) → FoundRow Found values o → says outcome ≡ o
      only _ (nothing n) = refuses n either
      only _ (finds a h) = found_says a h
