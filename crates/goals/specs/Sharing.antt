-- Inside: the first element of a list that stands in another.
--   first_shared  that element, or none
--   is_at         whether there is one
use Rattle.std.specs.Prelude.{ℕ, List, [], ◌∷◌, Bool, true, false, None, Option, Some}
use Rattle.goals.specs.WordStages.{has_code}

abbrev pub pick : Bool → Option ℕ → Option ℕ → Option ℕ
pick true a b = a
pick false a b = b

unfoldable pub first_shared : List ℕ → List ℕ → Option ℕ
first_shared [] b = None
first_shared (x ∷ xs) b = pick (has_code x b) (Some x) (first_shared xs b)

abbrev pub is_at : Option ℕ → Bool
is_at (Some x) = true
is_at None = false
