-- Inside: words put one after the other into a buffer that may be too short.
--   Added   behind the first `at` words of a buffer these are put, and the rest stays; or there is no room for them
use Rattle.std.specs.Prelude.{ℕ, ◌+◌, ◌<◌, ◌≤◌, ◌≡◌, List, length, None, Option, Some}
use Rattle.std.proofs.lemmas.List.Edits.{sets}

pub data Added (made : List ℕ) (at : ℕ) (words : List ℕ) : Option ℕ → List ℕ → Type 0 where
  to : (e : ℕ) (now : List ℕ) → e ≡ at + length words → e ≤ length made → now ≡ sets made at words → Added made at words (Some e) now
  full : (now : List ℕ) → length made < at + length words → Added made at words None now
