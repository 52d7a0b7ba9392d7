-- What a call says in document 01's numbers, and what it leaves in the buffers.
--   Told   both
--   By     what is told has a row, and every row that applies tells this
use Rattle.std.specs.Prelude.{◌≡◌}
use Rattle.kinds.specs.Reasons.{Says}

pub record Told (B : Type 0) : Type 0 where
  pub says : Says
  pub left : B

abbrev pub told : {B : Type 0} → Says → B → Told B
told s b = record { says = s; left = b }

abbrev pub By : {A : Type 0} → (A → Type 0) → A → Type 0
By {A} Row outcome = Row outcome × ((o : A) → Row o → outcome ≡ o)
