-- From number to number by steps.
--   Chain   from i to j by one step, or through a third below n
--   Yes     the steps that a test allows
use Rattle.std.specs.Prelude.{ℕ, ◌<◌, ◌≡◌, Bool, true}

pub data Chain (n : ℕ) (step : ℕ → ℕ → Type 0) : ℕ → ℕ → Type 0 where
  one : {i j : ℕ} → step i j → Chain n step i j
  via : {i m j : ℕ} → m < n → Chain n step i m → Chain n step m j → Chain n step i j

abbrev pub Yes : (ℕ → ℕ → Bool) → ℕ → ℕ → Type 0
Yes R i j = R i j ≡ true
