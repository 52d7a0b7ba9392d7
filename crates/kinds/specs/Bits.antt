-- Bits of a mark or a mask.
--   bit       bit j of m, 0 or 1
--   clear_bit  1 if bit j of m is clear, else 0
--   with_bit  m with bit j set
--   sum_to      f 0 + f 1 + … + f (k - 1)
use Rattle.std.specs.Prelude.{ℕ, zero, suc, ◌+◌, ◌-◌, ◌/◌, ◌%◌, ◌^◌, cond, eqb}

abbrev pub bit : ℕ → ℕ → ℕ
bit m j = m / 2 ^ j % 2

abbrev pub clear_bit : ℕ → ℕ → ℕ
clear_bit m j = 1 - bit m j

abbrev pub with_bit : ℕ → ℕ → ℕ
with_bit m j = cond (eqb (bit m j) 1) m (m + 2 ^ j)

abbrev pub sum_to : ℕ → (ℕ → ℕ) → ℕ
sum_to zero f = 0
sum_to (suc k) f = f 0 + sum_to k (λ j. f (suc j))
