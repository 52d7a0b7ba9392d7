-- Inside: what is read of an input whose bytes are known.
use Rattle.std.specs.Prelude.{◌≡◌, ◌+◌, ◌-◌, ◌^◌, ℕ, List, ◌++◌, length, min, take, IfSome, Option}
use Rattle.std.specs.Io.KnownBytes.{Consumes, IsAtEnd}

-- the input's length is n, and its first bytes are in the file, as many as fit
abbrev pub HoldsInput : Option (List ℕ) → List ℕ → ℕ → Type 0
HoldsInput known file n = IfSome known (λ input. (n ≡ min (length input) (2 ^ 64 - 1)) × (take n file ≡ take (length file) input))

-- the same of the n bytes that were read so far
abbrev pub HoldsRead : Option (List ℕ) → Option (List ℕ) → List ℕ → ℕ → Type 0
HoldsRead old new file n = (read : List ℕ) × (n ≡ min (length read) (2 ^ 64 - 1)) × Consumes old new read × (take n file ≡ take (length file) read)

-- n bytes more were read, none only at the end, and put behind the first ones, as many as fit
abbrev pub ReadsOn : Option (List ℕ) → Option (List ℕ) → List ℕ → List ℕ → ℕ → ℕ → Type 0
ReadsOn old new before after first n = (read : List ℕ) × (length read ≡ n) × Consumes old new read × (n ≡ 0 → IsAtEnd new)
    × (take (first + n) after ≡ take (length before) (take first before ++ read))
