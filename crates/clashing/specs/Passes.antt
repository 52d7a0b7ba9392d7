-- Inside: what the second pass counts.
--   sharing   how many matches touch a node that is counted more than once
use Rattle.std.specs.Prelude.{ℕ, List, length}
use Rattle.kinds.specs.Lists.{filter}
use Rattle.counting.specs.Counting.{Match}
use Rattle.matching.specs.Counts.{is_shared}

unfoldable pub sharing : (Match → List ℕ) → List ℕ → List Match → ℕ
sharing nodes cs all = length (filter (λ m. is_shared cs (nodes m)) all)
