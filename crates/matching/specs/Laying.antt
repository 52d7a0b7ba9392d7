-- Inside: a shape's words laid over a score's nodes.
--   laid  each word, and the node on which it falls
use Rattle.std.specs.Prelude.{ℕ, ◌+◌, List, [], ◌∷◌}
use Rattle.matching.specs.Falling.{size}

unfoldable pub laid : ℕ → List ℕ → List ℕ → ℕ → List (ℕ × ℕ)
laid bl spans [] x = []
laid bl spans (w ∷ ws) x = (w, x) ∷ laid bl spans ws (x + size bl spans w x)
