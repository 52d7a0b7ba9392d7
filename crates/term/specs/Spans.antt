-- "each score node's span (its subtree's node count)".
--   over       how many words k subtrees take, one after the other, by the spans from the first on
--   spans_of   the span of each word's node, from the last word back: itself and the subtrees of its children, which stand behind it
use Rattle.std.specs.Prelude.{ℕ, zero, suc, ◌+◌, List, [], ◌∷◌, get_or, drop}

unfoldable pub over : ℕ → List ℕ → ℕ
over zero r = 0
over (suc k) r = get_or r 0 0 + over k (drop (get_or r 0 0) r)

unfoldable pub spans_of : List ℕ → List ℕ → List ℕ
spans_of ar [] = []
spans_of ar (w ∷ ws) = suc (over (get_or ar w 0) (spans_of ar ws)) ∷ spans_of ar ws
