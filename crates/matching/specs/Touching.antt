-- "a non-blank node … falls on the same score node": which those are, on terms.
--   symbol_places  the positions q of a shape's non-blank nodes, in document order
--   touched_at     the nodes on which they fall where the shape stands at p: the numbers of p.q
use Rattle.std.specs.Prelude.{ℕ, List, ◌++◌, not}
use Rattle.kinds.specs.Lists.{filter, gather, is_nil, perhaps}
use Rattle.kinds.specs.Positions.{Pos}
use Rattle.term.specs.Terms.{Term}
use Rattle.term.specs.Places.{head_at, dom, number}

abbrev pub symbol_places : Term → List Pos
symbol_places ℓ = filter (λ q. not (is_nil (perhaps (head_at ℓ q)))) (dom ℓ)

abbrev pub touched_at : Term → Term → Pos → List ℕ
touched_at ℓ t p = gather (λ q. perhaps (number t (p ++ q))) (symbol_places ℓ)
