-- "35 if a bit is set where no such shape matches"; a bit at or above the number of shapes is one too.
--   IsMatch   a match's shape exists and matches at its node, by the terms
--   matched   the same by the tables
--   strays    a match is none
use Rattle.std.specs.Prelude.{ℕ, ◌≡◌, List, Bool, not, ◌&&◌, ltb, length}
use Rattle.std.proofs.Math.Option.{some}
use Rattle.std.proofs.Math.ListN.{get_elem?}
use Rattle.kinds.specs.Limits.{blank_word}
use Rattle.kinds.specs.Lists.{any}
use Rattle.kinds.specs.Positions.{Pos}
use Rattle.term.specs.Terms.{Term}
use Rattle.term.specs.Places.{number, Matches}
use Rattle.counting.specs.Counting.{Match}
use Rattle.matching.specs.Shapes.{shape_at}
use Rattle.matching.specs.Falling.{falls}

pub record IsMatch (shapes : List Term) (t : Term) (m : Match) : Type 0 where
  pub shape : Term
  pub place : Pos
  pub has_shape : get_elem? shapes m.shape ≡ some shape
  pub has_node : number t place ≡ some m.node
  pub matches : Matches shape t place

unfoldable pub matched : List ℕ → List ℕ → List ℕ → List ℕ → Match → Bool
matched ws st score spans m = ltb m.shape (length st) && falls blank_word score spans (shape_at ws st m.shape) m.node

unfoldable pub strays : List ℕ → List ℕ → List ℕ → List ℕ → List Match → Bool
strays ws st score spans all = any (λ m. not (matched ws st score spans m)) all
