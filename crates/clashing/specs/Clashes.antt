-- "Two matches clash if a non-blank node of each falls on the same score node"; "the clash number counts matches that clash with at least one other."
-- Here `nodes` tells the score nodes on which a match's non-blank nodes fall, and `all` are the matches.
--   meet          two lists of nodes have one in common
--   clash         two matches clash
--   other         two matches differ
--   clashing      a match clashes with at least one other
--   clash_number  how many do
--   nodes_in      those nodes by the terms: of the shapes, and of the score at the position that the node's number has
--   nodes_of      the same by the tables: shape words, starts and spans
use Rattle.std.specs.Prelude.{ℕ, List, Bool, not, ◌&&◌, eqb, length}
use Rattle.std.proofs.Math.ListN.{get_elem?}
use Rattle.kinds.specs.Limits.{blank_word}
use Rattle.kinds.specs.Lists.{any, filter, gather, perhaps}
use Rattle.term.specs.Terms.{Term}
use Rattle.term.specs.Places.{place}
use Rattle.counting.specs.Counting.{Match}
use Rattle.matching.specs.Shapes.{shape_at}
use Rattle.matching.specs.Falling.{touched}
use Rattle.matching.specs.Touching.{touched_at}

abbrev pub meet : List ℕ → List ℕ → Bool
meet xs ys = any (λ x. any (eqb x) ys) xs

abbrev pub other : Match → Match → Bool
other m o = not (eqb m.node o.node && eqb m.shape o.shape)

module _ (nodes : Match → List ℕ) where
  abbrev pub clash : Match → Match → Bool
  clash m o = meet (nodes m) (nodes o)

  abbrev pub clashing : List Match → Match → Bool
  clashing all m = any (λ o. other m o && clash m o) all

  unfoldable pub clash_number : List Match → ℕ
  clash_number all = length (filter (clashing all) all)

abbrev pub nodes_in : List Term → Term → Match → List ℕ
nodes_in shapes t m = gather (λ ℓ. gather (touched_at ℓ t) (perhaps (place t m.node))) (perhaps (get_elem? shapes m.shape))

unfoldable pub nodes_of : List ℕ → List ℕ → List ℕ → Match → List ℕ
nodes_of ws st spans m = touched blank_word spans (shape_at ws st m.shape) m.node
