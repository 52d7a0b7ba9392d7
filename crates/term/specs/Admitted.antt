-- Symbols, shapes and a score as document 01, "The folio", admits them, on terms.
--   GoodSymbols  "1 to 32 of them", each with "0 to 4" children
--   is_blank     a term of one blank
--   IsShape AreShapes   "each 1 to 16 nodes, blanks counted, at depth at most 5", not one blank
--   Limits       "1 to 32 symbols, each 0 to 4 children; 1 to 16 shapes": what a plan is built from
--   IsScore      "one tree in preorder without blanks, 1 to 4,096 nodes, depth at most 64"
use Rattle.std.specs.Prelude.{◌≡◌, List, Bool, true, false, ℕ, ◌≤◌, length}
use Rattle.std.proofs.Math.Option.{some}
use Rattle.std.proofs.Math.ListN.{get_elem?}
use Rattle.kinds.specs.Limits.{most_symbols, most_children, most_shapes, shape_nodes, score_nodes, blank_word, no_blank}
use Rattle.kinds.specs.Members.{◌∈◌}
use Rattle.term.specs.Terms.{Term, blank, node, span, depth, Fits, Whole}

pub record GoodSymbols (ar : List ℕ) : Type 0 where
  pub some_symbol : 1 ≤ length ar
  pub few_symbols : length ar ≤ most_symbols
  pub children : (f n : ℕ) → get_elem? ar f ≡ some n → n ≤ most_children

abbrev pub is_blank : Term → Bool
is_blank (blank w) = true
is_blank (node f ts) = false

pub record IsShape (ar : List ℕ) (t : Term) : Type 0 where
  pub fits : Fits ar blank_word t
  pub flat : depth t ≤ 5
  pub small : span t ≤ shape_nodes
  pub solid : is_blank t ≡ false

abbrev pub AreShapes : List ℕ → List Term → Type 0
AreShapes ar ts = (t : Term) → t ∈ ts → IsShape ar t

pub record Limits (ar : List ℕ) (shapes : List Term) : Type 0 where
  pub symbols : GoodSymbols ar
  pub some_shape : 1 ≤ length shapes
  pub few_shapes : length shapes ≤ most_shapes
  pub are_shapes : AreShapes ar shapes

pub record IsScore (ar : List ℕ) (t : Term) : Type 0 where
  pub fits : Fits ar no_blank t
  pub whole : Whole t
  pub flat : depth t ≤ 64
  pub small : span t ≤ score_nodes
