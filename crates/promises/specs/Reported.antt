-- The report said by matches alone, over the score's positions and the shapes: "Then one line a match, by node, then shape: node, shape, path in dotted child
-- numbers, the root as `-`." A node's number is its place in document order, which is preorder.
--   MatchIn         a match: where it stands, and the numbers of its node and its shape
--   match_one       a shape's match at a position, if it matches there
--   matches_at      the shapes that match at a position, ascending
--   matches_in      those of every position, in document order
--   totals_in       the numbers of the first line: "nodes, states, matches …, clashes", "a last field, `depth D`, the score's"; which matches clash is said
--                   in `Clashes` (clashing/specs), over the shapes' and the score's positions
--   totals_of       the same by the tables, the stored number of matches and the marks
--   report_in       the text: the first line, then the lines
use Rattle.std.specs.Prelude.{List, [], ◌∷◌, ◌++◌, map, Bool, cond, ℕ, length, Option}
use Rattle.kinds.specs.Lists.{gather, concat, map_at}
use Rattle.kinds.specs.Positions.{Pos}
use Rattle.term.specs.Terms.{Term, span, depth}
use Rattle.term.specs.Places.{dom}
use Rattle.counting.specs.Counting.{Match, match_at, found_in}
use Rattle.clashing.specs.Clashes.{clash_number, nodes_in, nodes_of}
use Rattle.report.specs.declared.Totals.{Totals}
use Rattle.report.specs.Text.{match_line, first_line}

pub record MatchIn : Type 0 where
  pub place : Pos
  pub match : Match

-- test says which shape matches at which position of the score
module _ (test : Term → Pos → Bool) (shapes : List Term) where
  abbrev pub match_one : ℕ → Pos → ℕ → Term → List MatchIn
  match_one x p j ℓ = cond (test ℓ p) (record { place = p; match = match_at x j } ∷ []) []

  abbrev pub matches_at : ℕ → Pos → List MatchIn
  matches_at x p = concat (map_at (match_one x p) 0 shapes)

  abbrev pub matches_in : Term → List MatchIn
  matches_in t = concat (map_at matches_at 0 (dom t))

abbrev pub totals_in : List MatchIn → List Term → Term → Option ℕ → Totals
totals_in ms shapes t states = record {
  nodes = span t;
  states = states;
  matches = length ms;
  clashes = clash_number (nodes_in shapes t) (map (λ m. m.match) ms);
  depth = depth t;
}

abbrev pub report_in : (Term → Pos → Bool) → List Term → Term → Option ℕ → List ℕ
report_in test shapes t states =
    let ms = matches_in test shapes t in
    first_line (totals_in ms shapes t states) ++ gather (λ m. match_line m.match m.place) ms

-- d is the score's depth, ms are the marks of the nodes
abbrev pub totals_of : List ℕ → List ℕ → List ℕ → ℕ → Option ℕ → ℕ → List ℕ → Totals
totals_of words starts spans d states number ms = record {
  nodes = length spans;
  states = states;
  matches = number;
  clashes = clash_number (nodes_of words starts spans) (found_in ms);
  depth = d;
}
