-- Refusals 7 to 17, at word indices. "Within shapes: 12 where a shape begins; else at each node 8, 7, 10, 11; then 9 when the shape is complete.
-- Within score, at each node: 14, 13, 17, 15; then 16."
--   shape_limits     16 nodes from a shape's first word
--   score_limits     4,096 nodes, and no blanks
--   shape_reason     the reason of a fault in a shape; score_reason: in the score
--   shapes_met another  what shapes were met with: how many, and the depth of the deepest; with one more
--   ShapesRead       an answer, and the starts of the shapes that were whole before it
--   shapes_from      the shapes from a word on, after those met, with room for c more
--   shapes_of        1 to 16 shapes and nothing left over
--   score_of         one tree and nothing left over
use Rattle.kinds.specs.declared.Refusal.{Refusal}
use Rattle.kinds.specs.Reasons.{refused_at}
use Rattle.std.specs.Prelude.{ℕ, zero, suc, ◌+◌, max, List, [], ◌∷◌, Bool, cond, ltb, leb, length, get_or, Err, Ok, Result}
use Rattle.kinds.specs.Limits.{most_shapes, shape_nodes, shape_levels, score_nodes, score_levels, no_blank}
use Rattle.term.specs.Reading.{limits, reading}
use Rattle.term.specs.declared.Limits.{Limits}
use Rattle.term.specs.declared.Met.{Met}
use Rattle.term.specs.declared.Fault.{Fault}
use Rattle.term.specs.declared.Fault.TheVariants.{Ends, NoSymbol, Many, Deep}
use Rattle.kinds.specs.declared.Reason.{Reason}
use Rattle.kinds.specs.declared.Reason.TheVariants as reason
use Rattle.contents.specs.declared.ShapesMet.{ShapesMet}

abbrev pub shape_limits : ℕ → ℕ → Limits
shape_limits bl at = limits bl (at + shape_nodes)

abbrev pub score_limits : ℕ → Limits
score_limits at = limits no_blank (at + score_nodes)

abbrev pub shape_reason : Fault → Reason
shape_reason Ends = reason.ShapeEnds
shape_reason NoSymbol = reason.ShapeWord
shape_reason Many = reason.ShapeNodes
shape_reason Deep = reason.ShapeDepth

abbrev pub score_reason : Fault → Reason
score_reason Ends = reason.ScoreEnds
score_reason NoSymbol = reason.ScoreWord
score_reason Many = reason.ScoreNodes
score_reason Deep = reason.ScoreDepth

abbrev pub shapes_met : ℕ → ℕ → ShapesMet
shapes_met n d = record { number = n; depth = d }

abbrev pub another : ShapesMet → Met → ShapesMet
another k m = shapes_met (k.number + 1) (max k.depth m.depth)

pub record ShapesRead : Type 0 where
  pub answer : Result ShapesMet Refusal
  pub starts : List ℕ

abbrev pub shapes_read : Result ShapesMet Refusal → List ℕ → ShapesRead
shapes_read a s = record { answer = a; starts = s }

abbrev pub push : ℕ → ShapesRead → ShapesRead
push at r = shapes_read r.answer (at ∷ r.starts)

-- the shape at `at`, whose first word is a blank or not, and then what comes after it
abbrev pub one_shape : Result Met (Fault × ℕ) → ℕ → Bool → (Met → ShapesRead) → ShapesRead
one_shape (Err (f, p)) at lone k = shapes_read (Err (refused_at (shape_reason f) p)) []
one_shape (Ok m) at lone k = cond lone (shapes_read (Err (refused_at reason.LoneBlank at)) []) (push at (k m))

unfoldable pub shapes_from : List ℕ → ℕ → List ℕ → ℕ → ShapesMet → ℕ → ShapesRead
shapes_from ar bl ws zero k at = cond (ltb at (length ws)) (shapes_read (Err (refused_at reason.Shapes at)) []) (shapes_read (Ok k) [])
shapes_from ar bl ws (suc c) k at =
    cond (ltb at (length ws))
    (one_shape (reading ar ws (shape_limits bl at) shape_levels at) at (leb bl (get_or ws at 0)) (λ m. shapes_from ar bl ws c (another k m) m.end))
    (shapes_read (Ok k) [])

unfoldable pub shapes_of : List ℕ → ℕ → List ℕ → ShapesRead
shapes_of ar bl ws = cond (ltb 0 (length ws)) (shapes_from ar bl ws most_shapes (shapes_met 0 0) 0) (shapes_read (Err (refused_at reason.Shapes 0)) [])

abbrev pub whole_score : Result Met (Fault × ℕ) → ℕ → Result Met Refusal
whole_score (Err (f, p)) n = Err (refused_at (score_reason f) p)
whole_score (Ok m) n = cond (ltb m.end n) (Err (refused_at reason.Surplus m.end)) (Ok m)

unfoldable pub score_of : List ℕ → List ℕ → Result Met Refusal
score_of ar ws = whole_score (reading ar ws (score_limits 0) score_levels 0) (length ws)
