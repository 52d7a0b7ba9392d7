-- "a second engine that takes each node in turn and compares every shape with the subtree there"; "Refusals: 19, 31, then 30 if its marks buffer is under n"
-- (document 02, wish 6).
--   of_bits      the number with these bits, the lowest first
--   matched_at  whether each shape, laid over the score's words from a node on, stands there
--   mark_at     the node's mark: "Bit j of the mark at a node", set if shape j does
--   marks_to marks_of  the marks of the first n nodes, and of all the score's
--   answer_of    how many matches they hold, or 19, 31, 30
--   CompareOutcome out_of   an answer, and the marks as they are then
--   marks_after compared   a refusal writes nothing; else the first n marks are those, and the others keep their values
use Rattle.kinds.specs.declared.Reason.{Reason}
use Rattle.std.specs.Prelude.{ℕ, ◌+◌, ◌*◌, List, [], ◌∷◌, map, Bool, cond, length, Err, Ok, Result}
use Rattle.kinds.specs.Limits.{blank_word}
use Rattle.kinds.specs.Lists.{unless, range, onto}
use Rattle.kinds.specs.declared.Reason.TheVariants.{BadShapes}
use Rattle.checks.specs.Again.{shapes_good}
use Rattle.counting.specs.Counting.{total, counted}
use Rattle.matching.specs.Shapes.{shape_at}
use Rattle.matching.specs.Falling.{falls}

abbrev pub of_bits : List Bool → ℕ
of_bits [] = 0
of_bits (b ∷ bs) = of_bits bs * 2 + cond b 1 0

module _ (ws st score spans : List ℕ) where
  abbrev pub matched_at : ℕ → ℕ → Bool
  matched_at x j = falls blank_word score spans (shape_at ws st j) x

  unfoldable pub mark_at : ℕ → ℕ
  mark_at x = of_bits (map (matched_at x) (range 0 (length st)))

  abbrev pub marks_to : ℕ → List ℕ
  marks_to n = map mark_at (range 0 n)

  abbrev pub marks_of : List ℕ
  marks_of = marks_to (length score)

unfoldable pub answer_of : List ℕ → List ℕ → List ℕ → List ℕ → List ℕ → List ℕ → Result ℕ Reason
answer_of ar ws st score spans marks =
    unless (shapes_good ar ws st) (Err BadShapes) (counted (λ ms. Ok (total (marks_of ws st score spans))) ar score spans marks)

pub record CompareOutcome : Type 0 where
  pub answer : Result ℕ Reason
  pub marks : List ℕ

abbrev pub out_of : Result ℕ Reason → List ℕ → CompareOutcome
out_of a ms = record { answer = a; marks = ms }

abbrev pub marks_after : Result ℕ Reason → List ℕ → List ℕ → List ℕ
marks_after (Ok k) new marks = onto new marks
marks_after (Err r) new marks = marks

abbrev pub compared : List ℕ → List ℕ → List ℕ → List ℕ → List ℕ → List ℕ → CompareOutcome
compared ar ws st score spans marks =
    let a = answer_of ar ws st score spans marks in out_of a (marks_after a (marks_of ws st score spans) marks)
