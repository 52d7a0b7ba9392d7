-- "First line: nodes, states, matches (ones in all marks), clashes. Then one line a match, by node, then shape: node, shape, path in dotted child
-- numbers, the root as `-`. A refusal prints only `refused N at P`." "find prints a last field, `depth D`, the score's, on the first line". Every line ends
-- with a line feed; a text is its bytes.
--   digits_to     a number in decimal, of at most d digits; digits: of any length that is met
--   dotted        child numbers, each behind a dot
--   path_text      a position, the root as `-`
--   field         a text and a number behind it
--   match_line    one match, its node's position given
--   line          the same by the spans; none where they do not have the node
--   states_field  the number of states behind its name; `states -` where there is no plan (document 02, wish 6)
--   first_line    its numbers, each behind its name
--   text_of        a text that there is
--   lines         by node, then shape; a match whose node the spans do not have has no line
--   report        over the first line's numbers, the spans of the n nodes and the marks
--   refusal_text  what a refusal prints
--   step_of path_in numbers_in  what the parts of the code answer: a child, a path at a buffer's start, how many numbers it has
use Rattle.std.specs.Prelude.{ℕ, zero, suc, ◌+◌, ◌/◌, ◌%◌, List, [], ◌∷◌, ◌++◌, cond, ltb, length, take, None, Some, Option as Optional}
use Rattle.std.proofs.Math.Option.{Option, none, some, map}
use Rattle.kinds.specs.Limits.{number_digits}
use Rattle.kinds.specs.Lists.{gather}
use Rattle.kinds.specs.Positions.{Pos}
use Rattle.kinds.specs.Reasons.{number_of}
use Rattle.kinds.specs.declared.Reason.{Reason}
use Rattle.counting.specs.Counting.{Match, found_in}
use Rattle.report.specs.Quoted.{bytes}
use Rattle.report.specs.Paths.{path_of}
use Rattle.report.specs.declared.Totals.{Totals}

unfoldable pub digits_to : ℕ → ℕ → List ℕ
digits_to zero n = []
digits_to (suc d) n = cond (ltb n 10) ((48 + n) ∷ []) (digits_to d (n / 10) ++ ((48 + n % 10) ∷ []))

-- twenty digits hold any number that a machine word holds
unfoldable pub digits : ℕ → List ℕ
digits n = digits_to number_digits n

unfoldable pub dotted : Pos → List ℕ
dotted p = gather (λ i. bytes "." ++ digits i) p

unfoldable pub path_text : Pos → List ℕ
path_text [] = bytes "-"
path_text (i ∷ p) = digits i ++ dotted p

-- a text and a number behind it
abbrev pub field : List ℕ → ℕ → List ℕ
field text n = text ++ digits n

abbrev pub match_line : Match → Pos → List ℕ
match_line m p = digits m.node ++ (field (bytes " ") m.shape ++ (bytes " " ++ (path_text p ++ bytes "\n")))

abbrev pub line : List ℕ → Match → Option (List ℕ)
line spans m = map (match_line m) (path_of spans m.node)

abbrev pub states_field : Optional ℕ → List ℕ
states_field (Some n) = field (bytes " states ") n
states_field None = bytes " states -"

abbrev pub first_line : Totals → List ℕ
first_line t =
    field (bytes "nodes ") t.nodes
    ++ (states_field t.states
    ++ (field (bytes " matches ") t.matches
    ++ (field (bytes " clashes ") t.clashes
    ++ (field (bytes " depth ") t.depth ++ bytes "\n"))))

-- a text that there is
abbrev pub text_of : Option (List ℕ) → List ℕ
text_of none = []
text_of (some text) = text

unfoldable pub lines : List ℕ → List ℕ → List ℕ
lines spans ms = gather (λ m. text_of (line spans m)) (found_in ms)

unfoldable pub report : Totals → List ℕ → List ℕ → List ℕ
report t spans marks = first_line t ++ lines spans (take (length spans) marks)

abbrev pub refusal_text : Reason → ℕ → List ℕ
refusal_text r p = field (bytes "refused ") (number_of r) ++ (field (bytes " at ") p ++ bytes "\n")

-- a step as what it finds
abbrev pub step_of : Optional (ℕ × ℕ) → Option (ℕ × ℕ)
step_of (Some (i, c)) = some (i, c)
step_of None = none

-- the path that so many numbers at a buffer's start are
abbrev pub path_in : Optional ℕ → List ℕ → Option Pos
path_in (Some n) out = some (take n out)
path_in None out = none

abbrev pub numbers_in : Optional ℕ → ℕ
numbers_in (Some n) = n
numbers_in None = 0
