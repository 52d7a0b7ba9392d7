-- "Later calls check their tables again, each by its whole length", and the words of one subtree.
--   symbols_good  opening accepts the symbols
--   shapes_good   not 19: symbols, shape words and starts are such as opening writes or accepts
--   score_good    not 31: score words and spans are such as opening writes for these symbols
--   piece_at      the words of the term that stands whole at a word, within limits counted from there; none where there is none
--   subtree_at    "one call answers with the words of one subtree as a part of the shape table or of the score, according to which of the two was asked for"
use Rattle.term.specs.declared.Fault.{Fault}
use Rattle.term.specs.declared.Met.{Met}
use Rattle.std.specs.Prelude.{ℕ, ◌-◌, List, [], Bool, true, false, ◌&&◌, take, drop, Err, Ok, Result, is_ok}
use Rattle.kinds.specs.Lists.{same}
use Rattle.term.specs.Reading.{reading}
use Rattle.term.specs.Spans.{spans_of}
use Rattle.term.specs.declared.Limits.{Limits}
use Rattle.sections.specs.Sections.{symbols_of}
use Rattle.contents.specs.Tables.{shape_limits, score_limits, shapes_of, score_of}
use Rattle.kinds.specs.Limits.{blank_word, shape_levels, score_levels}
use Rattle.checks.specs.declared.Asked.{Asked}
use Rattle.checks.specs.declared.Asked.TheVariants as asked

unfoldable pub symbols_good : List ℕ → Bool
symbols_good ar = is_ok (symbols_of ar)

unfoldable pub shapes_good : List ℕ → List ℕ → List ℕ → Bool
shapes_good ar ws st = symbols_good ar && (is_ok (shapes_of ar blank_word ws).answer && same st (shapes_of ar blank_word ws).starts)

unfoldable pub score_good : List ℕ → List ℕ → List ℕ → Bool
score_good ar ws sp = symbols_good ar && (is_ok (score_of ar ws) && same sp (spans_of ar ws))

abbrev pub cut : List ℕ → ℕ → Result Met (Fault × ℕ) → List ℕ
cut ws at (Ok m) = take (m.end - at) (drop at ws)
cut ws at (Err (f, p)) = []

unfoldable pub piece_at : List ℕ → List ℕ → Limits → ℕ → ℕ → List ℕ
piece_at ar ws l levels at = cut ws at (reading ar ws l levels at)

abbrev pub asked_of : Asked → List ℕ → List ℕ → List ℕ → List ℕ
asked_of (asked.Shapes at) ar sh sc = piece_at ar sh (shape_limits blank_word at) shape_levels at
asked_of (asked.Score x) ar sh sc = piece_at ar sc (score_limits x.0) score_levels x.0

abbrev pub if_good : Bool → List ℕ → List ℕ
if_good true ws = ws
if_good false ws = []

-- an empty part stands for 34
unfoldable pub subtree_at : Asked → List ℕ → List ℕ → List ℕ → List ℕ
subtree_at w ar sh sc = if_good (symbols_good ar) (asked_of w ar sh sc)
