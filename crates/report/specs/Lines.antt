-- The lines as calls write them into a lent buffer, which must have 1,400 bytes: the longest line fits.
--   LineOutcome           an answer, and the buffer as it is then
--   written       the text at the buffer's start and its length, or 30 for a buffer that is too short
--   written_if    a text that there may not be: 30, then 34 where there is none
--   line_out first_out refusal_out  a match's line, the first line, a refusal's line
--   written_says  the answer in document 01's numbers
use Rattle.std.specs.Prelude.{ℕ, List, [], ◌∷◌, leb, length, Err, Ok, Result}
use Rattle.std.proofs.Math.Option.{Option, none, some}
use Rattle.std.proofs.lemmas.List.Edits.{sets}
use Rattle.kinds.specs.Limits.{line_room}
use Rattle.kinds.specs.Lists.{unless}
use Rattle.kinds.specs.Reasons.{Says, gives, refuses}
use Rattle.kinds.specs.declared.Reason.{Reason}
use Rattle.kinds.specs.declared.Reason.TheVariants.{ShortBuffers, OutOfRange}
use Rattle.counting.specs.Counting.{match_at}
use Rattle.report.specs.Text.{line, first_line, refusal_text}
use Rattle.report.specs.declared.Totals.{Totals}

pub record LineOutcome : Type 0 where
  pub answer : Result ℕ Reason
  pub out : List ℕ

abbrev pub out_of : Result ℕ Reason → List ℕ → LineOutcome
out_of a o = record { answer = a; out = o }

unfoldable pub written : List ℕ → List ℕ → LineOutcome
written text o = unless (leb line_room (length o)) (out_of (Err ShortBuffers) o) (out_of (Ok (length text)) (sets o 0 text))

abbrev pub written_if : Option (List ℕ) → List ℕ → LineOutcome
written_if (some text) o = written text o
written_if none o = unless (leb line_room (length o)) (out_of (Err ShortBuffers) o) (out_of (Err OutOfRange) o)

abbrev pub line_out : List ℕ → ℕ → ℕ → List ℕ → LineOutcome
line_out spans x j o = written_if (line spans (match_at x j)) o

abbrev pub first_out : Totals → List ℕ → LineOutcome
first_out t o = written (first_line t) o

abbrev pub refusal_out : Reason → ℕ → List ℕ → LineOutcome
refusal_out r p o = written (refusal_text r p) o

abbrev pub written_says : Result ℕ Reason → Says
written_says (Ok n) = gives (n ∷ [])
written_says (Err r) = refuses r 0
