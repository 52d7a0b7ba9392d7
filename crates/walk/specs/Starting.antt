-- "Start clears n mark words and sets one waiting item, state 0 at node 0. The record answered counts items waiting and logged nodes." It keeps the number of
-- matches too: "Start sets it to 0" (document 02, wish 5).
--   Walk         all that a walk is lent and hands back, and its record
--   WalkOutcome          an answer, and the walk as it is then
--   outcome      the outcome of a call, from its answer and the buffers that it leaves
--   refuse_walk  a refusal changes nothing
--   begun        one item waiting, n marks clear
--   started      31 before 30
--   record_values the record, as values
--   walked_says  the answer in document 01's numbers
use Rattle.std.specs.Prelude.{ℕ, ◌*◌, List, [], ◌∷◌, Bool, ◌&&◌, leb, length, replicate, Err, Ok, Result}
use Rattle.kinds.specs.Lists.{unless, onto}
use Rattle.kinds.specs.Reasons.{Says, gives, refuses}
use Rattle.kinds.specs.declared.Reason.{Reason}
use Rattle.kinds.specs.declared.Reason.TheVariants.{ShortBuffers, BadScore}
use Rattle.checks.specs.Again.{score_good}
use Rattle.walk.specs.declared.Record.{Record}

pub record Walk : Type 0 where
  pub items : List ℕ
  pub log : List ℕ
  pub marks : List ℕ
  pub count : Record

pub record WalkOutcome : Type 0 where
  pub answer : Result Record Reason
  pub walk : Walk

abbrev pub counting : ℕ → ℕ → ℕ → Record
counting w l m = record { waiting = w; logged = l; matches = m }

abbrev pub walk_of : List ℕ → List ℕ → List ℕ → Record → Walk
walk_of items log marks count = record { items = items; log = log; marks = marks; count = count }

-- what a call that was handed the record `before` answers and leaves
abbrev pub record_after : Result Record Reason → Record → Record
record_after (Ok c) before = c
record_after (Err r) before = before

abbrev pub outcome : Result Record Reason → Record → List ℕ → List ℕ → List ℕ → WalkOutcome
outcome a before items log marks = record { answer = a; walk = walk_of items log marks (record_after a before) }

abbrev pub refuse_walk : Reason → Walk → WalkOutcome
refuse_walk r w = record { answer = Err r; walk = w }

abbrev pub go_on : Walk → WalkOutcome
go_on w = record { answer = Ok w.count; walk = w }

abbrev pub begun : ℕ → Walk → Walk
begun n w = walk_of (onto (0 ∷ 0 ∷ []) w.items) w.log (onto (replicate n 0) w.marks) (counting 1 0 0)

abbrev pub room_for : ℕ → Walk → Bool
room_for n w = leb (2 * n) (length w.items) && (leb n (length w.log) && leb n (length w.marks))

-- the record that the walk had before is not looked at
unfoldable pub started : List ℕ → List ℕ → List ℕ → Walk → WalkOutcome
started ar score spans w =
    unless (score_good ar score spans) (refuse_walk BadScore w)
    (unless (room_for (length score) w) (refuse_walk ShortBuffers w)
    (go_on (begun (length score) w)))

abbrev pub record_values : Record → List ℕ
record_values c = c.waiting ∷ c.logged ∷ c.matches ∷ []

abbrev pub walked_says : Result Record Reason → Says
walked_says (Ok c) = gives (record_values c)
walked_says (Err r) = refuses r 0
