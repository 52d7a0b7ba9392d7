-- "They want to lend a list of choices and have the steps taken in that order, stopping at the first refused." Document 02, wish 4.
--   taken                  how many choices were accepted, and the record after them
--   ListOutcome            an answer, and the walk as it is then
--   accepted_in record_in  of an answer: how many choices were accepted, the record after them
--   list_outcome           the outcome of a call, from its answer and the buffers that it leaves; list_outcome_in: from the lent walk
--   all_of stop_of         k choices were accepted: and these were all; and the one behind them was refused
--   one_more further       an answer, and an outcome, where one more was accepted before
--   followed               the first choice, and the others after it
--   listed                 `stepped`, one choice after the other: "here it is only the refused choice that writes nothing"
--   listed_says            the answer in numbers: "the answer, refused or not, gives how many were accepted"; a refusal is "at the choice's index"
--   run_lists              any lists, one after the other, each lent what the one before left
--   singly accepted_by     the choices of such lists that are accepted, in order; how many the answers say that they are
use Rattle.listing.specs.declared.Taken.{Taken}
use Rattle.std.specs.Prelude.{ℕ, suc, ◌+◌, List, [], ◌∷◌, ◌++◌, take, Err, Ok, Result}
use Rattle.kinds.specs.Reasons.{Says, gives, refusal_with, number_of}
use Rattle.kinds.specs.declared.Reason.{Reason}
use Rattle.walk.specs.Starting.{Walk, WalkOutcome, walk_of, record_values}
use Rattle.walk.specs.Stepping.{stepped}
use Rattle.walk.specs.declared.Record.{Record}
use Rattle.walk.specs.declared.Walk as lent

pattern abbrev pub taken : ℕ → Record → Taken
taken k c = record { 0 = k; 1 = c }

pub record ListOutcome : Type 0 where
  pub answer : Result Taken (Reason × Taken)
  pub walk : Walk

abbrev pub accepted_in : Result Taken (Reason × Taken) → ℕ
accepted_in (Ok took) = took.0
accepted_in (Err (r, took)) = took.0

abbrev pub record_in : Result Taken (Reason × Taken) → Record
record_in (Ok took) = took.1
record_in (Err (r, took)) = took.1

abbrev pub list_outcome : Result Taken (Reason × Taken) → List ℕ → List ℕ → List ℕ → ListOutcome
list_outcome a items log marks = record { answer = a; walk = walk_of items log marks (record_in a) }

abbrev pub list_outcome_in : Result Taken (Reason × Taken) → lent.Walk → ListOutcome
list_outcome_in a w = list_outcome a w.waiting.now w.log.now w.marks.now

abbrev pub all_of : ℕ → Walk → ListOutcome
all_of k w = record { answer = Ok (taken k w.count); walk = w }

abbrev pub stop_of : Reason → ℕ → Walk → ListOutcome
stop_of r k w = record { answer = Err (r, taken k w.count); walk = w }

abbrev pub one_more : Result Taken (Reason × Taken) → Result Taken (Reason × Taken)
one_more (Ok took) = Ok (taken (suc took.0) took.1)
one_more (Err (r, took)) = Err (r, taken (suc took.0) took.1)

abbrev pub further : ListOutcome → ListOutcome
further o = record { answer = one_more o.answer; walk = o.walk }

-- what the first choice came to, and what the others come to after it
abbrev pub followed : Result Record Reason → Walk → ListOutcome → ListOutcome
followed (Ok c) w others = further others
followed (Err r) w others = stop_of r 0 w

unfoldable pub listed : List ℕ → List ℕ → List ℕ → List ℕ → Walk → ListOutcome
listed plan score spans [] w = all_of 0 w
listed plan score spans (i ∷ is) w =
    let first : WalkOutcome = stepped plan score spans i w in
    followed first.answer first.walk (listed plan score spans is first.walk)

abbrev pub listed_says : Result Taken (Reason × Taken) → Says
listed_says (Ok took) = gives (took.0 ∷ record_values took.1)
listed_says (Err (r, took)) = refusal_with (number_of r) took.0 (took.0 ∷ record_values took.1)

unfoldable pub run_lists : List ℕ → List ℕ → List ℕ → List (List ℕ) → Walk → Walk
run_lists plan score spans [] w = w
run_lists plan score spans (is ∷ ls) w = run_lists plan score spans ls (listed plan score spans is w).walk

unfoldable pub singly : List ℕ → List ℕ → List ℕ → List (List ℕ) → Walk → List ℕ
singly plan score spans [] w = []
singly plan score spans (is ∷ ls) w =
    let o : ListOutcome = listed plan score spans is w in
    take (accepted_in o.answer) is ++ singly plan score spans ls o.walk

unfoldable pub accepted_by : List ℕ → List ℕ → List ℕ → List (List ℕ) → Walk → ℕ
accepted_by plan score spans [] w = 0
accepted_by plan score spans (is ∷ ls) w =
    let o : ListOutcome = listed plan score spans is w in
    accepted_in o.answer + accepted_by plan score spans ls o.walk
