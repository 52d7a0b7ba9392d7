-- Inside: the first line's numbers, of what the calls answered: "find use[s] the stored number" (document 02, wish 5); the simple finder's line has "`states -`".
--   states_by matches_by  the states and the matches, by what made the marks
--   numbers totalled      the line's numbers, or why the clashes are not counted
use Rattle.kinds.specs.declared.Reason.{Reason}
use Rattle.report.specs.declared.Totals.{Totals}
use Rattle.std.specs.Prelude.{ℕ, Err, None, Ok, Option, Result, Some}
use Rattle.folio.specs.declared.Counts.{Counts}
use Rattle.totals.specs.declared.Made.{Made}
use Rattle.totals.specs.declared.Made.TheVariants.{Walk, Comparing}

abbrev pub states_by : Made → Option ℕ
states_by (Walk s end) = Some s.states
states_by (Comparing k) = None

abbrev pub matches_by : Made → ℕ
matches_by (Walk s end) = end.matches
matches_by (Comparing k) = k

abbrev pub numbers : Counts → Option ℕ → ℕ → ℕ → Result Totals Reason
numbers c s m k = Ok (record { nodes = c.nodes; states = s; matches = m; clashes = k; depth = c.depth })

abbrev pub totalled : Counts → Made → Result ℕ Reason → Result Totals Reason
totalled c m (Ok k) = numbers c (states_by m) (matches_by m) k
totalled c m (Err r) = Err r
