-- A walk's buffers as they are lent.
--   SameBuffers  both hold the same three references, so what is written through one is found in the caller's buffers; each is as long as before
--   walk_in      the walk in the buffers, with its record
--   outcome_in   the outcome of a call, from its answer and the buffers as it leaves them
use Rattle.kinds.specs.declared.Reason.{Reason}
use Rattle.std.specs.Prelude.{◌≡◌, Result, length}
use Rattle.walk.specs.declared.Record.{Record}
use Rattle.walk.specs.declared.Walk.{Walk}
use Rattle.walk.specs.Starting.{WalkOutcome, walk_of, outcome}
use Rattle.walk.specs.Starting as plain

pub record SameBuffers (v w : Walk) : Type 0 where
  pub waiting : v.waiting.ghost_name ≡ w.waiting.ghost_name
  pub log : v.log.ghost_name ≡ w.log.ghost_name
  pub marks : v.marks.ghost_name ≡ w.marks.ghost_name
  pub waiting_length : length v.waiting.now ≡ length w.waiting.now
  pub log_length : length v.log.now ≡ length w.log.now
  pub marks_length : length v.marks.now ≡ length w.marks.now

abbrev pub walk_in : Walk → Record → plain.Walk
walk_in w r = walk_of w.waiting.now w.log.now w.marks.now r

abbrev pub outcome_in : Result Record Reason → Record → Walk → WalkOutcome
outcome_in a before w = outcome a before w.waiting.now w.log.now w.marks.now
