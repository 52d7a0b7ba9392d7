-- The setting of demands 2 and 3: one file that opens, whose build is accepted, and a walk over it that is started; the buffers lent are any.
--   OpenFile        a file that opens, and the buffers lent to opening
--   symbols_in …    what opening wrote, each by the count answered
--   shapes_in score_in  the terms that opening read
--   OneFile         the two calls behind it, each with what the one before it wrote; and the words that a step is lent behind the plan, which are any
--   buffer_in plan_in begun_in  the buffer as building left it, the plan in it; the walk that starting began
--   lent_in         the plan words lent to a step: the plan, and what is lent behind it. None behind it is the plan alone; the rest of its buffer behind it
--                   is the whole buffer (`Demand3.in_Buffer`)
--   after           the walk after any choices, each step "lent the same buffers and record as the one before left them"
--   step_after      one more step then
--   accepted_in     how many of the choices were accepted
--   after_lists list_after  the walk after any lists of choices, each call lent what the one before left; one more list then
--   singly_in accepted_by_lists  the choices of such lists that were accepted, in order; how many the answers say that they are
--   reported        the text that find prints: "find use[s] the stored number"
use Rattle.std.specs.Prelude.{◌≡◌, List, ◌++◌, ℕ, length, take, Ok, Some}
use Rattle.term.specs.Terms.{Term}
use Rattle.folio.specs.Opening.{Lent, opened}
use Rattle.folio.specs.Folio.{shape_terms, score_term}
use Rattle.folio.specs.declared.Counts.{Counts}
use Rattle.plan.specs.Building.{build_of}
use Rattle.plan.specs.declared.Size.{Size}
use Rattle.walk.specs.Starting.{Walk, WalkOutcome, started}
use Rattle.walk.specs.Stepping.{stepped, run, accepted}
use Rattle.walk.specs.declared.Record.{Record}
use Rattle.listing.specs.Listing.{ListOutcome, listed, run_lists, singly, accepted_by}
use Rattle.report.specs.Text.{report}
use Rattle.kinds.specs.Members.{Below}
use Rattle.promises.specs.Reported.{totals_of}

pub record OpenFile (file : List ℕ) : Type 0 where
  pub bytes : Below 256 file
  pub tables : Lent
  pub counts : Counts
  pub opens : (opened file tables).answer ≡ Ok counts

module _ {file : List ℕ} (O : OpenFile file) where
  abbrev pub symbols_in : List ℕ
  symbols_in = take O.counts.symbols file

  abbrev pub words_in : List ℕ
  words_in = take O.counts.words (opened file O.tables).tables.words

  abbrev pub starts_in : List ℕ
  starts_in = take O.counts.shapes (opened file O.tables).tables.starts

  abbrev pub nodes_in : List ℕ
  nodes_in = take O.counts.nodes (opened file O.tables).tables.score

  abbrev pub spans_in : List ℕ
  spans_in = take O.counts.nodes (opened file O.tables).tables.spans

  abbrev pub shapes_in : List Term
  shapes_in = shape_terms symbols_in words_in

  abbrev pub score_in : Term
  score_in = score_term symbols_in nodes_in

pub record OneFile {file : List ℕ} (O : OpenFile file) : Type 0 where
  pub plan : List ℕ
  pub scratch : List ℕ
  pub size : Size
  pub builds : (build_of (symbols_in O) (words_in O) (starts_in O) plan scratch).answer ≡ Ok size
  pub behind : List ℕ
  pub walk : Walk
  pub first : Record
  pub starts : (started (symbols_in O) (nodes_in O) (spans_in O) walk).answer ≡ Ok first

module _ {file : List ℕ} {O : OpenFile file} (S : OneFile O) where
  abbrev pub buffer_in : List ℕ
  buffer_in = (build_of (symbols_in O) (words_in O) (starts_in O) S.plan S.scratch).plan

  abbrev pub plan_in : List ℕ
  plan_in = take S.size.words buffer_in

  abbrev pub lent_in : List ℕ
  lent_in = plan_in ++ S.behind

  abbrev pub begun_in : Walk
  begun_in = (started (symbols_in O) (nodes_in O) (spans_in O) S.walk).walk

  abbrev pub after : List ℕ → Walk
  after choices = run lent_in (nodes_in O) (spans_in O) choices begun_in

  abbrev pub step_after : List ℕ → ℕ → WalkOutcome
  step_after choices i = stepped lent_in (nodes_in O) (spans_in O) i (after choices)

  abbrev pub accepted_in : List ℕ → ℕ
  accepted_in choices = accepted lent_in (nodes_in O) (spans_in O) choices begun_in

  abbrev pub after_lists : List (List ℕ) → Walk
  after_lists lists = run_lists lent_in (nodes_in O) (spans_in O) lists begun_in

  abbrev pub list_after : List (List ℕ) → List ℕ → ListOutcome
  list_after lists choices = listed lent_in (nodes_in O) (spans_in O) choices (after_lists lists)

  abbrev pub singly_in : List (List ℕ) → List ℕ
  singly_in lists = singly lent_in (nodes_in O) (spans_in O) lists begun_in

  abbrev pub accepted_by_lists : List (List ℕ) → ℕ
  accepted_by_lists lists = accepted_by lent_in (nodes_in O) (spans_in O) lists begun_in

  abbrev pub reported : List ℕ → List ℕ
  reported choices =
      let w : Walk = after choices in
      report (totals_of (words_in O) (starts_in O) (spans_in O) O.counts.depth (Some S.size.states) w.count.matches (take (length (spans_in O)) w.marks)) (spans_in O)
      w.marks
