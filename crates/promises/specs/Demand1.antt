-- Demand 1: "every file, table and list handed to a public call gets its answer or one numbered refusal, and the call ends". For each call a table: a row has when it
-- applies, what is answered then, and every buffer as it is then. The call's outcome is the one that the table gives, for any arguments.
--   OpenRow     1 to 18, by `Refusals`; or a folio
--   BuildRow    19, 23; 20 or 21, by `OverGoals` and `OverStates` of automaton/specs (Progress); 22; or a plan
--   paper_of words_for  the paper's construction for the shapes that shape words hold; its plan's words
--   StartRow    31, 30; or a walk that is begun
--   StepRow     32, 34; or a step, by `StepFound`
--   recorded    a walk's record, as values
--   AllTaken ListRow   each of these choices is taken, one after the other; 32 or 34 at the first choice that is not; or all are taken
--   CountRow    31, 30; or the number of matches
--   ClashRow    19, 31, 30; 35 for a bit that is no match; or the number of matches that clash, by the terms
--   CompareRow  19, 31, 30; or the marks that hold exactly the matches, in front of those lent behind them, and how many matches they hold
--   PutRow      19, 31; 40 where the shape does not match there; 41 finished; 42 no replacement, by `IsLink`; 43 over 4,096 nodes or 64 deep; 44; or the
--               words of the new tree, in front of those lent behind them, and how many they are
--   line_told wrote  what is said and left in the buffer; a line at the buffer's start, the bytes behind it as they were
--   LineRow     30 for a buffer under 1,400 bytes (docs/DECISIONS.md); or the line
--   MatchRow    30; 34 for a node to which no path leads by the spans lent; or the line with the path that does
--   FoundRow    34; or what is found: in `Found`, for subtree, the plan readers and a position's child
--   open_told build_told walk_told list_told compare_told put_told  what opening, building, starting and stepping, a list of choices, comparing and putting in
--               say and leave; building leaves the plan's buffer and scratch
use Rattle.std.specs.Prelude.{◌≡◌, List, [], ◌∷◌, ◌++◌, map, ◌⊎◌, ℕ, ◌*◌, ◌<◌, ◌≤◌, length, get_or, take, drop}
use Rattle.std.proofs.Math.Option.{some}
use Rattle.std.proofs.Math.ListN.{get_elem?}
use Rattle.std.proofs.lemmas.List.Edits.{sets}
use Rattle.kinds.specs.Lists.{gather, greatest, onto}
use Rattle.kinds.specs.Reasons.{Says, gives, refusal, refusal_with}
use Rattle.kinds.specs.Kinds.{child_of, child_says}
use Rattle.kinds.specs.Positions.{Pos}
use Rattle.kinds.specs.declared.Position.{Position}
use Rattle.kinds.specs.declared.Reason.{Reason}
use Rattle.term.specs.Terms.{Term, span, depth, flatten}
use Rattle.folio.specs.Opening.{Lent, Room, OpenOutcome, opened, opened_says}
use Rattle.folio.specs.Folio.{Meaning, Shaped, GoodScore, shape_terms, score_term, answered}
use Rattle.term.specs.Admitted.{GoodSymbols}
use Rattle.checks.specs.Again.{subtree_at}
use Rattle.checks.specs.declared.Asked.{Asked}
use Rattle.sections.specs.declared.Places.{Places}
use Rattle.automaton.specs.Goals.{State}
use Rattle.automaton.specs.Paper.{Ob, paper}
use Rattle.automaton.specs.Exploring.{Construction, construction}
use Rattle.automaton.specs.Progress.{AllMet, OverGoals, OverStates, words_of, TooLong, Fits}
use Rattle.plan.specs.Building.{scratch_words, cleared, build_of, BuildOutcome, built_says}
use Rattle.walk.specs.Starting.{Walk, WalkOutcome, begun, started, walked_says}
use Rattle.walk.specs.Stepping.{stepped}
use Rattle.listing.specs.Listing.{ListOutcome, listed, listed_says}
use Rattle.counting.specs.Counting.{Match, match_at, found_in, total, matches_of, counted_says}
use Rattle.clashing.specs.Clashes.{clash_number, nodes_in}
use Rattle.clashing.specs.Strays.{IsMatch}
use Rattle.clashing.specs.Clashing.{clashes_of}
use Rattle.comparing.specs.Comparing.{CompareOutcome, compared}
use Rattle.replacing.specs.Links.{IsLink, replaced, Finished}
use Rattle.replacing.specs.Putting.{PutOutcome, put_of}
use Rattle.readers.specs.BlockWords.{middle}
use Rattle.readers.specs.PlanParts.{label_of, label_says, lengths_of, block_says, announcement_of, announcement_says, successor_of, successor_says}
use Rattle.following.specs.Following.{target, reached, reached_says}
use Rattle.report.specs.declared.Totals.{Totals}
use Rattle.report.specs.Paths.{Leads}
use Rattle.report.specs.Text.{match_line, first_line, refusal_text}
use Rattle.report.specs.Lines.{LineOutcome, line_out, first_out, refusal_out, written_says}
use Rattle.promises.specs.Found.{FoundRow, part_says, pair_values, Standing, LabelFound, BlockFound, AnnouncementFound, SuccessorFound, ChildFound, Reaches}
use Rattle.promises.specs.Told.{Told, told, By}
use Rattle.promises.specs.StepFound.{StepFound}
use Rattle.promises.specs.Exact.{Exact}
use Rattle.promises.specs.Refusals.{Given, Framed}
use Rattle.kinds.specs.Members.{◌∈◌, Below}
use Rattle.sections.specs.Sections.{symbols_at}

abbrev pub open_told : OpenOutcome → Told Lent
open_told o = told (opened_says o.answer) o.tables

abbrev pub build_told : BuildOutcome → Told (List ℕ × List ℕ)
build_told o = told (built_says o.answer) (o.plan, o.scratch)

abbrev pub walk_told : WalkOutcome → Told Walk
walk_told o = told (walked_says o.answer) o.walk

abbrev pub list_told : ListOutcome → Told Walk
list_told o = told (listed_says o.answer) o.walk

abbrev pub compare_told : CompareOutcome → Told (List ℕ)
compare_told o = told (counted_says o.answer) o.marks

abbrev pub put_told : PutOutcome → Told (List ℕ)
put_told o = told (counted_says o.answer) o.score

-- ---- opening
-- it answers the counts of symbols, shapes, shape words and nodes, "the score's depth and the deepest shape's"
pub data OpenRow (file : List ℕ) (l : Lent) : Told Lent → Type 0 where
  refused : (n p : ℕ) → Given file l n p → OpenRow file l (told (refusal n p) l)
  opens : (at : Places) → Framed file at → (m : Meaning file at) → Room l (length (gather flatten m.shapes)) (length m.shapes) (span m.score)
      → OpenRow file l (told
      (gives (length (symbols_at file at) ∷ length m.shapes ∷ length (gather flatten m.shapes) ∷ span m.score
      ∷ depth m.score ∷ greatest (map depth m.shapes) ∷ []))
      (answered (symbols_at file at) m.shapes m.score l).tables)

-- ---- building
module _ (ar ws : List ℕ) where
  abbrev pub paper_of : Construction (State Ob)
  paper_of = construction (paper (shape_terms ar ws))

  abbrev pub words_for : List (State Ob) → List ℕ
  words_for ss = words_of paper_of ar (length (shape_terms ar ws)) ss

module _ (ar ws st : List ℕ) where
  -- "such as opening writes or accepts"
  abbrev pub GoodShapes : Type 0
  GoodShapes = GoodSymbols ar × Shaped ar ws st

  module _ (plan scratch : List ℕ) where
    pub data BuildRow : Told (List ℕ × List ℕ) → Type 0 where
      build_19 : (GoodShapes → ⊥) → BuildRow (told (refusal 19 0) (plan, scratch))
      build_23 : GoodShapes → length scratch < scratch_words → BuildRow (told (refusal 23 0) (plan, scratch))
      build_20 : GoodShapes → scratch_words ≤ length scratch → (i : ℕ) → OverGoals (paper_of ar ws) ar i
          → BuildRow (told (refusal 20 i) (plan, cleared scratch))
      build_21 : GoodShapes → scratch_words ≤ length scratch → (i : ℕ) → OverStates (paper_of ar ws) ar i
          → BuildRow (told (refusal 21 i) (plan, cleared scratch))
      build_22 : GoodShapes → scratch_words ≤ length scratch → (ss : List (State Ob)) → AllMet (paper_of ar ws) ar ss
          → TooLong (length plan) (words_for ar ws ss)
          → BuildRow (told (refusal 22 0) (plan, cleared scratch))
      builds : GoodShapes → scratch_words ≤ length scratch → (ss : List (State Ob)) → AllMet (paper_of ar ws) ar ss
          → Fits (length plan) (words_for ar ws ss)
          → BuildRow (told (gives (length ss ∷ length (words_for ar ws ss) ∷ [])) (sets plan 0 (words_for ar ws ss), cleared scratch))

-- ---- starting
module _ (ar score spans : List ℕ) where
  -- "such as opening writes for the symbols lent"
  abbrev pub Good : Type 0
  Good = GoodSymbols ar × GoodScore ar score spans

  abbrev pub Roomy : Walk → Type 0
  Roomy w = (2 * length score ≤ length w.items) × (length score ≤ length w.log) × (length score ≤ length w.marks)

  pub data StartRow (w : Walk) : Told Walk → Type 0 where
    start_31 : (Good → ⊥) → StartRow w (told (refusal 31 0) w)
    start_30 : Good → (Roomy w → ⊥) → StartRow w (told (refusal 30 0) w)
    starts : Good → Roomy w → StartRow w (told (gives (1 ∷ 0 ∷ 0 ∷ [])) (begun (length score) w))

  -- ---- counting matches
  pub data CountRow (marks : List ℕ) : Says → Type 0 where
    count_31 : (Good → ⊥) → CountRow marks (refusal 31 0)
    count_30 : Good → length marks < length score → CountRow marks (refusal 30 0)
    counts : Good → length score ≤ length marks → CountRow marks (gives (total (take (length score) marks) ∷ []))

-- ---- counting clashes, and comparing
module _ (ar ws st score spans marks : List ℕ) where
  -- the matches that the first n marks hold, and whether one is a match of the shapes in the score
  abbrev pub held_in : List Match
  held_in = found_in (take (length score) marks)

  abbrev pub IsThere : Match → Type 0
  IsThere = IsMatch (shape_terms ar ws) (score_term ar score)

  pub data ClashRow : Says → Type 0 where
    clash_19 : (GoodShapes ar ws st → ⊥) → ClashRow (refusal 19 0)
    clash_31 : GoodShapes ar ws st → (Good ar score spans → ⊥) → ClashRow (refusal 31 0)
    clash_30 : GoodShapes ar ws st → Good ar score spans → length marks < length score → ClashRow (refusal 30 0)
    clash_35 : GoodShapes ar ws st → Good ar score spans → length score ≤ length marks → (m : Match) → m ∈ held_in → (IsThere m → ⊥)
        → ClashRow (refusal 35 0)
    clashes : GoodShapes ar ws st → Good ar score spans → length score ≤ length marks → ((m : Match) → m ∈ held_in → IsThere m)
        → ClashRow (gives (clash_number (nodes_in (shape_terms ar ws) (score_term ar score)) held_in ∷ []))

  -- ---- comparing
  pub data CompareRow : Told (List ℕ) → Type 0 where
    compare_19 : (GoodShapes ar ws st → ⊥) → CompareRow (told (refusal 19 0) marks)
    compare_31 : GoodShapes ar ws st → (Good ar score spans → ⊥) → CompareRow (told (refusal 31 0) marks)
    compare_30 : GoodShapes ar ws st → Good ar score spans → length marks < length score → CompareRow (told (refusal 30 0) marks)
    compares : GoodShapes ar ws st → Good ar score spans → length score ≤ length marks → (ms : List ℕ)
        → Exact (shape_terms ar ws) (score_term ar score) ms → CompareRow (told (gives (total ms ∷ [])) (onto ms marks))

-- ---- putting in
module _ (ar ws st score spans : List ℕ) (j x : ℕ) (link : List ℕ) (f : ℕ) (new : List ℕ) where
  -- the shape, the node's position, and that it matches there
  abbrev pub MatchHere : Type 0
  MatchHere = IsMatch (shape_terms ar ws) (score_term ar score) (match_at x j)

  -- all before 42
  pub record Replaceable : Type 0 where
    pub shapes : GoodShapes ar ws st
    pub nodes : Good ar score spans
    pub there : MatchHere
    pub unfinished : Finished (score_term ar score) there.place f → ⊥

  abbrev pub Replaces : Replaceable → Term → Type 0
  Replaces m r = IsLink ar m.there.shape link r

  abbrev pub new_tree : Replaceable → Term → Term
  new_tree m r = replaced m.there.shape (score_term ar score) m.there.place r

  pub data PutRow : Told (List ℕ) → Type 0 where
    put_19 : (GoodShapes ar ws st → ⊥) → PutRow (told (refusal 19 0) new)
    put_31 : GoodShapes ar ws st → (Good ar score spans → ⊥) → PutRow (told (refusal 31 0) new)
    put_40 : GoodShapes ar ws st → Good ar score spans → (MatchHere → ⊥) → PutRow (told (refusal 40 0) new)
    put_41 : GoodShapes ar ws st → Good ar score spans → (m : MatchHere) → Finished (score_term ar score) m.place f
        → PutRow (told (refusal 41 0) new)
    put_42 : (m : Replaceable) → ((r : Term) → Replaces m r → ⊥) → PutRow (told (refusal 42 0) new)
    put_43 : (m : Replaceable) (r : Term) → Replaces m r → (4096 < span (new_tree m r)) ⊎ (64 < depth (new_tree m r)) → PutRow (told (refusal 43 0) new)
    put_44 : (m : Replaceable) (r : Term) → Replaces m r → span (new_tree m r) ≤ 4096 → depth (new_tree m r) ≤ 64 → length new < span (new_tree m r)
        → PutRow (told (refusal 44 0) new)
    puts : (m : Replaceable) (r : Term) → Replaces m r → span (new_tree m r) ≤ 4096 → depth (new_tree m r) ≤ 64 → span (new_tree m r) ≤ length new
        → PutRow (told (gives (span (new_tree m r) ∷ [])) (onto (flatten (new_tree m r)) new))

-- ---- stepping
-- "The record answered counts items waiting and logged nodes"; "Keep the count in the walk's record" (document 02, wish 5)
abbrev pub recorded : Walk → List ℕ
recorded v = v.count.waiting ∷ v.count.logged ∷ v.count.matches ∷ []

pub data StepRow (plan score spans : List ℕ) (i : ℕ) (w : Walk) : Told Walk → Type 0 where
  step_32 : w.count.waiting ≤ i → StepRow plan score spans i w (told (refusal 32 0) w)
  step_34 : i < w.count.waiting → ((v : Walk) → StepFound plan score spans i w v → ⊥) → StepRow plan score spans i w (told (refusal 34 0) w)
  takes : i < w.count.waiting → (v : Walk) → StepFound plan score spans i w v → StepRow plan score spans i w (told (gives (recorded v)) v)

-- ---- a list of choices
-- v is the walk after the accepted ones; the k-th choice, counted from 0, is refused
module _ (plan score spans : List ℕ) where
  pub data AllTaken : List ℕ → Walk → Walk → Type 0 where
    none : {w : Walk} → AllTaken [] w w
    then : {i : ℕ} {is : List ℕ} {w u v : Walk} → i < w.count.waiting → StepFound plan score spans i w u → AllTaken is u v
        → AllTaken (i ∷ is) w v

  pub data ListRow (choices : List ℕ) (w : Walk) : Told Walk → Type 0 where
    list_32 : (k i : ℕ) → get_elem? choices k ≡ some i → (v : Walk) → AllTaken (take k choices) w v → v.count.waiting ≤ i
        → ListRow choices w (told (refusal_with 32 k (k ∷ recorded v)) v)
    list_34 : (k i : ℕ) → get_elem? choices k ≡ some i → (v : Walk) → AllTaken (take k choices) w v → i < v.count.waiting
        → ((u : Walk) → StepFound plan score spans i v u → ⊥) → ListRow choices w (told (refusal_with 34 k (k ∷ recorded v)) v)
    takes_all : (v : Walk) → AllTaken choices w v → ListRow choices w (told (gives (length choices ∷ recorded v)) v)

-- ---- a line of the report
abbrev pub line_told : LineOutcome → Told (List ℕ)
line_told o = told (written_says o.answer) o.out

abbrev pub wrote : List ℕ → List ℕ → Told (List ℕ)
wrote text buffer = told (gives (length text ∷ [])) (text ++ drop (length text) buffer)

pub data LineRow (text buffer : List ℕ) : Told (List ℕ) → Type 0 where
  line_30 : length buffer < 1400 → LineRow text buffer (told (refusal 30 0) buffer)
  writes : 1400 ≤ length buffer → LineRow text buffer (wrote text buffer)

pub data MatchRow (spans : List ℕ) (x j : ℕ) (buffer : List ℕ) : Told (List ℕ) → Type 0 where
  match_30 : length buffer < 1400 → MatchRow spans x j buffer (told (refusal 30 0) buffer)
  match_34 : 1400 ≤ length buffer → ((p : Pos) → Leads spans x p → ⊥) → MatchRow spans x j buffer (told (refusal 34 0) buffer)
  match_writes : 1400 ≤ length buffer → (p : Pos) → Leads spans x p → MatchRow spans x j buffer (wrote (match_line (match_at x j) p) buffer)

pub record Demand1 : Type 0 where
  pub opening : (file : List ℕ) (l : Lent) → Below 256 file → By (OpenRow file l) (open_told (opened file l))
  pub building : (ar ws st plan scratch : List ℕ) → By (BuildRow ar ws st plan scratch) (build_told (build_of ar ws st plan scratch))
  pub starting : (ar score spans : List ℕ) (w : Walk) → Below 65536 score → By (StartRow ar score spans w) (walk_told (started ar score spans w))
  pub stepping : (plan score spans : List ℕ) (i : ℕ) (w : Walk) → By (StepRow plan score spans i w) (walk_told (stepped plan score spans i w))
  pub listing : (plan score spans choices : List ℕ) (w : Walk)
      → By (ListRow plan score spans choices w) (list_told (listed plan score spans choices w))
  pub matches : (ar score spans marks : List ℕ) → Below 65536 score
      → By (CountRow ar score spans marks) (counted_says (matches_of ar score spans marks))
  pub clashes : (ar ws st score spans marks : List ℕ) → Below 65536 score
      → By (ClashRow ar ws st score spans marks) (counted_says (clashes_of ar ws st score spans marks))
  pub comparing : (ar ws st score spans marks : List ℕ) → Below 65536 score
      → By (CompareRow ar ws st score spans marks) (compare_told (compared ar ws st score spans marks))
  pub putting : (ar ws st score spans : List ℕ) (j x : ℕ) (link : List ℕ) (f : ℕ) (new : List ℕ) → Below 65536 score
      → By (PutRow ar ws st score spans j x link f new) (put_told (put_of ar ws st score spans j x link f new))
  pub subtree : (w : Asked) (ar shapes score : List ℕ) → Below 65536 score
      → By (FoundRow (Standing ar shapes score w) flatten) (part_says (subtree_at w ar shapes score))
  pub label : (plan : List ℕ) (m k s : ℕ) → By (FoundRow (LabelFound plan m k s) (λ c. c ∷ [])) (label_says (label_of plan m k s))
  pub lengths : (plan : List ℕ) (m k s f : ℕ)
      → By (FoundRow (BlockFound plan m k s f) (λ b. get_or plan b 0 ∷ get_or plan (middle plan b) 0 ∷ [])) (block_says (lengths_of plan m k s f))
  pub announcement : (plan : List ℕ) (m k s f i : ℕ)
      → By (FoundRow (AnnouncementFound plan m k s f i) pair_values) (announcement_says (announcement_of plan m k s f i))
  pub successor : (plan : List ℕ) (m k s f i : ℕ)
      → By (FoundRow (SuccessorFound plan m k s f i) pair_values) (successor_says (successor_of plan m k s f i))
  pub first_line_lem : (t : Totals) (buffer : List ℕ) → By (LineRow (first_line t) buffer) (line_told (first_out t buffer))
  pub match_line_lem : (spans : List ℕ) (x j : ℕ) (buffer : List ℕ) → By (MatchRow spans x j buffer) (line_told (line_out spans x j buffer))
  pub refusal_line : (r : Reason) (p : ℕ) (buffer : List ℕ) → By (LineRow (refusal_text r p) buffer) (line_told (refusal_out r p buffer))
  pub child_of_lem : (p : Position) (i : ℕ) → By (FoundRow (ChildFound p i) (λ c. c ∷ [])) (child_says (child_of p i))
  pub following : (spans : List ℕ) (n from by : ℕ)
      → By (FoundRow (Reaches spans n from by) (λ x. x ∷ [])) (reached_says (reached (target n spans from by)))
