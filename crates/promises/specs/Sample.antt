-- The sample folio: P1 to P10 of document 01, the whole plan and the whole report, the plan's readers, a list of choices, what its marks mean in the middle,
-- and the simple finder on it, as one table of the definitions with one claim.
--   file      the 49 bytes
--   table     what the definitions give: from the file its opening, from that the building, from that the plan, from that the walks and the report
--   claimed   what documents 01 and 02 say
--   sample    they are equal
use Rattle.std.specs.Prelude.{◌≡◌, refl, not, List, [], ◌∷◌, ◌++◌, map, ℕ, ◌+◌, ◌*◌, ◌-◌, eqb, length, take, drop, replicate, None, Some}
use Rattle.kinds.specs.Lists.{any, filter, gather, is_nil}
use Rattle.kinds.specs.Positions.{code}
use Rattle.kinds.specs.Reasons.{Says}
use Rattle.folio.specs.Opening.{lent, opened, opened_says}
use Rattle.folio.specs.Opening.{OpenOutcome}
use Rattle.folio.specs.Folio.{shape_terms, score_term}
use Rattle.plan.specs.Building.{build_of, built_says}
use Rattle.plan.specs.Building.{BuildOutcome}
use Rattle.kinds.specs.Kinds.{position, child_of, child_says}
use Rattle.following.specs.Following.{target, reached, reached_says}
use Rattle.readers.specs.PlanParts.{label_of, label_says, lengths_of, block_says, announcement_of, announcement_says, successor_of, successor_says}
use Rattle.walk.specs.Starting.{Walk, walk_of, counting, started, record_values, walked_says}
use Rattle.walk.specs.Stepping.{stepped, run_by}
use Rattle.listing.specs.Listing.{ListOutcome, listed, listed_says}
use Rattle.counting.specs.Counting.{Match, found_in, matches_of, counted_says}
use Rattle.clashing.specs.Clashes.{nodes_in}
use Rattle.clashing.specs.Clashing.{clashes_of}
use Rattle.comparing.specs.Comparing.{CompareOutcome, compared}
use Rattle.replacing.specs.Putting.{PutOutcome, put_of}
use Rattle.report.specs.Quoted.{bytes}
use Rattle.report.specs.Lines.{line_out, written_says}
use Rattle.report.specs.Text.{report}
use Rattle.promises.specs.Computing.{computing}
use Rattle.promises.specs.Reported.{totals_of}
use Rattle.promises.specs.SoFar.{logged}

-- rest, join, close with 0, 2, 1 children
abbrev pub symbols : List ℕ
symbols = 0 ∷ 2 ∷ 1 ∷ []

-- join(_, close(_)) and join(join(_, _), _)
abbrev shape_bytes : List ℕ
shape_bytes = 1 ∷ 0 ∷ 255 ∷ 255 ∷ 2 ∷ 0 ∷ 255 ∷ 255 ∷ 1 ∷ 0 ∷ 1 ∷ 0 ∷ 255 ∷ 255 ∷ 255 ∷ 255 ∷ 255 ∷ 255 ∷ []

abbrev score_bytes : List ℕ
score_bytes = 1 ∷ 0 ∷ 1 ∷ 0 ∷ 0 ∷ 0 ∷ 2 ∷ 0 ∷ 0 ∷ 0 ∷ 2 ∷ 0 ∷ 1 ∷ 0 ∷ 0 ∷ 0 ∷ 2 ∷ 0 ∷ 0 ∷ 0 ∷ []

abbrev pub file : List ℕ
file = symbols ++ (shape_bytes ++ (score_bytes ++ (41 ∷ 0 ∷ 38 ∷ 0 ∷ 20 ∷ 0 ∷ 83 ∷ 67 ∷ [])))

-- what document 01 says that opening, building and a walk write; the rows below hold the calls against it, and go on from it
abbrev pub shape_words : List ℕ
shape_words = 1 ∷ 65535 ∷ 2 ∷ 65535 ∷ 1 ∷ 1 ∷ 65535 ∷ 65535 ∷ 65535 ∷ []

abbrev pub starts : List ℕ
starts = 0 ∷ 4 ∷ []

abbrev pub score : List ℕ
score = 1 ∷ 1 ∷ 0 ∷ 2 ∷ 0 ∷ 2 ∷ 1 ∷ 0 ∷ 2 ∷ 0 ∷ []

abbrev pub spans : List ℕ
spans = 10 ∷ 4 ∷ 1 ∷ 2 ∷ 1 ∷ 5 ∷ 4 ∷ 1 ∷ 2 ∷ 1 ∷ []

abbrev pub plan : List ℕ
plan = 3 ∷ 3 ∷ 2 ∷ 56 ∷ 0 ∷ 1 ∷ 2 ∷ 16 ∷ 18 ∷ 24 ∷ 28 ∷ 30 ∷ 38 ∷ 42 ∷ 44 ∷ 50 ∷ 0 ∷ 0 ∷ 0 ∷ 2 ∷ 1 ∷ 0 ∷ 2 ∷ 0 ∷ 0 ∷ 1 ∷ 0 ∷ 1 ∷ 0 ∷ 0 ∷ 1 ∷ 1 ∷ 0 ∷ 2
    ∷ 1 ∷ 1 ∷ 2 ∷ 1 ∷ 0 ∷ 1 ∷ 0 ∷ 6 ∷ 0 ∷ 0 ∷ 0 ∷ 2 ∷ 1 ∷ 2 ∷ 2 ∷ 2 ∷ 1 ∷ 0 ∷ 0 ∷ 1 ∷ 0 ∷ 11 ∷ []

abbrev pub marks : List ℕ
marks = 3 ∷ 1 ∷ 0 ∷ 0 ∷ 0 ∷ 0 ∷ 1 ∷ 0 ∷ 0 ∷ 0 ∷ []

-- in the middle of a walk: the nodes read, the marks, and the nodes on which a match's symbols fall that are unread
abbrev middle_log : List ℕ
middle_log = 0 ∷ 1 ∷ 5 ∷ 2 ∷ 3 ∷ 6 ∷ []

abbrev middle_marks : List ℕ
middle_marks = 3 ∷ 1 ∷ replicate 8 0

abbrev unread : Match → List ℕ
unread m = filter (λ x. not (any (eqb x) middle_log)) (nodes_in (shape_terms symbols shape_words) (score_term symbols score) m)

-- what find prints, and simple
abbrev match_lines : List ℕ
match_lines = bytes "0 0 -\n0 1 -\n1 0 1\n6 0 2.1\n"

abbrev pub text : List ℕ
text = bytes "nodes 10 states 3 matches 4 clashes 3 depth 4\n" ++ match_lines

abbrev simple_text : List ℕ
simple_text = bytes "nodes 10 states - matches 4 clashes 3 depth 4\n" ++ match_lines

abbrev pub nines : ℕ → List ℕ
nines n = replicate n 9

pub opening : OpenOutcome
opening = opened file (lent (nines 9) (nines 2) (nines 10) (nines 10))

-- a plan buffer of one word more
pub building : BuildOutcome
building = build_of symbols shape_words starts (nines 57) (nines 32768)

abbrev begun : List ℕ → List ℕ → Walk
begun sc sp = let n = length sc in (started symbols sc sp (walk_of (nines (2 * n)) (nines n) (nines n) (counting 7 7 7))).walk

pub firsts : Walk
firsts = run_by (λ n. 0) plan score spans 10 (begun score spans)

pub lasts : Walk
lasts = run_by (λ n. n - 1) plan score spans 10 (begun score spans)

-- a score of one constant
pub alone : Walk
alone = run_by (λ n. 0) plan (0 ∷ []) (1 ∷ []) 1 (begun (0 ∷ []) (1 ∷ []))

-- the seventh choice is refused, in the middle of the walk; no choice
pub partly : ListOutcome
partly = listed plan score spans (0 ∷ 0 ∷ 0 ∷ 0 ∷ 0 ∷ 0 ∷ 4 ∷ 0 ∷ 0 ∷ []) (begun score spans)

pub nothing : ListOutcome
nothing = listed plan score spans [] (begun score spans)

-- the simple finder, lent a mark more than there are nodes
pub simple : CompareOutcome
simple = compared symbols shape_words starts score spans (nines 11)

-- a replacement that changes the two blanks of shape 0 at node 0, lent a word more than its result has; and calls that are refused
abbrev puts : ℕ → ℕ → List ℕ → ℕ → ℕ → PutOutcome
puts j x link f n = put_of symbols shape_words starts score spans j x link f (nines n)

pub swapped : PutOutcome
swapped = puts 0 0 (1 ∷ 65505 ∷ 65504 ∷ []) 65535 10

pub refusals : List PutOutcome
refusals =
    puts 0 2 (0 ∷ []) 65535 10 ∷ puts 0 6 (0 ∷ []) 1 10 ∷ puts 0 1 (65506 ∷ []) 65535 10 ∷ puts 0 1 (0 ∷ 0 ∷ []) 65535 10
    ∷ puts 0 1 (0 ∷ []) 65535 6 ∷ []

-- matches, each by its number
abbrev numbers : List Match → List ℕ
numbers = map (λ m. 16 * m.node + m.shape)

-- an answer's number and its values
abbrev row : Says → List ℕ
row s = s.number ∷ s.values

pub table : List (List ℕ)
table =
    firsts.marks ∷ firsts.log ∷ lasts.log
    ∷ take 6 (drop 18 plan) ∷ take 8 (drop 30 plan) ∷ take 6 (drop 50 plan)
    ∷ (code (2 ∷ 1 ∷ []) ∷ [])
    ∷ record_values alone.count ∷ record_values firsts.count
    ∷ row (opened_says (opened [] (lent [] [] [] [])).answer)
    ∷ row (walked_says (stepped plan score spans 0 firsts).answer)
    ∷ row (listed_says partly.answer) ∷ partly.walk.items ∷ partly.walk.log ∷ partly.walk.marks ∷ row (listed_says nothing.answer)
    ∷ logged partly.walk ∷ numbers (found_in middle_marks) ∷ numbers (filter (λ m. is_nil (unread m)) (found_in marks)) ∷ gather unread (found_in marks)
    ∷ row (opened_says opening.answer) ∷ opening.tables.words ∷ opening.tables.starts ∷ opening.tables.score ∷ opening.tables.spans
    ∷ row (built_says building.answer) ∷ building.plan
    ∷ row (counted_says (matches_of symbols score spans marks)) ∷ row (counted_says (clashes_of symbols shape_words starts score spans marks))
    ∷ row (label_says (label_of plan 3 3 1)) ∷ row (block_says (lengths_of plan 3 3 1 1)) ∷ row (announcement_says (announcement_of plan 3 3 1 1 0)) ∷ row
    (successor_says (successor_of plan 3 3 2 2 0)) ∷ row (label_says (label_of plan 3 3 3))
    ∷ row (child_says (child_of (position 2) 1)) ∷ row (reached_says (reached (target 10 spans 0 11))) ∷ row
    (written_says (line_out spans 6 0 (nines 1399)).answer)
    ∷ row (written_says (line_out spans 10 0 (nines 1400)).answer)
    ∷ report (totals_of shape_words starts spans 4 (Some 3) 4 marks) spans marks
    ∷ row (counted_says simple.answer) ∷ simple.marks ∷ report (totals_of shape_words starts spans 4 None 4 marks) spans marks
    ∷ row (counted_says swapped.answer) ∷ swapped.score ∷ map (λ o. (counted_says o.answer).number) refusals ∷ []

abbrev pub claimed : List (List ℕ)
claimed =
    marks ∷ (0 ∷ 1 ∷ 5 ∷ 2 ∷ 3 ∷ 6 ∷ 4 ∷ 7 ∷ 8 ∷ 9 ∷ []) ∷ (0 ∷ 5 ∷ 6 ∷ 8 ∷ 9 ∷ 7 ∷ 1 ∷ 3 ∷ 4 ∷ 2 ∷ [])
    ∷ (0 ∷ 2 ∷ 1 ∷ 0 ∷ 2 ∷ 0 ∷ []) ∷ (1 ∷ 1 ∷ 0 ∷ 2 ∷ 1 ∷ 1 ∷ 2 ∷ 1 ∷ []) ∷ (1 ∷ 0 ∷ 0 ∷ 1 ∷ 0 ∷ 11 ∷ [])
    ∷ (11 ∷ [])
    ∷ (0 ∷ 1 ∷ 0 ∷ []) ∷ (0 ∷ 10 ∷ 4 ∷ [])
    ∷ (1 ∷ 0 ∷ [])
    ∷ (32 ∷ 0 ∷ [])
    ∷ (32 ∷ 6 ∷ 6 ∷ 3 ∷ 6 ∷ 3 ∷ []) ∷ (0 ∷ 4 ∷ 1 ∷ 6 ∷ 2 ∷ 6 ∷ nines 14) ∷ (middle_log ++ nines 4)
    ∷ middle_marks ∷ (0 ∷ 0 ∷ 1 ∷ 0 ∷ 0 ∷ [])
    ∷ middle_log ∷ (0 ∷ 1 ∷ 16 ∷ []) ∷ (0 ∷ 1 ∷ 16 ∷ []) ∷ (8 ∷ [])
    ∷ (0 ∷ 3 ∷ 2 ∷ 9 ∷ 10 ∷ 4 ∷ 2 ∷ []) ∷ shape_words ∷ starts ∷ score ∷ spans
    ∷ (0 ∷ 3 ∷ 56 ∷ []) ∷ (plan ++ (9 ∷ []))
    ∷ (0 ∷ 4 ∷ []) ∷ (0 ∷ 3 ∷ [])
    ∷ (0 ∷ 1 ∷ []) ∷ (0 ∷ 1 ∷ 2 ∷ []) ∷ (0 ∷ 1 ∷ 0 ∷ []) ∷ (0 ∷ 0 ∷ 11 ∷ []) ∷ (34 ∷ 0 ∷ [])
    ∷ (0 ∷ 11 ∷ []) ∷ (0 ∷ 6 ∷ []) ∷ (30 ∷ 0 ∷ []) ∷ (34 ∷ 0 ∷ [])
    ∷ text
    ∷ (0 ∷ 4 ∷ []) ∷ (marks ++ (9 ∷ [])) ∷ simple_text
    ∷ (0 ∷ 9 ∷ []) ∷ (1 ∷ 1 ∷ 0 ∷ 2 ∷ 0 ∷ 1 ∷ 0 ∷ 2 ∷ 0 ∷ 9 ∷ []) ∷ (40 ∷ 41 ∷ 42 ∷ 42 ∷ 44 ∷ []) ∷ []

pub sample : table ≡ claimed
unfolding table opening building firsts lasts alone partly nothing simple swapped refusals computing
sample = refl
