-- The sample file opens, is built and is walked: demands 2 and 3 speak of it, and say there what document 01 shows.
--   open_file one_file   the sample, with buffers full of nines; a step is lent the whole plan buffer, a word longer than the plan
--   ended           ten choices of item 0, and none waits
--   shape_0_at_2_1  by demand 2, shape 0 matches at 2.1; no_shape_1_at_1: shape 1 does not at 1
--   always_ten      by demand 3, every walk to the end has ten accepted steps
--   waits_for_6_or_8  by wish 7, whatever was chosen: where shape 0 is not marked at node 6, that node or node 8 is unread
--   always_reported by demand 3, every walk over the file to its end, in any order and with any buffers, reports the text of document 01
use Rattle.std.specs.Prelude.{Ok, Some}
use mathlib.Core.Path.{◌≡◌, refl, ap, ap₂, sym, ◌∙◌, subst}
use mathlib.Core.Bool.{false}
use mathlib.Core.Logic.{◌⊎◌, inl, inr}
use mathlib.Core.List.{List, [], ◌∷◌, ◌++◌}
use Prim.Native.Nat.{ℕ}
use native.Mathlib.Omega.{arith}
use borrow.Author.Tests.{ltb-true}
use lib.Dec.{ltb}
use lib.ListN.{length, get_or, get_elem?, take, replicate}
use Rattle.kinds.specs.Bits.{bit}
use Rattle.kinds.proofs.Members.{all_at}
use Rattle.term.specs.Terms.{Term, blank, node, tnil, tcons, span}
use Rattle.term.specs.Places.{Matches, number}
use Rattle.folio.specs.Folio.{shape_terms, score_term}
use Rattle.folio.specs.Opening.{Lent, lent, opened}
use Rattle.folio.specs.declared.Counts.{Counts}
use Rattle.plan.specs.Building.{size, build_of}
use Rattle.walk.specs.Starting.{Walk, WalkOutcome, walk_of, counting, go_on, begun, started}
use Rattle.walk.specs.Stepping.{run}
use Rattle.walk.specs.declared.Record.{Record}
use Rattle.counting.specs.Counting.{match_at, found}
use Rattle.clashing.specs.Clashes.{nodes_in as touchedIn}
use Rattle.clashing.specs.Strays.{IsMatch}
use Rattle.report.specs.Text.{report}
use Rattle.promises.specs.Computing.{computing}
use Rattle.promises.specs.Sample.{file, symbols, shape_words, starts, score, spans, plan, marks, text, nines}
use Rattle.promises.specs.Reported.{totals_of}
use Rattle.promises.specs.SoFar.{logged}
use Rattle.promises.specs.OneFile.{OpenFile, OneFile, words_in, starts_in, nodes_in, spans_in, shapes_in, score_in, lent_in, begun_in, after, accepted_in, reported}
use Rattle.promises.proofs.Demand2.{demand_2}
use Rattle.promises.proofs.Demand3.{demand_3}
use Rattle.promises.proofs.Unfinished.{unfinished}
use Rattle.kinds.specs.Members.{Below, ◌∈◌, here, there}

pub bytes_are : Below 256 file
bytes_are b m = ltb-true b 256 (all_at (λ x. ltb x 256) {xs = file} refl m)

-- ---- what the three calls write
abbrev pub tables : Lent
tables = lent (nines 9) (nines 2) (nines 10) (nines 10)

abbrev pub known : Counts
known = record { symbols = 3; shapes = 2; words = 9; nodes = 10; depth = 4; deepest = 2 }

abbrev pub walk : Walk
walk = walk_of (nines 20) (nines 10) (nines 10) (counting 7 7 7)

pub opens_are : (opened file tables).answer ≡ Ok known
unfolding computing
opens_are = refl

abbrev pub open_file : OpenFile file
open_file = record { bytes = bytes_are; tables = tables; counts = known; opens = opens_are }

pub words_are : words_in open_file ≡ shape_words
unfolding computing
words_are = refl

pub starts_are : starts_in open_file ≡ starts
unfolding computing
starts_are = refl

pub nodes_are : nodes_in open_file ≡ score
unfolding computing
nodes_are = refl

pub spans_are : spans_in open_file ≡ spans
unfolding computing
spans_are = refl

pub build_is : (build_of symbols shape_words starts (nines 57) (nines 32768)).answer ≡ Ok (size 3 56)
unfolding computing
build_is = refl

plan_is : take 56 (build_of symbols shape_words starts (nines 57) (nines 32768)).plan ≡ plan
unfolding computing
plan_is = refl

pub start_is : started symbols score spans walk ≡ go_on (begun 10 walk)
unfolding computing
start_is = refl

abbrev pub one_file : OneFile open_file
one_file = record {
  plan = nines 57;
  scratch = nines 32768;
  size = size 3 56;
  builds = ap₂ (λ w s. (build_of symbols w s (nines 57) (nines 32768)).answer) words_are starts_are ∙ build_is;
  behind = 9 ∷ [];
  walk = walk;
  first = counting 1 0 0;
  starts = ap₂ (λ n s. (started symbols n s walk).answer) nodes_are spans_are ∙ ap (λ (o : WalkOutcome). o.answer) start_is;
}

-- ---- item 0 each time
abbrev pub zeros : List ℕ
zeros = replicate 10 0

-- the plan as it lies in its buffer
abbrev buffer : List ℕ
buffer = plan ++ (9 ∷ [])

after_is : (choices : List ℕ) → after one_file choices ≡ run buffer score spans choices (begun 10 walk)
after_is choices =
    let p : lent_in one_file ≡ buffer =
    ap₂ (λ w s. take 56 (build_of symbols w s (nines 57) (nines 32768)).plan ++ (9 ∷ [])) words_are starts_are ∙ ap (λ l. l ++ (9 ∷ [])) plan_is in
    let b : begun_in one_file ≡ begun 10 walk =
    ap₂ (λ n s. (started symbols n s walk).walk) nodes_are spans_are ∙ ap (λ (o : WalkOutcome). o.walk) start_is in
    ap (λ q. run q (nodes_in open_file) (spans_in open_file) choices (begun_in one_file)) p
    ∙ ap₂ (λ n s. run buffer n s choices (begun_in one_file)) nodes_are spans_are
    ∙ ap (run buffer score spans choices) b

walk_ends : ((run buffer score spans zeros (begun 10 walk)).count ≡ counting 0 10 4) × ((run buffer score spans zeros (begun 10 walk)).marks ≡ marks)
unfolding computing
walk_ends = (refl, refl)

pub ended : (after one_file zeros).count.waiting ≡ 0
ended = ap (λ (w : Walk). w.count.waiting) (after_is zeros) ∙ ap (λ (c : Record). c.waiting) walk_ends.0

number_is : (after one_file zeros).count.matches ≡ 4
number_is = ap (λ (w : Walk). w.count.matches) (after_is zeros) ∙ ap (λ (c : Record). c.matches) walk_ends.0

marks_are : (after one_file zeros).marks ≡ marks
marks_are = ap (λ (w : Walk). w.marks) (after_is zeros) ∙ walk_ends.1

-- ---- the terms
-- join(_, close(_)) and join(join(_, _), _)
abbrev pub join_close : Term
join_close = node 1 (tcons (blank 65535) (tcons (node 2 (tcons (blank 65535) tnil)) tnil))

abbrev pub join_join : Term
join_join = node 1 (tcons (node 1 (tcons (blank 65535) (tcons (blank 65535) tnil))) (tcons (blank 65535) tnil))

abbrev tree : Term
tree = score_term symbols score

shapes_are : shapes_in open_file ≡ join_close ∷ join_join ∷ []
shapes_are = ap (shape_terms symbols) words_are

tree_is : score_in open_file ≡ tree
tree_is = ap (score_term symbols) nodes_are

-- ---- demand 2
bit_is : (n j : ℕ) → bit (get_or (after one_file zeros).marks n 0) j ≡ bit (get_or marks n 0) j
bit_is n j = ap (λ m. bit (get_or m n 0) j) marks_are

pub shape_0_at_2_1 : Matches join_close (score_in open_file) (2 ∷ 1 ∷ [])
shape_0_at_2_1 = ((demand_2 one_file).exactly zeros ended 0 join_close (ap (λ s. get_elem? s 0) shapes_are) 6 (2 ∷ 1 ∷ [])
    (ap (λ t. number t (2 ∷ 1 ∷ [])) tree_is)).0 (bit_is 6 0)

pub no_shape_1_at_1 : Matches join_join (score_in open_file) (1 ∷ []) → ⊥
no_shape_1_at_1 h =
    let b = ((demand_2 one_file).exactly zeros ended 1 join_join (ap (λ s. get_elem? s 1) shapes_are) 1 (1 ∷ []) (ap (λ t. number t (1 ∷ [])) tree_is)).1
    h in
    let z : ◌≡◌ {A = ℕ} 0 1 = sym (bit_is 1 1) ∙ b in
    absurd (omega arith)

-- ---- demand 3
pub always_ten : (choices : List ℕ) → (after one_file choices).count.waiting ≡ 0 → accepted_in one_file choices ≡ 10
always_ten choices e = ((demand_3 one_file).steps choices).2.0 e ∙ ap span tree_is

-- ---- before the end
at_6 : IsMatch (shapes_in open_file) (score_in open_file) (match_at 6 0)
at_6 = record {
  shape = join_close;
  place = 2 ∷ 1 ∷ [];
  has_shape = ap (λ s. get_elem? s 0) shapes_are;
  has_node = ap (λ t. number t (2 ∷ 1 ∷ [])) tree_is;
  matches = shape_0_at_2_1;
}

pub waits_for_6_or_8 : (choices : List ℕ) → found (after one_file choices).marks (match_at 6 0) ≡ false
    → (6 ∈ logged (after one_file choices) → ⊥) ⊎ (8 ∈ logged (after one_file choices) → ⊥)
waits_for_6_or_8 choices b =
    let u = ((unfinished one_file).so_far choices).missing (match_at 6 0) at_6 b in
    let nodes : touchedIn (shapes_in open_file) (score_in open_file) (match_at 6 0) ≡ 6 ∷ 8 ∷ [] = ap₂ (λ ss t. touchedIn ss t (match_at 6 0)) shapes_are tree_is in
    either u.0 (subst (λ l. u.0 ∈ l) nodes u.1) u.2
  where
    either : (x : ℕ) → x ∈ (6 ∷ 8 ∷ []) → (x ∈ logged (after one_file choices) → ⊥)
        → (6 ∈ logged (after one_file choices) → ⊥) ⊎ (8 ∈ logged (after one_file choices) → ⊥)
    either x (here e) n = inl (rw (← e) n)
    either x (there (here e)) n = inr (rw (← e) n)
    either x (there (there m)) n = elim m [ ]

text_is : report (totals_of shape_words starts spans 4 (Some 3) 4 marks) spans marks ≡ text
unfolding computing
text_is = refl

pub always_reported : {P : OpenFile file} (T : OneFile P) (choices : List ℕ) → (after T choices).count.waiting ≡ 0 → reported T choices ≡ text
always_reported T choices e =
    (demand_3 T).same_text one_file choices zeros e ended
    ∙ (λ i. report (totals_of (words_are i) (starts_are i) (spans_are i) 4 (Some 3) (number_is i) (take (length (spans_are i)) (marks_are i))) (spans_are i)
    (marks_are i))
    ∙ text_is
