-- Each call by its contract: whatever result and buffers the contract allows are a row of the call's table in demand 1. `Learnt` is what the checker reads off a call's
-- contract; κs are the lifetimes, a the arguments, r a result, e the arguments as they are afterwards. So a contract that is changed together with its code breaks a promise.
-- A slice of bytes has none over 255, a slice of words none over 65,535: `Below` says so where a table needs it.
use Rattle.kinds.specs.declared.Position.{Position}
use Rattle.kinds.specs.declared.Reason.{Reason}
use Rattle.kinds.specs.declared.Shape.{Shape}
use Rattle.kinds.specs.declared.State.{State}
use Rattle.readers.specs.declared.Lengths.{Lengths}
use Rattle.std.specs.Prelude.{Result}
use mathlib.Core.Path.{◌≡◌, ap, sym, ◌∙◌, subst}
use mathlib.Core.List.{List, [], ◌∷◌}
use Prim.Native.Nat.{ℕ}
use seplogic.Ra.Ura.{Ura}
use base.Logic.{ent, via, snd∗, ex_e}
use types.Logic.{Logic, sem}
use contract.Lifetimes.{Lfts}
use contract.Monad.{fact, fact_mono}
use denote.Signature.{Signature}
use denote.Triple.Clauses.{Ended, lasts}
use denote.Triple.Entry.{Args, Res}
use denote.Triple.Spec.{Spec, exits}
use Rattle.kinds.specs.Members.{Below}
use Rattle.kinds.specs.Kinds.{child_says}
use Rattle.folio.specs.Opening.{lent, opened_says}
use Rattle.walk.specs.Lent.{walk_in}
use Rattle.walk.specs.Starting.{Walk, counting, record_after, walked_says}
use Rattle.listing.specs.Listing.{record_in, listed_says}
use Rattle.counting.specs.Counting.{counted_says}
use Rattle.readers.specs.BlockWords.{middle}
use Rattle.readers.specs.PlanParts.{label_of, label_says, lengths_of, block_says, announcement_of, announcement_says, successor_of, successor_says}
use Rattle.following.specs.Following.{reached_says}
use Rattle.report.specs.Text.{first_line, refusal_text}
use Rattle.report.specs.Lines.{written_says}
use Rattle.term.specs.Terms.{flatten}
use lib.ListN.{get_or}
use Rattle.folio.proofs.opening.open.Reads as open-folio
use Rattle.plan.specs.Building.{built_says}
use Rattle.plan.proofs.building.build.Reads as build
use Rattle.walk.proofs.Walk.start.Reads as start
use Rattle.walk.proofs.Walk.step.Reads as step
use Rattle.listing.proofs.taking.steps.Reads as steps
use Rattle.clashing.proofs.marks.clashes.Reads as clashes
use Rattle.comparing.proofs.marking.compare.Reads as compare
use Rattle.replacing.proofs.putting.put.Reads as put
use Rattle.counting.proofs.marks.matches.Reads as matches
use Rattle.checks.proofs.showing.subtree.Reads as subtree
use Rattle.readers.proofs.reading.announcement_of.Reads as announcement-of
use Rattle.readers.proofs.reading.label_of.Reads as label_of
use Rattle.readers.proofs.reading.lengths_of.Reads as lengths-of
use Rattle.readers.proofs.reading.successor_of.Reads as successor-of
use Rattle.views.proofs.viewing.announcement_at.Reads as announcement-at
use Rattle.views.specs.contracts.viewing.announcement_in as announcement-in
use Rattle.views.proofs.viewing.label_at.Reads as label_at
use Rattle.views.specs.contracts.viewing.label_in as label-in
use Rattle.views.proofs.viewing.lengths_at.Reads as lengths-at
use Rattle.views.specs.contracts.viewing.lengths_in as lengths-in
use Rattle.views.proofs.viewing.successor_at.Reads as successor-at
use Rattle.views.specs.contracts.viewing.successor_in as successor-in
use Rattle.report.proofs.lines.put_first.Reads as put_first
use Rattle.report.proofs.lines.put_line.Reads as put-line
use Rattle.report.proofs.lines.put_refusal.Reads as put-refusal
use Rattle.kinds.proofs.Position.child.Reads as child
use Rattle.following.proofs.positions.follow.Reads as follow
use Rattle.promises.specs.LentWalk.{Stands}
use Rattle.promises.specs.Told.{told}
use Rattle.promises.specs.Found.{FoundRow, part_says, pair_values, Standing, LabelFound, BlockFound, AnnouncementFound, SuccessorFound, ChildFound, Reaches}
use Rattle.promises.specs.Demand1.{OpenRow, open_told, BuildRow, build_told, StartRow, CountRow, ClashRow, CompareRow, compare_told, PutRow, put_told, StepRow, walk_told, ListRow, list_told, LineRow, MatchRow, line_told}
use Rattle.promises.proofs.Demand1.{demand_1}

pub open_call : (κs : _) (a : _) (r : _) (e : _) → open-folio.Learnt κs a r e → Below 256 a.0.now
    → OpenRow a.0.now (lent a.1.0.now a.1.1.0.now a.1.1.1.0.now a.1.1.1.1.0.now)
    (told (opened_says r) (lent e.1.0.now e.1.1.0.now e.1.1.1.0.now e.1.1.1.1.0.now))
open_call κs a r e h small = subst (OpenRow a.0.now (lent a.1.0.now a.1.1.0.now a.1.1.1.0.now a.1.1.1.1.0.now))
    (ap open_told (sym h)) (demand_1.opening _ _ small).0

pub build_call : (κs : _) (a : _) (r : _) (e : _) → build.Learnt κs a r e
    → BuildRow a.0.now a.1.0.words.now a.1.0.starts.now a.1.1.0.now a.1.1.1.0.now (told (built_says r) (e.1.1.0.now, e.1.1.1.0.now))
build_call κs a r e h = subst (BuildRow a.0.now a.1.0.words.now a.1.0.starts.now a.1.1.0.now a.1.1.1.0.now)
    (ap build_told (sym h)) (demand_1.building _ _ _ _ _).0

-- ---- a walk's calls are said of what stands in the buffers lent (`Stands`), which the contract ties to what is read through the references that the call leaves
pub start_call : (κs : _) (a : _) (r : _) (e : _) → start.Learnt κs a r e → Below 65536 a.1.1.0.words.now
    → (w : Walk) → Stands a.0.now e.0.now (record_after r (counting 0 0 0)) w
    → StartRow a.1.0.now a.1.1.0.words.now a.1.1.0.spans.now (walk_in a.0.now (counting 0 0 0)) (told (walked_says r) w)
start_call κs a r e h small w stands =
    subst (StartRow a.1.0.now a.1.1.0.words.now a.1.1.0.spans.now (walk_in a.0.now (counting 0 0 0)))
    (ap walk_told (sym h.1) ∙ ap (told (walked_says r)) (sym (stands h.0.waiting h.0.log h.0.marks))) (demand_1.starting _ _ _ _ small).0

pub step_call : (κs : _) (a : _) (r : _) (e : _) → step.Learnt κs a r e
    → (w : Walk) → Stands a.0.now e.0.now (record_after r a.1.1.1.0) w
    → StepRow a.1.0.now a.1.1.0.words.now a.1.1.0.spans.now a.1.1.1.1.0 (walk_in a.0.now a.1.1.1.0) (told (walked_says r) w)
step_call κs a r e h w stands =
    subst (StepRow a.1.0.now a.1.1.0.words.now a.1.1.0.spans.now a.1.1.1.1.0 (walk_in a.0.now a.1.1.1.0))
    (ap walk_told (sym h.1) ∙ ap (told (walked_says r)) (sym (stands h.0.waiting h.0.log h.0.marks))) (demand_1.stepping _ _ _ _ _).0

pub steps_call : (κs : _) (a : _) (r : _) (e : _) → steps.Learnt κs a r e
    → (w : Walk) → Stands a.0.now e.0.now (record_in r) w
    → ListRow a.1.0.now a.1.1.0.words.now a.1.1.0.spans.now a.1.1.1.1.0.now (walk_in a.0.now a.1.1.1.0) (told (listed_says r) w)
steps_call κs a r e h w stands =
    subst (ListRow a.1.0.now a.1.1.0.words.now a.1.1.0.spans.now a.1.1.1.1.0.now (walk_in a.0.now a.1.1.1.0))
    (ap list_told (sym h.1) ∙ ap (told (listed_says r)) (sym (stands h.0.waiting h.0.log h.0.marks))) (demand_1.listing _ _ _ _ _).0

pub matches_call : (κs : _) (a : _) (r : _) (e : _) → matches.Learnt κs a r e → Below 65536 a.1.0.words.now
    → CountRow a.0.now a.1.0.words.now a.1.0.spans.now a.1.1.0.now (counted_says r)
matches_call κs a r e h small = subst (CountRow a.0.now a.1.0.words.now a.1.0.spans.now a.1.1.0.now) (ap counted_says (sym h))
    (demand_1.matches _ _ _ _ small).0

pub clashes_call : (κs : _) (a : _) (r : _) (e : _) → clashes.Learnt κs a r e → Below 65536 a.1.1.0.words.now
    → ClashRow a.0.now a.1.0.words.now a.1.0.starts.now a.1.1.0.words.now a.1.1.0.spans.now a.1.1.1.0.now (counted_says r)
clashes_call κs a r e h small =
    subst (ClashRow a.0.now a.1.0.words.now a.1.0.starts.now a.1.1.0.words.now a.1.1.0.spans.now a.1.1.1.0.now)
    (ap counted_says (sym h)) (demand_1.clashes _ _ _ _ _ _ small).0

pub compare_call : (κs : _) (a : _) (r : _) (e : _) → compare.Learnt κs a r e → Below 65536 a.1.1.0.words.now
    → CompareRow a.0.now a.1.0.words.now a.1.0.starts.now a.1.1.0.words.now a.1.1.0.spans.now a.1.1.1.0.now
    (told (counted_says r) e.1.1.1.0.now)
compare_call κs a r e h small =
    subst (CompareRow a.0.now a.1.0.words.now a.1.0.starts.now a.1.1.0.words.now a.1.1.0.spans.now a.1.1.1.0.now)
    (ap compare_told (sym h)) (demand_1.comparing _ _ _ _ _ _ small).0

pub put_call : (κs : _) (a : _) (r : _) (e : _) → put.Learnt κs a r e → Below 65536 a.1.1.0.words.now
    → PutRow a.0.now a.1.0.words.now a.1.0.starts.now a.1.1.0.words.now a.1.1.0.spans.now a.1.1.1.0.0 a.1.1.1.1.0.0
    a.1.1.1.1.1.0.now a.1.1.1.1.1.1.0.0 a.1.1.1.1.1.1.1.0.now
    (told (counted_says r) e.1.1.1.1.1.1.1.0.now)
put_call κs a r e h small =
    subst (PutRow a.0.now a.1.0.words.now a.1.0.starts.now a.1.1.0.words.now a.1.1.0.spans.now a.1.1.1.0.0 a.1.1.1.1.0.0
    a.1.1.1.1.1.0.now a.1.1.1.1.1.1.0.0 a.1.1.1.1.1.1.1.0.now)
    (ap put_told (sym h)) (demand_1.putting _ _ _ _ _ _ _ _ _ _ small).0

pub subtree_call : (κs : _) (a : _) (r : _) (e : _) → subtree.Learnt κs a r e → Below 65536 a.1.1.1.0.now
    → FoundRow (Standing a.1.0.now a.1.1.0.now a.1.1.1.0.now a.0) flatten (part_says r.now)
subtree_call κs a r e h small = subst (FoundRow (Standing a.1.0.now a.1.1.0.now a.1.1.1.0.now a.0) flatten)
    (ap part_says (sym h)) (demand_1.subtree _ _ _ _ small).0

-- ---- the plan readers: by the words, by a view that is made of plain parameters, and by a view
abbrev pub LabelRow : List ℕ → ℕ → ℕ → ℕ → Result Position Reason → Type 0
LabelRow plan m k s r = FoundRow (LabelFound plan m k s) (λ c. c ∷ []) (label_says r)

abbrev pub BlockRow : List ℕ → ℕ → ℕ → ℕ → ℕ → Result Lengths Reason → Type 0
BlockRow plan m k s f r = FoundRow (BlockFound plan m k s f) (λ b. get_or plan b 0 ∷ get_or plan (middle plan b) 0 ∷ []) (block_says r)

abbrev pub AnnouncementRow : List ℕ → ℕ → ℕ → ℕ → ℕ → ℕ → Result (Shape × Position) Reason → Type 0
AnnouncementRow plan m k s f i r = FoundRow (AnnouncementFound plan m k s f i) pair_values (announcement_says r)

abbrev pub SuccessorRow : List ℕ → ℕ → ℕ → ℕ → ℕ → ℕ → Result (State × Position) Reason → Type 0
SuccessorRow plan m k s f i r = FoundRow (SuccessorFound plan m k s f i) pair_values (successor_says r)

label_row : (plan : List ℕ) (m k s : ℕ) (r : Result Position Reason) → r ≡ label_of plan m k s → LabelRow plan m k s r
label_row plan m k s r h = subst (FoundRow (LabelFound plan m k s) (λ c. c ∷ [])) (ap label_says (sym h)) (demand_1.label _ _ _ _).0

block_row : (plan : List ℕ) (m k s f : ℕ) (r : Result Lengths Reason) → r ≡ lengths_of plan m k s f → BlockRow plan m k s f r
block_row plan m k s f r h = subst (FoundRow (BlockFound plan m k s f) (λ b. get_or plan b 0 ∷ get_or plan (middle plan b) 0 ∷ [])) (ap block_says (sym h))
    (demand_1.lengths _ _ _ _ _).0

announcement_row : (plan : List ℕ) (m k s f i : ℕ) (r : Result (Shape × Position) Reason) → r ≡ announcement_of plan m k s f i → AnnouncementRow plan m k s f i r
announcement_row plan m k s f i r h =
    subst (FoundRow (AnnouncementFound plan m k s f i) pair_values) (ap announcement_says (sym h)) (demand_1.announcement _ _ _ _ _ _).0

successor_row : (plan : List ℕ) (m k s f i : ℕ) (r : Result (State × Position) Reason) → r ≡ successor_of plan m k s f i → SuccessorRow plan m k s f i r
successor_row plan m k s f i r h =
    subst (FoundRow (SuccessorFound plan m k s f i) pair_values) (ap successor_says (sym h)) (demand_1.successor _ _ _ _ _ _).0

pub label_of_call : (κs : _) (a : _) (r : _) (e : _) → label_of.Learnt κs a r e
    → LabelRow a.0.now a.1.0 a.1.1.0 a.1.1.1.0.0 r
label_of_call κs a r e = label_row _ _ _ _ r

pub label_at_call : (κs : _) (a : _) (r : _) (e : _) → label_at.Learnt κs a r e
    → LabelRow a.0.now a.1.0 a.1.1.0 a.1.1.1.0.0 r
label_at_call κs a r e = label_row _ _ _ _ r

pub lengths_of_call : (κs : _) (a : _) (r : _) (e : _) → lengths-of.Learnt κs a r e
    → BlockRow a.0.now a.1.0 a.1.1.0 a.1.1.1.0.0 a.1.1.1.1.0.0 r
lengths_of_call κs a r e = block_row _ _ _ _ _ r

pub lengths_at_call : (κs : _) (a : _) (r : _) (e : _) → lengths-at.Learnt κs a r e
    → BlockRow a.0.now a.1.0 a.1.1.0 a.1.1.1.0.0 a.1.1.1.1.0.0 r
lengths_at_call κs a r e = block_row _ _ _ _ _ r

pub announcement_of_call : (κs : _) (a : _) (r : _) (e : _) → announcement-of.Learnt κs a r e
    → AnnouncementRow a.0.now a.1.0 a.1.1.0 a.1.1.1.0.0 a.1.1.1.1.0.0 a.1.1.1.1.1.0 r
announcement_of_call κs a r e = announcement_row _ _ _ _ _ _ r

pub announcement_at_call : (κs : _) (a : _) (r : _) (e : _) → announcement-at.Learnt κs a r e
    → AnnouncementRow a.0.now a.1.0 a.1.1.0 a.1.1.1.0.0 a.1.1.1.1.0.0 a.1.1.1.1.1.0 r
announcement_at_call κs a r e = announcement_row _ _ _ _ _ _ r

pub successor_of_call : (κs : _) (a : _) (r : _) (e : _) → successor-of.Learnt κs a r e
    → SuccessorRow a.0.now a.1.0 a.1.1.0 a.1.1.1.0.0 a.1.1.1.1.0.0 a.1.1.1.1.1.0 r
successor_of_call κs a r e = successor_row _ _ _ _ _ _ r

pub successor_at_call : (κs : _) (a : _) (r : _) (e : _) → successor-at.Learnt κs a r e
    → SuccessorRow a.0.now a.1.0 a.1.1.0 a.1.1.1.0.0 a.1.1.1.1.0.0 a.1.1.1.1.1.0 r
successor_at_call κs a r e = successor_row _ _ _ _ _ _ r

-- The checker reads no contract off a call that takes a view, so here the contract itself stands: what it says of a result entails that the result is a row.
module _ {M : Type 1} {𝓤 : Ura M} (𝓛 : Logic 𝓤) where
  abbrev pub Allows : (S : Signature) → Spec 𝓤 S → ((κs : Lfts S.lifetimes) → Args S κs → Res S κs → Type 0) → Type 1
  Allows S c Row = (κs : Lfts S.lifetimes) (a : Args S κs) (g : (c κs a).ghost) (r : Res S κs) → ent 𝓤 ((c κs a).ensures g r) (fact 𝓤 (Row κs a r))

  -- a clause that speaks of no last value
  pub of_clause : (T : Ended) (κs : Lfts T.signature.lifetimes) (a : Args T.signature κs) (φ ψ : Type 0) → (φ → ψ)
      → ent 𝓤 (exits 𝓛 T.signature T.kept κs a (λ e. fact 𝓤 φ)) (fact 𝓤 ψ)
  of_clause T κs a φ ψ h = ex_e 𝓤 _ (λ ws. via 𝓤 (fact 𝓤 φ) (snd∗ 𝓤 (sem 𝓛 (lasts T κs a ws)) (fact 𝓤 φ)) (fact_mono 𝓤 φ ψ h))

  pub label_in_call : (mem : _) (run : _) → Allows label-in.signature (label-in.spec 𝓛 mem run)
      (λ κs a r. LabelRow a.0.words.now a.0.states a.0.symbols a.1.0.0 r)
  label_in_call mem run κs a g r = of_clause label-in.ended κs a _ _ (label_row _ _ _ _ r)

  pub lengths_in_call : (mem : _) (run : _) → Allows lengths-in.signature (lengths-in.spec 𝓛 mem run)
      (λ κs a r. BlockRow a.0.words.now a.0.states a.0.symbols a.1.0.0 a.1.1.0.0 r)
  lengths_in_call mem run κs a g r = of_clause lengths-in.ended κs a _ _ (block_row _ _ _ _ _ r)

  pub announcement_in_call : (mem : _) (run : _) → Allows announcement-in.signature (announcement-in.spec 𝓛 mem run)
      (λ κs a r. AnnouncementRow a.0.words.now a.0.states a.0.symbols a.1.0.0 a.1.1.0.0 a.1.1.1.0 r)
  announcement_in_call mem run κs a g r = of_clause announcement-in.ended κs a _ _ (announcement_row _ _ _ _ _ _ r)

  pub successor_in_call : (mem : _) (run : _) → Allows successor-in.signature (successor-in.spec 𝓛 mem run)
      (λ κs a r. SuccessorRow a.0.words.now a.0.states a.0.symbols a.1.0.0 a.1.1.0.0 a.1.1.1.0 r)
  successor_in_call mem run κs a g r = of_clause successor-in.ended κs a _ _ (successor_row _ _ _ _ _ _ r)

pub child_call : (κs : _) (a : _) (r : _) (e : _) → child.Learnt κs a r e → FoundRow (ChildFound a.0 a.1.0) (λ c. c ∷ []) (child_says r)
child_call κs a r e h = subst (FoundRow (ChildFound a.0 a.1.0) (λ c. c ∷ [])) (ap child_says (sym h)) (demand_1.child_of_lem _ _).0

pub follow_call : (κs : _) (a : _) (r : _) (e : _) → follow.Learnt κs a r e
    → FoundRow (Reaches a.0.now a.1.0 a.1.1.0.0 a.1.1.1.0.0) (λ x. x ∷ []) (reached_says r)
follow_call κs a r e h = subst (FoundRow (Reaches a.0.now a.1.0 a.1.1.0.0 a.1.1.1.0.0) (λ x. x ∷ [])) (ap reached_says (sym h))
    (demand_1.following _ _ _ _).0

-- ---- the lines
pub put_first_call : (κs : _) (a : _) (r : _) (e : _) → put_first.Learnt κs a r e
    → LineRow (first_line a.0) a.1.0.now (told (written_says r) e.1.0.now)
put_first_call κs a r e h = subst (LineRow (first_line a.0) a.1.0.now) (ap line_told (sym h)) (demand_1.first_line_lem a.0 _).0

pub put_line_call : (κs : _) (a : _) (r : _) (e : _) → put-line.Learnt κs a r e
    → MatchRow a.0.now a.1.0.0 a.1.1.0.0 a.1.1.1.0.now (told (written_says r) e.1.1.1.0.now)
put_line_call κs a r e h =
    subst (MatchRow a.0.now a.1.0.0 a.1.1.0.0 a.1.1.1.0.now) (ap line_told (sym h)) (demand_1.match_line_lem _ _ _ _).0

pub put_refusal_call : (κs : _) (a : _) (r : _) (e : _) → put-refusal.Learnt κs a r e
    → LineRow (refusal_text a.0 a.1.0) a.1.1.0.now (told (written_says r) e.1.1.0.now)
put_refusal_call κs a r e h =
    subst (LineRow (refusal_text a.0 a.1.0) a.1.1.0.now) (ap line_told (sym h))
    (demand_1.refusal_line a.0 a.1.0 a.1.1.0.now).0
