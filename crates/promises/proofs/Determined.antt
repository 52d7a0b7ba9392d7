-- "Each public call's contract determines its result and every lent word afterwards, refusals too": any two results, and any two states of a lent buffer, that the
-- contract allows for the same arguments are equal. `Learnt` is what the checker reads off a call's contract, so no contract is written a second time here;
-- κs are the lifetimes, a the arguments, r a result, e the arguments as they are afterwards. They are the calls of the public face (the crate bufferstone). Of `subtree` it says that
-- the words answered are equal: which of two equal parts of a table is lent is the one thing that no contract can say.
use mathlib.Core.Path.{◌≡◌, ap, sym, ◌∙◌}
use Rattle.folio.specs.Opening.{OpenOutcome}
use Rattle.walk.specs.Starting.{Walk, WalkOutcome, counting, record_after}
use Rattle.listing.specs.Listing.{ListOutcome, record_in}
use Rattle.report.specs.Lines.{LineOutcome}
use Rattle.folio.proofs.opening.open.Reads as open-folio
use Rattle.checks.proofs.showing.subtree.Reads as subtree
use Rattle.kinds.proofs.Position.before.Reads as before
use Rattle.kinds.proofs.Position.child.Reads as child
use Rattle.kinds.proofs.Position.is_good.Reads as is_good_lem
use Rattle.kinds.proofs.Position.length.Reads as length
use Rattle.kinds.proofs.Position.root.Reads as root
use Rattle.kinds.proofs.number.Reads as number
use Rattle.kinds.proofs.slices.equal.Reads as equal
use Rattle.plan.specs.Building.{BuildOutcome}
use Rattle.plan.proofs.building.build.Reads as build
use Rattle.clashing.proofs.marks.clashes.Reads as clashes
use Rattle.comparing.specs.Comparing.{CompareOutcome}
use Rattle.comparing.proofs.marking.compare.Reads as compare
use Rattle.replacing.proofs.putting.put.Reads as put
use Rattle.replacing.specs.Putting.{PutOutcome}
use Rattle.counting.proofs.marks.matches.Reads as matches
use Rattle.report.proofs.lines.put_first.Reads as put_first
use Rattle.report.proofs.lines.put_line.Reads as put-line
use Rattle.report.proofs.lines.put_refusal.Reads as put-refusal
use Rattle.following.proofs.positions.follow.Reads as follow
use Rattle.readers.proofs.reading.announcement_of.Reads as announcement-of
use Rattle.readers.proofs.reading.label_of.Reads as label_of
use Rattle.readers.proofs.reading.lengths_of.Reads as lengths-of
use Rattle.readers.proofs.reading.successor_of.Reads as successor-of
use Rattle.walk.proofs.Walk.start.Reads as start
use Rattle.walk.proofs.Walk.step.Reads as step
use Rattle.listing.proofs.taking.steps.Reads as steps
use Rattle.views.proofs.viewing.announcement_at.Reads as announcement-at
use Rattle.views.proofs.viewing.label_at.Reads as label_at
use Rattle.views.proofs.viewing.lengths_at.Reads as lengths-at
use Rattle.views.proofs.viewing.successor_at.Reads as successor-at
use Rattle.views.specs.contracts.viewing.announcement_in as announcement-in
use Rattle.views.specs.contracts.viewing.label_in as label-in
use Rattle.views.specs.contracts.viewing.lengths_in as lengths-in
use Rattle.views.specs.contracts.viewing.successor_in as successor-in
use Rattle.views.specs.contracts.viewing.view as view
use Rattle.readers.specs.PlanParts.{label_of, lengths_of, announcement_of, successor_of}
use Rattle.promises.specs.LentWalk.{Stands}
use Rattle.promises.proofs.Calls.{Allows, of_clause}
use seplogic.Ra.Ura.{Ura}
use base.Logic.{ent, via}
use types.Logic.{Logic}
use contract.Lifetimes.{Lfts}
use contract.Monad.{conj, conj_l, conj_r, fact, fact_i, fact_use}
use denote.Signature.{Signature}
use denote.Triple.Entry.{Args, Res}
use denote.Triple.Spec.{Spec}

-- ---- the calls that lend nothing to be written, and answer by one equation
abbrev pub Determined : {K A R E : Type 0} → (K → A → R → E → Type 0) → Type 0
Determined {K} {A} {R} {E} Says = (κs : K) (a : A) (r r' : R) (e e' : E) → Says κs a r e → Says κs a r' e' → r ≡ r'

pub by_equation : {K A R E : Type 0} (f : K → A → R) → Determined {K = K} {A = A} {R = R} {E = E} (λ κs a r e. r ≡ f κs a)
by_equation f κs a r r' e e' h h' = h ∙ sym h'

pub number_determined : Determined number.Learnt
number_determined = by_equation _

pub root_determined : Determined root.Learnt
root_determined = by_equation _

pub child_determined : Determined child.Learnt
child_determined = by_equation _

pub is_good_determined : Determined is_good_lem.Learnt
is_good_determined = by_equation _

pub length_determined : Determined length.Learnt
length_determined = by_equation _

pub before_determined : Determined before.Learnt
before_determined = by_equation _

pub follow_determined : Determined follow.Learnt
follow_determined = by_equation _

pub equal_determined : Determined equal.Learnt
equal_determined = by_equation _

pub label_of_determined : Determined label_of.Learnt
label_of_determined = by_equation _

pub lengths_of_determined : Determined lengths-of.Learnt
lengths_of_determined = by_equation _

pub announcement_of_determined : Determined announcement-of.Learnt
announcement_of_determined = by_equation _

pub successor_of_determined : Determined successor-of.Learnt
successor_of_determined = by_equation _

pub label_at_determined : Determined label_at.Learnt
label_at_determined = by_equation _

pub lengths_at_determined : Determined lengths-at.Learnt
lengths_at_determined = by_equation _

pub announcement_at_determined : Determined announcement-at.Learnt
announcement_at_determined = by_equation _

pub successor_at_determined : Determined successor-at.Learnt
successor_at_determined = by_equation _

pub matches_determined : Determined matches.Learnt
matches_determined = by_equation _

pub clashes_determined : Determined clashes.Learnt
clashes_determined = by_equation _

-- ---- the call that answers a part of a table, and those that are lent buffers to be written
pub subtree_determined : (κs : _) (a : _) (r r' : _) (e e' : _) → subtree.Learnt κs a r e → subtree.Learnt κs a r' e' → r.now ≡ r'.now
subtree_determined κs a r r' e e' h h' = h ∙ sym h'

pub open_folio_determined : (κs : _) (a : _) (r r' : _) (e e' : _) → open-folio.Learnt κs a r e → open-folio.Learnt κs a r' e' → (r ≡ r')
    × (e.1.0.now ≡ e'.1.0.now) × (e.1.1.0.now ≡ e'.1.1.0.now) × (e.1.1.1.0.now ≡ e'.1.1.1.0.now)
    × (e.1.1.1.1.0.now ≡ e'.1.1.1.1.0.now)
open_folio_determined κs a r r' e e' h h' = let x = h ∙ sym h' in (
  ap (λ (o : OpenOutcome). o.answer) x,
  ap (λ (o : OpenOutcome). o.tables.words) x,
  ap (λ (o : OpenOutcome). o.tables.starts) x,
  ap (λ (o : OpenOutcome). o.tables.score) x,
  ap (λ (o : OpenOutcome). o.tables.spans) x,
)

pub build_determined : (κs : _) (a : _) (r r' : _) (e e' : _) → build.Learnt κs a r e → build.Learnt κs a r' e' → (r ≡ r')
    × (e.1.1.0.now ≡ e'.1.1.0.now) × (e.1.1.1.0.now ≡ e'.1.1.1.0.now)
build_determined κs a r r' e e' h h' = let x = h ∙ sym h' in
    (ap (λ (o : BuildOutcome). o.answer) x, ap (λ (o : BuildOutcome). o.plan) x, ap (λ (o : BuildOutcome). o.scratch) x)

same_line : (o o' : LineOutcome) → o ≡ o' → (o.answer ≡ o'.answer) × (o.out ≡ o'.out)
same_line o o' x = (ap (λ (y : LineOutcome). y.answer) x, ap (λ (y : LineOutcome). y.out) x)

-- what stands in a walk's buffers, after either
same_walk : {o o' : WalkOutcome} {w w' : Walk} → o ≡ o' → w ≡ o.walk → w' ≡ o'.walk → (o.answer ≡ o'.answer) × (w ≡ w')
same_walk x f f' = (ap (λ (y : WalkOutcome). y.answer) x, f ∙ ap (λ (y : WalkOutcome). y.walk) x ∙ sym f')

pub start_determined : (κs : _) (a : _) (r r' : _) (e e' : _) → start.Learnt κs a r e → start.Learnt κs a r' e' → (w w' : Walk)
    → Stands a.0.now e.0.now (record_after r (counting 0 0 0)) w → Stands a.0.now e'.0.now (record_after r' (counting 0 0 0)) w' → (r ≡ r') × (w ≡ w')
start_determined κs a r r' e e' h h' w w' f f' = same_walk (h.1 ∙ sym h'.1) (f h.0.waiting h.0.log h.0.marks) (f' h'.0.waiting h'.0.log h'.0.marks)

pub step_determined : (κs : _) (a : _) (r r' : _) (e e' : _) → step.Learnt κs a r e → step.Learnt κs a r' e' → (w w' : Walk)
    → Stands a.0.now e.0.now (record_after r a.1.1.1.0) w → Stands a.0.now e'.0.now (record_after r' a.1.1.1.0) w' → (r ≡ r') × (w ≡ w')
step_determined κs a r r' e e' h h' w w' f f' = same_walk (h.1 ∙ sym h'.1) (f h.0.waiting h.0.log h.0.marks) (f' h'.0.waiting h'.0.log h'.0.marks)

pub steps_determined : (κs : _) (a : _) (r r' : _) (e e' : _) → steps.Learnt κs a r e → steps.Learnt κs a r' e' → (w w' : Walk)
    → Stands a.0.now e.0.now (record_in r) w → Stands a.0.now e'.0.now (record_in r') w' → (r ≡ r') × (w ≡ w')
steps_determined κs a r r' e e' h h' w w' f f' = let x = h.1 ∙ sym h'.1 in (
  ap (λ (o : ListOutcome). o.answer) x,
  f h.0.waiting h.0.log h.0.marks ∙ ap (λ (o : ListOutcome). o.walk) x ∙ sym (f' h'.0.waiting h'.0.log h'.0.marks),
)

pub compare_determined : (κs : _) (a : _) (r r' : _) (e e' : _) → compare.Learnt κs a r e → compare.Learnt κs a r' e' → (r ≡ r')
    × (e.1.1.1.0.now ≡ e'.1.1.1.0.now)
compare_determined κs a r r' e e' h h' = let x = h ∙ sym h' in (ap (λ (o : CompareOutcome). o.answer) x, ap (λ (o : CompareOutcome). o.marks) x)

pub put_determined : (κs : _) (a : _) (r r' : _) (e e' : _) → put.Learnt κs a r e → put.Learnt κs a r' e' → (r ≡ r')
    × (e.1.1.1.1.1.1.1.0.now ≡ e'.1.1.1.1.1.1.1.0.now)
put_determined κs a r r' e e' h h' = let x = h ∙ sym h' in (ap (λ (o : PutOutcome). o.answer) x, ap (λ (o : PutOutcome). o.score) x)

pub put_line_determined : (κs : _) (a : _) (r r' : _) (e e' : _) → put-line.Learnt κs a r e → put-line.Learnt κs a r' e' → (r ≡ r')
    × (e.1.1.1.0.now ≡ e'.1.1.1.0.now)
put_line_determined κs a r r' e e' h h' = same_line _ _ (h ∙ sym h')

pub put_refusal_determined : (κs : _) (a : _) (r r' : _) (e e' : _) → put-refusal.Learnt κs a r e → put-refusal.Learnt κs a r' e' → (r ≡ r')
    × (e.1.1.0.now ≡ e'.1.1.0.now)
put_refusal_determined κs a r r' e e' h h' = same_line _ _ (h ∙ sym h')

pub put_first_determined : (κs : _) (a : _) (r r' : _) (e e' : _) → put_first.Learnt κs a r e → put_first.Learnt κs a r' e' → (r ≡ r')
    × (e.1.0.now ≡ e'.1.0.now)
put_first_determined κs a r r' e e' h h' = same_line _ _ (h ∙ sym h')

-- ---- the view's calls
-- The checker reads no contract off a call that takes or gives a view, so here the contract itself stands: what it says of two results, for the same arguments,
-- entails that they are equal. Of two views that is: the same words lent, and both counts.
module _ {M : Type 1} {𝓤 : Ura M} (𝓛 : Logic 𝓤) where
  abbrev pub OneResult : (S : Signature) → Spec 𝓤 S → Type 1
  OneResult S c = (κs : Lfts S.lifetimes) (a : Args S κs) (g : (c κs a).ghost) (r r' : Res S κs)
      → ent 𝓤 (conj 𝓤 ((c κs a).ensures g r) ((c κs a).ensures g r')) (fact 𝓤 (r ≡ r'))

  by_clause : (S : Signature) (c : Spec 𝓤 S) (f : (κs : Lfts S.lifetimes) → Args S κs → Res S κs) → Allows 𝓛 S c (λ κs a r. r ≡ f κs a)
      → OneResult S c
  by_clause S c f says κs a g r r' =
      fact_use 𝓤 (r ≡ f κs a) (via 𝓤 ((c κs a).ensures g r) (conj_l 𝓤 _ _) (says κs a g r)) (λ h.
      fact_use 𝓤 (r' ≡ f κs a) (via 𝓤 ((c κs a).ensures g r') (conj_r 𝓤 _ _) (says κs a g r')) (λ h'.
      fact_i 𝓤 (r ≡ r') (conj 𝓤 ((c κs a).ensures g r) ((c κs a).ensures g r')) (h ∙ sym h')))

  pub view_determined : (mem : _) (run : _) → OneResult view.signature (view.spec 𝓛 mem run)
  view_determined mem run = by_clause view.signature (view.spec 𝓛 mem run) (λ κs a. record { words = a.0; states = a.1.0; symbols = a.1.1.0 })
      (λ κs a g r. of_clause 𝓛 view.ended κs a _ _ (λ h i. record { words = h.0 i; states = h.1 i; symbols = h.2 i }))

  pub label_in_determined : (mem : _) (run : _) → OneResult label-in.signature (label-in.spec 𝓛 mem run)
  label_in_determined mem run = by_clause label-in.signature (label-in.spec 𝓛 mem run)
      (λ κs a. label_of a.0.words.now a.0.states a.0.symbols a.1.0.0) (λ κs a g r. of_clause 𝓛 label-in.ended κs a _ _ (λ h. h))

  pub lengths_in_determined : (mem : _) (run : _) → OneResult lengths-in.signature (lengths-in.spec 𝓛 mem run)
  lengths_in_determined mem run = by_clause lengths-in.signature (lengths-in.spec 𝓛 mem run)
      (λ κs a. lengths_of a.0.words.now a.0.states a.0.symbols a.1.0.0 a.1.1.0.0)
      (λ κs a g r. of_clause 𝓛 lengths-in.ended κs a _ _ (λ h. h))

  pub announcement_in_determined : (mem : _) (run : _) → OneResult announcement-in.signature (announcement-in.spec 𝓛 mem run)
  announcement_in_determined mem run = by_clause announcement-in.signature (announcement-in.spec 𝓛 mem run)
      (λ κs a. announcement_of a.0.words.now a.0.states a.0.symbols a.1.0.0 a.1.1.0.0 a.1.1.1.0)
      (λ κs a g r. of_clause 𝓛 announcement-in.ended κs a _ _ (λ h. h))

  pub successor_in_determined : (mem : _) (run : _) → OneResult successor-in.signature (successor-in.spec 𝓛 mem run)
  successor_in_determined mem run = by_clause successor-in.signature (successor-in.spec 𝓛 mem run)
      (λ κs a. successor_of a.0.words.now a.0.states a.0.symbols a.1.0.0 a.1.1.0.0 a.1.1.1.0)
      (λ κs a g r. of_clause 𝓛 successor-in.ended κs a _ _ (λ h. h))
