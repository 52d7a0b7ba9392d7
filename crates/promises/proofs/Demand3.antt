-- Demand 3 holds of every file that opens and whose build is accepted.
--   same_…     two finished walks over one file
use Rattle.std.specs.Prelude.{Ok, Some}
use mathlib.Core.Path.{◌≡◌, ap, ap₂, sym, ◌∙◌, subst}
use mathlib.Core.List.{List, ◌++◌}
use mathlib.Core.Logic.{◌↔◌}
use Prim.Native.Nat.{ℕ, suc, ◌+◌, ◌<◌, ◌≤◌}
use native.Mathlib.Omega.{arith}
use native.Mathlib.Decide.{dec_lt}
use lib.ListN.{length, get_or, take, take-append-drop}
use lib.Seq.{length-take-le, get_or-take}
use Rattle.kinds.specs.declared.Reason.TheVariants.{NoSuchItem}
use Rattle.kinds.proofs.Members.{Distinct}
use Rattle.kinds.specs.Members.{◌∈◌}
use Rattle.kinds.proofs.Places.{on_in, at_below, get_d_at, get_d_in, distinct_at}
use Rattle.term.specs.Terms.{span}
use Rattle.term.proofs.Sizes.{length_sizes}
use Rattle.counting.specs.Counting.{total}
use Rattle.report.specs.Text.{first_line, lines, report}
use Rattle.walk.specs.Starting.{Walk, WalkOutcome, refuse_walk, walked_says}
use Rattle.kinds.specs.Reasons.{Says, gives, refusal}
use Rattle.promises.specs.Told.{Told, told as telling}
use Rattle.promises.specs.Demand1.{walk_told, recorded}
use Rattle.walking.specs.OneFolio.{walk_in}
use Rattle.walking.proofs.AnyWalk as any-walk
use Rattle.promises.specs.OneFile.{OpenFile, OneFile, words_in, starts_in, score_in, spans_in, buffer_in, after, step_after, accepted_in, reported}
use Rattle.promises.specs.Reported.{totals_of}
use Rattle.promises.specs.Demand3.{Demand3}
use Rattle.promises.proofs.OpenFile.{score_spans, same_score, same_words, same_starts, same_spans, same_depth}
use Rattle.promises.proofs.OpenReport.{exact_over}
use Rattle.promises.proofs.Setting.{number_is, told, same_states}
use Rattle.promises.proofs.SoFar.{all_logged}
use Rattle.promises.proofs.Demand2.{exact}
use Rattle.promises.proofs.AnyLists as any-lists

-- the first n entries, as a list and by place
module _ (n : ℕ) (xs : List ℕ) (long : n ≤ length xs) where
  pub once_at : Distinct (take n xs) → (i k : ℕ) → i < n → k < n → get_or xs i 0 ≡ get_or xs k 0 → i ≡ k
  once_at d i k hi hk e =
      let l = length-take-le n xs long in
      distinct_at (take n xs) d i k (omega arith) (omega arith) (get_or-take n xs i 0 hi ∙ e ∙ sym (get_or-take n xs k 0 hk))

  pub found_at_lem : {y : ℕ} → y ∈ take n xs → (i : ℕ) × (i < n) × (get_or xs i 0 ≡ y)
  found_at_lem m = on_in m λ i e.
      let l = length-take-le n xs long in
      let b = at_below (take n xs) i e in
      let h : i < n = omega arith in
      (i, h, sym (get_or-take n xs i 0 h) ∙ get_d_at (take n xs) i 0 e)

module _ {file : List ℕ} {O : OpenFile file} (S : OneFile O) (choices : List ℕ) where
  abbrev F_after : Walk
  F_after = walk_in (told S).folio choices S.walk

  abbrev is : after S choices ≡ F_after
  is = (told S).after_is choices

  log_long : (after S choices).count.logged ≤ length (after S choices).log
  log_long = subst (λ (v : Walk). v.count.logged ≤ length v.log) (sym is)
      (let r = (any-walk.same_walk (told S).folio S.walk (told S).lent choices).log_room in
      let w = any-walk.waits_unread (told S).folio S.walk (told S).lent choices in
      omega arith)

  on_after {κ} : (P : Walk → Type κ) → P F_after → P (after S choices)
  on_after P h = subst P (sym is) h

  waiting_is : (after S choices).count.waiting ≡ F_after.count.waiting
  waiting_is = ap (λ (v : Walk). v.count.waiting) is

  logged_is : (after S choices).count.logged ≡ F_after.count.logged
  logged_is = ap (λ (v : Walk). v.count.logged) is

  refused : (i : ℕ) → (after S choices).count.waiting ≤ i → walk_told (step_after S choices i) ≡ telling (refusal 32 0) (after S choices)
  refused i h =
      ap walk_told
      ((told S).step_is choices i ∙ any-walk.refused_32 (told S).folio S.walk (told S).lent choices i (rw waiting_is at h)
      ∙ ap (refuse_walk NoSuchItem) (sym is))

  taken : (i : ℕ) → i < (after S choices).count.waiting
      → (walked_says (step_after S choices i).answer ≡ gives (recorded (step_after S choices i).walk))
      × ((step_after S choices i).walk.count.logged ≡ suc (after S choices).count.logged)
  taken i h =
      let d = (told S).step_is choices i in
      let l = rw waiting_is at h in (
        ap walked_says (ap (λ (o : WalkOutcome). o.answer) d ∙ any-walk.taken (told S).folio S.walk (told S).lent choices i l
            ∙ ap (λ (o : WalkOutcome). Ok o.walk.count) (sym d)),
        ap (λ (o : WalkOutcome). o.walk.count.logged) d ∙ any-walk.one_logged (told S).folio S.walk (told S).lent choices i l
            ∙ ap suc (sym logged_is),
      )

  -- a step is accepted, or refused 32
  never_34 : (i : ℕ) → (walked_says (step_after S choices i).answer).number ≡ 34 → ⊥
  never_34 i e = go (dec_lt i (after S choices).count.waiting)
    where
      go : Dec (i < (after S choices).count.waiting) → ⊥
      go (yes h) = let z : ◌≡◌ {A = ℕ} 0 34 = sym (ap (λ (s : Says). s.number) (taken i h).0) ∙ e in omega arith
      go (no h) = let z : ◌≡◌ {A = ℕ} 32 34 = sym (ap (λ (t : Told Walk). t.says.number) (refused i (omega arith))) ∙ e in omega arith

  steps : (accepted_in S choices ≡ (after S choices).count.logged) × (accepted_in S choices ≤ span (score_in O))
      × (((after S choices).count.waiting ≡ 0) ↔ (accepted_in S choices ≡ span (score_in O)))
  steps =
      let a = (told S).accepted_is choices in
      let b = any-walk.accepted_logged (told S).folio S.walk (told S).lent choices in
      let u = any-walk.waits_unread (told S).folio S.walk (told S).lent choices in
      let e = any-walk.steps_end (told S).folio S.walk (told S).lent choices in
      (a ∙ b ∙ sym logged_is, omega (arith, a, b, u), (λ h. a ∙ e.0 (sym waiting_is ∙ h), λ h. waiting_is ∙ e.1 (sym a ∙ h)))

  log_nodes : (i : ℕ) → i < (after S choices).count.logged → get_or (after S choices).log i 0 < span (score_in O)
  log_nodes i h =
      let n = (after S choices).count.logged in
      let l = length-take-le n (after S choices).log log_long in
      let m : get_or (after S choices).log i 0 ∈ take n (after S choices).log =
      rw (← get_or-take n (after S choices).log i 0 h) (get_d_in (take n (after S choices).log) i 0 (omega arith)) in
      any-walk.log_nodes (told S).folio S.walk (told S).lent choices (get_or (after S choices).log i 0)
      (subst (λ (v : Walk). get_or (after S choices).log i 0 ∈ take v.count.logged v.log) is m)

  log_all : (after S choices).count.waiting ≡ 0 → (n : ℕ) → n < span (score_in O) → (i : ℕ) × (i < (after S choices).count.logged)
      × (get_or (after S choices).log i 0 ≡ n)
  log_all done n h = found_at_lem (after S choices).count.logged (after S choices).log log_long (all_logged S choices done n h)

-- ---- two finished walks
module _ {file : List ℕ} {O P : OpenFile file} (S : OneFile O) (T : OneFile P) (c d : List ℕ) (c-done : (after S c).count.waiting ≡ 0)
    (d-done : (after T d).count.waiting ≡ 0) where
  pub same_marks : take (span (score_in O)) (after S c).marks ≡ take (span (score_in O)) (after T d).marks
  same_marks = exact_over O P (exact S c c-done) (after T d).marks (exact T d d-done)

  pub same_number : (after S c).count.matches ≡ (after T d).count.matches
  same_number = number_is S c ∙ ap total same_marks ∙ ap (λ t. total (take (span t) (after T d).marks)) (same_score O P) ∙ sym (number_is T d)

  pub same_text : reported S c ≡ reported T d
  unfolding report
  same_text =
      let k : length (spans_in O) ≡ span (score_in O) = ap length (score_spans O) ∙ length_sizes (score_in O) in
      let m : take (length (spans_in O)) (after S c).marks ≡ take (length (spans_in O)) (after T d).marks = rw k same_marks in
      ap₂ (λ k ms. first_line (totals_of (words_in O) (starts_in O) (spans_in O) O.counts.depth (Some S.size.states) k ms) ++ lines (spans_in O) ms)
      same_number m
      ∙ (λ i. let marks = (after T d).marks in
      report (totals_of (same_words O P i) (same_starts O P i) (same_spans O P i) (same_depth O P i) (Some (same_states S T i)) (after T d).count.matches
      (take (length (same_spans O P i)) marks)) (same_spans O P i) marks)

pub demand_3 : {file : List ℕ} {O : OpenFile file} (S : OneFile O) → Demand3 S
demand_3 {O = O} S = record {
  in_buffer = take-append-drop S.size.words (buffer_in S);
  never_34 = never_34 S;
  refused = refused S;
  taken = taken S;
  steps = steps S;
  log_nodes = log_nodes S;
  log_once = λ choices i k hi hk e.
      once_at (after S choices).count.logged (after S choices).log (log_long S choices)
      (on_after S choices (λ (v : Walk). Distinct (take v.count.logged v.log))
      (any-walk.log_once (told S).folio S.walk (told S).lent choices)) i k hi hk e;
  log_all = log_all S;
  waits = λ choices. on_after S choices (λ (v : Walk). v.count.waiting + v.count.logged ≤ span (score_in O))
      (any-walk.waits_unread (told S).folio S.walk (told S).lent choices);
  number = number_is S;
  same_marks = λ T c d. same_marks S T c d;
  same_number = λ T c d. same_number S T c d;
  same_text = λ T c d. same_text S T c d;
  lists = any-lists.lists S;
  lists_accepted = any-lists.lists_accepted S;
  list_taken = any-lists.list_taken S;
  list_refused = any-lists.list_refused S;
  list_never_34 = λ ls. any-lists.list_never_34 S ls (never_34 S);
}
