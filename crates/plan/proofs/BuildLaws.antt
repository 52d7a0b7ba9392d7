-- Building, step by step.
--   filled cleared_is              the first words zero
--   cleared_again                  what clearing leaves depends only on the words behind
--   same_self                      a state is the same as itself
--   Ended ended_is made_counts     what exploring to the end tells: the plan's words, their number
--   made_stopped made_long made_plan   the plan that there is, or why there is none
--   built_bad built_short built_on built_made   19; 23; and on
use Rattle.plan.specs.declared.Size.{Size}
use Rattle.plan.specs.declared.Unbuilt.{Unbuilt}
use Rattle.plan.specs.declared.Unbuilt.TheVariants as unbuilt
use Rattle.std.specs.Prelude.{Err, Ok, Result}
use mathlib.Core.Path.{◌≡◌, refl, ap, ap₂, sym, ◌∙◌}
use mathlib.Core.List.{List, [], ◌∷◌, ◌++◌}
use mathlib.Core.Bool.{Bool, true, false, cond, ◌||◌}
use mathlib.Core.Logic.{◌⊎◌, ⊎_elim}
use Prim.Native.Nat.{ℕ, ◌+◌, ◌*◌, ◌<◌, ◌≤◌}
use native.Mathlib.Nat.{mul-le-mul}
use borrow.Author.Tests.{lt-ltb, le-ltb, le-leb, lt-leb}
use lib.Dec.{eqb, ltb, leb}
use lib.ListN.{length, take, drop, replicate, length-replicate}
use lib.Seq.{sets, drop-drop, length-take-le}
use Rattle.kinds.specs.Lists.{onto, unless}
use Rattle.kinds.specs.declared.State.{State}
use Rattle.kinds.specs.declared.Reason.{Reason}
use Rattle.kinds.specs.declared.Reason.TheVariants.{BadShapes, ShortScratch, LongPlan}
use Rattle.kinds.proofs.Bools.{both, is_eqb, or_l, or_r}
use Rattle.kinds.specs.Members.{◌∈◌, here, there}
use Rattle.checks.specs.Again.{shapes_good}
use Rattle.automaton.specs.Exploring.{made, explored}
use Rattle.automaton.specs.PlanWords.{Plan, halted, too_long, plan_of_lem, to_plan, planned}
use Rattle.automaton.specs.FinalBlocks.{all_blocks, SmallOn}
use Rattle.automaton.proofs.BlocksAgain.{blocks_again}
use Rattle.goals.specs.GoalWords.{GoalWords}
use Rattle.goals.specs.WordStages.{same_w, among_w, within_w, same_state_w}
use Rattle.decoding.specs.WordMachine.{words, states_in, used_words}
use Rattle.decoding.specs.GoodStates.{Ready}
use Rattle.states.specs.Meeting.{Held, Behind, blocks_length, all_most, AllMade, ExploredIs}
use Rattle.writing.specs.RowWords.{plan_in, Writable}
use Rattle.plan.specs.Building.{BuildOutcome, out, scratch_words, cleared, size, written, plan_of, build_of, refuse_build}
use Rattle.folio.specs.Folio.{shape_terms}
use Rattle.states.proofs.StateLaws.{states_length}
use Rattle.writing.proofs.WriteLaws.{plan_length}

-- ---- the first k words zero
filled : (k : ℕ) (xs ys : List ℕ) → k ≤ length xs → ys ≡ replicate (length (take k xs)) 0 → ys ++ drop k xs ≡ onto (replicate k 0) xs
filled k xs ys h e =
    ap₂ (λ l n. l ++ drop n xs) (e ∙ ap (λ n. replicate n 0) (length-take-le k xs h)) (sym (length-replicate {A = ℕ} k 0))

pub cleared_is : (xs ys : List ℕ) → scratch_words ≤ length xs → ys ≡ replicate (length (take scratch_words xs)) 0
    → ys ++ drop scratch_words xs ≡ cleared xs
unfolding cleared
cleared_is xs ys h e = filled scratch_words xs ys h e

onto_again : (k : ℕ) (xs ys : List ℕ) → drop k xs ≡ drop k ys → onto (replicate k 0) xs ≡ onto (replicate k 0) ys
onto_again k xs ys e =
    ap (λ n. replicate k 0 ++ drop n xs) (length-replicate {A = ℕ} k 0)
    ∙ ap (λ l. replicate k 0 ++ l) e
    ∙ ap (λ n. replicate k 0 ++ drop n ys) (sym (length-replicate {A = ℕ} k 0))

pub cleared_again : (xs ys : List ℕ) → Behind ys xs → cleared xs ≡ cleared ys
unfolding cleared
cleared_again xs ys e =
    onto_again scratch_words xs ys (sym (drop-drop 20064 used_words xs) ∙ ap (drop 20064) e ∙ drop-drop 20064 used_words ys)

-- ---- a state is the same as itself
same_goal_lem : (g : GoalWords) → same_w g g ≡ true
same_goal_lem g =
    both {a = eqb g.sh g.sh} (is_eqb g.sh g.sh refl)
    (both {a = eqb g.an g.an} (is_eqb g.an g.an refl) (is_eqb g.mask g.mask refl))

among_in : (g : GoalWords) (hs : List GoalWords) → g ∈ hs → among_w g hs ≡ true
unfolding among_w
among_in g [] x' = elim x' [ ]
among_in g (h ∷ hs) (here e) = or_l (among_w g hs) (ap (same_w g) (sym e) ∙ same_goal_lem g)
among_in g (h ∷ hs) (there m) = or_r (same_w g h) (among_in g hs m)

within_in : (gs hs : List GoalWords) → ((g : GoalWords) → g ∈ gs → g ∈ hs) → within_w gs hs ≡ true
unfolding within_w
within_in [] hs h = refl
within_in (g ∷ gs) hs h = both {a = among_w g hs} (among_in g hs (h g (here refl))) (within_in gs hs (λ x m. h x (there m)))

pub same_self : (gs : List GoalWords) → same_state_w gs gs ≡ true
same_self gs = both {a = within_w gs gs} (within_in gs gs (λ g m. m)) (within_in gs gs (λ g m. m))

pub few_starts : (m k : ℕ) → m ≤ 128 → k ≤ 32 → m * k ≤ 4096
few_starts m k h g = mul-le-mul {n₁ = m} {m₁ = k} {n₂ = 128} {m₂ = 32} h g

-- ---- exploring to the end
module _ (ar tab : List ℕ) (n : ℕ) where
  pub record Ended (sc : List ℕ) (m w : ℕ) : Type 0 where
    pub held : Held ar tab n sc m
    pub small : (s : List GoalWords) → s ∈ states_in sc m → SmallOn (words tab n) s 0 ar
    pub total : 4 + m + m * length ar + w ≡ length (plan_in ar tab n sc m)
    pub room : w ≤ all_most
    pub is : (buffer : ℕ) → planned (words tab n) ar n buffer
        ≡ cond (ltb buffer (length (plan_in ar tab n sc m)) || ltb 65535 (length (plan_in ar tab n sc m))) too_long (plan_of_lem m (plan_in ar tab n sc m))

  pub ended_is : (r : Result (ℕ × ℕ) (Reason × State)) (m w : ℕ) (sc : List ℕ) → r ≡ Ok (m, w) → ExploredIs r ar tab n sc (explored (words tab n) ar)
      → Ended sc m w
  ended_is r m w sc e x = go (rw e at x)
    where
      go : AllMade m w ar tab n sc (explored (words tab n) ar) → Ended sc m w
      go t =
          let P = plan_in ar tab n sc m in
          let long = states_length sc m in
          let again = blocks_again (words tab n) same_self ar (states_in sc m) t.blocks t.is in
          let many : w ≡ blocks_length (all_blocks (words tab n) (states_in sc m) ar) = t.sum ∙ ap blocks_length again.0 in
          record {
            held = t.held;
            small = again.1;
            total = sym (plan_length ar tab n sc m ∙ ap₂ (λ x y. 4 + x + x * length ar + y) long (sym many));
            room = t.small;
            is = λ buffer. ap (to_plan (words tab n) buffer (length ar) n) (t.is ∙ ap (made (states_in sc m)) again.0)
                ∙ ap (λ x. cond (ltb buffer (length P) || ltb 65535 (length P)) too_long (plan_of_lem x P)) long;
          }

  module _ (plan scratch : List ℕ) where
    -- what is to be answered, and what scratch is cleared to
    abbrev pub wanted : BuildOutcome
    wanted = written (planned (words tab n) ar n (length plan)) plan scratch

    pub made_stopped : (r : Result (ℕ × ℕ) (Reason × State)) (why : Reason) (at : State) (sc : List ℕ) → r ≡ Err (why, at)
        → ExploredIs r ar tab n sc (explored (words tab n) ar) → Behind scratch sc
        → out (Err (unbuilt.Stopped why at)) plan (cleared sc) ≡ wanted
    made_stopped r why at sc e x b =
        let is : planned (words tab n) ar n (length plan) ≡ halted why at.0 =
        ap (to_plan (words tab n) (length plan) (length ar) n) (rw e at x) in
        ap (out (Err (unbuilt.Stopped why at)) plan) (cleared_again sc scratch b) ∙ sym (ap (λ p. written p plan scratch) is)

    module _ {sc : List ℕ} {m w : ℕ} (e : Ended sc m w) (b : Behind scratch sc) where
      abbrev P : List ℕ
      P = plan_in ar tab n sc m

      abbrev total : ℕ
      total = 4 + m + m * length ar + w

      pub made_long : (length plan < total) ⊎ (65535 < total) → out (Err (unbuilt.Refused LongPlan)) plan (cleared sc) ≡ wanted
      made_long h =
          let over : (ltb (length plan) (length P) || ltb 65535 (length P)) ≡ true =
          ⊎_elim (λ l. or_l (ltb 65535 (length P)) (lt-ltb (length plan) (length P) (rw e.total at l)))
          (λ l. or_r (ltb (length plan) (length P)) (lt-ltb 65535 (length P) (rw e.total at l))) h in
          let is : planned (words tab n) ar n (length plan) ≡ too_long =
          e.is (length plan) ∙ ap (λ t. cond t too_long (plan_of_lem m P)) over in
          ap (out (Err (unbuilt.Refused LongPlan)) plan) (cleared_again sc scratch b) ∙ sym (ap (λ p. written p plan scratch) is)

      pub made_plan : total ≤ length plan → total ≤ 65535 → (plan' sc' : List ℕ) → plan' ≡ sets plan 0 P → Behind sc sc'
          → out (Ok (size m total)) plan' (cleared sc') ≡ wanted
      made_plan h g plan' sc' d b' =
          let within : (ltb (length plan) (length P) || ltb 65535 (length P)) ≡ false =
          ap₂ (λ x y. x || y) (le-ltb (length plan) (length P) (rw e.total at h)) (le-ltb 65535 (length P) (rw e.total at g)) in
          let is : planned (words tab n) ar n (length plan) ≡ plan_of_lem m P =
          e.is (length plan) ∙ ap (λ t. cond t too_long (plan_of_lem m P)) within in
          ap (λ k. out (Ok (size m k)) plan' (cleared sc')) e.total
          ∙ ap₂ (out (Ok (size m (length P)))) d (cleared_again sc' scratch (b' ∙ b))
          ∙ sym (ap (λ p. written p plan scratch) is)

      pub plan_writable : Ready ar tab n → total ≤ length plan → total ≤ 65535 → Writable ar tab n sc m total plan
      plan_writable ready h g = record { ready = ready; held = e.held; small = e.small; sum = e.total; room = h; word = g }

  -- no number overflows
  pub record Counts (m w : ℕ) : Type 0 where
    pub states : m ≤ 128
    pub starts : m * length ar ≤ 4096
    pub blocks : w ≤ all_most

  ended_counts : {sc : List ℕ} {m w : ℕ} → Ended sc m w → length ar ≤ 32 → Counts m w
  ended_counts {sc} {m} {w} e few =
      record { states = e.held.kept.few; starts = few_starts m (length ar) e.held.kept.few few; blocks = e.room }

  pub made_counts : (r : Result (ℕ × ℕ) (Reason × State)) (m w : ℕ) (sc : List ℕ) → r ≡ Ok (m, w) → ExploredIs r ar tab n sc (explored (words tab n) ar)
      → length ar ≤ 32 → Counts m w
  made_counts r m w sc e x few = ended_counts (ended_is r m w sc e x) few

-- ---- the whole
passed : (a b : Bool) (x y z : BuildOutcome) → a ≡ true → b ≡ true → unless a x (unless b y z) ≡ z
passed a b x y z e d = rw (e, d) refl

module _ (ar ws st plan scratch : List ℕ) where
  pub built_bad : shapes_good ar ws st ≡ false → build_of ar ws st plan scratch ≡ refuse_build BadShapes plan scratch
  unfolding build_of
  built_bad e = rw e refl

  pub built_short : shapes_good ar ws st ≡ true → length scratch < scratch_words
      → build_of ar ws st plan scratch ≡ refuse_build ShortScratch plan scratch
  unfolding build_of
  built_short e h = rw (e, lt-leb scratch_words (length scratch) h) refl

  pub built_on : shapes_good ar ws st ≡ true → scratch_words ≤ length scratch → (p : Plan) → p ≡ plan_of ar (shape_terms ar ws) (length plan)
      → build_of ar ws st plan scratch ≡ written p plan scratch
  unfolding build_of
  built_on e h p d =
      passed (shapes_good ar ws st) (leb scratch_words (length scratch)) (refuse_build BadShapes plan scratch) (refuse_build ShortScratch plan scratch)
      (written (plan_of ar (shape_terms ar ws) (length plan)) plan scratch) e (le-leb scratch_words (length scratch) h)
      ∙ ap (λ q. written q plan scratch) (sym d)

  pub built_made : shapes_good ar ws st ≡ true → scratch_words ≤ length scratch → (p : Plan) → p ≡ plan_of ar (shape_terms ar ws) (length plan)
      → (a : Result Size Unbuilt) (plan' sc sc' : List ℕ)
      → out a plan' (cleared sc) ≡ written p plan scratch → sc' ≡ cleared sc → out a plan' sc' ≡ build_of ar ws st plan scratch
  built_made e h p d a plan' sc sc' w clear = ap (out a plan') clear ∙ w ∙ sym (built_on e h p d)
