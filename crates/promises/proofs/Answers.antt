-- What an accepted answer tells.
--   plan_fits            a plan's words are no more than its buffer has
--   same_planned         whatever the buffer has, they are the same
--   BuiltAs built_as     an accepted build: the plan that there is stands at the buffer's start
--   started_as           an accepted start: there is room, the walk begins, and the score is good
use Rattle.plan.specs.declared.Unbuilt.TheVariants as unbuilt
use Rattle.std.specs.Prelude.{Err, Ok}
use mathlib.Core.Path.{◌≡◌, refl, ap, sym, ◌∙◌}
use mathlib.Core.Bool.{Bool, true, false, cond, ◌||◌}
use mathlib.Core.Logic.{◌⊎◌, inl, inr}
use mathlib.Core.List.{List}
use Prim.Native.Nat.{ℕ, ◌<◌, ◌≤◌}
use native.Mathlib.Omega.{arith}
use native.Mathlib.Decide.{dec_lt}
use lib.Dec.{ltb}
use lib.ListN.{length, take}
use lib.Seq.{sets}
use Rattle.kinds.specs.Lists.{unless}
use Rattle.kinds.specs.declared.Reason.{Reason}
use Rattle.kinds.specs.declared.Reason.TheVariants.{BadScore, ShortBuffers}
use Rattle.kinds.proofs.Bools.{test, ltb_not, or_first}
use Rattle.folio.specs.Folio.{shape_terms}
use Rattle.checks.specs.Again.{shapes_good, score_good}
use Rattle.kinds.proofs.ListLaws.{stored_back}
use Rattle.automaton.specs.Paper.{paper}
use Rattle.automaton.specs.Exploring.{Construction, Block, Made, refused, made, explored, construction}
use Rattle.automaton.specs.PlanWords.{Plan, halted, too_long, plan_of_lem, plan_words, to_plan, planned}
use Rattle.plan.specs.Building.{BuildOutcome, size, plan_of, written, build_of}
use Rattle.plan.specs.declared.Size.{Size}
use Rattle.plan.proofs.BuildLaws.{built_bad, built_short, built_on}
use Rattle.walk.specs.Starting.{Walk, begun, room_for, started}
use Rattle.walk.specs.Starting.{WalkOutcome}
use Rattle.walk.specs.declared.Record.{Record}
use Rattle.walking.proofs.PlanRead.{on_planned}

-- ---- the plan
module _ {S : Type 0} (C : Construction S) (ar : List ℕ) (n : ℕ) where
  pub plan_fits : (room m : ℕ) (w : List ℕ) → planned C ar n room ≡ plan_of_lem m w → length w ≤ room
  plan_fits room m w e = go (explored C ar) e
    where
      fits : (ss : List S) (bs : List Block) (b : Bool)
          → (ltb room (length (plan_words C (length ar) n ss bs)) || ltb 65535 (length (plan_words C (length ar) n ss bs))) ≡ b
          → cond b too_long (plan_of_lem (length ss) (plan_words C (length ar) n ss bs)) ≡ plan_of_lem m w → length w ≤ room
      fits ss bs true eb d = let z : ◌≡◌ {A = ℕ} 0 1 = cc in absurd (omega arith)
      fits ss bs false eb d =
          let z : plan_words C (length ar) n ss bs ≡ w = cc in
          let h = ltb_not room (length (plan_words C (length ar) n ss bs))
          (or_first (ltb room (length (plan_words C (length ar) n ss bs))) (ltb 65535 (length (plan_words C (length ar) n ss bs))) eb) in
          omega (arith, h, ap length z)

      go : (x : Made S) → to_plan C room (length ar) n x ≡ plan_of_lem m w → length w ≤ room
      go (refused r p) d = let z : ◌≡◌ {A = ℕ} 0 1 = cc in absurd (omega arith)
      go (made ss bs) d = fits ss bs (ltb room (length (plan_words C (length ar) n ss bs)) || ltb 65535 (length (plan_words C (length ar) n ss bs)))
          refl d

  pub same_planned : (room room' m m' : ℕ) (w w' : List ℕ) → planned C ar n room ≡ plan_of_lem m w → planned C ar n room' ≡ plan_of_lem m' w' → m ≡ m'
  same_planned room room' m m' w w' e e' = on_planned C ar n room m w e λ ss bs ex em ew.
      on_planned C ar n room' m' w' e' λ ss' bs' ex' em' ew'.
      let z : made ss bs ≡ made ss' bs' = sym ex ∙ ex' in
      let y : ss ≡ ss' = cc in
      em ∙ ap length y ∙ sym em'

-- ---- building
module _ (ar ws st plan scratch : List ℕ) (s : Size) where
  pub record BuiltAs : Type 0 where
    pub words : List ℕ
    pub is : plan_of ar (shape_terms ar ws) (length plan) ≡ plan_of_lem s.states words
    pub back : take s.words (build_of ar ws st plan scratch).plan ≡ words

  not_plan {κ} : {Z : Type κ} {r : Reason} → Err (unbuilt.Refused r) ≡ Ok s → Z
  not_plan e = let z : ◌≡◌ {A = ℕ} 0 1 = cc in absurd (omega arith)

  on : (p : Plan) → plan_of ar (shape_terms ar ws) (length plan) ≡ p → build_of ar ws st plan scratch ≡ written p plan scratch
      → (written p plan scratch).answer ≡ Ok s → BuiltAs
  on (halted r i) ep eb e = let z : ◌≡◌ {A = ℕ} 0 1 = cc in absurd (omega arith)
  on too_long ep eb e = not_plan e
  on (plan_of_lem m w) ep eb e =
      let z : size m (length w) ≡ s = cc in
      let a : m ≡ s.states = ap (λ (x : Size). x.states) z in
      let b : length w ≡ s.words = ap (λ (x : Size). x.words) z in
      let room = plan_fits (construction (paper (shape_terms ar ws))) ar (length (shape_terms ar ws)) (length plan) m w ep in
      record {
        words = w;
        is = ep ∙ ap (λ x. plan_of_lem x w) a;
        back = ap (take s.words) (ap (λ (o : BuildOutcome). o.plan) eb) ∙ ap (λ x. take x (sets plan 0 w)) (sym b) ∙ stored_back w plan room;
      }

  pub built_as : (build_of ar ws st plan scratch).answer ≡ Ok s → BuiltAs
  built_as e = go (test (shapes_good ar ws st)) (dec_lt (length scratch) 32768)
    where
      answer_is : {o : BuildOutcome} → build_of ar ws st plan scratch ≡ o → o.answer ≡ Ok s
      answer_is d = sym (ap (λ (o : BuildOutcome). o.answer) d) ∙ e

      go : (shapes_good ar ws st ≡ true) ⊎ (shapes_good ar ws st ≡ false) → Dec (length scratch < 32768) → BuiltAs
      go (inr bad) d = not_plan (answer_is (built_bad ar ws st plan scratch bad))
      go (inl good) (yes h) = not_plan (answer_is (built_short ar ws st plan scratch good h))
      go (inl good) (no h) =
          let p = plan_of ar (shape_terms ar ws) (length plan) in
          let d = built_on ar ws st plan scratch good (omega arith) p refl in
          on p refl d (answer_is d)

-- ---- starting
module _ (ar score spans : List ℕ) (w : Walk) (r : Record) where
  pub started_as : (started ar score spans w).answer ≡ Ok r → (room_for (length score) w ≡ true)
      × ((started ar score spans w).walk ≡ begun (length score) w) × (score_good ar score spans ≡ true)
  unfolding started
  started_as e = go (score_good ar score spans) (room_for (length score) w) e
    where
      tell : Bool → Bool → WalkOutcome
      tell a b = unless a (record { answer = Err BadScore; walk = w })
          (unless b (record { answer = Err ShortBuffers; walk = w })
          (record { answer = Ok (begun (length score) w).count; walk = begun (length score) w }))

      go : (a b : Bool) → (tell a b).answer ≡ Ok r → (b ≡ true) × ((tell a b).walk ≡ begun (length score) w) × (a ≡ true)
      go false b d = let z : ◌≡◌ {A = ℕ} 0 1 = cc in absurd (omega arith)
      go true false d = let z : ◌≡◌ {A = ℕ} 0 1 = cc in absurd (omega arith)
      go true true d = (refl, refl, refl)
