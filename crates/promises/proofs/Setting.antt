-- From the calls over one file to the folio that its walk is over.
--   plan_is           the plan that building wrote
--   Told told         the walk over the file's words is one over a folio, for which `AnyWalk` speaks
--   number_is         the stored number
--   same_states       two settings of one file have the same number of states
use mathlib.Core.Path.{◌≡◌, ap, ap₂, sym, ◌∙◌}
use mathlib.Core.Bool.{true}
use mathlib.Core.List.{List}
use Prim.Native.Nat.{ℕ}
use lib.ListN.{length, take}
use Rattle.term.specs.Terms.{span, flatten}
use Rattle.term.proofs.Sizes.{length_flatten}
use Rattle.automaton.specs.Paper.{paper}
use Rattle.automaton.specs.Exploring.{construction}
use Rattle.automaton.specs.PlanWords.{plan_of_lem}
use Rattle.plan.specs.Building.{plan_of}
use Rattle.walk.specs.Starting.{Walk, begun, room_for}
use Rattle.walk.specs.Stepping.{stepped, run}
use Rattle.walk.specs.Stepping.{accepted as acceptedOf}
use Rattle.walking.specs.OneFolio.{OneFolio, EnoughLent, step_in, walk_in}
use Rattle.walking.specs.OneFolio.{accepted_in as acceptedOn}
use Rattle.counting.specs.Counting.{total}
use Rattle.walking.proofs.FolioWalk.{scored_of, on_plan}
use Rattle.walking.proofs.AnyWalk.{same_walk}
use Rattle.promises.specs.OneFile.{OpenFile, OneFile, symbols_in, words_in, starts_in, nodes_in, spans_in, shapes_in, score_in, plan_in, begun_in, after, step_after, accepted_in}
use Rattle.promises.proofs.OpenFile.{is_folio, score_words, score_spans, same_symbols, same_shapes}
use Rattle.promises.proofs.Answers.{BuiltAs, built_as, started_as, same_planned}

ap₄ : {A : Type 0} (f : List ℕ → List ℕ → List ℕ → Walk → A) {a a' b b' c c' : List ℕ} {v v' : Walk} → a ≡ a' → b ≡ b' → c ≡ c' → v ≡ v'
    → f a b c v ≡ f a' b' c' v'
ap₄ f {a} {a'} {b} {b'} {c} {c'} {v} {v'} p q r s = ap₂ (λ x y. f x y c v) p q ∙ ap₂ (λ x y. f a' b' x y) r s

module _ {file : List ℕ} {O : OpenFile file} (S : OneFile O) where
  -- ---- the plan
  as_built : BuiltAs (symbols_in O) (words_in O) (starts_in O) S.plan S.scratch S.size
  as_built = built_as (symbols_in O) (words_in O) (starts_in O) S.plan S.scratch S.size S.builds

  pub plan_is : plan_of (symbols_in O) (shapes_in O) (length S.plan) ≡ plan_of_lem S.size.states (plan_in S)
  plan_is = as_built.is ∙ ap (plan_of_lem S.size.states) (sym as_built.back)

  -- ---- the walk
  as_started : (room_for (length (nodes_in O)) S.walk ≡ true) × (begun_in S ≡ begun (length (nodes_in O)) S.walk)
  as_started = let s = started_as (symbols_in O) (nodes_in O) (spans_in O) S.walk S.first S.starts in (s.0, s.1)

  pub record Told : Type 0 where
    pub folio : OneFolio (scored_of (is_folio O))
    pub lent : EnoughLent folio S.walk
    pub after_is : (choices : List ℕ) → after S choices ≡ walk_in folio choices S.walk
    pub step_is : (choices : List ℕ) (i : ℕ) → step_after S choices i ≡ step_in folio i (walk_in folio choices S.walk)
    pub accepted_is : (choices : List ℕ) → accepted_in S choices ≡ acceptedOn folio choices S.walk

  pub told : Told
  told = on_plan (is_folio O) (length S.plan) S.size.states (plan_in S) S.behind plan_is λ F em ew.
      let begins : begun_in S ≡ begun (length (flatten (score_in O))) S.walk = as_started.1 ∙ ap (λ l. begun (length l) S.walk) (score_words O) in
      let walks : (choices : List ℕ) → after S choices ≡ walk_in F choices S.walk =
      λ choices. ap₄ (λ a b c v. run a b c choices v) ew (score_words O) (score_spans O) begins in
      record {
        folio = F;
        lent = sym (ap (λ l. room_for (length l) S.walk) (score_words O)) ∙ as_started.0;
        after_is = walks;
        step_is = λ choices i. ap₄ (λ a b c v. stepped a b c i v) ew (score_words O) (score_spans O) (walks choices);
        accepted_is = λ choices. ap₄ (λ a b c v. acceptedOf a b c choices v) ew (score_words O) (score_spans O) begins;
      }

  -- the stored number is the ones in the nodes' marks
  pub number_is : (choices : List ℕ) → (after S choices).count.matches ≡ total (take (span (score_in O)) (after S choices).marks)
  number_is choices =
      ap (λ (v : Walk). v.count.matches) (told.after_is choices)
      ∙ (same_walk told.folio S.walk told.lent choices).number_is
      ∙ ap₂ (λ n (v : Walk). total (take n v.marks)) (length_flatten (score_in O)) (sym (told.after_is choices))

-- ---- two settings of one file
module _ {file : List ℕ} {O P : OpenFile file} (S : OneFile O) (T : OneFile P) where
  pub same_states : S.size.states ≡ T.size.states
  same_states = same_planned (construction (paper (shapes_in P))) (symbols_in P) (length (shapes_in P)) (length S.plan) (length T.plan)
      S.size.states T.size.states (plan_in S) (plan_in T)
      (sym (ap₂ (λ a xs. plan_of a xs (length S.plan)) (same_symbols O P) (same_shapes O P)) ∙ plan_is S) (plan_is T)
