-- Rows 19 to 23: what building says and leaves is what they give.
use mathlib.Core.Path.{◌≡◌, refl, ap, sym, ◌∙◌}
use mathlib.Core.Bool.{true, false}
use mathlib.Core.Logic.{◌⊎◌, inl, inr}
use mathlib.Core.List.{List}
use Prim.Native.Nat.{ℕ, ◌<◌, ◌≤◌}
use native.Mathlib.Omega.{arith}
use native.Mathlib.Decide.{dec_lt}
use lib.ListN.{length}
use Rattle.kinds.specs.declared.Reason.TheVariants.{ManyGoals, ManyStates}
use Rattle.kinds.proofs.Bools.{test, false_true}
use Rattle.checks.specs.Again.{shapes_good}
use Rattle.folio.specs.Folio.{shape_terms}
use Rattle.folio.proofs.GoodTables.{shapes_good_shaped, shaped_good}
use Rattle.automaton.specs.Goals.{State}
use Rattle.automaton.specs.Classes.{same_state}
use Rattle.automaton.specs.Paper.{Ob, paper}
use Rattle.automaton.specs.Exploring.{Construction}
use Rattle.automaton.specs.PlanWords.{Plan, halted, too_long, plan_of_lem}
use Rattle.automaton.proofs.Numbered.{same_state_refl}
use Rattle.automaton.proofs.SamePlan.{alike_refl}
use Rattle.automaton.proofs.Progress.{plan_over_goals, plan_over_states, plan_too_long, plan_made, PlanEnd, plan_end}
use Rattle.automaton.proofs.Progress as ends
use Rattle.plan.specs.Building.{plan_of, written, build_of}
use Rattle.plan.proofs.BuildLaws.{built_bad, built_short, built_on}
use Rattle.promises.specs.Demand1 as rows
use Rattle.promises.specs.Demand1.{BuildRow, GoodShapes, build_told, paper_of, words_for}
use Rattle.promises.specs.Told.{By, Told}

module _ (ar ws st : List ℕ) where
  pub good_or_not : GoodShapes ar ws st ⊎ (GoodShapes ar ws st → ⊥)
  good_or_not = go (test (shapes_good ar ws st))
    where
      go : (shapes_good ar ws st ≡ true) ⊎ (shapes_good ar ws st ≡ false) → GoodShapes ar ws st ⊎ (GoodShapes ar ws st → ⊥)
      go (inl e) = inl (shapes_good_shaped ar ws st e)
      go (inr e) = inr (λ g. false_true (sym e ∙ shaped_good ar ws st g.0 g.1))

  pub is_bad : (GoodShapes ar ws st → ⊥) → shapes_good ar ws st ≡ false
  is_bad n = go (test (shapes_good ar ws st))
    where
      go : (shapes_good ar ws st ≡ true) ⊎ (shapes_good ar ws st ≡ false) → shapes_good ar ws st ≡ false
      go (inl e) = absurd (n (shapes_good_shaped ar ws st e))
      go (inr e) = e

  pub is_good_lem : GoodShapes ar ws st → shapes_good ar ws st ≡ true
  is_good_lem g = shaped_good ar ws st g.0 g.1

module _ (ar ws st plan scratch : List ℕ) where
  abbrev C : Construction (State Ob)
  C = paper_of ar ws

  abbrev n : ℕ
  n = length (shape_terms ar ws)

  -- a state is the same as itself
  alike : (s : State Ob) → same_state (paper (shape_terms ar ws)) s s ≡ true
  alike = same_state_refl (paper (shape_terms ar ws)) alike_refl

  on_with : GoodShapes ar ws st → 32768 ≤ length scratch → (p : Plan) → plan_of ar (shape_terms ar ws) (length plan) ≡ p
      → build_told (build_of ar ws st plan scratch) ≡ build_told (written p plan scratch)
  on_with g h p e = ap build_told (built_on ar ws st plan scratch (is_good_lem ar ws st g) h p (sym e))

  build_row : BuildRow ar ws st plan scratch (build_told (build_of ar ws st plan scratch))
  build_row = go (good_or_not ar ws st) (dec_lt (length scratch) 32768)
    where
      on : GoodShapes ar ws st → 32768 ≤ length scratch → {p : Plan} → PlanEnd C alike ar n (length plan) p
          → BuildRow ar ws st plan scratch (build_told (written p plan scratch))
      on g h (ends.plan_goals {i} o) = rows.build_20 g h i o
      on g h (ends.plan_states {i} o) = rows.build_21 g h i o
      on g h (ends.plan_long ss r l) = rows.build_22 g h ss r l
      on g h (ends.plan_fits ss r l) = rows.builds g h ss r l

      go : GoodShapes ar ws st ⊎ (GoodShapes ar ws st → ⊥) → Dec (length scratch < 32768)
          → BuildRow ar ws st plan scratch (build_told (build_of ar ws st plan scratch))
      go (inr bad) d = rw (built_bad ar ws st plan scratch (is_bad ar ws st bad)) (rows.build_19 bad)
      go (inl g) (yes h) = rw (built_short ar ws st plan scratch (is_good_lem ar ws st g) h) (rows.build_23 g h)
      go (inl g) (no h) =
          let k : 32768 ≤ length scratch = omega arith in
          rw (on_with g k (plan_of ar (shape_terms ar ws) (length plan)) refl) (on g k (plan_end C alike ar n (length plan)))

  build_only : (o : Told (List ℕ × List ℕ)) → BuildRow ar ws st plan scratch o → build_told (build_of ar ws st plan scratch) ≡ o
  build_only _ (rows.build_19 bad) = ap build_told (built_bad ar ws st plan scratch (is_bad ar ws st bad))
  build_only _ (rows.build_23 g h) = ap build_told (built_short ar ws st plan scratch (is_good_lem ar ws st g) h)
  build_only _ (rows.build_20 g h i o) = on_with g h (halted ManyGoals i) (plan_over_goals C alike ar n (length plan) i o)
  build_only _ (rows.build_21 g h i o) = on_with g h (halted ManyStates i) (plan_over_states C alike ar n (length plan) i o)
  build_only _ (rows.build_22 g h ss r l) = on_with g h too_long (plan_too_long C alike ar n (length plan) ss r l)
  build_only _ (rows.builds g h ss r l) = on_with g h (plan_of_lem (length ss) (words_for ar ws ss)) (plan_made C alike ar n (length plan) ss r l)

  pub by_build : By (BuildRow ar ws st plan scratch) (build_told (build_of ar ws st plan scratch))
  by_build = (build_row, build_only)
