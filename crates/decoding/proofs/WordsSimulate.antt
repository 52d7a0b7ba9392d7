-- The construction on words makes the plan that is promised.
--   words_simulate   under the decoding the construction on words is that of bare positions, for tables that are ready
--   plan_of_words    and its plan is the plan of the paper's construction
use mathlib.Core.Path.{◌≡◌, ap, sym, ◌∙◌}
use mathlib.Core.List.{List, map}
use mathlib.Core.Option.{some}
use Prim.Native.Nat.{ℕ}
use lib.ListN.{get_elem?, length-map}
use Rattle.kinds.specs.Positions.{decode}
use Rattle.kinds.proofs.Codes.{decode_code}
use Rattle.automaton.specs.Bare.{bare}
use Rattle.automaton.specs.Paper.{paper}
use Rattle.automaton.specs.Classes.{classes}
use Rattle.automaton.specs.Exploring.{construction}
use Rattle.automaton.specs.PlanWords.{planned}
use Rattle.automaton.proofs.Simulation.{Simulates, plan_simulated}
use Rattle.automaton.proofs.SamePlan.{same_plan}
use Rattle.goals.specs.GoalWords.{GoalWords, label_code}
use Rattle.goals.specs.WordStages.{freshes_w, deriv_w, classes_w}
use Rattle.decoding.specs.WordMachine.{words}
use Rattle.decoding.specs.Decoding.{goal_meant, state_meant}
use Rattle.decoding.specs.GoodStates.{Ready}
use Rattle.decoding.proofs.SameDecoded.{same_state_is}
use Rattle.decoding.proofs.FineSound.{GoodFor, good_fine, label_small, label_code_lem, deriv_decoded, deriv_goals_sound, deriv_fine}
use Rattle.decoding.proofs.ClassesDecoded.{classes_is}
use Rattle.decoding.proofs.OutputsDecoded.{outputs_is}
use Rattle.decoding.proofs.ClassLifted.{PartFor, class_part, part_displaced, displaced_small, part_lifted, lifted_good}
use Rattle.decoding.proofs.GoodLaws.{start_decoded, start_good}

module _ {ar tab : List ℕ} {n : ℕ} (r : Ready ar tab n) where
  classes_for : (gs : List GoalWords) (w : GoodFor r gs) (f k : ℕ) (a : get_elem? ar f ≡ some k)
      → map (state_meant r.shapes) (classes_w tab (deriv_w tab n (label_code tab gs) f k gs)) ≡ (construction (bare r.shapes)).classes
      (state_meant r.shapes gs) f k
  classes_for gs w f k a =
      classes_is r.shapes tab r.tables (deriv_w tab n (label_code tab gs) f k gs) (deriv_fine r gs w f k a)
      (deriv_goals_sound r gs w f k a).owing
      ∙ ap (classes (bare r.shapes)) (deriv_decoded r gs w f k a)

  pub words_simulate : Simulates (words tab n) (construction (bare r.shapes)) (state_meant r.shapes) (GoodFor r) (PartFor r) ar
  words_simulate = record {
    start = ap (λ m. state_meant r.shapes (freshes_w m 0)) (sym r.count) ∙ start_decoded r.shapes;
    start_right = start_good r;
    label = λ gs w. sym (ap decode (label_code_lem r gs w) ∙ decode_code _ (label_small r gs w));
    outputs = λ gs w f k a. sym (outputs_is r gs w f k a);
    classes = classes_for;
    parts = λ gs w f k a c m. class_part r gs w f k a c m;
    size = λ c p. length-map c (goal_meant r.shapes);
    gcp = λ c p. sym (ap decode (part_displaced r c p) ∙ decode_code _ (displaced_small r c p));
    lift = λ c p. part_lifted r c p;
    lifted = λ c p few. lifted_good r c p few;
    same = λ gs hs v w. same_state_is r.shapes gs hs (good_fine r gs v) (good_fine r hs w);
  }

  pub plan_of_words : (room : ℕ) → planned (words tab n) ar n room ≡ planned (construction (paper r.shapes)) ar n room
  plan_of_words room =
      plan_simulated (words tab n) (construction (bare r.shapes)) (state_meant r.shapes) (GoodFor r) (PartFor r) ar words_simulate n
      room
      ∙ sym (same_plan ar r.shapes n room)
