-- Building the plan: "Build: 19, 23; then 20 or 21; then 22." "A refusal writes nothing, except that 20, 21 and 22 leave the first 32,768 scratch
-- words zero, as does success. Words past those an answer writes keep their values."
--   BuildOutcome         an answer, and the two buffers as they are then; out: made of these
--   scratch_words  "scratch under 32,768 words"
--   cleared     the first 32,768 scratch words zero, later ones as they were
--   refuse_build     a refusal before any work writes nothing
--   plan_of      the plan of the paper's construction for the shapes that the shape words hold
--   build_of    19, 23, 20 or 21, 22; then the plan at the buffer's start
--   built_says  the answer in document 01's numbers: "Build answers m and the length"
use Rattle.plan.specs.declared.Unbuilt.{Unbuilt}
use Rattle.plan.specs.declared.Unbuilt.TheVariants as unbuilt
use Rattle.std.specs.Prelude.{ℕ, List, [], ◌∷◌, leb, length, replicate, Err, Ok, Result}
use Rattle.std.proofs.lemmas.List.Edits.{sets}
use Rattle.kinds.specs.Lists.{unless, onto}
use Rattle.kinds.specs.Reasons.{Says, gives, refuses}
use Rattle.kinds.specs.declared.State.{State}
use Rattle.kinds.specs.declared.Reason.{Reason}
use Rattle.kinds.specs.declared.Reason.TheVariants.{BadShapes, ShortScratch, LongPlan}
use Rattle.term.specs.Terms.{Term}
use Rattle.checks.specs.Again.{shapes_good}
use Rattle.folio.specs.Folio.{shape_terms}
use Rattle.automaton.specs.Paper.{paper}
use Rattle.automaton.specs.Exploring.{construction}
use Rattle.automaton.specs.PlanWords.{Plan, halted, too_long, plan_of_lem, planned}
use Rattle.plan.specs.declared.Size.{Size}

pub record BuildOutcome : Type 0 where
  pub answer : Result Size Unbuilt
  pub plan : List ℕ
  pub scratch : List ℕ

abbrev pub out : Result Size Unbuilt → List ℕ → List ℕ → BuildOutcome
out a plan scratch = record { answer = a; plan = plan; scratch = scratch }

abbrev pub scratch_words : ℕ
scratch_words = 32768

unfoldable pub cleared : List ℕ → List ℕ
cleared scratch = onto (replicate scratch_words 0) scratch

abbrev pub size : ℕ → ℕ → Size
size m w = record { states = m; words = w }

abbrev pub state_number : ℕ → State
state_number i = record { 0 = i }

abbrev pub refuse_build : Reason → List ℕ → List ℕ → BuildOutcome
refuse_build r plan scratch = out (Err (unbuilt.Refused r)) plan scratch

abbrev pub written : Plan → List ℕ → List ℕ → BuildOutcome
written (halted r i) plan scratch = out (Err (unbuilt.Stopped r (state_number i))) plan (cleared scratch)
written too_long plan scratch = out (Err (unbuilt.Refused LongPlan)) plan (cleared scratch)
written (plan_of_lem m ws) plan scratch = out (Ok (size m (length ws))) (sets plan 0 ws) (cleared scratch)

abbrev pub plan_of : List ℕ → List Term → ℕ → Plan
plan_of ar shapes room = planned (construction (paper shapes)) ar (length shapes) room

unfoldable pub build_of : List ℕ → List ℕ → List ℕ → List ℕ → List ℕ → BuildOutcome
build_of ar ws st plan scratch =
    unless (shapes_good ar ws st) (refuse_build BadShapes plan scratch)
    (unless (leb scratch_words (length scratch)) (refuse_build ShortScratch plan scratch)
    (written (plan_of ar (shape_terms ar ws) (length plan)) plan scratch))

abbrev pub built_says : Result Size Unbuilt → Says
built_says (Ok s) = gives (s.states ∷ s.words ∷ [])
built_says (Err (unbuilt.Refused r)) = refuses r 0
built_says (Err (unbuilt.Stopped r s)) = refuses r s.0
