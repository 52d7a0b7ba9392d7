-- From a folio to what a walk is lent: its terms as the construction takes them, and the plan that is planned for them.
--   scored_of            a folio as the theory takes it
--   on_plan              the words of a plan by the paper's construction, and any words behind them, are those of one folio
use mathlib.Core.Path.{◌≡◌, ap, sym, ◌∙◌}
use mathlib.Core.List.{List, ◌++◌}
use Prim.Native.Nat.{ℕ}
use native.Mathlib.Omega.{arith}
use lib.ListN.{length}
use Rattle.kinds.specs.Positions.{Pos}
use Rattle.kinds.proofs.Places.{at_below}
use Rattle.term.specs.Terms.{Term}
use Rattle.folio.specs.Folio.{Folio}
use Rattle.automaton.specs.Paper.{paper}
use Rattle.automaton.specs.Bare.{bare}
use Rattle.automaton.specs.Goals.{State}
use Rattle.automaton.specs.Exploring.{construction, Block, made, explored}
use Rattle.automaton.specs.PlanWords.{plan_of_lem, plan_words, planned}
use Rattle.automaton.specs.Walking.{setting_of, Scored}
use Rattle.automaton.proofs.SamePlan.{same_plan}
use Rattle.walking.specs.OneFolio.{OneFolio, plan_in}
use Rattle.automaton.proofs.Explored.{explored_numbered}
use Rattle.walking.proofs.PlanRead.{plan_reads, on_planned}

module _ {ar : List ℕ} {shapes : List Term} {score : Term} (folio : Folio ar shapes score) where
  abbrev pub scored_of : Scored
  scored_of = record { setting = setting_of folio.limits; score = score; is_score = folio.is_score }

  -- the words of the plan of these states and blocks, and any words behind them
  abbrev one_folio : (states : List (State Pos)) (blocks : List Block) → explored (construction (bare shapes)) ar ≡ made states blocks
      → (behind : List ℕ)
      → OneFolio scored_of
  one_folio states blocks ex behind =
      let n = explored_numbered (setting_of folio.limits) states blocks ex in
      let m = at_below states 0 n.first in
      record {
        few_symbols = folio.limits.symbols.few_symbols;
        few_nodes = (let n = folio.is_score.small in omega arith);
        states = states;
        blocks = blocks;
        is_explored = ex;
        words = plan_words (construction (bare shapes)) (length ar) (length shapes) states blocks ++ behind;
        reads = plan_reads (construction (bare shapes)) (length ar) (length shapes) states blocks behind n.blocks (omega arith) n.few
            folio.limits.symbols.some_symbol folio.limits.symbols.few_symbols folio.limits.some_shape folio.limits.few_shapes;
      }

  pub on_plan {κ} : {Z : Type κ} (room m : ℕ) (w behind : List ℕ) → planned (construction (paper shapes)) ar (length shapes) room ≡ plan_of_lem m w
      → ((F : OneFolio scored_of) → m ≡ length F.states → w ++ behind ≡ plan_in F → Z) → Z
  on_plan room m w behind e k =
      on_planned (construction (bare shapes)) ar (length shapes) room m w (sym (same_plan ar shapes (length shapes) room) ∙ e)
      λ states blocks ex em ew. k (one_folio states blocks ex behind) em (ap (λ l. l ++ behind) ew)
