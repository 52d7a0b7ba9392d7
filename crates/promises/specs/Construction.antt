-- Beside `Demand2.plan`: what computes the plan is what the paper says, for any symbols and shapes within the limits of document 01, over the paper's
-- own obligations.
--   PaperSays    every state of the plan is reachable; no reachable state has a goal twice, so that "over 32 goals" counts a set; the derivative of
--                one on a symbol is `Parted` (automaton/specs): its square is the closure, and its classes are its parts under `Dependent`, each goal
--                in one of them, none empty, in the document order of their first obligation position
use Rattle.std.specs.Prelude.{◌≡◌, List, ℕ}
use Rattle.std.proofs.Math.Option.{some}
use Rattle.std.proofs.Math.ListN.{get_elem?}
use Rattle.kinds.specs.Members.{◌∈◌}
use Rattle.term.specs.Terms.{Term}
use Rattle.automaton.specs.Goals.{State, deriv}
use Rattle.automaton.specs.Paper.{Ob, paper}
use Rattle.automaton.specs.Exploring.{construction, Block, made, explored}
use Rattle.automaton.specs.Walking.{Reach}
use Rattle.automaton.specs.Parted.{Once, Parted}

pub record PaperSays (ar : List ℕ) (shapes : List Term) : Type 0 where
  pub in_plan : (ss : List (State Ob)) (bs : List Block) → explored (construction (paper shapes)) ar ≡ made ss bs → (s : State Ob) → s ∈ ss
      → Reach (paper shapes) ar s
  pub once : (s : State Ob) → Reach (paper shapes) ar s → Once s
  pub parted : (s : State Ob) → Reach (paper shapes) ar s → (f n : ℕ) → get_elem? ar f ≡ some n → Parted (paper shapes) (deriv (paper shapes) s f n)
