-- What is true of goals that stand together: of a reachable state, of its derivatives and of their classes.
--   Real            what a goal owes at a position is a subterm of its shape that begins with a symbol
--   SameKey Other   the same shape and announcement, or not
--   Sound           S1 to S4 and S6, of any list of goals
--   SoundState      these, and S5, of a state
use mathlib.Core.Path.{◌≡◌}
use mathlib.Core.Option.{some}
use mathlib.Core.List.{[]}
use Prim.Native.Nat.{ℕ, ◌<◌, ◌≤◌}
use lib.ListN.{length, get_elem?}
use Rattle.kinds.specs.Positions.{Pos, strip}
use Rattle.kinds.specs.Members.{◌∈◌, Pairwise}
use Rattle.kinds.proofs.Prefixes.{◌≼◌}
use Rattle.kinds.proofs.Ordered.{Before}
use Rattle.kinds.proofs.Codes.{Small}
use Rattle.term.specs.Terms.{Term, node, Terms}
use Rattle.term.specs.Places.{sub}
use Rattle.automaton.specs.Goals.{Goal, State, label}
use Rattle.automaton.specs.Bare.{fresh}
use Rattle.automaton.specs.Walking.{Setting, calculus}
use Rattle.automaton.proofs.Derivative.{Owes}

pub record Real (S : Setting) (g : Goal Pos) (o : Pos) : Type 0 where
  pub shape : Term
  pub is_shape : get_elem? S.shapes g.shape ≡ some shape
  pub head : ℕ
  pub kids : Terms
  pub is : sub shape (strip g.ann o) ≡ some (node head kids)

abbrev pub SameKey : Goal Pos → Goal Pos → Type 0
SameKey g h = (g.shape ≡ h.shape) × (g.ann ≡ h.ann)

abbrev pub Other : Goal Pos → Goal Pos → Type 0
Other g h = SameKey g h → ⊥

pub record Sound (S : Setting) (s : State Pos) : Type 0 where
  -- S1: each goal has an obligation; each stands at or under the announcement, and is a symbol of the shape; they stand in document order
  pub owing : (g : Goal Pos) → g ∈ s → (o : Pos) × (o ∈ g.obs)
  pub low : (g : Goal Pos) → g ∈ s → (o : Pos) → o ∈ g.obs → o ≼ g.ann
  pub real : (g : Goal Pos) → g ∈ s → (o : Pos) → o ∈ g.obs → Real S g o
  pub ordered : (g : Goal Pos) → g ∈ s → Pairwise Before g.obs
  -- S2: two different obligation positions are incomparable
  pub apart : (o x : Pos) → Owes s o → Owes s x → o ≼ x → o ≡ x
  -- S3: no two goals have the same shape and announcement
  pub keyed : Pairwise Other s
  -- S4: at each obligation position stands the fresh goal of every shape
  pub fresh : (o : Pos) → Owes s o → (i : ℕ) → i < length S.shapes → fresh o i ∈ s
  -- S6: an obligation position has at most six numbers, each from 1 to 4
  pub small : (o : Pos) → Owes s o → Small o

pub record SoundState (S : Setting) (s : State Pos) : Type 0 where
  pub goals : Sound S s
  -- S5: some goal announces at the root and owes at the label, which has at most five numbers
  pub root : Goal Pos
  pub root_in : root ∈ s
  pub root_at : root.ann ≡ []
  pub label_owed : label (calculus S) s ∈ root.obs
  pub label_short : length (label (calculus S) s) ≤ 5
