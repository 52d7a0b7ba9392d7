-- What document 000, sections 4.2 and 4.3, says of a list of goals and of the parts that the dependency relation makes of it.
--   SameAnnouncement Once   two goals are for one shape at one position; no two goals of a list are, so that its length counts a set
--   FirstOf                 a position is the first, in document order, among the obligations of goals
--   OneClass                a goal is in one class and no other, by their numbers
--   Parted                  the square is the closure; the classes are the parts, each goal in one of them, none empty, in document order
use Rattle.std.specs.Prelude.{◌≡◌, true, false, ◌↔◌, ℕ}
use Rattle.std.proofs.Math.Option.{some}
use Rattle.std.proofs.Math.ListN.{get_elem?}
use Rattle.kinds.specs.Positions.{Pos, before}
use Rattle.kinds.specs.Members.{◌∈◌, ◌⊆◌, Pairwise}
use Rattle.automaton.specs.Goals.{Goal, State, Calculus, first, all_obs}
use Rattle.automaton.specs.Classes.{cell, closed, Dependent, classes}

module _ {O : Type 0} where
  abbrev pub SameAnnouncement : Goal O → Goal O → Type 0
  SameAnnouncement g h = (g.shape ≡ h.shape) × (g.ann ≡ h.ann)

  abbrev pub Once : State O → Type 0
  Once s = Pairwise (λ g h. SameAnnouncement g h → ⊥) s

module _ {O : Type 0} (K : Calculus O) where
  pub record FirstOf (k : State O) (p : Pos) : Type 0 where
    pub owed : (o : O) × (o ∈ all_obs k) × (K.at o ≡ p)
    pub none_before : (o : O) → o ∈ all_obs k → before (K.at o) p ≡ false

  pub record OneClass (d : State O) (g : Goal O) : Type 0 where
    pub number : ℕ
    pub part : State O
    pub is : get_elem? (classes K d) number ≡ some part
    pub inside : g ∈ part
    pub only : (c : ℕ) (k : State O) → get_elem? (classes K d) c ≡ some k → g ∈ k → c ≡ number

  pub record Parted (d : State O) : Type 0 where
    -- "closed under going through a third"
    pub square : (i j : ℕ) → (cell (closed K d) i j ≡ true) ↔ Dependent K d i j
    -- with one of its goals a class has exactly those that depend on it
    pub within : (k : State O) → k ∈ classes K d → k ⊆ d
    pub together : (k : State O) → k ∈ classes K d → (i j : ℕ) (g h : Goal O) → get_elem? d i ≡ some g → get_elem? d j ≡ some h → g ∈ k
        → (h ∈ k) ↔ Dependent K d i j
    pub one_class : (g : Goal O) → g ∈ d → OneClass d g
    pub some_goal : (k : State O) → k ∈ classes K d → (g : Goal O) × (g ∈ k)
    -- "each class in the document order of its first obligation position"
    pub first_is : (k : State O) → k ∈ classes K d → FirstOf k (first K (all_obs k))
    pub in_order : Pairwise (λ a b. before (first K (all_obs a)) (first K (all_obs b)) ≡ true) (classes K d)
    pub once : Once d
    pub once_in : (k : State O) → k ∈ classes K d → Once k
