-- Partitioning and lifting: document 000, sections 4.3 and 4.4.
--   dep           direct dependency: "mo₁ R mo₂ iff pos(mo₁) ∩ pos(mo₂) ≠ ∅"
--   Direct        R between the goals at two places of a list
--   Dependent     "the dependency relation, the transitive closure of R"
--   square        "kept as a square of yes and no, one row for each goal"
--   close         "closed under going through a third"
--   closed        the square of a derivative, closed: it says yes exactly where two goals are Dependent
--   picked        the goals that a row says yes to
--   leads         a row whose first yes is at its own place begins a class
--   classes       the classes, "each class in the document order of its first obligation position"
--   gcp           the greatest common prefix of the announcement positions
--   lift          every position without that prefix
--   same_state    equality of sets of goals
use Rattle.std.specs.Prelude.{◌≡◌, List, [], ◌∷◌, map, Bool, true, false, cond, not, ◌&&◌, ◌||◌, ℕ, zero, suc, eqb, length, get_or}
use Rattle.std.proofs.Math.Option.{some}
use Rattle.std.proofs.Math.ListN.{get_elem?}
use Rattle.kinds.specs.Lists.{same, any, all, sort, range}
use Rattle.kinds.specs.Positions.{Pos, before, common_prefix, strip}
use Rattle.kinds.specs.Chains.{Chain}
use Rattle.automaton.specs.Goals.{Goal, State, Calculus, has, first, all_obs}

abbrev pub Square : Type 0
Square = List (List Bool)

-- what stands in row i and column j
abbrev pub cell : Square → ℕ → ℕ → Bool
cell m i j = get_or (get_or m i []) j false

abbrev pub ors : List Bool → List Bool → List Bool
ors [] r = r
ors (b ∷ bs) [] = b ∷ bs
ors (b ∷ bs) (c ∷ cs) = (b || c) ∷ ors bs cs

-- what goes through k
abbrev pub through : ℕ → Square → Square
through k m = let r = get_or m k [] in map (λ row. cond (get_or row k false) (ors row r) row) m

abbrev pub close : List ℕ → Square → Square
close [] m = m
close (k ∷ ks) m = close ks (through k m)

abbrev pub picked : {A : Type 0} → List Bool → List A → List A
picked [] s = []
picked (b ∷ bs) [] = []
picked (b ∷ bs) (g ∷ s) = cond b (g ∷ picked bs s) (picked bs s)

abbrev pub leads : ℕ → List Bool → Bool
leads i [] = false
leads zero (b ∷ bs) = b
leads (suc i) (b ∷ bs) = not b && leads i bs

-- the rows that begin a class, the first one numbered i
abbrev pub rows_from : ℕ → Square → Square
rows_from i [] = []
rows_from i (r ∷ rs) = cond (leads i r) (r ∷ rows_from (suc i) rs) (rows_from (suc i) rs)

module _ {O : Type 0} where
  abbrev pub gcp_from : Pos → State O → Pos
  gcp_from p [] = p
  gcp_from p (g ∷ s) = gcp_from (common_prefix p g.ann) s

  abbrev pub gcp : State O → Pos
  gcp [] = []
  gcp (g ∷ s) = gcp_from g.ann s

module _ {O : Type 0} (K : Calculus O) where
  abbrev pub dep : Goal O → Goal O → Bool
  dep g h = any (λ o. has K (K.at o) h.obs) g.obs

  pub record Direct (s : State O) (i j : ℕ) : Type 0 where
    pub g : Goal O
    pub h : Goal O
    pub at_i : get_elem? s i ≡ some g
    pub at_j : get_elem? s j ≡ some h
    pub shares : dep g h ≡ true

  abbrev pub Dependent : State O → ℕ → ℕ → Type 0
  Dependent s = Chain (length s) (Direct s)

  abbrev pub square : State O → Square
  square s = map (λ g. map (dep g) s) s

  abbrev pub closed : State O → Square
  closed s = close (range 0 (length s)) (square s)

  abbrev pub class_before : State O → State O → Bool
  class_before a b = before (first K (all_obs a)) (first K (all_obs b))

  abbrev pub classes : State O → List (State O)
  classes s = sort class_before (map (λ r. picked r s) (rows_from 0 (closed s)))

  abbrev pub lift_goal : Pos → Goal O → Goal O
  lift_goal c g = record { shape = g.shape; ann = strip c g.ann; obs = map (K.lifted c) g.obs }

  abbrev pub lift : State O → State O
  lift s = let c = gcp s in map (lift_goal c) s

  abbrev pub same_goal : Goal O → Goal O → Bool
  same_goal g h =
      eqb g.shape h.shape && same g.ann h.ann
      && all (λ o. any (K.alike o) h.obs) g.obs
      && all (λ o. any (K.alike o) g.obs) h.obs

  abbrev pub same_state : State O → State O → Bool
  same_state s t = all (λ g. any (same_goal g) t) s && all (λ g. any (same_goal g) s) t
