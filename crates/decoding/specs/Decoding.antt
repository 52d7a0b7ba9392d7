-- Inside: the one decoding, codes to positions and words to goals; and what the tables say of the shapes.
--   codes_end               past the codes of seven digits
--   select                  the elements whose bits are set in a mask
--   solid roots kid_masks   the masks of children that are no blanks
--   shape_at                a shape by its number
--   goal_meant state_meant  the goal, and the state, that words mean
--   TableOf                 the tables say a shape's nodes: positions, powers, words and children
use Rattle.std.specs.Prelude.{List, [], ◌∷◌, ◌++◌, map, cond, ◌≡◌, ℕ, suc, ◌+◌, ◌*◌, ◌/◌, ◌%◌, ◌^◌, ◌<◌, eqb, length, get_or}
use Rattle.term.specs.Terms.{Term, blank, node, Terms, tnil, tcons, span, flatten}
use Rattle.term.specs.Places.{dom}
use Rattle.kinds.specs.Positions.{Pos, code, decode}
use Rattle.automaton.specs.Goals.{Goal, State}
use Rattle.goals.specs.GoalWords.{GoalWords, code_of, pow_of, sym_of, kids_of, size_of}
pub use Rattle.kinds.specs.Limits.{blank_word}

-- past the codes of seven digits
abbrev pub codes_end : ℕ
codes_end = 78125

-- the elements whose bits are set, the first one's bit lowest
unfoldable pub select {ℓ} : {A : Type ℓ} → ℕ → List A → List A
select m [] = []
select m (x ∷ xs) = let rest = select (m / 2) xs in cond (eqb (m % 2) 1) (x ∷ rest) rest

abbrev pub solid : Term → ℕ
solid (blank w) = 0
solid (node f ts) = 1

-- a mask of the nodes of some terms: their roots that are no blanks
abbrev pub roots : Terms → ℕ
roots tnil = 0
roots (tcons t ts) = roots ts * 2 ^ span t + solid t

abbrev mutual
  -- for each node of a term whose first node is number r, the mask of its children that are no blanks
  pub kid_masks : ℕ → Term → List ℕ
  kid_masks r (blank w) = 0 ∷ []
  kid_masks r (node f ts) = (roots ts * 2 ^ suc r) ∷ kid_maskss (suc r) ts

  pub kid_maskss : ℕ → Terms → List ℕ
  kid_maskss r tnil = []
  kid_maskss r (tcons t ts) = kid_masks r t ++ kid_maskss (r + span t) ts

abbrev pub shape_at : List Term → ℕ → Term
shape_at shapes s = get_or shapes s (blank blank_word)

abbrev pub goal_meant : List Term → GoalWords → Goal Pos
goal_meant shapes g =
    record { shape = g.sh; ann = decode g.an; obs = map (λ r. decode g.an ++ r) (select g.mask (dom (shape_at shapes g.sh))) }

abbrev pub state_meant : List Term → List GoalWords → State Pos
state_meant shapes gs = map (goal_meant shapes) gs

-- the words of shape s in the tables
pub record TableOf (tab : List ℕ) (s : ℕ) (t : Term) : Type 0 where
  pub size : size_of tab s ≡ span t
  pub codes : (r : ℕ) → r < span t → code_of tab s r ≡ code (get_or (dom t) r [])
  pub pows : (r : ℕ) → r < span t → pow_of tab s r ≡ 5 ^ length (get_or (dom t) r [])
  pub syms : (r : ℕ) → r < span t → sym_of tab s r ≡ get_or (flatten t) r 0
  pub kids : (r : ℕ) → r < span t → kids_of tab s r ≡ get_or (kid_masks 0 t) r 0
