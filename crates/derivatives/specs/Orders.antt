-- Inside: places in the order of a key, and then of their own number, as numbers that sort so: 128 times the key and the place.
--   keyed       the k places from i on that pass
--   lead_items  the rows that begin a class, by the class's first obligation position
--   out_items   the goals that are announced, by position and then shape
use Rattle.std.specs.Prelude.{List, [], ◌∷◌, Bool, cond, ℕ, zero, suc, ◌+◌, ◌*◌, eqb, get_or}
use Rattle.automaton.specs.Classes.{leads}
use Rattle.goals.specs.GoalWords.{GoalWords, goal_at, goals_from}
use Rattle.goals.specs.WordStages.{picked_w, class_key, ann_key, reduct}

unfoldable pub keyed : (ℕ → Bool) → (ℕ → ℕ) → ℕ → ℕ → List ℕ
keyed p key i zero = []
keyed p key i (suc k) = let rest = keyed p key (suc i) k in cond (p i) ((128 * key i + i) ∷ rest) rest

-- of n goals at the words' start
abbrev pub class_at : List (List Bool) → List ℕ → ℕ → ℕ → List GoalWords
class_at d ws n i = picked_w (get_or d i []) (goals_from ws 0 n)

abbrev pub begins : List (List Bool) → ℕ → Bool
begins d i = leads i (get_or d i [])

abbrev pub lead_items : List ℕ → List (List Bool) → List ℕ → ℕ → List ℕ
lead_items tab d ws n = keyed (begins d) (λ i. class_key tab (class_at d ws n i)) 0 n

-- goal j of the state at a place of the words
abbrev pub goal_on : List ℕ → ℕ → ℕ → GoalWords
goal_on ws at j = goal_at ws (at + 3 * j)

abbrev pub goes_out : List ℕ → List ℕ → ℕ → ℕ → ℕ → ℕ → Bool
goes_out tab ws at c f j = eqb (reduct tab c f (goal_on ws at j)) 0

abbrev pub out_items : List ℕ → List ℕ → ℕ → ℕ → ℕ → ℕ → List ℕ
out_items tab ws at c f n = keyed (goes_out tab ws at c f) (λ j. ann_key (goal_on ws at j)) 0 n
