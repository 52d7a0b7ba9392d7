-- Inside: states met before, and what the code that meets them answers.
--   place_of       the number of the first state that is equal to one, their count where none is
--   LiftsBehind    a class is put behind the states, lifted
--   AllGood        each state is good
--   Held           scratch holds m states, each good
--   Behind         scratch past its used words is as it was
--   Spared         and so are the states
--   blocks_length  how many words blocks take; row_most, all_most: at most, of one state and of all
--   ClassesMet     the states are in scratch, with two words counted for each successor
--   ClassMeetable what meeting a class asks; ClassesMeetable: several
--   MetIs          what meeting classes answers: that, or why it stops
--   SymbolIs       what a state on a symbol answers
--   RowMade        the states are in scratch, and a state's blocks come after others, with their words counted
--   RowIs          what a state on each symbol answers: that, or why it stops
--   AllMade        so for all states
--   ExploredIs     what all states answer
use Rattle.kinds.specs.declared.Reason.{Reason}
use Rattle.kinds.specs.declared.State.{State}
use Rattle.std.specs.Prelude.{◌≡◌, List, ◌++◌, map, ℕ, ◌+◌, ◌*◌, ◌<◌, ◌≤◌, length, get_or, take, drop, Err, Ok, Result}
use Rattle.kinds.specs.Lists.{find, concat, or_else}
use Rattle.kinds.specs.Members.{◌∈◌}
use Rattle.automaton.specs.Exploring.{Succ, Block, Met, stopped, met, Made, refused, made, meets}
use Rattle.automaton.specs.PlanWords.{block_words}
use Rattle.automaton.specs.Classes.{Square}
use Rattle.goals.specs.GoalWords.{GoalWords}
use Rattle.goals.specs.WordStages.{same_state_w}
use Rattle.derivatives.specs.Passes.{Lifts}
use Rattle.classes.specs.Squares.{Squared}
use Rattle.decoding.specs.WordMachine.{words, place_in, state_in, states_in, used_words, Kept}
use Rattle.decoding.specs.GoodStates.{GoodState}
use Rattle.states.specs.Parting.{Named}
use Rattle.states.specs.declared.Class.{Class}

unfoldable pub place_of : List (List GoalWords) → List GoalWords → ℕ
place_of ss k = or_else (find (same_state_w k) ss 0) (length ss)

-- the goals of a class, behind m states
abbrev pub LiftsBehind : List GoalWords → ℕ → Class → List ℕ → List ℕ → Type 0
LiftsBehind K m c old new = (c.goals ≡ length K) × Lifts K (place_in m) c.top.0 old new

abbrev pub AllGood : List ℕ → List ℕ → ℕ → List (List GoalWords) → Type 0
AllGood ar tab n ss = (s : List GoalWords) → s ∈ ss → GoodState ar tab n s

pub record Held (ar tab : List ℕ) (n : ℕ) (sc : List ℕ) (m : ℕ) : Type 0 where
  pub kept : Kept sc m
  pub good : AllGood ar tab n (states_in sc m)

abbrev pub Behind : List ℕ → List ℕ → Type 0
Behind old new = drop used_words new ≡ drop used_words old

-- of m states
pub record Spared (m : ℕ) (old new : List ℕ) : Type 0 where
  pub long : length new ≡ length old
  pub states : take (place_in m) new ≡ take (place_in m) old
  pub behind : Behind old new

abbrev pub blocks_length : List Block → ℕ
blocks_length bs = length (concat (map block_words bs))

abbrev pub row_most : ℕ
row_most = 10000

abbrev pub all_most : ℕ
all_most = 1280000

-- m states now, w words counted above a base
pub record ClassesMet (m w : ℕ) (sc : List ℕ) (base : ℕ) (e : Met (List GoalWords)) : Type 0 where
  pub kept : Kept sc m
  pub succs : List Succ
  pub is : e ≡ met (states_in sc m) succs
  pub sum : w ≡ base + 2 * length succs
  pub few : length succs ≤ 96

-- beside the m states in sc, the class that row r of n goals begins
pub record ClassMeetable (sc : List ℕ) (m : ℕ) (goals : List ℕ) (n : ℕ) (dep : Square) (r : ℕ) : Type 0 where
  pub kept : Kept sc m
  pub squared : Squared goals n dep
  pub row : r < 96

-- the classes that the rows in order begin, their words counted above a base
pub record ClassesMeetable (sc : List ℕ) (m : ℕ) (goals : List ℕ) (n : ℕ) (dep : Square) (order : List ℕ) (base : ℕ) : Type 0 where
  pub kept : Kept sc m
  pub squared : Squared goals n dep
  pub named : Named 96 order
  pub low : base ≤ 1000

abbrev pub MetIs : Result (ℕ × ℕ) Reason → List ℕ → ℕ → Met (List GoalWords) → Type 0
MetIs (Ok (m, w)) sc base e = ClassesMet m w sc base e
MetIs (Err r) sc base e = e ≡ stopped r

-- of state i of the m in sc, on symbol f; scratch is new afterwards
abbrev pub SymbolIs : Result (ℕ × ℕ) Reason → List ℕ → List ℕ → ℕ → List ℕ → ℕ → ℕ → ℕ → List ℕ → Type 0
SymbolIs r ar tab n sc m i f new =
    MetIs r new (2 + 2 * length ((words tab n).outputs (state_in sc i) f (get_or ar f 0)))
    (meets (words tab n) (states_in sc m) ((words tab n).classes (state_in sc i) f (get_or ar f 0)))

-- of state i, its blocks after bs
pub record RowMade (m w : ℕ) (ar tab : List ℕ) (n : ℕ) (sc : List ℕ) (i : ℕ) (bs : List Block) (e : Made (List GoalWords)) : Type 0 where
  pub held : Held ar tab n sc m
  pub inside : i < m
  pub more : List Block
  pub is : e ≡ made (states_in sc m) (bs ++ more)
  pub sum : w ≡ blocks_length more
  pub small : w ≤ row_most

abbrev pub RowIs : Result (ℕ × ℕ) Reason → List ℕ → List ℕ → ℕ → List ℕ → ℕ → List Block → Made (List GoalWords) → Type 0
RowIs (Ok (m, w)) ar tab n sc i bs e = RowMade m w ar tab n sc i bs e
RowIs (Err r) ar tab n sc i bs e = e ≡ refused r i

pub record AllMade (m w : ℕ) (ar tab : List ℕ) (n : ℕ) (sc : List ℕ) (e : Made (List GoalWords)) : Type 0 where
  pub held : Held ar tab n sc m
  pub blocks : List Block
  pub is : e ≡ made (states_in sc m) blocks
  pub sum : w ≡ blocks_length blocks
  pub small : w ≤ all_most

abbrev pub ExploredIs : Result (ℕ × ℕ) (Reason × State) → List ℕ → List ℕ → ℕ → List ℕ → Made (List GoalWords) → Type 0
ExploredIs (Ok (m, w)) ar tab n sc e = AllMade m w ar tab n sc e
ExploredIs (Err (r, i)) ar tab n sc e = e ≡ refused r i.0
