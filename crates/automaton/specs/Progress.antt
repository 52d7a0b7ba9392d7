-- How far building has come: "states are numbered as first met: state 0 initial, then each state in number order, each symbol ascending, each class
-- in the document order of its first obligation position; building stops at the first class, in that order, with over 32 goals (20) or new past 128
-- states (21); one that is both gives 20."
--   ClassAt     class number c of state number i on symbol f, among the states met
--   Known New   a state met is equal to what the class lifts to; none of them is
--   Reached     the states met when class number c of state number i on symbol f is looked at next; behind the last class the next symbol,
--               behind the last symbol the next state
--   AllMet      every class of every state was looked at
--   NextClass   the class to look at next, of state number i
--   OverGoals   it has over 32 goals
--   OverStates  it has not, and is new, and 128 states are met
--   words_of    the plan of the states met: its blocks are said by these alone
--   TooLong Fits "plan longer than its buffer or than 65,535 words", and not
use Rattle.std.specs.Prelude.{◌≡◌, true, false, List, [], ◌∷◌, ◌++◌, ◌⊎◌, ℕ, suc, ◌<◌, ◌≤◌, length}
use Rattle.std.proofs.Math.Option.{some}
use Rattle.std.proofs.Math.ListN.{get_elem?}
use Rattle.kinds.specs.Members.{◌∈◌}
use Rattle.automaton.specs.Exploring.{Construction}
use Rattle.automaton.specs.FinalBlocks.{all_blocks}
use Rattle.automaton.specs.PlanWords.{plan_words}

module _ {S : Type 0} (C : Construction S) where
  pub record Known (ss : List S) (k : S) : Type 0 where
    pub state : S
    pub met : state ∈ ss
    pub equal : C.same (C.lift k) state ≡ true

  abbrev pub New : List S → S → Type 0
  New ss k = (t : S) → t ∈ ss → C.same (C.lift k) t ≡ false

  -- for symbols with these numbers of children
  module _ (ar : List ℕ) where
    pub record ClassAt (ss : List S) (i f c : ℕ) (k : S) : Type 0 where
      pub state : S
      pub children : ℕ
      pub state_is : get_elem? ss i ≡ some state
      pub children_are : get_elem? ar f ≡ some children
      pub class_is : get_elem? (C.classes state f children) c ≡ some k

    pub data Reached : List S → ℕ → ℕ → ℕ → Type 0 where
      begin : Reached (C.start ∷ []) 0 0 0
      known : {ss : List S} {i f c : ℕ} (k : S) → Reached ss i f c → ClassAt ss i f c k → C.size k ≤ 32 → Known ss k → Reached ss i f (suc c)
      new : {ss : List S} {i f c : ℕ} (k : S) → Reached ss i f c → ClassAt ss i f c k → C.size k ≤ 32 → New ss k → length ss < 128
          → Reached (ss ++ (C.lift k ∷ [])) i f (suc c)
      next_symbol : {ss : List S} {i f c : ℕ} (s : S) (n : ℕ) → Reached ss i f c → get_elem? ss i ≡ some s → get_elem? ar f ≡ some n
          → c ≡ length (C.classes s f n) → Reached ss i (suc f) 0
      next_state : {ss : List S} {i f : ℕ} → Reached ss i f 0 → i < length ss → f ≡ length ar → Reached ss (suc i) 0 0

    abbrev pub AllMet : List S → Type 0
    AllMet ss = Reached ss (length ss) 0 0

    pub record NextClass (i : ℕ) : Type 0 where
      pub states : List S
      pub symbol : ℕ
      pub number : ℕ
      pub part : S
      pub reached : Reached states i symbol number
      pub is : ClassAt states i symbol number part

    pub record OverGoals (i : ℕ) : Type 0 where
      pub class : NextClass i
      pub over : 32 < C.size class.part

    pub record OverStates (i : ℕ) : Type 0 where
      pub class : NextClass i
      pub few : C.size class.part ≤ 32
      pub is_new : New class.states class.part
      pub full : length class.states ≡ 128

    -- of n shapes
    abbrev pub words_of : ℕ → List S → List ℕ
    words_of n ss = plan_words C (length ar) n ss (all_blocks C ss ar)

-- for a buffer of room words
abbrev pub TooLong : ℕ → List ℕ → Type 0
TooLong room w = (room < length w) ⊎ (65535 < length w)

abbrev pub Fits : ℕ → List ℕ → Type 0
Fits room w = (length w ≤ room) × (length w ≤ 65535)
