-- Inside: a plan's blocks in words, made from all of its states, and what the code that writes them asks.
--   block_of all_blocks SmallOn  those of any construction
--   block_in     the words of state i's block on symbol f
--   row_words    the words of state i's blocks, from symbol f on; row_all: of all of them
--   plan_in      the plan of the m states in scratch
--   pairs        two words for each
--   out_words    a count and the announcements of the goals named
--   succ_words   a count and the successors of the classes named
--   SmallBy      these classes have at most 32 goals
--   starts_at    where the starts of state i's blocks stand
--   SuccessorWritable SuccessorsWritable OutputsWritable BlockWritable   what writing a class's successor, several, announcements and a block asks
--   RowWritable  what writing a state's blocks asks; RowWritten: what it does
--   Writable     what writing the plan asks
use Rattle.std.specs.Prelude.{◌≡◌, List, [], ◌∷◌, map, ℕ, ◌+◌, ◌*◌, ◌%◌, ◌<◌, ◌≤◌, length, get_or}
use Rattle.std.proofs.lemmas.List.Edits.{sets}
use Rattle.kinds.specs.Lists.{gather, concat}
use Rattle.kinds.specs.Members.{◌∈◌}
use Rattle.automaton.specs.Classes.{Square}
use Rattle.automaton.specs.FinalBlocks.{blocks_of}
pub use Rattle.automaton.specs.FinalBlocks.{block_of, all_blocks, SmallOn}
use Rattle.automaton.specs.PlanWords.{block_words, starts_from, plan_words}
use Rattle.goals.specs.GoalWords.{GoalWords, label_code}
use Rattle.goals.specs.WordStages.{displacement_w, lifted_w}
use Rattle.derivatives.specs.Orders.{class_at, goal_on}
use Rattle.classes.specs.Squares.{Squared}
use Rattle.decoding.specs.WordMachine.{words, state_in, states_in, Kept}
use Rattle.decoding.specs.GoodStates.{Ready}
use Rattle.states.specs.Meeting.{place_of, Held, ClassMeetable}
use Rattle.states.specs.Parting.{OnSymbol, Named}

-- for tables and n shapes, scratch and m states in it
abbrev pub block_in : List ℕ → List ℕ → ℕ → List ℕ → ℕ → ℕ → ℕ → List ℕ
block_in ar tab n sc m i f = block_words (block_of (words tab n) (states_in sc m) (state_in sc i) f (get_or ar f 0))

unfoldable pub row_words : List ℕ → ℕ → List ℕ → ℕ → ℕ → ℕ → List ℕ → List (List ℕ)
row_words tab n sc m i f ns = map block_words (blocks_of (words tab n) (states_in sc m) (state_in sc i) f ns)

abbrev pub row_all : List ℕ → List ℕ → ℕ → List ℕ → ℕ → ℕ → List ℕ
row_all ar tab n sc m i = concat (row_words tab n sc m i 0 ar)

abbrev pub plan_in : List ℕ → List ℕ → ℕ → List ℕ → ℕ → List ℕ
plan_in ar tab n sc m = plan_words (words tab n) (length ar) n (states_in sc m) (all_blocks (words tab n) (states_in sc m) ar)

abbrev pub pairs : (ℕ → ℕ) → (ℕ → ℕ) → List ℕ → List ℕ
pairs F G xs = gather (λ x. F x ∷ G x ∷ []) xs

abbrev pub out_words : List ℕ → ℕ → List ℕ → List ℕ
out_words sc at xs = length xs ∷ pairs (λ x. (goal_on sc at (x % 128)).sh) (λ x. (goal_on sc at (x % 128)).an) xs

abbrev pub succ_words : Square → List ℕ → ℕ → List (List GoalWords) → List ℕ → List ℕ
succ_words d ws n ss xs =
    length xs ∷ pairs (λ x. place_of ss (lifted_w (class_at d ws n (x % 128)))) (λ x. displacement_w (class_at d ws n (x % 128))) xs

abbrev pub SmallBy : Square → List ℕ → ℕ → List ℕ → Type 0
SmallBy d ws n xs = (j : ℕ) → j < length xs → length (class_at d ws n (get_or xs j 0 % 128)) ≤ 32

abbrev pub starts_at : List ℕ → ℕ → ℕ → ℕ
starts_at ar m i = 4 + m + i * length ar

-- beside the m states in sc, the class that row r of n goals begins, of at most 32 goals; two words from `at` on
pub record SuccessorWritable (sc : List ℕ) (m : ℕ) (goals : List ℕ) (n : ℕ) (dep : Square) (r at : ℕ) (plan : List ℕ) : Type 0 where
  pub class : ClassMeetable sc m goals n dep r
  pub small : length (class_at dep goals n r) ≤ 32
  pub room : at + 2 ≤ length plan

-- such classes, one for each row in order; a count and two words for each from `at` on
pub record SuccessorsWritable (sc : List ℕ) (m : ℕ) (goals : List ℕ) (n : ℕ) (dep : Square) (order : List ℕ) (at : ℕ) (plan : List ℕ) : Type 0 where
  pub kept : Kept sc m
  pub squared : Squared goals n dep
  pub named : Named 96 order
  pub small : SmallBy dep goals n order
  pub room : at + (1 + 2 * length order) ≤ length plan

-- the goals that out names, of the state at `from` in sc; a count and two words for each from `at` on
pub record OutputsWritable (sc : List ℕ) (from : ℕ) (out : List ℕ) (at : ℕ) (plan : List ℕ) : Type 0 where
  pub named : Named 32 out
  pub state : from + 96 ≤ length sc
  pub room : at + (1 + 2 * length out) ≤ length plan

-- state i of the m in scratch, the code of its label, on symbol f; the block from `at` on
pub record BlockWritable (ar tab : List ℕ) (n : ℕ) (sc : List ℕ) (m i c f at : ℕ) (plan : List ℕ) : Type 0 where
  pub kept : Kept sc m
  pub on : OnSymbol ar tab n sc i c f
  pub small : SmallOn (words tab n) (state_in sc i) 0 ar
  pub room : at + length (block_in ar tab n sc m i f) ≤ length plan

-- state i of the m in scratch, the code of its label; its blocks from `at` on
pub record RowWritable (ar tab : List ℕ) (n : ℕ) (sc : List ℕ) (m i c at : ℕ) (plan : List ℕ) : Type 0 where
  pub held : Held ar tab n sc m
  pub inside : i < m
  pub small : SmallOn (words tab n) (state_in sc i) 0 ar
  pub label : c ≡ label_code tab (state_in sc i)
  pub starts : starts_at ar m i + length ar ≤ at
  pub room : at + length (row_all ar tab n sc m i) ≤ length plan
  pub word : at + length (row_all ar tab n sc m i) ≤ 65535

abbrev pub RowWritten : List ℕ → List ℕ → ℕ → List ℕ → ℕ → ℕ → ℕ → ℕ → List ℕ → List ℕ → Type 0
RowWritten ar tab n sc m i at r old new =
    (r ≡ at + length (row_all ar tab n sc m i))
    × (new ≡ sets (sets old (starts_at ar m i) (starts_from at (row_words tab n sc m i 0 ar))) at (row_all ar tab n sc m i))

-- a plan of `total` words
pub record Writable (ar tab : List ℕ) (n : ℕ) (sc : List ℕ) (m total : ℕ) (plan : List ℕ) : Type 0 where
  pub ready : Ready ar tab n
  pub held : Held ar tab n sc m
  pub small : (s : List GoalWords) → s ∈ states_in sc m → SmallOn (words tab n) s 0 ar
  pub sum : total ≡ length (plan_in ar tab n sc m)
  pub room : total ≤ length plan
  pub word : total ≤ 65535
