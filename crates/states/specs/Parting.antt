-- Inside: a state on a symbol, as arrays hold it: what it announces, its derivative, and the derivative's classes.
--   derived_words  the words of a derivative of 96 goals
--   OnSymbol       what code asks: a state in scratch, its label, and a symbol
--   firsts         the first k of a list, as `&l[0..k]` lends them
--   Named          at most 96 numbers, each naming a place below b by its last seven bits
--   goals_by       the goals so named, of the state at a place of the words
--   classes_by     the classes that the rows so named begin
--   Lent           the arrays that code fills are long enough
--   Parted         what they hold then
use Rattle.std.specs.Prelude.{◌≡◌, List, map, ℕ, ◌-◌, ◌%◌, ◌<◌, ◌≤◌, length, get_or, take}
use Rattle.automaton.specs.Classes.{Square}
use Rattle.goals.specs.GoalWords.{GoalWords, label_code}
use Rattle.goals.specs.WordStages.{outputs_w}
use Rattle.derivatives.specs.Orders.{class_at, goal_on}
use Rattle.classes.specs.Squares.{IsSquare, Squared}
use Rattle.decoding.specs.WordMachine.{words, place_in, used_words, state_in}
use Rattle.decoding.specs.GoodStates.{GoodState}
use Rattle.states.specs.declared.Parts.{Parts}

abbrev pub derived_words : ℕ
derived_words = 288

-- state i, the code of its label, symbol f
pub record OnSymbol (ar tab : List ℕ) (n : ℕ) (sc : List ℕ) (i c f : ℕ) : Type 0 where
  pub long : used_words ≤ length sc
  pub number : i < 128
  pub count : get_or sc i 0 ≤ 32
  pub good : GoodState ar tab n (state_in sc i)
  pub label : c ≡ label_code tab (state_in sc i)
  pub symbol : f < length ar

abbrev pub firsts : ℕ → List ℕ → List ℕ
firsts k l = take (k - 0) l

pub record Named (b : ℕ) (xs : List ℕ) : Type 0 where
  pub short : length xs ≤ 96
  pub low : (j : ℕ) → j < length xs → get_or xs j 0 % 128 < b

abbrev pub goals_by : List ℕ → ℕ → List ℕ → List GoalWords
goals_by ws at xs = map (λ x. goal_on ws at (x % 128)) xs

abbrev pub classes_by : Square → List ℕ → ℕ → List ℕ → List (List GoalWords)
classes_by d ws n xs = map (λ x. class_at d ws n (x % 128)) xs

pub record Lent (out goals : List ℕ) (dep : Square) (order : List ℕ) : Type 0 where
  pub outs : 32 ≤ length out
  pub room : derived_words ≤ length goals
  pub square : IsSquare 96 dep
  pub rows : 96 ≤ length order

-- of state i on symbol f of k children
pub record Parted (tab : List ℕ) (n : ℕ) (sc : List ℕ) (i f k : ℕ) (r : Parts) (out goals : List ℕ) (dep : Square) (order : List ℕ) : Type 0 where
  pub outs : r.announced ≡ length (outputs_w tab (label_code tab (state_in sc i)) f (state_in sc i))
  pub few_outs : r.announced ≤ 32
  pub out_named : Named 32 (firsts r.announced out)
  pub announced : goals_by sc (place_in i) (firsts r.announced out) ≡ outputs_w tab (label_code tab (state_in sc i)) f (state_in sc i)
  pub squared : Squared goals r.goals dep
  pub few_classes : r.classes ≤ 96
  pub rows_named : Named 96 (firsts r.classes order)
  pub classes : classes_by dep goals r.goals (firsts r.classes order) ≡ (words tab n).classes (state_in sc i) f k
