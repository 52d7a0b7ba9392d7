-- Inside: the construction on words, as numbering and layout take it; and the states met, as scratch holds them.
--   announcement_w  a goal's announcement
--   words           for tables and n shapes
--   place_in        the states in scratch: 128 counts of goals, then 96 words a state; behind the last of them the class that is looked up
--   used_words      of all
--   state_in        state i of scratch
--   states_in       the first m states
--   Kept            what code asks of scratch that holds m states
use Rattle.std.specs.Prelude.{List, map, ℕ, ◌+◌, ◌*◌, ◌≤◌, ◌<◌, length, get_or}
use Rattle.kinds.specs.Lists.{range}
use Rattle.kinds.specs.Positions.{decode}
use Rattle.automaton.specs.Goals.{Announcement}
use Rattle.automaton.specs.Exploring.{Construction}
use Rattle.goals.specs.GoalWords.{GoalWords, goals_from, label_code}
use Rattle.goals.specs.WordStages.{freshes_w, deriv_w, same_state_w, classes_w, outputs_w, displacement_w, lifted_w}

abbrev pub announcement_w : GoalWords → Announcement
announcement_w g = record { shape = g.sh; at = decode g.an }

abbrev pub words : List ℕ → ℕ → Construction (List GoalWords)
words tab n = record {
  start = freshes_w n 0;
  label = λ gs. decode (label_code tab gs);
  outputs = λ gs f k. map announcement_w (outputs_w tab (label_code tab gs) f gs);
  classes = λ gs f k. classes_w tab (deriv_w tab n (label_code tab gs) f k gs);
  size = length;
  gcp = λ gs. decode (displacement_w gs);
  lift = lifted_w;
  same = same_state_w;
}

-- where state i begins, or what lies behind i states
abbrev pub place_in : ℕ → ℕ
place_in i = 128 + 96 * i

-- the words of 128 counts, as many states, and a class of 96 goals
abbrev pub used_words : ℕ
used_words = 12704

abbrev pub state_in : List ℕ → ℕ → List GoalWords
state_in sc i = goals_from sc (place_in i) (get_or sc i 0)

unfoldable pub states_in : List ℕ → ℕ → List (List GoalWords)
states_in sc m = map (state_in sc) (range 0 m)

pub record Kept (sc : List ℕ) (m : ℕ) : Type 0 where
  pub long : used_words ≤ length sc
  pub few : m ≤ 128
  pub counts : (i : ℕ) → i < m → get_or sc i 0 ≤ 32
