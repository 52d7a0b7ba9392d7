-- Inside: a goal as the code hands it on, and as three words.
--   as_goal   the one from the other
--   as_words  and back
use Rattle.goals.specs.GoalWords.{GoalWords}
use Rattle.goals.specs.declared.Goal.{Goal}

abbrev pub as_goal : GoalWords → Goal
as_goal g = record { shape = record { 0 = g.sh }; at = record { 0 = g.an }; mask = g.mask }

abbrev pub as_words : Goal → GoalWords
as_words g = record { sh = g.shape.0; an = g.at.0; mask = g.mask }
