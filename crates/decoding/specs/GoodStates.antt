-- Inside: what building knows of its tables and of each state that it meets.
--   Ready       the tables are those of 1 to 16 shapes within the limits, for symbols within the limits
--   GoodState   the words of a state: at most 32 goals, each in its one form, that decode to goals that are sound
use Rattle.std.specs.Prelude.{◌≡◌, List, ℕ, ◌≤◌, ◌<◌, ◌^◌, length}
use Rattle.kinds.specs.Members.{◌∈◌}
use Rattle.term.specs.Terms.{Term, span}
use Rattle.term.specs.Admitted.{Limits}
use Rattle.automaton.specs.Walking.{setting_of}
use Rattle.automaton.proofs.Sound.{SoundState}
use Rattle.goals.specs.GoalWords.{GoalWords, Tabled}
use Rattle.decoding.specs.Decoding.{shape_at, state_meant, TableOf, codes_end}

pub record Ready (ar tab : List ℕ) (n : ℕ) : Type 0 where
  pub shapes : List Term
  pub count : length shapes ≡ n
  pub limits : Limits ar shapes
  pub tables : (s : ℕ) → s < length shapes → TableOf tab s (shape_at shapes s)
  pub tabled : Tabled tab

pub record GoodState (ar tab : List ℕ) (n : ℕ) (gs : List GoalWords) : Type 0 where
  pub ready : Ready ar tab n
  pub sound : SoundState (setting_of ready.limits) (state_meant ready.shapes gs)
  pub few : length gs ≤ 32
  pub code : (g : GoalWords) → g ∈ gs → g.an < codes_end
  pub mask : (g : GoalWords) → g ∈ gs → g.mask < 2 ^ span (shape_at ready.shapes g.sh)
