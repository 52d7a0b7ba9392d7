-- Inside: "in demand 3's setting, where plan and score come from one folio": what a walk is lent there.
--   out_pair succ_pair      a pair of a block, as its words are read
--   ReadsAs                 words that read as a plan of states and blocks, whatever else stands in them
--   OneFolio                the states and blocks that exploring a setting makes, words that read as their plan, beside a score of its symbols
--   plan_in score_in spans_in  the words lent
--   EnoughLent                    buffers such as starting accepts
--   step_in walk_in         one step; any choices, one after the other, from the start
--   accepted_in             how many of the choices are accepted
use Rattle.std.specs.Prelude.{◌≡◌, true, List, map, ℕ, ◌+◌, ◌*◌, ◌<◌, ◌≤◌, length, get_or}
use Rattle.std.proofs.Math.Option.{some}
use Rattle.std.proofs.Math.ListN.{get_elem?}
use Rattle.kinds.specs.Positions.{Pos, code}
use Rattle.term.specs.Terms.{span, flatten, sizes}
use Rattle.automaton.specs.Goals.{State, Announcement}
use Rattle.automaton.specs.Exploring.{Construction, construction, Succ, Block, made, explored}
use Rattle.automaton.specs.Walking.{Scored, calculus}
use Rattle.readers.specs.PlanParts.{counts_good, label_word, block_of}
use Rattle.walk.specs.Starting.{Walk, WalkOutcome, begun, room_for}
use Rattle.walk.specs.Stepping.{stepped, run, accepted}

abbrev pub out_pair : Announcement → ℕ × ℕ
out_pair a = (a.shape, code a.at)

abbrev pub succ_pair : Succ → ℕ × ℕ
succ_pair x = (x.to, code x.by)

-- of k symbols and n shapes
pub record ReadsAs {S : Type 0} (C : Construction S) (k n : ℕ) (ss : List S) (bs : List Block) (words : List ℕ) : Type 0 where
  pub counts_good_lem : counts_good words ≡ true
  pub states_are : get_or words 0 0 ≡ length ss
  pub symbols_are : get_or words 1 0 ≡ k
  pub shapes_are : get_or words 2 0 ≡ n
  pub label_read : (s : ℕ) (st : S) → get_elem? ss s ≡ some st → label_word words (length ss) s ≡ some (code (C.label st))
  pub block_read : (s f : ℕ) (b : Block) → s < length ss → f < k → get_elem? bs (s * k + f) ≡ some b
      → block_of words (length ss) k s f ≡ some (map out_pair b.out, map succ_pair b.succs)

pub record OneFolio (C : Scored) : Type 0 where
  pub few_symbols : length C.setting.symbols ≤ 32
  pub few_nodes : span C.score ≤ 65536
  pub states : List (State Pos)
  pub blocks : List Block
  pub is_explored : explored (construction (calculus C.setting)) C.setting.symbols ≡ made states blocks
  pub words : List ℕ
  pub reads : ReadsAs (construction (calculus C.setting)) (length C.setting.symbols) (length C.setting.shapes) states blocks words

module _ {C : Scored} (F : OneFolio C) where
  abbrev pub plan_in : List ℕ
  plan_in = F.words

  abbrev pub score_in : List ℕ
  score_in = flatten C.score

  abbrev pub spans_in : List ℕ
  spans_in = sizes C.score

  abbrev pub EnoughLent : Walk → Type 0
  EnoughLent w = room_for (length score_in) w ≡ true

  abbrev pub step_in : ℕ → Walk → WalkOutcome
  step_in i w = stepped plan_in score_in spans_in i w

  abbrev pub walk_in : List ℕ → Walk → Walk
  walk_in choices w = run plan_in score_in spans_in choices (begun (length score_in) w)

  abbrev pub accepted_in : List ℕ → Walk → ℕ
  accepted_in choices w = accepted plan_in score_in spans_in choices (begun (length score_in) w)
