-- A step over any words: "It gives 34 exactly if one of these fails".
--   LeadsTo      a pair of those counted at a word, and the node that its code leads to
--   AllLead      every one of them
--   ItemFound    what an item finds: "The node at the item's node followed by the state's label is read"
--   StepFound    the step, and the walk after it
-- Each condition and its field (`View`, `LabelFound`, `BlockFound`, `PairFound` are in `Found`; the counts are the header's own):
--   "there are 1 to 128 states, 1 to 32 symbols and 1 to 16 shapes"                     View: states_in, symbols_in, shapes_in
--   "header, label, block start and the whole block lie within the plan words lent"     View: header; LabelFound: word; BlockFound: start, inside
--   "the item's state", "the symbol read", "each announced shape and successor state"   LabelFound: state; BlockFound: symbol; PairFound: number_in
--   "each code met"                                                                     LabelFound: code; PairFound: code_in
--   "each node reached", "each child gone to or stepped over"                           node_read, node: both are in `target`
--   "the log has room for one more, the waiting list for all items before and after"    log_room; room_before, room_after
--   "every place named exists in its buffer"                                            symbol_read, marks_there
--   "34 also if the stored number is above sixteen times n" (document 02, wish 5)       number_in; number_held, to which no score comes that can be lent
use Rattle.std.specs.Prelude.{◌≡◌, List, ℕ, ◌+◌, ◌*◌, ◌^◌, ◌<◌, ◌≤◌, length, get_or}
use Rattle.std.proofs.Math.Option.{Option, some}
use Rattle.std.proofs.Math.ListN.{get_elem?}
use Rattle.following.specs.Following.{target}
use Rattle.readers.specs.BlockWords.{pair_list, middle}
use Rattle.walk.specs.Starting.{Walk}
use Rattle.walk.specs.Stepping.{Finding, onward, moved}
use Rattle.promises.specs.Found.{PairFound, LabelFound, BlockFound}

-- a number and a node; the number is a shape's or a state's, below its count
module _ (plan : List ℕ) (at limit : ℕ) (to : ℕ → Option ℕ) where
  pub record LeadsTo (j : ℕ) (y : ℕ × ℕ) : Type 0 where
    pub code : ℕ
    pub pair : PairFound plan at limit j (y.0, code)
    pub node : to code ≡ some y.1

  pub record AllLead (ys : List (ℕ × ℕ)) : Type 0 where
    pub as_many : length ys ≡ get_or plan at 0
    pub each : (j : ℕ) (y : ℕ × ℕ) → get_elem? ys j ≡ some y → LeadsTo j y

module _ (plan score spans : List ℕ) (state node : ℕ) where
  abbrev states : ℕ
  states = get_or plan 0 0

  abbrev symbols : ℕ
  symbols = get_or plan 1 0

  abbrev shapes : ℕ
  shapes = get_or plan 2 0

  abbrev to : ℕ → Option ℕ
  to = target (length score) spans node

  pub record ItemFound (found : Finding) : Type 0 where
    pub code : ℕ
    pub label : LabelFound plan states symbols state code
    pub node_read : to code ≡ some found.node
    pub symbol : ℕ
    pub symbol_read : get_elem? score found.node ≡ some symbol
    pub begin : ℕ
    pub block : BlockFound plan states symbols state symbol begin
    pub announcements : AllLead plan begin shapes to found.outs
    pub successors : AllLead plan (middle plan begin) states to found.nexts

-- "An item is two words, state then node." "A step takes item i; later ones close up."
pub record StepFound (plan score spans : List ℕ) (i : ℕ) (w v : Walk) : Type 0 where
  pub found : Finding
  pub item : ItemFound plan score spans (get_or w.items (2 * i) 0) (get_or w.items (2 * i + 1) 0) found
  pub number_in : w.count.matches ≤ 16 * length score
  pub number_held : w.count.matches ≤ 2 ^ 63
  pub log_room : w.count.logged < length w.log
  pub room_before : 2 * w.count.waiting ≤ length w.items
  pub room_after : 2 * v.count.waiting ≤ length w.items
  pub marks_there : (j : ℕ) (y : ℕ × ℕ) → get_elem? found.outs j ≡ some y → y.1 < length w.marks
  pub after : v ≡ moved w found (onward i (pair_list w.items 0 w.count.waiting) found.nexts)
