-- Inside: a step's parts, by index into the words.
--   look_head    the node that an item reads, and where its block begins
--   leads_fine   each announcement is a shape's and leads to a mark, each successor is a state's and leads to a node
--   record_fits  the items waiting lie in the words lent, and the stored number may stand
--   Taking       what is known where room is asked for: an item waits in the words lent, and its block lies in the plan
--   room_left     the log has room for one more, the waiting words for all items after the step
--   sighted      what a step that is not refused 34 sees: the item's node, the node read, where the block begins
--   head_of sight_of   answers of the code's parts
use Rattle.kinds.specs.declared.Node.{Node}
use Rattle.walk.specs.declared.Seen.{Seen}
use Rattle.std.specs.Prelude.{◌≡◌, List, Bool, true, ◌&&◌, ℕ, ◌+◌, ◌*◌, ◌-◌, ◌<◌, ◌≤◌, ltb, leb, length, get_or, None, Some, Option as Optional}
use Rattle.std.proofs.Math.Option.{Option, none, some}
use Rattle.std.proofs.Math.ListN.{get_elem?}
use Rattle.kinds.specs.Lists.{bind, need, all}
use Rattle.following.specs.Following.{target}
use Rattle.queue.specs.Targets.{fine}
use Rattle.readers.specs.PlanParts.{counts_good, label_word}
use Rattle.readers.specs.BlockWords.{middle, outs_at, nexts_at, block_fits, block_start}
use Rattle.walk.specs.declared.Record.{Record}
use Rattle.walk.specs.Stepping.{numbered}

unfoldable pub look_head : List ℕ → List ℕ → List ℕ → ℕ × ℕ → Option (ℕ × ℕ)
look_head plan score spans it =
    let m = get_or plan 0 0 in
    need (counts_good plan)
    (bind (label_word plan m it.0) (λ c.
    bind (target (length score) spans it.1 c) (λ x.
    bind (get_elem? score x) (λ f.
    bind (block_start plan m (get_or plan 1 0) it.0 f) (λ b. some (x, b))))))

-- n is the number of score words; from the item's node; of the block at b
unfoldable pub leads_fine : List ℕ → ℕ → List ℕ → ℕ → ℕ → ℕ → Bool
leads_fine plan n spans from b marks = all (fine (get_or plan 2 0) marks (target n spans from)) (outs_at plan b) && all
    (fine (get_or plan 0 0) 65536 (target n spans from)) (nexts_at plan b)

-- so many words of waiting items, and n of score
unfoldable pub record_fits : ℕ → ℕ → Record → Bool
record_fits items n r = leb (2 * r.waiting) items && numbered n r

-- an item of the words lent is about to be taken, and its block lies in the plan
pub record Taking (plan : List ℕ) (b items : ℕ) (r : Record) : Type 0 where
  pub fits : block_fits plan b ≡ true
  pub waits : 0 < r.waiting
  pub lent : 2 * r.waiting ≤ items

unfoldable pub room_left : List ℕ → ℕ → ℕ → ℕ → Record → Bool
room_left plan b items log r = ltb r.logged log && leb (2 * (r.waiting - 1 + get_or plan (middle plan b) 0)) items

unfoldable pub sighted : List ℕ → List ℕ → List ℕ → List ℕ → ℕ → ℕ → Record → ℕ → Option (ℕ × ℕ × ℕ)
sighted plan score spans items log marks r i =
    let from = get_or items (2 * i + 1) 0 in
    need (record_fits (length items) (length score) r)
    (bind (look_head plan score spans (get_or items (2 * i) 0, from)) (λ h.
    need (leads_fine plan (length score) spans from h.1 marks)
    (need (room_left plan h.1 (length items) log r)
    (some (from, h.0, h.1)))))

abbrev pub head_of : Optional (Node × ℕ) → Option (ℕ × ℕ)
head_of (Some (x, b)) = some (x.0, b)
head_of None = none

abbrev pub sight_of : Optional Seen → Option (ℕ × ℕ × ℕ)
sight_of (Some a) = some (a.from.0, a.node.0, a.block)
sight_of None = none
