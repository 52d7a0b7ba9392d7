-- What is promised of every walk over the positions of a score, whatever is chosen at each step.
--   can_step          whatever item waits can be taken
--   each_read_once    no position is read twice, and after k steps k are read
--   waiting_at_most   no more items wait than positions are unread
--   ends_read         none waits exactly if all are read
--   announced_so_far  after every step: announced is what matches, with every score node read on which a node of the shape falls that is no blank
use mathlib.Core.Path.{◌≡◌, refl}
use mathlib.Core.List.{List, [], ◌∷◌, ◌++◌}
use mathlib.Core.Option.{some}
use mathlib.Core.Logic.{◌↔◌}
use Prim.Native.Nat.{ℕ, ◌+◌, ◌≤◌}
use lib.ListN.{length, get_elem?}
use Rattle.kinds.specs.Positions.{Pos}
use Rattle.kinds.proofs.Members.{∈_right, Distinct}
use Rattle.kinds.specs.Members.{◌∈◌, here}
use Rattle.term.specs.Terms.{Term, Terms, count, span}
use Rattle.term.specs.Places.{head_at, Matches}
use Rattle.automaton.specs.Goals.{Announcement}
use Rattle.automaton.specs.Walking.{Scored, Item, looks, follows, announces, Walked, step}
use Rattle.automaton.proofs.Invariant.{announced}
use Rattle.automaton.proofs.Steps.{walked_invariant}
use Rattle.automaton.proofs.Counts as counts
use Rattle.automaton.proofs.Marks.{told_exactly}

module _ (C : Scored) {items : List Item} {read : List Pos} {told : List Announcement} (w : Walked C items read told) where
  pub each_read_once : Distinct read × (length read ≡ counts.steps C w)
  each_read_once = (counts.read_distinct C (walked_invariant C w), counts.read_steps C w)

  pub waiting_at_most : length items + length read ≤ span C.score
  waiting_at_most = counts.waiting_unread C (walked_invariant C w)

  pub ends_read : (items ≡ []) ↔ (length read ≡ span C.score)
  ends_read = counts.none_waits C (walked_invariant C w)

  pub announced_so_far : (i : ℕ) (x : Term) → get_elem? C.setting.shapes i ≡ some x → (q : Pos)
      → (announced i q ∈ told) ↔ (Matches x C.score q × ((r : Pos) (k : ℕ) → head_at x r ≡ some k → (q ++ r) ∈ read))
  announced_so_far = told_exactly C (walked_invariant C w)

module _ (C : Scored) where
  pub can_step : (before after : List Item) (read : List Pos) (told : List Announcement) (it : Item) → Walked C (before ++ (it ∷ after)) read told
      → (f : ℕ) × (ts : Terms) × Walked C (before ++ (after ++ follows C.setting it f (count ts))) (read ++ (looks C.setting it ∷ []))
      (told ++ announces C.setting it f (count ts))
  can_step before after read told it w =
      let inv = walked_invariant C w in
      let n = counts.can_look C inv it (∈_right before (here refl)) in (
        n.0,
        n.1,
        step before after read told it n.0 n.1 (follows C.setting it n.0 (count n.1)) w n.2
            (counts.goes_self C it (inv.reach it (∈_right before (here refl))) n.0 n.1 n.2),
      )
