-- Marks that hold exactly the matches: demand 2's "a shape is reported at a place exactly if it matches there", of marks alone, whatever made them.
--   long      a mark for each node of the score
--   exactly   of every node, and every number of a bit: it is set exactly if there is such a shape and it matches there
use Rattle.std.specs.Prelude.{◌≡◌, true, List, ◌↔◌, ℕ, ◌<◌, length}
use Rattle.term.specs.Terms.{Term, span}
use Rattle.counting.specs.Counting.{Match, found}
use Rattle.clashing.specs.Strays.{IsMatch}

pub record Exact (shapes : List Term) (t : Term) (ms : List ℕ) : Type 0 where
  pub long : length ms ≡ span t
  pub exactly : (m : Match) → m.node < span t → (found ms m ≡ true) ↔ IsMatch shapes t m
