-- What the marks of a walk over a score mean before its end (document 02, wish 7): of any walk, by its marks and its log alone.
--   logged      the nodes in the log, whose symbols are read: as many of its entries as the record counts
--   ReadWhole   a match whose symbols are all read: "the shape matches there and every score node on which one of its non-blank nodes falls is already in the
--               log"
--   marked      "a match is marked exactly if" it is read whole: of every node, and every number of a bit
--   missing     "a missing match always has an unread symbol": one of those nodes, which is not in the log
--   Keeps       "nothing marked is ever withdrawn": what is marked in a walk is marked in another
use Rattle.std.specs.Prelude.{◌≡◌, true, false, List, ◌↔◌, ℕ, ◌<◌, take}
use Rattle.kinds.specs.Members.{◌∈◌, ◌⊆◌}
use Rattle.term.specs.Terms.{Term, span}
use Rattle.counting.specs.Counting.{Match, found}
use Rattle.clashing.specs.Clashes.{nodes_in}
use Rattle.clashing.specs.Strays.{IsMatch}
use Rattle.walk.specs.Starting.{Walk}

abbrev pub logged : Walk → List ℕ
logged w = take w.count.logged w.log

abbrev pub ReadWhole : List Term → Term → Walk → Match → Type 0
ReadWhole shapes t w m = IsMatch shapes t m × (nodes_in shapes t m ⊆ logged w)

pub record SoFar (shapes : List Term) (t : Term) (w : Walk) : Type 0 where
  pub marked : (m : Match) → m.node < span t → (found w.marks m ≡ true) ↔ ReadWhole shapes t w m
  pub missing : (m : Match) → IsMatch shapes t m → found w.marks m ≡ false → (x : ℕ) × (x ∈ nodes_in shapes t m) × (x ∈ logged w → ⊥)

abbrev pub Keeps : Walk → Walk → Type 0
Keeps w v = (m : Match) → found w.marks m ≡ true → found v.marks m ≡ true
