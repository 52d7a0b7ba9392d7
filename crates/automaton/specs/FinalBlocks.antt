-- The blocks of what is explored, from its final states alone, for any construction.
--   succ_of     a class's successor: the first of all states that is equal to the lifted class, and the displacement
--   block_of    what a state announces on a symbol and goes on with
--   blocks_of   its blocks, symbol by symbol
--   all_blocks  those of all states
--   SmallOn     its classes, on the symbols from f on, are of at most 32 goals
use Rattle.std.specs.Prelude.{◌≡◌, List, [], ◌∷◌, map, ℕ, suc, ◌+◌, ◌≤◌, length}
use Rattle.std.proofs.Math.Option.{some}
use Rattle.std.proofs.Math.ListN.{get_elem?}
use Rattle.kinds.specs.Lists.{find, gather, or_else}
use Rattle.kinds.specs.Members.{◌∈◌}
use Rattle.automaton.specs.Exploring.{Construction, Succ, Block}

module _ {S : Type 0} (C : Construction S) (ss : List S) where
  abbrev pub succ_of : S → Succ
  succ_of k = record { to = or_else (find (C.same (C.lift k)) ss 0) (length ss); by = C.gcp k }

  abbrev pub block_of : S → ℕ → ℕ → Block
  block_of s f n = record { out = C.outputs s f n; succs = map succ_of (C.classes s f n) }

  abbrev pub blocks_of : S → ℕ → List ℕ → List Block
  blocks_of s f [] = []
  blocks_of s f (n ∷ ns) = block_of s f n ∷ blocks_of s (suc f) ns

  abbrev pub all_blocks : List ℕ → List Block
  all_blocks ar = gather (λ s. blocks_of s 0 ar) ss

abbrev pub SmallOn : {S : Type 0} → Construction S → S → ℕ → List ℕ → Type 0
SmallOn {S} C s f ns = (g n : ℕ) → get_elem? ns g ≡ some n → (k : S) → k ∈ C.classes s (f + g) n → C.size k ≤ 32
