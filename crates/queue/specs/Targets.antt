-- Pairs of a number and a code, and what they lead to.
--   targets    for each pair the number, below its count, and the node that the code leads to
--   put marked "Bit j of the mark at a node is set when shape j is announced there"
--   newly      for each announcement in order one, if the bit was clear when it is set
--   fine       a pair's number is below its limit, and its code leads to a node below room
--   landed     each pair's number, and the node that its code leads to
--   PairsIn Leading Appended   what the code asks: pairs that are there; that lead to marks; room for items
--   closed_up  the words from at + 2 up to end, moved down by two
use Rattle.std.specs.Prelude.{List, [], ◌∷◌, map, ◌≡◌, Bool, true, false, ◌&&◌, ℕ, ◌+◌, ◌-◌, ◌*◌, ◌≤◌, ltb, length, get_or, take, drop, set}
use Rattle.std.proofs.Math.Option.{Option, none, some}
use Rattle.std.proofs.lemmas.List.Edits.{sets}
use Rattle.kinds.specs.Limits.{most_shapes}
use Rattle.kinds.specs.Lists.{bind, need, or_else, all}
use Rattle.kinds.specs.Bits.{clear_bit, with_bit}
use Rattle.readers.specs.BlockWords.{pair_list}

unfoldable pub targets : ℕ → (ℕ → Option ℕ) → List (ℕ × ℕ) → Option (List (ℕ × ℕ))
targets limit to [] = some []
targets limit to (x ∷ xs) = need (ltb x.0 limit) (bind (to x.1) (λ y. bind (targets limit to xs) (λ ys. some ((x.0, y) ∷ ys))))

-- a shape and a node
abbrev pub put : ℕ × ℕ → List ℕ → List ℕ
put x ms = set ms x.1 (with_bit (get_or ms x.1 0) x.0)

unfoldable pub marked : List (ℕ × ℕ) → List ℕ → List ℕ
marked [] ms = ms
marked (x ∷ xs) ms = marked xs (put x ms)

unfoldable pub newly : List (ℕ × ℕ) → List ℕ → ℕ
newly [] ms = 0
newly (x ∷ xs) ms = clear_bit (get_or ms x.1 0) x.0 + newly xs (put x ms)

abbrev pub below_room : ℕ → Option ℕ → Bool
below_room room (some x) = ltb x room
below_room room none = false

unfoldable pub fine : ℕ → ℕ → (ℕ → Option ℕ) → ℕ × ℕ → Bool
fine limit room to x = ltb x.0 limit && below_room room (to x.1)

unfoldable pub landed : (ℕ → Option ℕ) → List (ℕ × ℕ) → List (ℕ × ℕ)
landed to ps = map (λ x. (x.0, or_else (to x.1) 0)) ps

-- so many pairs stand in the words from a place on
abbrev pub PairsIn : List ℕ → ℕ → ℕ → Type 0
PairsIn plan at count = at + 2 * count ≤ length plan

-- they are there, and each is a shape's and leads to a mark
abbrev pub Leading : List ℕ → ℕ → ℕ → (ℕ → Option ℕ) → List ℕ → Type 0
Leading plan at count to marks = PairsIn plan at count × (all (fine most_shapes (length marks) to) (pair_list plan at count) ≡ true)

-- they are there, and there is room for an item of each from `end` on
abbrev pub Appended : List ℕ → ℕ → ℕ → List ℕ → ℕ → Type 0
Appended plan at count items end = PairsIn plan at count × (end + 2 * count ≤ length items)

abbrev pub closed_up : List ℕ → ℕ → ℕ → List ℕ
closed_up xs at end = sets xs at (take (end - (at + 2)) (drop (at + 2) xs))
