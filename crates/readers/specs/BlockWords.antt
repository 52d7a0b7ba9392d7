-- A plan's blocks, by index into the words.
--   pair_list    n pairs from word b on
--   middle       where a block's successors are counted
--   outs_at nexts_at  the announcements and the successors of the block at b
--   block_fits   the whole block lies within the words
--   block_start  where the block of a state and symbol begins, if it is there and whole
--   begins pair_of   answers of the code's parts
use Rattle.kinds.specs.declared.Position.{Position}
use Rattle.std.specs.Prelude.{List, [], ◌∷◌, Bool, ℕ, zero, suc, ◌+◌, ◌*◌, ltb, leb, length, get_or, None, Some, Option as Optional}
use Rattle.std.proofs.Math.Option.{Option, none, some}
use Rattle.std.proofs.Math.ListN.{get_elem?}
use Rattle.kinds.specs.Lists.{bind, need}

unfoldable pub pair_list : List ℕ → ℕ → ℕ → List (ℕ × ℕ)
pair_list ws b zero = []
pair_list ws b (suc n) = (get_or ws b 0, get_or ws (b + 1) 0) ∷ pair_list ws (b + 2) n

abbrev pub middle : List ℕ → ℕ → ℕ
middle plan b = b + 1 + 2 * get_or plan b 0

abbrev pub outs_at : List ℕ → ℕ → List (ℕ × ℕ)
outs_at plan b = pair_list plan (b + 1) (get_or plan b 0)

abbrev pub nexts_at : List ℕ → ℕ → List (ℕ × ℕ)
nexts_at plan b = pair_list plan (middle plan b + 1) (get_or plan (middle plan b) 0)

unfoldable pub block_fits : List ℕ → ℕ → Bool
block_fits plan b = leb (middle plan b + 1 + 2 * get_or plan (middle plan b) 0) (length plan)

unfoldable pub block_start : List ℕ → ℕ → ℕ → ℕ → ℕ → Option ℕ
block_start plan m k s f =
    need (ltb s m)
    (need (ltb f k)
    (bind (get_elem? plan (4 + m + (s * k + f))) (λ b. need (block_fits plan b) (some b))))

abbrev pub begins : Optional ℕ → Option ℕ
begins (Some b) = some b
begins None = none

abbrev pub pair_of : Optional (ℕ × Position) → Option (ℕ × ℕ)
pair_of (Some (n, p)) = some (n, p.0)
pair_of None = none
