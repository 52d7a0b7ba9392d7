-- One shape's words among all shapes' words, by their starts; none where there is no such part.
--   end_of    where it ends: at the next one's start, or with the words
--   part      the words from an index to another
--   shape_at  the words of shape j
--   Laid      each shape has such a part: its start is not behind its end, and that not behind the words'
use Rattle.std.specs.Prelude.{ℕ, suc, ◌-◌, ◌<◌, ◌≤◌, List, [], cond, ltb, leb, length, get_or, take, drop}

unfoldable pub end_of : List ℕ → List ℕ → ℕ → ℕ
end_of ws st j = cond (ltb (suc j) (length st)) (get_or st (suc j) 0) (length ws)

unfoldable pub part : List ℕ → ℕ → ℕ → List ℕ
part ws a e = cond (leb a e) (cond (leb e (length ws)) (take (e - a) (drop a ws)) []) []

unfoldable pub shape_at : List ℕ → List ℕ → ℕ → List ℕ
shape_at ws st j = cond (ltb j (length st)) (part ws (get_or st j 0) (end_of ws st j)) []

abbrev pub Laid : List ℕ → List ℕ → Type 0
Laid ws st = (j : ℕ) → j < length st → (get_or st j 0 ≤ end_of ws st j) × (end_of ws st j ≤ length ws)
