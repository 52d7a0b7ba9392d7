-- One shape's words.
--   end_last end_next            where a shape ends
--   part_none part_out part_is   the words between two indices
--   words_none words_are         the words of a shape
use Prim.Native.Nat.{ℕ, suc, ◌+◌, ◌-◌, ◌<◌, ◌≤◌}
use mathlib.Core.Path.{◌≡◌}
use mathlib.Core.List.{List, []}
use native.Mathlib.Omega.{arith}
use native.Mathlib.Numerals.{add-one}
use lib.ListN.{length, get_or, take, drop}
use borrow.Author.Tests.{lt-ltb, le-ltb, le-leb, lt-leb}
use Rattle.matching.specs.Shapes.{end_of, part, shape_at}

module _ (ws st : List ℕ) (j : ℕ) where
  pub end_last : length st ≤ j + 1 → end_of ws st j ≡ length ws
  unfolding end_of
  end_last h = rw (le-ltb (suc j) (length st) (omega arith))

  pub end_next : j + 1 < length st → end_of ws st j ≡ get_or st (j + 1) 0
  unfolding end_of
  end_next h = rw (lt-ltb (suc j) (length st) (omega arith), add-one j)

  pub words_none : length st ≤ j → shape_at ws st j ≡ []
  unfolding shape_at
  words_none h = rw (le-ltb j (length st) h)

  pub words_are : j < length st → shape_at ws st j ≡ part ws (get_or st j 0) (end_of ws st j)
  unfolding shape_at
  words_are h = rw (lt-ltb j (length st) h)

module _ (ws : List ℕ) (a e : ℕ) where
  pub part_none : e < a → part ws a e ≡ []
  unfolding part
  part_none h = rw (lt-leb a e h)

  pub part_out : a ≤ e → length ws < e → part ws a e ≡ []
  unfolding part
  part_out h g = rw (le-leb a e h, lt-leb e (length ws) g)

  pub part_is : a ≤ e → e ≤ length ws → part ws a e ≡ take (e - a) (drop a ws)
  unfolding part
  part_is h g = rw (le-leb a e h, le-leb e (length ws) g)
