-- The passes over the matches: l are those that are left, and m the first of them.
--   stray_any                          the search for a bit that is no match
--   touch_start touch_next touch_end   counting on nodes
--   share_count                        counting the matches that share one
--   match_none match_is, nodes_are     one match
use Prim.Native.Nat.{ℕ, ◌<◌, ◌≤◌}
use mathlib.Core.Path.{◌≡◌, refl, ap}
use mathlib.Core.List.{List, [], ◌∷◌}
use mathlib.Core.Bool.{false, cond, not, ◌||◌}
use lib.ListN.{length}
use borrow.Author.Tests.{lt-ltb, le-ltb}
use Rattle.std.specs.List.{list_any, filter as list_filter}
use Rattle.kinds.specs.Lists.{filter, gather}
use Rattle.counting.specs.Counting.{Match}
use Rattle.matching.specs.Shapes.{shape_at}
use Rattle.matching.specs.Falling.{falls, touched}
use Rattle.matching.specs.Counts.{raises, is_shared}
use Rattle.matching.proofs.LawsFalling.{raises_append}
use Rattle.clashing.specs.Clashes.{nodes_of}
use Rattle.clashing.specs.Strays.{matched, strays}
use Rattle.clashing.specs.Passes.{sharing}

module _ (ws st score spans : List ℕ) where
  pub stray_any : (l : List Match) → list_any (λ m. not (matched ws st score spans m)) l ≡ strays ws st score spans l
  unfolding strays
  stray_any [] = refl
  stray_any (m ∷ l) = ap (λ b. not (matched ws st score spans m) || b) (stray_any l)

module _ (N : Match → List ℕ) (l : List Match) (cs : List ℕ) where
  pub touch_start : (r : List Match) → l ≡ r → raises (gather N l) cs ≡ raises (gather N r) cs
  touch_start r e = ap (λ k. raises (gather N k) cs) e

  pub touch_end : l ≡ [] → raises (gather N l) cs ≡ cs
  unfolding raises
  touch_end e = rw e

  pub touch_next : (m : Match) (r : List Match) (ds : List ℕ) → l ≡ m ∷ r → ds ≡ raises (N m) cs → raises (gather N l) cs ≡ raises (gather N r) ds
  touch_next m r ds e h = rw (e, h) (raises_append (N m) (gather N r) cs)

  pub share_count : length (list_filter (λ m. is_shared cs (N m)) l) ≡ sharing N cs l
  unfolding sharing
  share_count = ap length (same l)
    where
      same : (k : List Match) → list_filter (λ m. is_shared cs (N m)) k ≡ filter (λ m. is_shared cs (N m)) k
      same [] = refl
      same (m ∷ k) = ap (λ r. cond (is_shared cs (N m)) (m ∷ r) r) (same k)

module _ (ws st score spans : List ℕ) (m : Match) where
  pub match_none : length st ≤ m.shape → false ≡ matched ws st score spans m
  unfolding matched
  match_none h = rw (le-ltb m.shape (length st) h)

  pub match_is : (l : List ℕ) → l ≡ shape_at ws st m.shape → m.shape < length st → falls 65535 score spans l m.node ≡ matched ws st score spans m
  unfolding matched
  match_is l e h = rw (e, lt-ltb m.shape (length st) h)

-- l are the shape's words
module _ (ws st spans : List ℕ) (m : Match) (l : List ℕ) (e : l ≡ shape_at ws st m.shape) where
  pub nodes_are : touched 65535 spans l m.node ≡ nodes_of ws st spans m
  unfolding nodes_of
  nodes_are = rw e
