-- A shape's words, each with the node on which it falls.
--   laid_next laid_end laid_length   the first of them; none; how many they are
--   near_next                        the next node stays in range
--   falls_laid shared_laid picked_laid touched_laid   what is told of all the nodes, told of these
use Prim.Native.Nat.{ℕ, ◌+◌, ◌<◌, ◌≤◌}
use mathlib.Core.Path.{◌≡◌, refl, ap, sym, ◌∙◌}
use mathlib.Core.List.{List, [], ◌∷◌, ◌++◌}
use mathlib.Core.Bool.{Bool, ◌&&◌, ◌||◌}
use native.Mathlib.Omega.{arith}
use native.Mathlib.Decide.{dec_lt}
use lib.Dec.{ltb}
use lib.ListN.{length}
use Rattle.kinds.specs.Lists.{gather}
use Rattle.std.specs.List.{list_all, list_any}
use Rattle.matching.specs.Falling.{size, stands, falls, falling, touched, picked}
use Rattle.matching.specs.Counts.{raises, is_shared}
use Rattle.matching.specs.Laying.{laid}
use Rattle.matching.specs.declared.laying.Laying.{Laying}
use Rattle.matching.proofs.LawsFalling.{size_one, size_none, raises_append, shared_append}

-- those that are left to a walk, and the nodes on which symbols fall among them
abbrev pub left : Laying → List (ℕ × ℕ)
left s = laid s.blank s.spans.now s.words.now s.x

abbrev pub fallen : ℕ → List (ℕ × ℕ) → List ℕ
fallen bl l = gather (λ p. falling bl p.0 p.1) l

module _ (bl : ℕ) (spans : List ℕ) where
  pub laid_next : {all ws : List ℕ} {w : ℕ} (x : ℕ) {n : ℕ} → all ≡ w ∷ ws → n ≡ size bl spans w x → laid bl spans all x ≡ (w, x) ∷ laid bl spans ws (x + n)
  unfolding laid
  laid_next x e d = rw (e, d)

  pub laid_end : (all : List ℕ) (x : ℕ) → length all ≡ 0 → laid bl spans all x ≡ []
  unfolding laid
  laid_end [] x e = refl
  laid_end (w ∷ ws) x e = absurd (omega arith)

  pub laid_length : (ws : List ℕ) (x : ℕ) → length (laid bl spans ws x) ≡ length ws
  unfolding laid
  laid_length [] x = refl
  laid_length (w ∷ ws) x = let l = laid_length ws (x + size bl spans w x) in omega arith

  pub near_next : {all ws : List ℕ} {w n : ℕ} (x m : ℕ) → all ≡ w ∷ ws → length all + length spans ≤ m → x + length all ≤ m + 65536
      → n ≡ size bl spans w x → n < 65536 → x + n + length ws ≤ m + 65536
  near_next {all} {ws} {w} {n} x m e r h d f = go (dec_lt w bl) (dec_lt x (length spans))
    where
      long : length all ≡ length ws + 1
      long = rw e (omega arith)

      go : Dec (w < bl) → Dec (x < length spans) → x + n + length ws ≤ m + 65536
      go (yes l) q = omega (arith, long, size_one bl spans w x l)
      go (no l) (yes q) = omega (arith, long)
      go (no l) (no q) = omega (arith, long, size_none bl spans w x)

  -- ---- what the words say, said of these
  pub falls_laid : (score ws : List ℕ) (x : ℕ) → list_all (λ p. stands bl score p.0 p.1) (laid bl spans ws x) ≡ falls bl score spans ws x
  unfolding falls laid
  falls_laid score [] x = refl
  falls_laid score (w ∷ ws) x = ap (λ b. stands bl score w x && b) (falls_laid score ws (x + size bl spans w x))

  pub picked_laid : (pick : Bool → ℕ → List ℕ) (ws : List ℕ) (x : ℕ) → gather (λ p. pick (ltb p.0 bl) p.1) (laid bl spans ws x) ≡ picked pick bl spans ws x
  unfolding picked laid
  picked_laid pick [] x = refl
  picked_laid pick (w ∷ ws) x = ap (λ l. pick (ltb w bl) x ++ l) (picked_laid pick ws (x + size bl spans w x))

  pub touched_laid : (ws : List ℕ) (x : ℕ) → gather (λ p. falling bl p.0 p.1) (laid bl spans ws x) ≡ touched bl spans ws x
  unfolding touched laid
  touched_laid [] x = refl
  touched_laid (w ∷ ws) x = ap (λ l. falling bl w x ++ l) (touched_laid ws (x + size bl spans w x))

  pub shared_laid : (cs ws : List ℕ) (x : ℕ) → list_any (λ p. is_shared cs (falling bl p.0 p.1)) (laid bl spans ws x) ≡ is_shared cs (touched bl spans ws x)
  unfolding touched laid is_shared
  shared_laid cs [] x = refl
  shared_laid cs (w ∷ ws) x = ap (λ b. is_shared cs (falling bl w x) || b) (shared_laid cs ws (x + size bl spans w x)) ∙ sym (shared_append cs (falling bl w x) _)

-- ---- turns of a walk: l is left of it, then r
module _ (bl : ℕ) (cs : List ℕ) {l : List (ℕ × ℕ)} where
  pub touch_begin : (spans ws : List ℕ) (x : ℕ) → l ≡ laid bl spans ws x → raises (touched bl spans ws x) cs ≡ raises (fallen bl l) cs
  touch_begin spans ws x e = ap (λ k. raises k cs) (sym (ap (fallen bl) e ∙ touched_laid bl spans ws x))

  pub touch_next : {r : List (ℕ × ℕ)} {ds : List ℕ} (w x : ℕ) → l ≡ (w, x) ∷ r → ds ≡ raises (falling bl w x) cs → raises (fallen bl l) cs ≡ raises (fallen bl r) ds
  touch_next {r} {ds} w x e d = rw (e, raises_append (falling bl w x) (fallen bl r) cs, d)

  pub touch_end : l ≡ [] → raises (fallen bl l) cs ≡ cs
  unfolding raises
  touch_end e = rw e
