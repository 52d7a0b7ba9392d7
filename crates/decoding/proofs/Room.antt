-- A derivative has room: at most as many goals as the state, and a fresh one for each shape at each child.
use Prim.Native.Nat.{ℕ, ◌+◌, ◌*◌, ◌≤◌}
use mathlib.Core.Path.{◌≡◌, refl, ap, ap₂, ◌∙◌}
use mathlib.Core.List.{List, [], ◌∷◌, ◌++◌}
use mathlib.Core.Bool.{Bool, true, false, cond}
use native.Mathlib.Omega.{arith}
use native.Mathlib.Nat.{suc-mul}
use lib.Dec.{eqb, ltb}
use lib.ListN.{length, length-append, length-map}
use Rattle.kinds.specs.Lists.{gather, range}
use Rattle.goals.specs.GoalWords.{GoalWords, flat, node_at, sym_of, kids_of, mask_after}
use Rattle.goals.specs.WordStages.{stays, moves, goes_on, with_mask, fresh_w, freshes_w, born_w, deriv_w, unexpected}
use Rattle.kinds.proofs.Members.{length_range}

pub flat_length : (gs : List GoalWords) → length (flat gs) ≡ 3 * length gs
unfolding flat
flat_length [] = refl
flat_length (g ∷ gs) = let e = flat_length gs in omega (arith, e)

module _ (tab : List ℕ) (n c f k : ℕ) where
  -- a goal stays or moves on, or is gone
  one_of : (g : GoalWords) → length (stays tab c g) + length (moves tab c f g) ≤ 1
  one_of g =
      go (eqb (node_at tab g.sh g.an g.mask c) 16)
      (cond (eqb (sym_of tab g.sh (node_at tab g.sh g.an g.mask c)) f)
      (mask_after g.mask (node_at tab g.sh g.an g.mask c) (kids_of tab g.sh (node_at tab g.sh g.an g.mask c))) unexpected)
    where
      short : (x : ℕ) (a b : Bool) → length (cond {A = List GoalWords} a [] (cond b (with_mask g x ∷ []) [])) ≤ 1
      short x true b = omega arith
      short x false true = omega arith
      short x false false = omega arith

      go : (b : Bool) (x : ℕ) → length (cond {A = List GoalWords} b (g ∷ []) []) + length (goes_on (cond b unexpected x) g) ≤ 1
      go true x = omega arith
      go false x = let s = short x (eqb x 0) (ltb x unexpected) in omega (arith, s)

  kept : (gs : List GoalWords) → length (gather (stays tab c) gs) + length (gather (moves tab c f) gs) ≤ length gs
  kept [] = omega arith
  kept (g ∷ gs) =
      let a = length-append (stays tab c g) (gather (stays tab c) gs) in
      let b = length-append (moves tab c f g) (gather (moves tab c f) gs) in
      let o = one_of g in
      let i = kept gs in
      omega (arith, a, b, o, i)

  born_from_lem : (is : List ℕ) → length (gather (λ i. freshes_w n (5 * c + i)) is) ≡ length is * n
  born_from_lem [] = omega arith
  born_from_lem (i ∷ is) =
      length-append (freshes_w n (5 * c + i)) (gather (λ i'. freshes_w n (5 * c + i')) is)
      ∙ ap₂ (λ x y. x + y) (length-map (range 0 n) (fresh_w (5 * c + i)) ∙ length_range 0 n) (born_from_lem is)
      ∙ omega (arith, suc-mul (length is) n)

  pub deriv_room : (gs : List GoalWords) → length (deriv_w tab n c f k gs) ≤ length gs + k * n
  unfolding deriv_w
  deriv_room gs =
      let a = length-append (gather (stays tab c) gs) (gather (moves tab c f) gs ++ born_w n c k) in
      let b = length-append (gather (moves tab c f) gs) (born_w n c k) in
      let d : length (born_w n c k) ≡ k * n = born_from_lem (range 1 k) ∙ ap (λ x. x * n) (length_range 1 k) in
      let i = kept gs in
      omega (arith, a, b, d, i)
