-- The derivative and the label on words are those of the construction.
use mathlib.Core.Path.{◌≡◌, refl, ap, ap₂, sym, ◌∙◌}
use mathlib.Core.List.{List, [], ◌∷◌, ◌++◌, map, append-nil}
use mathlib.Core.Bool.{Bool, true, false, cond, not}
use mathlib.Core.Option.{some}
use Prim.Native.Nat.{ℕ, ◌+◌, ◌*◌, ◌≤◌, ◌<◌}
use native.Mathlib.Omega.{arith}
use lib.ListN.{length, length-append}
use Rattle.automaton.specs.Bare.{bare, fresh}
use Rattle.automaton.specs.Goals.{Goal, reduced, label, deriv}
use Rattle.kinds.proofs.Codes.{Proper, proper_nil, proper_cons, proper_append, code_from_append, decode_proper}
use Rattle.kinds.proofs.Members.{in_range}
use Rattle.kinds.specs.Members.{◌∈◌, here, there}
use Rattle.kinds.proofs.ListLaws.{map_append}
use Rattle.kinds.specs.Lists.{any, filter, gather, range, same, is_nil}
use Rattle.kinds.specs.Positions.{Pos, code, decode}
use Rattle.decoding.proofs.MaskReduced.{select_one, dom_below, below}
use Rattle.decoding.proofs.GoalDecoded.{Fine, stays_is, moves_is}
use Rattle.decoding.specs.Decoding.{select, shape_at, goal_meant, state_meant, TableOf}
use Rattle.goals.specs.GoalWords.{GoalWords}
use Rattle.goals.specs.WordStages.{stays, moves, fresh_w, freshes_w, born_w, deriv_w}
use Rattle.term.specs.Places.{sub}
use Rattle.term.specs.Terms.{count, Term, blank, node, Terms}
use Rattle.kinds.specs.Limits.{blank_word}

last : (b : Bool) (h : (Goal Pos)) (ys : List (Goal Pos)) → cond b (h ∷ []) [] ++ ys ≡ cond b (h ∷ ys) ys
last true h ys = refl
last false h ys = refl

-- the fresh goal of a shape
pub fresh_is : (shapes : List Term) (a j : ℕ) → goal_meant shapes (fresh_w a j) ≡ fresh (decode a) j
fresh_is shapes a j =
    ap (λ qs. record { shape = j; ann = decode a; obs = map (λ r. decode a ++ r) qs })
    (ap (select 1) (dom_below (shape_at shapes j)) ∙ select_one [] (below (shape_at shapes j)))
    ∙ ap (λ p. record { shape = j; ann = decode a; obs = p ∷ [] }) (append-nil (decode a))

freshes_are : (shapes : List Term) (a : ℕ) (js : List ℕ) → map (goal_meant shapes) (map (fresh_w a) js) ≡ map (fresh (decode a)) js
freshes_are shapes a [] = refl
freshes_are shapes a (j ∷ js) = ap₂ (λ g gs. g ∷ gs) (fresh_is shapes a j) (freshes_are shapes a js)

pub child_is : (P : Pos) (i : ℕ) → Proper P → length P ≤ 6 → 1 ≤ i → i ≤ 4 → decode (5 * code P + i) ≡ P ++ (i ∷ [])
child_is P i h s l u =
    ap decode (sym (code_from_append P (i ∷ []) 0))
    ∙ decode_proper (P ++ (i ∷ [])) (proper_append P (i ∷ []) h (proper_cons l u proper_nil)) (rw (length-append P (i ∷ [])) (omega arith))

module _ (shapes : List Term) (tab : List ℕ) (tables : (s : ℕ) → s < length shapes → TableOf tab s (shape_at shapes s)) where
  module _ (P : Pos) (proper : Proper P) (short : length P ≤ 6) where
    staying : (gs : List GoalWords) → ((g : GoalWords) → g ∈ gs → Fine shapes g)
        → map (goal_meant shapes) (gather (stays tab (code P)) gs) ≡ filter (λ g. not (any (same P) g.obs)) (state_meant shapes gs)
    staying [] fine = refl
    staying (g ∷ gs) fine =
        map_append (goal_meant shapes) (stays tab (code P) g) (gather (stays tab (code P)) gs)
        ∙ ap₂ (λ xs ys. map (goal_meant shapes) xs ++ ys) (stays_is shapes tab tables g (fine g (here refl)) P proper (omega arith))
        (staying gs (λ h i. fine h (there i)))
        ∙ go (any (same P) (goal_meant shapes g).obs)
      where
        go : (b : Bool)
            → map (goal_meant shapes) (cond (not b) (g ∷ []) []) ++ filter (λ g. not (any (same P) g.obs)) (state_meant shapes gs) ≡ cond (not b)
            (goal_meant shapes g ∷ filter (λ g. not (any (same P) g.obs)) (state_meant shapes gs))
            (filter (λ g. not (any (same P) g.obs)) (state_meant shapes gs))
        go true = refl
        go false = refl

    module _ (f k : ℕ) (symbol : f < blank_word) (few : k ≤ 4)
        (arity : (s : ℕ) (p : Pos) (ts : Terms) → sub (shape_at shapes s) p ≡ some (node f ts) → count ts ≡ k)
        (blanks : (s : ℕ) (p : Pos) (w : ℕ) → sub (shape_at shapes s) p ≡ some (blank w) → blank_word ≤ w) where
      moving : (gs : List GoalWords) → ((g : GoalWords) → g ∈ gs → Fine shapes g)
          → map (goal_meant shapes) (gather (moves tab (code P) f) gs) ≡ filter (λ g. not (is_nil g.obs))
          (map (reduced (bare shapes) P k) (filter ((bare shapes).expects f P) (state_meant shapes gs)))
      moving [] fine = refl
      moving (g ∷ gs) fine =
          map_append (goal_meant shapes) (moves tab (code P) f g) (gather (moves tab (code P) f) gs)
          ∙ ap₂ (λ xs ys. xs ++ ys)
          (moves_is shapes tab tables g (fine g (here refl)) P proper (omega arith) f k symbol (arity g.sh) (blanks g.sh))
          (moving gs (λ h i. fine h (there i)))
          ∙ go ((bare shapes).expects f P (goal_meant shapes g)) (filter ((bare shapes).expects f P) (state_meant shapes gs))
          (goal_meant shapes g)
        where
          go : (b : Bool) (rest : List (Goal Pos)) (h : (Goal Pos))
              → cond b (cond (not (is_nil (reduced (bare shapes) P k h).obs)) (reduced (bare shapes) P k h ∷ []) []) [] ++ filter
              (λ g. not (is_nil g.obs)) (map (reduced (bare shapes) P k) rest)
              ≡ filter (λ g. not (is_nil g.obs)) (map (reduced (bare shapes) P k) (cond b (h ∷ rest) rest))
          go true rest h =
              last (not (is_nil (reduced (bare shapes) P k h).obs)) (reduced (bare shapes) P k h)
              (filter (λ g. not (is_nil g.obs)) (map (reduced (bare shapes) P k) rest))
          go false rest h = refl

      born : (is : List ℕ) → ((i : ℕ) → i ∈ is → (1 ≤ i) × (i ≤ 4))
          → map (goal_meant shapes) (gather (λ i. freshes_w (length shapes) (5 * code P + i)) is) ≡ gather (λ i. (bare shapes).fresh (P ++ (i ∷ []))) is
      born [] h = refl
      born (i ∷ is) h =
          map_append (goal_meant shapes) (freshes_w (length shapes) (5 * code P + i))
          (gather (λ i'. freshes_w (length shapes) (5 * code P + i')) is)
          ∙ ap₂ (λ xs ys. xs ++ ys)
          (freshes_are shapes (5 * code P + i) (range 0 (length shapes))
          ∙ ap (λ p. map (fresh p) (range 0 (length shapes))) (child_is P i proper short (h i (here refl)).0 (h i (here refl)).1))
          (born is (λ j m. h j (there m)))

      pub deriv_is : (gs : List GoalWords) → ((g : GoalWords) → g ∈ gs → Fine shapes g) → P ≡ label (bare shapes) (state_meant shapes gs)
          → state_meant shapes (deriv_w tab (length shapes) (code P) f k gs) ≡ deriv (bare shapes) (state_meant shapes gs) f k
      unfolding deriv_w
      deriv_is gs fine is =
          rw (← is) (
          map_append (goal_meant shapes) (gather (stays tab (code P)) gs)
          (gather (moves tab (code P) f) gs ++ born_w (length shapes) (code P) k)
          ∙ ap₂ (λ xs ys. xs ++ ys) (staying gs fine)
          (map_append (goal_meant shapes) (gather (moves tab (code P) f) gs) (born_w (length shapes) (code P) k)
          ∙ ap₂ (λ xs ys. xs ++ ys) (moving gs fine) (born (range 1 k) (λ i m. let z = in_range k 1 i m in (z.0, omega (arith, z.1))))))
