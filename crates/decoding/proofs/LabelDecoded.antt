-- The label's code on words is the code of the label.
use mathlib.Core.Path.{◌≡◌, refl, ap, ap₂, sym, ◌∙◌}
use mathlib.Core.List.{List, [], ◌∷◌, ◌++◌, map}
use mathlib.Core.Bool.{Bool, true, false, cond}
use Prim.Native.Nat.{ℕ, ◌/◌, ◌%◌, ◌≤◌, ◌<◌}
use native.Mathlib.Omega.{arith}
use borrow.Author.Tests.{lt-ltb}
use lib.Dec.{eqb}
use lib.ListN.{length}
use Rattle.automaton.specs.Bare.{bare}
use Rattle.automaton.specs.Goals.{Goal, is_root, first, first_from, all_obs, label}
use Rattle.decoding.proofs.PaddedCodes.{pad_six, code_before}
use Rattle.kinds.proofs.Codes.{Proper, pad_lt}
use Rattle.kinds.proofs.Members.{on_gather, in_filter, on_map}
use Rattle.kinds.specs.Members.{◌∈◌, here, there}
use Rattle.kinds.proofs.ListLaws.{map_append}
use Rattle.kinds.specs.Lists.{filter}
use Rattle.kinds.specs.Positions.{Pos, before, code, decode_to, decode}
use Rattle.decoding.proofs.GoalDecoded.{Fine, owed_is}
use Rattle.decoding.specs.Decoding.{select, shape_at, goal_meant, state_meant, TableOf}
use Rattle.goals.specs.GoalWords.{GoalWords, owed_by, pad, first_code, root_codes, label_code, no_code}
use Rattle.term.specs.Places.{dom}
use Rattle.term.specs.Terms.{Term}

-- positions of codes at most 15624
abbrev pub Fit : List Pos → Type 0
Fit ps = (q : Pos) → q ∈ ps → Proper q × (length q ≤ 6)

pub first_is : (p : Pos) (ps : List Pos) → Fit (p ∷ ps) → first_code (code p) (map code ps) ≡ code (first_from (bare []) p ps)
unfolding first_code
first_is p [] f = refl
first_is p (q ∷ ps) f =
    let a = f p (here refl) in
    let b = f q (there (here refl)) in
    ap (λ t. first_code (cond t (code q) (code p)) (map code ps)) (code_before q p b.0 a.0 b.1 a.1)
    ∙ go (before q p) (first_is q ps (λ x i. f x (there i))) (first_is p ps (skip f))
  where
    skip : Fit (p ∷ q ∷ ps) → Fit (p ∷ ps)
    skip g x (here e) = g x (here e)
    skip g x (there m) = g x (there (there m))

    go : (t : Bool) → first_code (code q) (map code ps) ≡ code (first_from (bare []) q ps)
        → first_code (code p) (map code ps) ≡ code (first_from (bare []) p ps)
        → first_code (cond t (code q) (code p)) (map code ps) ≡ code (first_from (bare []) (cond t q p) ps)
    go true x y = x
    go false x y = y

-- the first of all, from a number above all codes
pub first_from_lem : (ps : List Pos) → Fit ps → (ps ≡ [] → ⊥) → first_code no_code (map code ps) ≡ code (first (bare []) ps)
unfolding first_code
first_from_lem [] f n = absurd (n refl)
first_from_lem (p ∷ ps) f n =
    let a = f p (here refl) in
    let v = pad_lt 6 p (λ d m. (a.0 d m).1) in
    let l : pad (code p) < no_code = rw (pad_six p a.0 a.1) (omega (arith, v)) in
    ap (λ t. first_code (cond t (code p) no_code) (map code ps)) (lt-ltb (pad (code p)) no_code l) ∙ first_is p ps f

-- a code is the root's exactly if it is 0
root_is : (c : ℕ) → is_root (decode c) ≡ eqb c 0
unfolding decode_to
root_is c = go (eqb c 0) (decode_to 6 (c / 5))
  where
    go : (b : Bool) (up : Pos) → is_root (cond b [] (up ++ (c % 5 ∷ []))) ≡ b
    go true up = refl
    go false [] = refl
    go false (i ∷ up) = refl

module _ (shapes : List Term) (tab : List ℕ) (tables : (s : ℕ) → s < length shapes → TableOf tab s (shape_at shapes s)) where
  abbrev pub root_obs : List GoalWords → List Pos
  root_obs gs = all_obs (filter (λ g. is_root g.ann) (state_meant shapes gs))

  roots_are : (gs : List GoalWords) → ((g : GoalWords) → g ∈ gs → Fine shapes g) → root_codes tab gs ≡ map code (root_obs gs)
  unfolding root_codes
  roots_are [] fine = refl
  roots_are (g ∷ gs) fine =
      ap₂ (λ b xs. cond b (owed_by tab g ++ root_codes tab gs) xs) (sym (root_is g.an)) (roots_are gs (λ h i. fine h (there i)))
      ∙ go (is_root (decode g.an)) (owed_is shapes tab tables g (fine g (here refl))) (roots_are gs (λ h i. fine h (there i)))
    where
      rest : List (Goal Pos)
      rest = filter (λ g. is_root g.ann) (state_meant shapes gs)

      go : (b : Bool) → owed_by tab g ≡ map code (goal_meant shapes g).obs → root_codes tab gs ≡ map code (root_obs gs)
          → cond b (owed_by tab g ++ root_codes tab gs) (map code (root_obs gs)) ≡ map code
          (all_obs (cond b (goal_meant shapes g ∷ filter (λ g. is_root g.ann) (state_meant shapes gs))
          (filter (λ g. is_root g.ann) (state_meant shapes gs))))
      go true e i = ap₂ (λ xs ys. xs ++ ys) e i ∙ sym (map_append code (goal_meant shapes g).obs (root_obs gs))
      go false e i = refl

  roots_fit : (gs : List GoalWords) → ((g : GoalWords) → g ∈ gs → Fine shapes g) → Fit (root_obs gs)
  roots_fit gs fine q m =
      on_gather (λ g. g.obs) (filter (λ g. is_root g.ann) (state_meant shapes gs)) m λ G i o.
      on_map (goal_meant shapes) gs (in_filter (λ g. is_root g.ann) (state_meant shapes gs) i).0 λ g j e.
      let o' : q ∈ (goal_meant shapes g).obs = rw e at o in
      on_map (λ r. decode g.an ++ r) (select g.mask (dom (shape_at shapes g.sh))) o' λ r k d.
      rw d ((fine g j).fit r k)

  -- some goal that announces at the root has an obligation (S5): then the label's code is the label's
  pub label_is : (gs : List GoalWords) → ((g : GoalWords) → g ∈ gs → Fine shapes g) → (root_obs gs ≡ [] → ⊥)
      → label_code tab gs ≡ code (label (bare shapes) (state_meant shapes gs))
  label_is gs fine some = ap (first_code no_code) (roots_are gs fine) ∙ first_from_lem (root_obs gs) (roots_fit gs fine) some
