-- Equality of states in words is equality as sets of goals.
use mathlib.Core.Path.{◌≡◌, refl, ap, ap₂, sym, ◌∙◌}
use mathlib.Core.List.{List, [], ◌∷◌, ◌++◌, map}
use mathlib.Core.Bool.{Bool, true, false, cond, ◌&&◌, ◌||◌}
use Prim.Native.Nat.{ℕ, ◌/◌, ◌%◌, ◌^◌, ◌<◌}
use native.Mathlib.Omega.{arith}
use native.Mathlib.Nat.{pow-suc}
use borrow.Author.Tests.{eq-eqb}
use native.Mathlib.Decide.{ℕ_discrete}
use lib.Dec.{eqb}
use lib.ListN.{length}
use Rattle.automaton.specs.Classes.{same_goal, same_state}
use Rattle.automaton.specs.Bare.{bare}
use Rattle.automaton.specs.Goals.{Goal}
use Rattle.kinds.proofs.Bools.{and_l, and_r, both, eqb_is, bool_ext}
use Rattle.kinds.proofs.Codes.{code_of_lem}
use Rattle.kinds.proofs.Members.{on_map, map_in, on_any, any_of, all_at, all_of_lem, same_is, same_refl, Distinct}
use Rattle.kinds.specs.Members.{◌∈◌, here, there}
use Rattle.kinds.proofs.Prefixes.{strip_append}
use Rattle.kinds.specs.Lists.{any, all, same}
use Rattle.kinds.specs.Positions.{Pos, code, strip, decode}
use Rattle.decoding.proofs.GoalDecoded.{Fine}
use Rattle.decoding.proofs.Selecting.{select_sub}
use Rattle.decoding.specs.Decoding.{select, shape_at, goal_meant, state_meant}
use Rattle.goals.specs.GoalWords.{GoalWords}
use Rattle.goals.specs.WordStages.{same_w, among_w, within_w, same_state_w}
use Rattle.term.specs.Places.{dom}
use Rattle.term.specs.Terms.{Term, span}
use Rattle.term.proofs.Subterms.{length_dom, dom_distinct}

-- ---- masks that select the same
first_bit : (x : Pos) (xs : List Pos) (m : ℕ) → (x ∈ xs → ⊥) → x ∈ select m (x ∷ xs) → m % 2 ≡ 1
unfolding select
first_bit x xs m n i = go (eqb (m % 2) 1) refl i
  where
    go : (b : Bool) → eqb (m % 2) 1 ≡ b → x ∈ cond b (x ∷ select (m / 2) xs) (select (m / 2) xs) → m % 2 ≡ 1
    go true e j = eqb_is (m % 2) 1 e
    go false e j = absurd (n (select_sub (m / 2) xs j))

bit_first : (x : Pos) (xs : List Pos) (m : ℕ) → m % 2 ≡ 1 → x ∈ select m (x ∷ xs)
unfolding select
bit_first x xs m e = rw (eq-eqb (m % 2) 1 e) (here refl)

rest_of : (x : Pos) (xs : List Pos) (m : ℕ) (q : Pos) → (q ≡ x → ⊥) → q ∈ select m (x ∷ xs) → q ∈ select (m / 2) xs
unfolding select
rest_of x xs m q n i = go (eqb (m % 2) 1) i
  where
    go : (b : Bool) → q ∈ cond b (x ∷ select (m / 2) xs) (select (m / 2) xs) → q ∈ select (m / 2) xs
    go true (here e) = absurd (n e)
    go true (there j) = j
    go false j = j

of_rest : (x : Pos) (xs : List Pos) (m : ℕ) (q : Pos) → q ∈ select (m / 2) xs → q ∈ select m (x ∷ xs)
unfolding select
of_rest x xs m q i = go (eqb (m % 2) 1)
  where
    go : (b : Bool) → q ∈ cond b (x ∷ select (m / 2) xs) (select (m / 2) xs)
    go true = there i
    go false = i

pub select_inj : (xs : List Pos) (m k : ℕ) → Distinct xs → m < 2 ^ length xs → k < 2 ^ length xs
    → ((q : Pos) → q ∈ select m xs → q ∈ select k xs) → ((q : Pos) → q ∈ select k xs → q ∈ select m xs) → m ≡ k
select_inj [] m k d lm lk f g = omega arith
select_inj (x ∷ xs) m k d lm lk f g =
    let up : m % 2 ≡ 1 → k % 2 ≡ 1 = λ e. first_bit x xs k d.0 (f x (bit_first x xs m e)) in
    let down : k % 2 ≡ 1 → m % 2 ≡ 1 = λ e. first_bit x xs m d.0 (g x (bit_first x xs k e)) in
    let p = pow-suc 2 (length xs) in
    let ih : m / 2 ≡ k / 2 =
    select_inj xs (m / 2) (k / 2) d.1 (omega (arith, p)) (omega (arith, p))
    (λ q i. rest_of x xs k q (λ e. d.0 (rw (← e) (select_sub (m / 2) xs i))) (f q (of_rest x xs m q i)))
    (λ q i. rest_of x xs m q (λ e. d.0 (rw (← e) (select_sub (k / 2) xs i))) (g q (of_rest x xs k q i))) in
    halves ih up down
  where
    halves : m / 2 ≡ k / 2 → (m % 2 ≡ 1 → k % 2 ≡ 1) → (k % 2 ≡ 1 → m % 2 ≡ 1) → m ≡ k
    halves h u v = go (ℕ_discrete (m % 2) 1) (ℕ_discrete (k % 2) 1)
      where
        go : Dec (m % 2 ≡ 1) → Dec (k % 2 ≡ 1) → m ≡ k
        go (yes a) b = let c = u a in omega arith
        go (no a) (yes b) = absurd (a (v b))
        go (no a) (no b) = omega (arith, a, b)

-- each obligation of the one is the other's
into : (a : Pos) (xs ys : List Pos) → all (λ o. any (same o) (map (λ q. a ++ q) ys)) (map (λ q. a ++ q) xs) ≡ true → (q : Pos) → q ∈ xs
    → q ∈ ys
into a xs ys h q i =
    on_any (same (a ++ q)) (map (λ q. a ++ q) ys) (all_at (λ o. any (same o) (map (λ q. a ++ q) ys)) h (map_in (λ q. a ++ q) i)) λ o j e.
    on_map (λ q. a ++ q) ys j λ r k d.
    let z : q ≡ r = sym (strip_append a q) ∙ ap (strip a) (same_is (a ++ q) o e ∙ d) ∙ strip_append a r in
    rw z k

has_self : (o : Pos) (xs : List Pos) → o ∈ xs → any (same o) xs ≡ true
has_self o xs i = any_of (same o) i (same_refl o)

same_self : (shapes : List Term) (g : Goal Pos) → same_goal (bare shapes) g g ≡ true
same_self shapes g =
    both
    (both (both (eq-eqb g.shape g.shape refl) (same_refl g.ann))
    (all_of_lem (λ o. any (same o) g.obs) g.obs (λ o i. has_self o g.obs i)))
    (all_of_lem (λ o. any (same o) g.obs) g.obs (λ o i. has_self o g.obs i))

module _ (shapes : List Term) where
  -- two goals are the same exactly if their words are
  pub same_goal_is : (g h : GoalWords) → Fine shapes g → Fine shapes h
      → same_w g h ≡ same_goal (bare shapes) (goal_meant shapes g) (goal_meant shapes h)
  same_goal_is g h fg fh = bool_ext _ _ there_and back
    where
      words : g.sh ≡ h.sh → g.an ≡ h.an → g.mask ≡ h.mask → g ≡ h
      words a b c = λ i. record { sh = a i; an = b i; mask = c i }

      there_and : same_w g h ≡ true → same_goal (bare shapes) (goal_meant shapes g) (goal_meant shapes h) ≡ true
      there_and e =
          let r = and_r (eqb g.sh h.sh) e in
          rw
          (words (eqb_is g.sh h.sh (and_l _ e)) (eqb_is g.an h.an (and_l _ r))
          (eqb_is g.mask h.mask (and_r (eqb g.an h.an) r)))
          (same_self shapes (goal_meant shapes h))

      masks : g.sh ≡ h.sh → g.an ≡ h.an
          → all (λ o. any (same o) (goal_meant shapes h).obs) (goal_meant shapes g).obs ≡ true
          → all (λ o. any (same o) (goal_meant shapes g).obs) (goal_meant shapes h).obs ≡ true → g.mask ≡ h.mask
      masks a b c d =
          let ps = dom (shape_at shapes h.sh) in
          let c' : all (λ o. any (same o) (map (λ q. decode h.an ++ q) (select h.mask ps)))
          (map (λ q. decode h.an ++ q) (select g.mask ps)) ≡ true =
          rw (a, b) at c in
          let d' : all (λ o. any (same o) (map (λ q. decode h.an ++ q) (select g.mask ps)))
          (map (λ q. decode h.an ++ q) (select h.mask ps)) ≡ true =
          rw (a, b) at d in
          let l : g.mask < 2 ^ span (shape_at shapes h.sh) = rw a at fg.bits in
          select_inj ps g.mask h.mask (dom_distinct (shape_at shapes h.sh)) (rw (length_dom (shape_at shapes h.sh)) l)
          (rw (length_dom (shape_at shapes h.sh)) fh.bits)
          (into (decode h.an) (select g.mask ps) (select h.mask ps) c')
          (into (decode h.an) (select h.mask ps) (select g.mask ps) d')

      back : same_goal (bare shapes) (goal_meant shapes g) (goal_meant shapes h) ≡ true → same_w g h ≡ true
      back e =
          let e₁ = and_l _ e in
          let e₂ = and_l _ e₁ in
          let a = eqb_is g.sh h.sh (and_l _ e₂) in
          let b : g.an ≡ h.an =
          sym (code_of_lem 7 g.an fg.small)
          ∙ ap code (same_is (decode g.an) (decode h.an) (and_r (eqb g.sh h.sh) e₂))
          ∙ code_of_lem 7 h.an fh.small in
          let m =
          masks a b (and_r (eqb g.sh h.sh && same (decode g.an) (decode h.an)) e₁)
          (and_r (eqb g.sh h.sh && same (decode g.an) (decode h.an) && all (λ o. any (same o) (goal_meant shapes h).obs)
          (goal_meant shapes g).obs) e) in
          both (eq-eqb _ _ a) (both (eq-eqb _ _ b) (eq-eqb _ _ m))

  among_is : (g : GoalWords) (hs : List GoalWords) → Fine shapes g → ((h : GoalWords) → h ∈ hs → Fine shapes h)
      → among_w g hs ≡ any (same_goal (bare shapes) (goal_meant shapes g)) (state_meant shapes hs)
  unfolding among_w
  among_is g [] fg fh = refl
  among_is g (h ∷ hs) fg fh = ap₂ (λ a b. a || b) (same_goal_is g h fg (fh h (here refl))) (among_is g hs fg (λ k i. fh k (there i)))

  within_is : (gs hs : List GoalWords) → ((g : GoalWords) → g ∈ gs → Fine shapes g) → ((h : GoalWords) → h ∈ hs → Fine shapes h)
      → within_w gs hs ≡ all (λ g. any (same_goal (bare shapes) g) (state_meant shapes hs)) (state_meant shapes gs)
  unfolding within_w
  within_is [] hs fg fh = refl
  within_is (g ∷ gs) hs fg fh = ap₂ (λ a b. a && b) (among_is g hs (fg g (here refl)) fh) (within_is gs hs (λ k i. fg k (there i)) fh)

  pub same_state_is : (gs hs : List GoalWords) → ((g : GoalWords) → g ∈ gs → Fine shapes g) → ((h : GoalWords) → h ∈ hs → Fine shapes h)
      → same_state_w gs hs ≡ same_state (bare shapes) (state_meant shapes gs) (state_meant shapes hs)
  same_state_is gs hs fg fh = ap₂ (λ a b. a && b) (within_is gs hs fg fh) (within_is hs gs fh fg)
