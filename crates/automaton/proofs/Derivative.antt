-- What a derivative and a lifted class are made of, over bare positions.
--   Owes owes on_owes              an obligation position of a list of goals
--   on_in_place in_place_kept in_place_put  what is reduced: kept, or put in the place of the position read
--   args_in on_args on_args_of args_under  the arguments that are put there
--   expects_owes on_expects expects_of   a goal that expects a symbol at p owes a pattern with that head there
--   has_owes owes_has              the test whether p is owed
--   on_met met_in_lem              the goals that expect the symbol, reduced
--   Derived derived                a goal of the derivative is unchanged, reduced or fresh
--   kept_in cut_in new_in          and these are goals of it
--   on_initial initial_in          the goals of the initial state
--   From from                      an obligation position of it is an old one but the label, or a child of the label
--   on_lifted                      an obligation position of a lifted list
--   first_in on_label              the label is an obligation position of a root goal
use mathlib.Core.Path.{◌≡◌, refl, sym, ◌∙◌}
use mathlib.Core.Bool.{Bool, true, false, cond, not, false≢true}
use mathlib.Core.List.{List, [], ◌∷◌, ◌++◌}
use mathlib.Core.Option.{Option, none, some}
use mathlib.Core.Logic.{◌⊎◌, inl, inr, ⊎_elim}
use Prim.Native.Nat.{ℕ, zero, suc, ◌+◌, ◌<◌, ◌≤◌}
use native.Mathlib.Omega.{arith}
use native.Mathlib.Nat.{add-zero}
use lib.ListN.{length}
use Rattle.kinds.specs.Lists.{same, filter, any, gather, range, is_nil}
use Rattle.kinds.specs.Positions.{Pos, before, strip}
use Rattle.kinds.proofs.Bools.{and_l, and_r, both, of_not, eqb_is, is_eqb}
use Rattle.kinds.proofs.Options.{none_not}
use Rattle.kinds.proofs.Members.{∈_left, ∈_right, ∈_append, in_filter, filter_in, on_map, map_in, on_gather, gather_in, on_any, any_of, same_is, same_refl, in_range, range_in}
use Rattle.kinds.specs.Members.{◌∈◌, here, there}
use Rattle.term.specs.Terms.{Term, blank, node, Terms, tnil, tcons}
use Rattle.term.specs.Places.{nth}
use Rattle.automaton.specs.Goals.{Goal, State, Calculus, is_root, has, first_from, first, all_obs, label, initial, reduced, met, deriv}
use Rattle.automaton.specs.Classes.{gcp, lift_goal, lift}
use Rattle.automaton.specs.Bare.{owed, heads_of, fresh, args, args_of, in_place}
use Rattle.automaton.specs.Walking.{Setting, calculus}

-- some goal of s owes at o
abbrev pub Owes : State Pos → Pos → Type 0
Owes s o = o ∈ all_obs s

pub owes : {s : State Pos} {g : Goal Pos} {o : Pos} → g ∈ s → o ∈ g.obs → Owes s o
owes i j = gather_in (λ g. g.obs) i j

pub on_owes {κ} : {C : Type κ} (s : State Pos) {o : Pos} → Owes s o → ((g : Goal Pos) → g ∈ s → o ∈ g.obs → C) → C
on_owes s m k = on_gather (λ g. g.obs) s m k

-- ---- what is put in the place of a position
pub on_in_place {κ} : {C : Type κ} (p : Pos) (new os : List Pos) {o : Pos} → o ∈ gather (in_place p new) os → (o ∈ os → same p o ≡ false → C)
    → (p ∈ os → o ∈ new → C) → C
on_in_place {C = C} p new os {o} m kept put = on_gather (in_place p new) os m λ q i j. go q i (same p q) refl j
  where
    go : (q : Pos) → q ∈ os → (b : Bool) → same p q ≡ b → o ∈ cond b new (q ∷ []) → C
    go q i true e j = put (rw (same_is p q e) i) j
    go q i false e (here d) = kept (rw d i) (rw (d, e))
    go q i false e (there x6) = elim x6 [ ]

pub in_place_kept : (p : Pos) (new : List Pos) {os : List Pos} {o : Pos} → o ∈ os → same p o ≡ false → o ∈ gather (in_place p new) os
in_place_kept p new {os} {o} m e = let z : o ∈ in_place p new o = rw e (here refl) in gather_in (in_place p new) m z

pub in_place_put : (p : Pos) (new : List Pos) {os : List Pos} {o : Pos} → p ∈ os → o ∈ new → o ∈ gather (in_place p new) os
in_place_put p new {os} {o} m i = let z : o ∈ in_place p new p = rw (same_refl p) i in gather_in (in_place p new) m z

pub on_args {κ} : {C : Type κ} (p : Pos) (c n : ℕ) (us : Terms) {o : Pos} → o ∈ args p c n us
    → ((j h : ℕ) (vs : Terms) → j < n → o ≡ p ++ ((c + j) ∷ []) → nth us j ≡ some (node h vs) → C) → C
on_args p c (suc n) (tcons (blank w) us) m k =
    on_args p (suc c) n us m (λ j h vs l e d. let z : suc c + j ≡ c + suc j = omega arith in k (suc j) h vs (omega arith) (rw z at e) d)
on_args p c (suc n) (tcons (node g ws) us) (here e) k = let z : c + 0 ≡ c = omega arith in k 0 g ws (omega arith) (rw z e) refl
on_args p c (suc n) (tcons (node g ws) us) (there m) k =
    on_args p (suc c) n us m (λ j h vs l e d. let z : suc c + j ≡ c + suc j = omega arith in k (suc j) h vs (omega arith) (rw z at e) d)
on_args {C = C} p c zero us {o = o} m k = elim m [ ]
on_args {C = C} p c (suc n) tnil {o = o} m k = elim m [ ]

pub args_in : (p : Pos) (us : Terms) (c n j : ℕ) {h : ℕ} {vs : Terms} → nth us j ≡ some (node h vs) → j < n → (p ++ ((c + j) ∷ [])) ∈ args p c n us
args_in p tnil c n j e l = none_not e
args_in p (tcons u us) c zero j e l = absurd (omega arith)
args_in p (tcons (blank w) us) c (suc n) zero {h} {vs} e l = absurd (no_blank_lem e)
  where
    no_blank_lem : some (blank w) ≡ some (node h vs) → ⊥
    no_blank_lem e = let z : ◌≡◌ {A = ℕ} 0 1 = cc in omega arith
args_in p (tcons (node g ws) us) c (suc n) zero e l = rw add-zero (here refl)
args_in p (tcons (blank w) us) c (suc n) (suc j) e l = let z : c + suc j ≡ suc c + j = omega arith in rw z (args_in p us (suc c) n j e (omega arith))
args_in p (tcons (node g ws) us) c (suc n) (suc j) e l = let z : c + suc j ≡ suc c + j = omega arith in
    rw z (there (args_in p us (suc c) n j e (omega arith)))

pub on_args_of {κ} : {C : Type κ} (p : Pos) (n : ℕ) (t : Option Term) {o : Pos} → o ∈ args_of p n t
    → ((f : ℕ) (us : Terms) → t ≡ some (node f us) → o ∈ args p 1 n us → C) → C
on_args_of p n (some (node f us)) m k = k f us refl m
on_args_of {C = C} p n none {o = o} m k = elim m [ ]
on_args_of {C = C} p n (some (blank _)) {o = o} m k = elim m [ ]

-- child numbers of p, from 1 to n
pub args_under {κ} : {C : Type κ} (p : Pos) (n : ℕ) (t : Option Term) {o : Pos} → o ∈ args_of p n t → ((i : ℕ) → 1 ≤ i → i ≤ n → o ≡ p ++ (i ∷ []) → C)
    → C
args_under p n t m k = on_args_of p n t m λ f us e a. on_args p 1 n us a λ j h vs l d x. k (1 + j) (omega arith) (omega arith) d

on_heads_of {κ} : {C : Type κ} (f : ℕ) (o : Option Term) → heads_of f o ≡ true → ((us : Terms) → o ≡ some (node f us) → C) → C
on_heads_of f none e k = absurd (false≢true e)
on_heads_of f (some (blank w)) e k = absurd (false≢true e)
on_heads_of f (some (node g us)) e k = k us (rw (eqb_is g f e))

-- ---- the first of a list of obligations is one of them
module _ {O : Type 0} (K : Calculus O) where
  first_from_in : (p : Pos) (os : List O) → (first_from K p os ≡ p) ⊎ ((x : O) × (x ∈ os) × (K.at x ≡ first_from K p os))
  first_from_in p [] = inl refl
  first_from_in p (o ∷ os) = go (before (K.at o) p) (first_from_in (K.at o) os) (first_from_in p os)
    where
      go : (b : Bool) → (first_from K (K.at o) os ≡ K.at o) ⊎ ((x : O) × (x ∈ os) × (K.at x ≡ first_from K (K.at o) os))
          → (first_from K p os ≡ p) ⊎ ((x : O) × (x ∈ os) × (K.at x ≡ first_from K p os))
          → (first_from K (cond b (K.at o) p) os ≡ p) ⊎ ((x : O) × (x ∈ (o ∷ os)) × (K.at x ≡ first_from K (cond b (K.at o) p) os))
      go true (inl e) c = inr (o, here refl, sym e)
      go true (inr e) c = inr (e.0, there e.1, e.2)
      go false a (inl e) = inl e
      go false a (inr e) = inr (e.0, there e.1, e.2)

  pub first_in : (os : List O) {o : O} → o ∈ os → (x : O) × (x ∈ os) × (K.at x ≡ first K os)
  first_in (o ∷ os) m = go (first_from_in (K.at o) os)
    where
      go : (first_from K (K.at o) os ≡ K.at o) ⊎ ((x : O) × (x ∈ os) × (K.at x ≡ first_from K (K.at o) os)) → (x : O) × (x ∈ (o ∷ os))
          × (K.at x ≡ first_from K (K.at o) os)
      go (inl e) = (o, here refl, sym e)
      go (inr e) = (e.0, there e.1, e.2)
  first_in [] {o = o} m = elim m [ ]

module _ (S : Setting) where
  abbrev K : Calculus Pos
  K = calculus S

  -- where some root goal owes something, the label is what a root goal owes
  pub on_label {κ} : {C : Type κ} (s : State Pos) (r : Goal Pos) (o : Pos) → r ∈ s → r.ann ≡ [] → o ∈ r.obs
      → ((g : Goal Pos) → g ∈ s → g.ann ≡ [] → label K s ∈ g.obs → C) → C
  on_label s r o i e j k =
      let x = first_in K (all_obs (filter (λ g. is_root g.ann) s)) (gather_in (λ g. g.obs) (filter_in (λ g. is_root g.ann) i (rw e)) j) in
      on_gather (λ g. g.obs) (filter (λ g. is_root g.ann) s) x.1 λ g a b.
      let w = in_filter (λ g. is_root g.ann) s a in
      k g w.0 (root g.ann w.1) (rw (← x.2) b)
    where
      root : (p : Pos) → is_root p ≡ true → p ≡ []
      root [] e = refl
      root (i ∷ p) e = absurd (false≢true e)

  -- ---- what a symbol is expected at
  pub expects_owes : (f : ℕ) (p : Pos) (g : Goal Pos) → K.expects f p g ≡ true → p ∈ g.obs
  expects_owes f p g e = on_any (same p) g.obs (and_l _ e) λ o m t. rw (same_is p o t) m

  pub on_expects {κ} : {C : Type κ} (f : ℕ) (p : Pos) (g : Goal Pos) → K.expects f p g ≡ true
      → ((us : Terms) → owed S.shapes g p ≡ some (node f us) → C) → C
  on_expects f p g e k = on_heads_of f (owed S.shapes g p) (and_r (any (same p) g.obs) e) k

  pub expects_of : (f : ℕ) (p : Pos) (g : Goal Pos) (us : Terms) → p ∈ g.obs → owed S.shapes g p ≡ some (node f us) → K.expects f p g ≡ true
  expects_of f p g us m e = both {a = any (same p) g.obs} (any_of (same p) m (same_refl p)) (rw e (is_eqb f f refl))

  pub has_owes : (p : Pos) (os : List Pos) → p ∈ os → has K p os ≡ true
  has_owes p os m = any_of (λ o. same p o) m (same_refl p)

  pub owes_has : (p : Pos) (os : List Pos) → has K p os ≡ true → p ∈ os
  owes_has p os e = on_any (λ o. same p o) os e λ o m t. rw (same_is p o t) m

  -- ---- goals of the derivative
  pub data Derived (s : State Pos) (f n : ℕ) (g : Goal Pos) : Type 0 where
    kept : g ∈ s → has K (label K s) g.obs ≡ false → Derived s f n g
    cut : (h : Goal Pos) → h ∈ s → K.expects f (label K s) h ≡ true → g ≡ reduced K (label K s) n h → (o : Pos) → o ∈ g.obs → Derived s f n g
    new : (i j : ℕ) → 1 ≤ i → i ≤ n → j < length S.shapes → g ≡ fresh (label K s ++ (i ∷ [])) j → Derived s f n g

  pub on_met {κ} : {C : Type κ} (s : State Pos) (f n : ℕ) {g : Goal Pos} → g ∈ met K s f n
      → ((h : Goal Pos) → h ∈ s → K.expects f (label K s) h ≡ true → g ≡ reduced K (label K s) n h → C) → C
  on_met s f n m k = on_map (reduced K (label K s) n) (filter (K.expects f (label K s)) s) m λ h i e.
      let w = in_filter (K.expects f (label K s)) s i in
      k h w.0 w.1 e

  pub met_in_lem : (s : State Pos) (f n : ℕ) (h : Goal Pos) → h ∈ s → K.expects f (label K s) h ≡ true → reduced K (label K s) n h ∈ met K s f n
  met_in_lem s f n h m e = map_in (reduced K (label K s) n) (filter_in (K.expects f (label K s)) m e)

  pub derived : (s : State Pos) (f n : ℕ) (g : Goal Pos) → g ∈ deriv K s f n → Derived s f n g
  derived s f n g m = ⊎_elim old (λ i. ⊎_elim less fresh_one (∈_append (filter (λ x. not (is_nil x.obs)) (met K s f n)) i))
      (∈_append (filter (λ x. not (has K (label K s) x.obs)) s) m)
    where
      old : g ∈ filter (λ x. not (has K (label K s) x.obs)) s → Derived s f n g
      old i = let w = in_filter (λ x. not (has K (label K s) x.obs)) s i in kept w.0 (of_not _ w.1)

      some_left : (os : List Pos) → not (is_nil os) ≡ true → (o : Pos) × (o ∈ os)
      some_left [] e = absurd (false≢true e)
      some_left (o ∷ os) e = (o, here refl)

      less : g ∈ filter (λ x. not (is_nil x.obs)) (met K s f n) → Derived s f n g
      less i =
          let w = in_filter (λ x. not (is_nil x.obs)) (met K s f n) i in
          let o = some_left g.obs w.1 in
          on_met s f n w.0 λ h j e d. cut h j e d o.0 o.1

      fresh_one : g ∈ gather (λ i. K.fresh (label K s ++ (i ∷ []))) (range 1 n) → Derived s f n g
      fresh_one i =
          on_gather (λ c. K.fresh (label K s ++ (c ∷ []))) (range 1 n) i λ c a b.
          on_map (fresh (label K s ++ (c ∷ []))) (range 0 (length S.shapes)) b λ j d e.
          let u = in_range n 1 c a in
          let v = in_range (length S.shapes) 0 j d in
          new c j u.0 (omega arith) (omega arith) e

  pub kept_in : (s : State Pos) (f n : ℕ) (g : Goal Pos) → g ∈ s → has K (label K s) g.obs ≡ false → g ∈ deriv K s f n
  kept_in s f n g m e = ∈_left _ (filter_in (λ x. not (has K (label K s) x.obs)) m (rw e))

  pub cut_in : (s : State Pos) (f n : ℕ) (h : Goal Pos) → h ∈ s → K.expects f (label K s) h ≡ true → is_nil (reduced K (label K s) n h).obs ≡ false
      → reduced K (label K s) n h ∈ deriv K s f n
  cut_in s f n h m e d = ∈_right (filter (λ x. not (has K (label K s) x.obs)) s)
      (∈_left _ (filter_in (λ x. not (is_nil x.obs)) (met_in_lem s f n h m e) (rw d)))

  pub new_in : (s : State Pos) (f n i j : ℕ) → 1 ≤ i → i ≤ n → j < length S.shapes → fresh (label K s ++ (i ∷ [])) j ∈ deriv K s f n
  new_in s f n i j l u h =
      ∈_right (filter (λ x. not (has K (label K s) x.obs)) s)
      (∈_right (filter (λ x. not (is_nil x.obs)) (met K s f n))
      (gather_in (λ c. K.fresh (label K s ++ (c ∷ []))) (range_in n 1 i l (omega arith))
      (map_in (fresh (label K s ++ (i ∷ []))) (range_in (length S.shapes) 0 j (omega arith) (omega arith)))))

  pub on_initial {κ} : {C : Type κ} {g : Goal Pos} → g ∈ initial K → ((j : ℕ) → j < length S.shapes → g ≡ fresh [] j → C) → C
  on_initial m k = on_map (fresh []) (range 0 (length S.shapes)) m λ j d e. let v = in_range (length S.shapes) 0 j d in k j (omega arith) e

  pub initial_in : (j : ℕ) → j < length S.shapes → fresh [] j ∈ initial K
  initial_in j h = map_in (fresh []) (range_in (length S.shapes) 0 j (omega arith) (omega arith))

  -- ---- its obligation positions
  pub data From (s : State Pos) (n : ℕ) (o : Pos) : Type 0 where
    old : Owes s o → (o ≡ label K s → ⊥) → From s n o
    under : (i : ℕ) → 1 ≤ i → i ≤ n → o ≡ label K s ++ (i ∷ []) → From s n o

  not_it : {p o : Pos} → same p o ≡ false → o ≡ p → ⊥
  not_it {p} {o} e d = false≢true (sym e ∙ rw d (same_refl p))

  pub from : (s : State Pos) (f n : ℕ) (g : Goal Pos) (o : Pos) → g ∈ deriv K s f n → o ∈ g.obs → From s n o
  from s f n g o m i = go (derived s f n g m)
    where
      only : {p : Pos} → o ∈ (p ∷ []) → o ≡ p
      only (here d) = d
      only {p = p} (there x4) = elim x4 [ ]

      go : Derived s f n g → From s n o
      go (kept a e) = old (owes a i) (λ d. false≢true (sym e ∙ has_owes (label K s) g.obs (rw (← d) i)))
      go (cut h a e d x j) = on_in_place (label K s) (args_of (label K s) n (owed S.shapes h (label K s))) h.obs (rw d at i)
          (λ b ne. old (owes a b) (not_it ne))
          (λ b c. args_under (label K s) n (owed S.shapes h (label K s)) c under)
      go (new c j l u h d) = under c l u (only (rw d at i))

  -- ---- lifting
  pub on_lifted {κ} : {C : Type κ} (k : State Pos) (o : Pos) → Owes (lift K k) o
      → ((x : Pos) (g : Goal Pos) → g ∈ k → x ∈ g.obs → o ≡ strip (gcp k) x → C) → C
  on_lifted k o m c =
      on_gather (λ g. g.obs) (lift K k) m λ g i j.
      on_map (lift_goal K (gcp k)) k i λ h a e.
      on_map (strip (gcp k)) h.obs (rw e at j) λ x b d.
      c x h a b (rw d)
