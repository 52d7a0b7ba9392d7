-- Subterms and the positions of a term.
--   sub_append sub_prefix          t[p.q] is t[p][q]
--   nth_below nth_some child_fits child_some   which children there are
--   sub_depth                      a position is no longer than the term is deep
--   fits_at fits_sub nth_fits whole_at whole_sub   what fits, or has no blank, does so at each position
--   fits_proper                    the child numbers of its positions are 1 to 4, where no symbol has more children
--   headed on_child_lem            a node of a term that is no blank, and the child that it lies in
--   dom_in in_dom length_dom length_doms dom_ordered dom_distinct   the list of a term's positions
use mathlib.Core.Path.{◌≡◌, refl, ap, ◌∙◌}
use mathlib.Core.List.{List, [], ◌∷◌, ◌++◌, map}
use mathlib.Core.Option.{Option, none, some}
use mathlib.Core.Logic.{⊎_elim}
use Prim.Native.Nat.{ℕ, zero, suc, ◌+◌, ◌<◌, ◌≤◌}
use native.Mathlib.Omega.{arith}
use lib.ListN.{length, get_elem?, length-append, length-map}
use Rattle.kinds.specs.Lists.{bind}
use Rattle.kinds.specs.Positions.{Pos}
use Rattle.kinds.proofs.Bools.{or_l, is_ltb}
use Rattle.kinds.proofs.Options.{none_not, on_bind}
use Rattle.kinds.proofs.Members.{∈_left, ∈_right, ∈_append, map_in, on_map, Distinct}
use Rattle.kinds.specs.Members.{◌∈◌, here, there, Pairwise}
use Rattle.kinds.proofs.Codes.{Proper, proper_nil, proper_cons}
use Rattle.kinds.proofs.Pairwise.{pairwise_append, pairwise_map, pairwise_distinct}
use Rattle.kinds.proofs.Ordered.{Before, before_irrefl, before_append}
use Rattle.term.specs.Terms.{Term, blank, node, Terms, tnil, tcons, count, span, spans, depth, depths, Fits, Fitss, Whole, Wholes}
use Rattle.term.specs.Places.{nth, child, sub, hd, head_at, dom, doms}

pub sub_append : (p q : Pos) (t : Term) → sub t (p ++ q) ≡ bind (sub t p) (λ u. sub u q)
sub_append [] q t = refl
sub_append (i ∷ p) q t = go (child t i) (λ u. sub_append p q u)
  where
    go : (o : Option Term) → ((u : Term) → sub u (p ++ q) ≡ bind (sub u p) (λ v. sub v q))
        → bind o (λ u. sub u (p ++ q)) ≡ bind (bind o (λ u. sub u p)) (λ u. sub u q)
    go none ih = refl
    go (some u) ih = ih u

pub sub_prefix : (t : Term) (p q : Pos) (u : Term) → sub t (p ++ q) ≡ some u → (v : Term) × (sub t p ≡ some v)
sub_prefix t p q u e = on_bind (sub t p) _ (rw (sub_append p q t) at e) λ v ev d. (v, ev)

-- ---- children
pub nth_below : (ts : Terms) (i : ℕ) {u : Term} → nth ts i ≡ some u → i < count ts
nth_below tnil i e = none_not e
nth_below (tcons t ts) zero e = omega arith
nth_below (tcons t ts) (suc i) e = let h = nth_below ts i e in omega arith

pub nth_some : (ts : Terms) (i : ℕ) → i < count ts → (u : Term) × (nth ts i ≡ some u)
nth_some tnil i h = absurd (omega arith)
nth_some (tcons t ts) zero h = (t, refl)
nth_some (tcons t ts) (suc i) h = nth_some ts i (omega arith)

-- a position below child i of a node: i is one of its children
pub child_fits : (f i : ℕ) (ts : Terms) (r : Pos) {u : Term} → sub (node f ts) (i ∷ r) ≡ some u → (1 ≤ i) × (i ≤ count ts)
child_fits f zero ts r e = none_not e
child_fits f (suc i) ts r e = on_bind (nth ts i) _ e λ v d x. let h = nth_below ts i d in omega arith

pub child_some : (f : ℕ) (ts : Terms) (i : ℕ) → 1 ≤ i → i ≤ count ts → (u : Term) × (sub (node f ts) (i ∷ []) ≡ some u)
child_some f ts zero l h = absurd (omega arith)
child_some f ts (suc i) l h = let u = nth_some ts i (omega arith) in (u.0, rw u.1)

-- ---- depth
nth_depth : (ts : Terms) (i : ℕ) (u : Term) → nth ts i ≡ some u → suc (depth u) ≤ depths ts
nth_depth tnil i u e = none_not e
nth_depth (tcons t ts) zero u e = let z : t ≡ u = cc in rw z (omega arith)
nth_depth (tcons t ts) (suc i) u e = let h = nth_depth ts i u e in omega arith

pub sub_depth : (p : Pos) (t u : Term) → sub t p ≡ some u → length p ≤ depth t
sub_depth [] t u e = omega arith
sub_depth (i ∷ p) (blank w) u e = none_not e
sub_depth (zero ∷ p) (node f ts) u e = none_not e
sub_depth (suc i ∷ p) (node f ts) u e = on_bind (nth ts i) _ e λ v ev e₁. let h = sub_depth p v u e₁ in let g = nth_depth ts i v ev in omega arith

-- ---- what holds at each position
blank_not {κ} : {C : Type κ} {w f : ℕ} {us : Terms} → some (blank w) ≡ some (node f us) → C
blank_not e = let z : ◌≡◌ {A = ℕ} 0 1 = cc in absurd (omega arith)

mutual
  pub fits_at : (ar : List ℕ) (bl : ℕ) (t : Term) → Fits ar bl t → (p : Pos) (f : ℕ) (us : Terms) → sub t p ≡ some (node f us)
      → get_elem? ar f ≡ some (count us)
  fits_at ar bl (blank w) h [] f us e = blank_not e
  fits_at ar bl (blank w) h (i ∷ p) f us e = none_not e
  fits_at ar bl (node g ts) h [] f us e = let a : g ≡ f = cc in let b : ts ≡ us = cc in rw (← a, ← b) h.1
  fits_at ar bl (node g ts) h (zero ∷ p) f us e = none_not e
  fits_at ar bl (node g ts) h (suc i ∷ p) f us e = fitss_at ar bl ts h.2 i p f us e

  fitss_at : (ar : List ℕ) (bl : ℕ) (ts : Terms) → Fitss ar bl ts → (i : ℕ) (p : Pos) (f : ℕ) (us : Terms)
      → bind (nth ts i) (λ u. sub u p) ≡ some (node f us) → get_elem? ar f ≡ some (count us)
  fitss_at ar bl tnil h i p f us e = none_not e
  fitss_at ar bl (tcons t ts) h zero p f us e = fits_at ar bl t h.0 p f us e
  fitss_at ar bl (tcons t ts) h (suc i) p f us e = fitss_at ar bl ts h.1 i p f us e

pub nth_fits : (ar : List ℕ) (bl : ℕ) (ts : Terms) (i : ℕ) {u : Term} → Fitss ar bl ts → nth ts i ≡ some u → Fits ar bl u
nth_fits ar bl tnil i h e = none_not e
nth_fits ar bl (tcons t ts) zero {u} h e = let z : u ≡ t = cc in rw z h.0
nth_fits ar bl (tcons t ts) (suc i) h e = nth_fits ar bl ts i h.1 e

pub fits_sub : (ar : List ℕ) (bl : ℕ) (p : Pos) (t : Term) {u : Term} → Fits ar bl t → sub t p ≡ some u → Fits ar bl u
fits_sub ar bl [] t {u} h e = let z : u ≡ t = cc in rw z h
fits_sub ar bl (i ∷ p) (blank w) h e = none_not e
fits_sub ar bl (zero ∷ p) (node f ts) h e = none_not e
fits_sub ar bl (suc i ∷ p) (node f ts) h e = on_bind (nth ts i) _ e λ v ev d. fits_sub ar bl p v (nth_fits ar bl ts i h.2 ev) d

nth_whole : (ts : Terms) (i : ℕ) {u : Term} → Wholes ts → nth ts i ≡ some u → Whole u
nth_whole tnil i h e = none_not e
nth_whole (tcons t ts) zero {u} h e = let z : u ≡ t = cc in rw z h.0
nth_whole (tcons t ts) (suc i) h e = nth_whole ts i h.1 e

pub whole_sub : (p : Pos) (t : Term) {u : Term} → Whole t → sub t p ≡ some u → Whole u
whole_sub [] t {u} h e = let z : u ≡ t = cc in rw z h
whole_sub (i ∷ p) (blank w) h e = none_not e
whole_sub (zero ∷ p) (node f ts) h e = none_not e
whole_sub (suc i ∷ p) (node f ts) h e = on_bind (nth ts i) _ e λ v ev d. whole_sub p v (nth_whole ts i h ev) d

-- where symbols have at most 4 children
pub fits_proper : (ar : List ℕ) → ((f n : ℕ) → get_elem? ar f ≡ some n → n ≤ 4) → (bl : ℕ) (p : Pos) (t : Term) {u : Term} → Fits ar bl t
    → sub t p ≡ some u → Proper p
fits_proper ar few bl [] t h e = proper_nil
fits_proper ar few bl (i ∷ p) (blank w) h e = none_not e
fits_proper ar few bl (zero ∷ p) (node f ts) h e = none_not e
fits_proper ar few bl (suc i ∷ p) (node f ts) {u} h e =
    let c = child_fits f (suc i) ts p e in
    let d = few f (count ts) h.1 in
    on_bind (nth ts i) (λ v. sub v p) e λ v ev q. proper_cons c.0 (omega arith) (fits_proper ar few bl p v (nth_fits ar bl ts i h.2 ev) q)

mutual
  pub whole_at : (t : Term) → Whole t → (p : Pos) (u : Term) → sub t p ≡ some u → (f : ℕ) × (us : Terms) × (u ≡ node f us)
  whole_at (blank w) h p u e = absurd h
  whole_at (node f ts) h [] u e = let z : u ≡ node f ts = cc in (f, ts, z)
  whole_at (node f ts) h (zero ∷ p) u e = none_not e
  whole_at (node f ts) h (suc i ∷ p) u e = wholes_at ts h i p u e

  wholes_at : (ts : Terms) → Wholes ts → (i : ℕ) (p : Pos) (u : Term) → bind (nth ts i) (λ v. sub v p) ≡ some u → (f : ℕ) × (us : Terms)
      × (u ≡ node f us)
  wholes_at tnil h i p u e = none_not e
  wholes_at (tcons t ts) h zero p u e = whole_at t h.0 p u e
  wholes_at (tcons t ts) h (suc i) p u e = wholes_at ts h.1 i p u e

-- a symbol below a node: the child that it lies in is no blank
pub on_child_lem {κ} : {C : Type κ} (f : ℕ) (us : Terms) (i : ℕ) (b : Pos) {k : ℕ} → head_at (node f us) (i ∷ b) ≡ some k
    → ((j h : ℕ) (vs : Terms) → i ≡ suc j → nth us j ≡ some (node h vs) → C) → C
on_child_lem f us zero b e c = none_not e
on_child_lem {C = C} f us (suc j) b {k} e c = go (nth us j) refl b e
  where
    go : (o : Option Term) → nth us j ≡ o → (b : Pos) → bind (bind o (λ v. sub v b)) hd ≡ some k → C
    go none d b x = none_not x
    go (some (node h vs)) d b x = c j h vs refl d
    go (some (blank w)) d [] x = none_not x
    go (some (blank w)) d (i ∷ b) x = none_not x

-- ---- the list of positions
doms_in : (ts : Terms) (c i : ℕ) (u : Term) (q : Pos) → nth ts i ≡ some u → q ∈ dom u → ((c + i) ∷ q) ∈ doms ts c
doms_in tnil c i u q e m = none_not e
doms_in (tcons t ts) c zero u q e m =
    let z : t ≡ u = cc in
    let y : c + 0 ≡ c = omega arith in
    rw (y, z) (∈_left (doms ts (suc c)) (map_in (λ p. c ∷ p) m))
doms_in (tcons t ts) c (suc i) u q e m = let y : c + suc i ≡ suc c + i = omega arith in
    rw y (∈_right (map (λ p. c ∷ p) (dom t)) (doms_in ts (suc c) i u q e m))

pub dom_in : (q : Pos) (t : Term) {u : Term} → sub t q ≡ some u → q ∈ dom t
dom_in [] (blank w) e = here refl
dom_in [] (node f ts) e = here refl
dom_in (i ∷ q) (blank w) e = none_not e
dom_in (zero ∷ q) (node f ts) e = none_not e
dom_in (suc i ∷ q) (node f ts) e = on_bind (nth ts i) _ e λ u eu e₁. let y : 1 + i ≡ suc i = omega arith in
    rw (← y) (there (doms_in ts 1 i u q eu (dom_in q u e₁)))

on_doms {κ} : {C : Type κ} (ts : Terms) (c : ℕ) (q : Pos) → q ∈ doms ts c
    → ((i : ℕ) (u : Term) (r : Pos) → nth ts i ≡ some u → r ∈ dom u → q ≡ (c + i) ∷ r → C) → C
on_doms (tcons t ts) c q m k = ⊎_elim (λ a. on_map (λ p. c ∷ p) (dom t) a λ r j e. let z : c + 0 ≡ c = omega arith in k 0 t r refl j (rw z e))
    (λ a. on_doms ts (suc c) q a (λ i u r e j d. let z : suc c + i ≡ c + suc i = omega arith in k (suc i) u r e j (rw z at d)))
    (∈_append (map (λ p. c ∷ p) (dom t)) m)
on_doms {C = C} tnil c q m k = elim m [ ]

-- by the length of the position
in_dom_up : (n : ℕ) (q : Pos) → length q ≤ n → (t : Term) → q ∈ dom t → (u : Term) × (sub t q ≡ some u)
in_dom_up n [] l t m = (t, refl)
in_dom_up zero (j ∷ q) l t m = absurd (omega arith)
in_dom_up (suc n) (j ∷ q) l (blank w) (here e) = absurd (let z : length (j ∷ q) ≡ 0 = ap length e in omega arith)
in_dom_up (suc n) (j ∷ q) l (node f ts) (here e) = absurd (let z : length (j ∷ q) ≡ 0 = ap length e in omega arith)
in_dom_up (suc n) (j ∷ q) l (node f ts) (there m) = on_doms ts 1 (j ∷ q) m λ i u r e a d.
    let ji : j ≡ suc i = cc (d, one_more_lem i) in
    let qr : q ≡ r = cc in
    let h = in_dom_up n q (omega arith) u (rw qr a) in
    (h.0, rw (ji, e) h.1)
  where
    one_more_lem : (i : ℕ) → 1 + i ≡ suc i
    one_more_lem i = omega arith
in_dom_up (suc n) (j ∷ q) l (blank w) (there m) = elim m [ ]

pub in_dom : (q : Pos) (t : Term) → q ∈ dom t → (u : Term) × (sub t q ≡ some u)
in_dom q t m = in_dom_up (length q) q (omega arith) t m

mutual
  pub length_dom : (t : Term) → length (dom t) ≡ span t
  length_dom (blank w) = refl
  length_dom (node f ts) = ap suc (length_doms ts 1)

  pub length_doms : (ts : Terms) (i : ℕ) → length (doms ts i) ≡ spans ts
  length_doms tnil i = refl
  length_doms (tcons t ts) i = simp (length-append, length-map, length_dom t, length_doms ts (suc i))

doms_from {κ} : {C : Type κ} (ts : Terms) (c : ℕ) (q : Pos) → q ∈ doms ts c → ((j : ℕ) (r : Pos) → q ≡ j ∷ r → c ≤ j → C) → C
doms_from {C = C} (tcons t ts) c q m k = ⊎_elim (λ i. on_map (λ p. c ∷ p) (dom t) i λ r j e. k c r e (omega arith))
    (λ i. doms_from ts (suc c) q i (λ j r e l. k j r e (omega arith))) (∈_append (map (λ p. c ∷ p) (dom t)) m)
doms_from {C = C} tnil c q m k = elim m [ ]

mutual
  pub dom_ordered : (t : Term) → Pairwise Before (dom t)
  dom_ordered (blank w) = (λ y m. elim m [ ], tt)
  dom_ordered (node f ts) = (λ y m. doms_from ts 1 y m (λ j r e l. rw e), doms_ordered ts 1)

  doms_ordered : (ts : Terms) (c : ℕ) → Pairwise Before (doms ts c)
  doms_ordered tnil c = tt
  doms_ordered (tcons t ts) c = pairwise_append Before (map (λ p. c ∷ p) (dom t)) (doms ts (suc c))
      (pairwise_map Before Before (λ p. c ∷ p) (dom t) (λ x y i j l. before_append (c ∷ []) x y ∙ l) (dom_ordered t)) (doms_ordered ts (suc c))
      (λ x y i m. on_map (λ p. c ∷ p) (dom t) i λ r j e. doms_from ts (suc c) y m (λ k u d l. rw (e, d) (or_l _ (is_ltb c k l))))

pub dom_distinct : (t : Term) → Distinct (dom t)
dom_distinct t = pairwise_distinct Before before_irrefl (dom t) (dom_ordered t)
