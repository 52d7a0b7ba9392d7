-- Node numbers and positions correspond one to one.
--   number_sub sub_number                a position has a number exactly if it is one of the term's
--   number_place place_number            a number's position is the one whose number it is
--   number_below node_at_lem             numbers are those below the span, and each of these is one
--   number_append                        the number of a position below another
--   dom_place dom_number                 document order is the order of the numbers
use mathlib.Core.Path.{◌≡◌, refl, ap, sym, ◌∙◌}
use mathlib.Core.List.{List, [], ◌∷◌, ◌++◌, map}
use mathlib.Core.Option
use mathlib.Core.Option.{Option, none, some}
use Prim.Native.Nat.{ℕ, zero, suc, ◌+◌, ◌-◌, ◌<◌, ◌≤◌}
use lib.ListN.{length, get_elem?, length-map}
use native.Mathlib.Omega.{arith}
use native.Mathlib.Nat.{add-zero, zero-add}
use native.Mathlib.Decide.{dec_lt}
use borrow.Author.Tests.{lt-ltb, le-ltb}
use Rattle.kinds.specs.Positions.{Pos}
use Rattle.kinds.proofs.Options.{none_not, on_bind, on_map}
use Rattle.kinds.proofs.Places.{at_right}
use Rattle.term.specs.Terms.{Term, blank, node, Terms, tnil, tcons, span, spans}
use Rattle.term.specs.Places.{nth, child, sub, skip, ahead, dom, doms, number, place, places}
use Rattle.term.proofs.Subterms.{length_dom}

pub number_sub : (p : Pos) (t u : Term) → sub t p ≡ some u → (k : ℕ) × (number t p ≡ some k)
number_sub [] t u e = (0, refl)
number_sub (i ∷ p) t u e = on_bind (child t i) _ e λ v ev e₁. let h = number_sub p v u e₁ in (ahead t i + h.0, rw (ev, h.1))

pub sub_number : (p : Pos) (t : Term) (k : ℕ) → number t p ≡ some k → (u : Term) × (sub t p ≡ some u)
sub_number [] t k e = (t, refl)
sub_number (i ∷ p) t k e = on_bind (child t i) _ e λ v ev e₁. on_map (number v p) _ e₁ λ j ej d. let h = sub_number p v j ej in (h.0, rw ev h.1)

-- node j of child n is node skip n + j among the children
places_at : (ts : Terms) (n c j : ℕ) (u : Term) (p : Pos) → nth ts n ≡ some u → j < span u → place u j ≡ some p
    → (places ts c (skip ts n + j) ≡ some ((c + n) ∷ p)) × (skip ts n + j < spans ts)
places_at tnil n c j u p e h q = none_not e
places_at (tcons t ts) zero c j u p e h q =
    let e' : t ≡ u = cc in
    (rw (zero-add, e', lt-ltb j (span u) h, q, add-zero), rw (zero-add, e') (omega arith))
places_at (tcons t ts) (suc n) c j u p e h q =
    let ih = places_at ts n (suc c) j u p e h q in
    let far : span t + skip ts n + j - span t ≡ skip ts n + j = omega arith in
    let num : suc c + n ≡ c + suc n = omega arith in
    (rw (le-ltb (span t + skip ts n + j) (span t) (omega arith), far, ← num) ih.0, omega arith)

both : (p : Pos) (t : Term) (k : ℕ) → number t p ≡ some k → (place t k ≡ some p) × (k < span t)
both [] (blank w) k e = let z : 0 ≡ k = cc in rw (← z) (refl, omega arith)
both [] (node f ts) k e = let z : 0 ≡ k = cc in rw (← z) (refl, omega arith)
both (i ∷ p) (blank w) k e = none_not e
both (zero ∷ p) (node f ts) k e = none_not e
both (suc i ∷ p) (node f ts) k e =
    on_bind (nth ts i) _ e λ u eu e₁.
    on_map (number u p) _ e₁ λ j ej e₂.
    let ih = both p u j ej in
    let at = places_at ts i 1 j u p eu ih.1 ih.0 in
    let k' : k ≡ suc (skip ts i + j) = omega arith in
    let i' : 1 + i ≡ suc i = omega arith in
    rw (k', ← i') (at.0, omega arith)

pub number_place : (p : Pos) (t : Term) (k : ℕ) → number t p ≡ some k → place t k ≡ some p
number_place p t k e = (both p t k e).0

pub number_below : (p : Pos) (t : Term) (k : ℕ) → number t p ≡ some k → k < span t
number_below p t k e = (both p t k e).1

-- node k among the children: child i, at p below it
record Kid (ts : Terms) (k : ℕ) : Type 0 where
  i : ℕ
  u : Term
  p : Pos
  j : ℕ
  is : nth ts i ≡ some u
  at : number u p ≡ some j
  sum : skip ts i + j ≡ k

mutual
  pub node_at_lem : (t : Term) (k : ℕ) → k < span t → (p : Pos) × (number t p ≡ some k)
  node_at_lem (blank w) zero h = ([], refl)
  node_at_lem (blank w) (suc k) h = absurd (omega arith)
  node_at_lem (node f ts) zero h = ([], refl)
  node_at_lem (node f ts) (suc k) h =
      let w = kid_at ts k (omega arith) in
      let z : suc (skip ts w.i) + w.j ≡ suc k = let y = w.sum in omega arith in
      (suc w.i ∷ w.p, rw (w.is, w.at, z))

  kid_at : (ts : Terms) (k : ℕ) → k < spans ts → Kid ts k
  kid_at tnil k h = absurd (omega arith)
  kid_at (tcons t ts) k h = go (dec_lt k (span t)) (λ l. node_at_lem t k l) (λ l. kid_at ts (k - span t) l)
    where
      go : Dec (k < span t) → (k < span t → (p : Pos) × (number t p ≡ some k)) → (k - span t < spans ts → Kid ts (k - span t)) → Kid (tcons t ts) k
      go (yes l) a b = let w = a l in record { i = 0; u = t; p = w.0; j = k; is = refl; at = w.1; sum = zero-add k }
      go (no l) a b = let w = b (omega arith) in
          record { i = suc w.i; u = w.u; p = w.p; j = w.j; is = w.is; at = w.at; sum = let y = w.sum in omega arith }

mutual
  place_below : (t : Term) (k : ℕ) (p : Pos) → place t k ≡ some p → k < span t
  place_below (blank w) zero p e = omega arith
  place_below (blank w) (suc k) p e = none_not e
  place_below (node f ts) zero p e = omega arith
  place_below (node f ts) (suc k) p e = let h = places_below ts 1 k p e in omega arith

  places_below : (ts : Terms) (i k : ℕ) (p : Pos) → places ts i k ≡ some p → k < spans ts
  places_below tnil i k p e = none_not e
  places_below (tcons t ts) i k p e = go (dec_lt k (span t)) (λ h. places_below ts (suc i) (k - span t) p (rw (le-ltb k (span t) h) at e))
    where
      go : Dec (k < span t) → (span t ≤ k → k - span t < spans ts) → k < span t + spans ts
      go (yes h) ih = omega arith
      go (no h) ih = let r = ih (omega arith) in omega arith

pub place_number : (t : Term) (k : ℕ) (p : Pos) → place t k ≡ some p → number t p ≡ some k
place_number t k p e =
    let w = node_at_lem t k (place_below t k p e) in
    let q = number_place w.0 t k w.1 in
    let z : w.0 ≡ p = cc in
    rw (← z) w.1

pub number_append : (p q : Pos) (t u : Term) (x : ℕ) → sub t p ≡ some u → number t p ≡ some x
    → number t (p ++ q) ≡ Option.map (λ k. x + k) (number u q)
number_append [] q t u x e n = let z : t ≡ u = cc in let y : 0 ≡ x = cc in rw (z, ← y) (go (number u q))
  where
    go : (o : Option ℕ) → o ≡ Option.map (λ k. 0 + k) o
    go none = refl
    go (some k) = rw zero-add
number_append (i ∷ p) q t u x e n =
    on_bind (child t i) _ e λ v ev e₁.
    on_bind (child t i) _ n λ v' ev' n₁.
    on_map (number v' p) _ n₁ λ y ey d.
    let vv : v ≡ v' = cc in
    let ih : number v (p ++ q) ≡ Option.map (λ k. y + k) (number u q) = number_append p q v u y e₁ (rw vv ey) in
    rw (ev, ih) (go y d (number u q))
  where
    go : (y : ℕ) → ahead t i + y ≡ x → (o : Option ℕ) → Option.map (λ k. ahead t i + k) (Option.map (λ k. y + k) o) ≡ Option.map (λ k. x + k) o
    go y d none = refl
    go y d (some k) = let z : ahead t i + (y + k) ≡ x + k = omega arith in ap some z

-- ---- document order
at_front : {A : Type 0} (a b : List A) (k : ℕ) → k < length a → get_elem? (a ++ b) k ≡ get_elem? a k
at_front [] b k h = absurd (omega arith)
at_front (x ∷ a) b zero h = refl
at_front (x ∷ a) b (suc k) h = at_front a b k (omega arith)

at_mapped : {A B : Type 0} (f : A → B) (s : List A) (k : ℕ) → get_elem? (map f s) k ≡ Option.map f (get_elem? s k)
at_mapped f [] k = refl
at_mapped f (x ∷ s) zero = refl
at_mapped f (x ∷ s) (suc k) = at_mapped f s k

mutual
  pub dom_place : (t : Term) (k : ℕ) → get_elem? (dom t) k ≡ place t k
  dom_place (blank w) zero = refl
  dom_place (blank w) (suc k) = refl
  dom_place (node f ts) zero = refl
  dom_place (node f ts) (suc k) = doms_places ts 1 k

  doms_places : (ts : Terms) (i k : ℕ) → get_elem? (doms ts i) k ≡ places ts i k
  doms_places tnil i k = refl
  doms_places (tcons t ts) i k = go (dec_lt k (span t)) (dom_place t k) (doms_places ts (suc i) (k - span t))
    where
      long : length (map (λ p. i ∷ p) (dom t)) ≡ span t
      long = simp length-map (length_dom t)

      go : Dec (k < span t) → get_elem? (dom t) k ≡ place t k → get_elem? (doms ts (suc i)) (k - span t) ≡ places ts (suc i) (k - span t)
          → get_elem? (map (λ p. i ∷ p) (dom t) ++ doms ts (suc i)) k ≡ places (tcons t ts) i k
      go (yes h) a b =
          rw (lt-ltb k (span t) h)
          (at_front (map (λ p. i ∷ p) (dom t)) (doms ts (suc i)) k (omega (arith, long)) ∙ at_mapped (λ p. i ∷ p) (dom t) k
          ∙ ap (Option.map (λ p. i ∷ p)) a)
      go (no h) a b =
          let z : k ≡ length (map (λ p. i ∷ p) (dom t)) + (k - span t) = omega (arith, long) in
          rw (le-ltb k (span t) (omega arith))
          (ap (get_elem? (map (λ p. i ∷ p) (dom t) ++ doms ts (suc i))) z ∙ at_right (map (λ p. i ∷ p) (dom t)) (doms ts (suc i)) (k - span t) ∙ b)

pub dom_number : (t : Term) (k : ℕ) (p : Pos) → get_elem? (dom t) k ≡ some p → number t p ≡ some k
dom_number t k p e = place_number t k p (sym (dom_place t k) ∙ e)
