-- The path that the search finds is the one that leads to the node, for any spans.
--   follow_within          what is reached from a node lies in its span
--   path_leads leads_path  a path is found exactly if it leads to the node
use Prim.Native.Nat.{ℕ, zero, suc, ◌+◌, ◌<◌, ◌≤◌}
use mathlib.Core.Path.{◌≡◌, refl, ap}
use mathlib.Core.Bool.{Bool, true, false, cond}
use mathlib.Core.List.{List, [], ◌∷◌}
use mathlib.Core.Option.{some, map}
use native.Mathlib.Omega.{arith}
use native.Mathlib.Nat.{add-zero}
use native.Mathlib.Numerals.{add-one}
use borrow.Author.Tests.{lt-ltb, le-ltb, eq-eqb, ne_eqb}
use lib.Dec.{eqb, ltb}
use lib.ListN.{length, get_or}
use Rattle.kinds.specs.Lists.{bind}
use Rattle.kinds.specs.Members.{here, there, Below}
use Rattle.kinds.specs.Positions.{Pos}
use Rattle.kinds.proofs.Bools.{and_l, and_r, eqb_is, ltb_is, leb_is}
use Rattle.kinds.proofs.Members.{in_none}
use Rattle.kinds.proofs.Options.{none_not, on_bind, on_map, on_need}
use Rattle.following.specs.Following.{inside, sibling, child_at, follow}
use Rattle.report.specs.Paths.{child_on, child_of, path_to, path_of, Leads}

below_none : Below 5 []
below_none j m = in_none m

below_cons : (i : ℕ) (p : Pos) → i < 5 → Below 5 p → Below 5 (i ∷ p)
below_cons i p h b j (here e) = rw e h
below_cons i p h b j (there m) = b j m

module _ (sp : List ℕ) where
  -- ---- a child that following goes to
  pub record Inside (end c : ℕ) : Type 0 where
    pub node : c < length sp
    pub some_span : 0 < get_or sp c 0
    pub ends : c + get_or sp c 0 ≤ end

  is_inside : (end c : ℕ) → inside sp end c ≡ true → Inside end c
  is_inside end c e =
      let r = and_r (ltb c (length sp)) e in
      record {
        node = ltb_is c (length sp) (and_l _ e);
        some_span = ltb_is 0 (get_or sp c 0) (and_l _ r);
        ends = leb_is (c + get_or sp c 0) end (and_r (ltb 0 (get_or sp c 0)) r);
      }

  sibling_in : (end i at c : ℕ) → sibling sp end i at ≡ some c → Inside end c × (at ≤ c)
  unfolding sibling
  sibling_in end zero at c e = on_need (inside sp end at) (some at) e λ t f. let z : at ≡ c = cc in (rw z at (is_inside end at t), omega arith)
  sibling_in end (suc i) at c e = on_need (inside sp end at) (sibling sp end i (at + get_or sp at 0)) e λ t f.
      let r = sibling_in end i (at + get_or sp at 0) c f in (r.0, omega (arith, r.1))

  child_in : (i a c : ℕ) → child_at sp i a ≡ some c → Inside (a + get_or sp a 0) c × (a < c)
  unfolding child_at
  child_in zero a c e = none_not e
  child_in (suc i) a c e = on_need (ltb a (length sp)) (sibling sp (a + get_or sp a 0) i (suc a)) e λ t f. sibling_in (a + get_or sp a 0) i (suc a) c f

  pub follow_within : (p : Pos) (a x : ℕ) → 0 < get_or sp a 0 → follow sp p a ≡ some x → (a ≤ x) × (x < a + get_or sp a 0)
  unfolding follow
  follow_within [] a x h e = let z : a ≡ x = cc in (omega arith, omega arith)
  follow_within (i ∷ p) a x h e = on_bind (child_at sp i a) _ e λ c ec f.
      let k = child_in i a c ec in
      let r = follow_within p c x k.0.some_span f in
      (omega (arith, r.0, k.1), omega (arith, r.1, k.0.ends))

  -- ---- the search finds it
  found_on : (end x j k at i c : ℕ) → j < k → sibling sp end j at ≡ some c → c ≤ x → x < c + get_or sp c 0 → child_on sp end x k at i ≡ some (i + j, c)
  unfolding sibling child_on
  found_on end x zero zero at i c l e h g = absurd (omega arith)
  found_on end x (suc j) zero at i c l e h g = absurd (omega arith)
  found_on end x zero (suc k) at i c l e h g = on_need (inside sp end at) (some at) e λ t f.
      let z : at ≡ c = cc in rw (t, z, lt-ltb x (c + get_or sp c 0) g, add-zero)
  found_on end x (suc j) (suc k) at i c l e h g = on_need (inside sp end at) (sibling sp end j (at + get_or sp at 0)) e λ t f.
      let b = sibling_in end j (at + get_or sp at 0) c f in
      let n : i + 1 + j ≡ i + suc j = omega arith in
      rw (t, le-ltb x (at + get_or sp at 0) (omega (arith, b.1)), ← n) (found_on end x j k (at + get_or sp at 0) (i + 1) c (omega arith) f h g)

  found_of : (x i a c : ℕ) → i < 5 → child_at sp i a ≡ some c → c ≤ x → x < c + get_or sp c 0 → child_of sp x a ≡ some (i, c)
  unfolding child_at
  found_of x zero a c l e h g = none_not e
  found_of x (suc i) a c l e h g = on_need (ltb a (length sp)) (sibling sp (a + get_or sp a 0) i (suc a)) e λ t f.
      let z : 1 + i ≡ suc i = omega arith in
      rw (add-one a, ← z) (found_on (a + get_or sp a 0) x i 4 (suc a) 1 c (omega arith) f h g)

  leads_to : (p : Pos) (d a x : ℕ) → length p ≤ d → Below 5 p → follow sp p a ≡ some x → path_to d sp x a ≡ some p
  unfolding path_to follow
  leads_to [] zero a x l b e = let z : a ≡ x = cc in rw (eq-eqb a x z)
  leads_to [] (suc d) a x l b e = let z : a ≡ x = cc in rw (eq-eqb a x z)
  leads_to (i ∷ p) zero a x l b e = absurd (omega arith)
  leads_to (i ∷ p) (suc d) a x l b e = on_bind (child_at sp i a) _ e λ c ec f.
      let k = child_in i a c ec in
      let r = follow_within p c x k.0.some_span f in
      let q : child_of sp x a ≡ some (i, c) = found_of x i a c (b i (here refl)) ec r.0 r.1 in
      let ih = leads_to p d c x (omega arith) (λ j m. b j (there m)) f in
      let n : eqb a x ≡ false = ne_eqb a x (λ z. omega (arith, r.0, k.1)) in
      rw (n, q, ih)

  pub leads_path : (x : ℕ) (p : Pos) → Leads sp x p → path_of sp x ≡ some p
  unfolding path_of
  leads_path x p h = rw (lt-ltb x (length sp) h.node) (leads_to p 64 0 x h.few h.children h.there)

  -- ---- what the search finds leads there
  -- child n is child j of k from `at` on, which is number i
  abbrev Among : ℕ → ℕ → ℕ → ℕ → ℕ → ℕ → Type 0
  Among end k at i n c = (j : ℕ) × (n ≡ i + j) × (j < k) × (sibling sp end j at ≡ some c)

  on_found : (end x k at i n c : ℕ) → child_on sp end x k at i ≡ some (n, c) → Among end k at i n c
  unfolding sibling child_on
  on_found end x zero at i n c e = none_not e
  on_found end x (suc k) at i n c e = on_need (inside sp end at) _ e λ t f.
      go (ltb x (at + get_or sp at 0)) t f (on_found end x k (at + get_or sp at 0) (i + 1) n c)
    where
      go : (b : Bool) → inside sp end at ≡ true → cond b (some (i, at)) (child_on sp end x k (at + get_or sp at 0) (i + 1)) ≡ some (n, c)
          → (child_on sp end x k (at + get_or sp at 0) (i + 1) ≡ some (n, c) → Among end k (at + get_or sp at 0) (i + 1) n c) → Among end (suc k) at i n c
      go true t f ih =
          let q : ◌≡◌ {A = ℕ × ℕ} (i, at) (n, c) = cc in
          let z : at ≡ c = ap (λ (p : ℕ × ℕ). p.1) q in
          let y : i ≡ n = ap (λ (p : ℕ × ℕ). p.0) q in
          (0, omega arith, omega arith, rw (t, z))
      go false t f ih = let r = ih f in (suc r.0, omega (arith, r.1), omega (arith, r.2), rw t r.3)

  on_child_lem : (x a n c : ℕ) → a < length sp → child_of sp x a ≡ some (n, c) → (n < 5) × (child_at sp n a ≡ some c)
  unfolding child_at
  on_child_lem x a n c l e =
      let r = on_found (a + get_or sp a 0) x 4 (a + 1) 1 n c e in
      let z : n ≡ suc r.0 = omega (arith, r.1) in
      (omega (arith, r.2), rw (z, lt-ltb a (length sp) l, ← add-one a) r.3)

  to_leads : (d a x : ℕ) (p : Pos) → a < length sp → path_to d sp x a ≡ some p → (length p ≤ d) × Below 5 p × (follow sp p a ≡ some x)
  unfolding path_to follow
  to_leads zero a x p l e = on_need (eqb a x) (some []) e λ t f.
      let z : [] ≡ p = cc in let y = eqb_is a x t in rw (← z) (omega arith, below_none, rw y)
  to_leads (suc d) a x p l e = go (eqb a x) refl e (to_leads d)
    where
      go : (b : Bool) → eqb a x ≡ b → cond b (some []) (bind (child_of sp x a) (λ c. map (λ p. c.0 ∷ p) (path_to d sp x c.1))) ≡ some p
          → ((a x : ℕ) (p : Pos) → a < length sp → path_to d sp x a ≡ some p → (length p ≤ d) × Below 5 p × (follow sp p a ≡ some x))
          → (length p ≤ suc d) × Below 5 p × (follow sp p a ≡ some x)
      go true t f ih = let z : [] ≡ p = cc in let y = eqb_is a x t in rw (← z) (omega arith, below_none, rw y)
      go false t f ih = on_bind (child_of sp x a) _ f λ c ec f₁. on_map (path_to d sp x c.1) _ f₁ λ q eq z.
          let k = on_child_lem x a c.0 c.1 l ec in
          let r = ih c.1 x q (child_in c.0 a c.1 k.1).0.node eq in
          rw (← z) (omega (arith, r.0), below_cons c.0 q k.0 r.1, rw k.1 r.2)

  pub path_leads : (x : ℕ) (p : Pos) → path_of sp x ≡ some p → Leads sp x p
  unfolding path_of
  path_leads x p e = on_need (ltb x (length sp)) (path_to 64 sp x 0) e λ t f.
      let n = ltb_is x (length sp) t in
      let r = to_leads 64 0 x p (omega arith) f in
      record { node = n; few = r.0; children = r.1; there = r.2 }
