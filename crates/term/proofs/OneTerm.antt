-- Words in preorder determine their term, and the words behind it.
--   once onces   of one term, and of several
use mathlib.Core.Path.{◌≡◌, refl, ap, ap₂, sym, ◌∙◌}
use mathlib.Core.List.{List, ◌++◌, append_assoc}
use Prim.Native.Nat.{ℕ}
use native.Mathlib.Omega.{arith}
use lib.ListN.{get_or}
use Rattle.kinds.proofs.Places.{get_d_at}
use Rattle.term.specs.Terms.{Term, blank, node, Terms, tnil, tcons, count, flatten, flattens, Fits, Fitss}

mutual
  pub once : (ar : List ℕ) (bl : ℕ) (t u : Term) (r s : List ℕ) → Fits ar bl t → Fits ar bl u → flatten t ++ r ≡ flatten u ++ s → (t ≡ u) × (r ≡ s)
  once ar bl (blank w) (blank v) r s p q e =
      let a : w ≡ v = cc in
      let b : r ≡ s = cc in
      (ap blank a, b)
  once ar bl (blank w) (node g us) r s p q e = let a : w ≡ g = cc in absurd (omega (arith, q.0))
  once ar bl (node f ts) (blank v) r s p q e = let a : f ≡ v = cc in absurd (omega (arith, p.0))
  once ar bl (node f ts) (node g us) r s p q e =
      let a : f ≡ g = cc in
      let b : flattens ts ++ r ≡ flattens us ++ s = cc in
      let n : count ts ≡ count us = sym (get_d_at ar f 0 p.1) ∙ ap (λ (x : ℕ). get_or ar x 0) a ∙ get_d_at ar g 0 q.1 in
      let k = onces ar bl ts us r s p.2 q.2 n b in
      (ap₂ node a k.0, k.1)

  pub onces : (ar : List ℕ) (bl : ℕ) (ts us : Terms) (r s : List ℕ) → Fitss ar bl ts → Fitss ar bl us → count ts ≡ count us
      → flattens ts ++ r ≡ flattens us ++ s → (ts ≡ us) × (r ≡ s)
  onces ar bl tnil tnil r s p q n e = (refl, e)
  onces ar bl tnil (tcons u us) r s p q n e = absurd (omega arith)
  onces ar bl (tcons t ts) tnil r s p q n e = absurd (omega arith)
  onces ar bl (tcons t ts) (tcons u us) r s p q n e =
      let e' : flatten t ++ (flattens ts ++ r) ≡ flatten u ++ (flattens us ++ s) =
      sym (append_assoc (flatten t) (flattens ts) r) ∙ e ∙ append_assoc (flatten u) (flattens us) s in
      let a = once ar bl t u (flattens ts ++ r) (flattens us ++ s) p.0 q.0 e' in
      let b = onces ar bl ts us r s p.1 q.1 (omega arith) a.1 in
      (ap₂ tcons a.0 b.0, b.1)
