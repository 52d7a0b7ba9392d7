-- The nodes on which a shape's words fall, by words, term against term.
--   over overs                 those picked, where the subtree's node is x
--   picked_tree picked_trees   by words
--   picked_is                  where the shape matches
use Prim.Native.Nat.{ℕ, suc, ◌+◌}
use mathlib.Core.Path.{◌≡◌, ap, sym, ◌∙◌}
use mathlib.Core.List.{List, [], ◌++◌, append_assoc, append-nil}
use mathlib.Core.Bool.{Bool, true, false}
use mathlib.Core.Option.{some}
use native.Mathlib.Omega.{arith}
use native.Mathlib.Nat.{add-zero}
use lib.Dec.{eqb}
use lib.ListN.{get_elem?}
use Rattle.kinds.specs.Positions.{Pos}
use Rattle.kinds.proofs.Bools.{and_l, and_r, eqb_is, false_true}
use Rattle.term.specs.Terms.{Term, blank, node, Terms, tnil, tcons, count, span, spans, flatten, flattens, sizes, sizess, Fits, Fitss}
use Rattle.term.specs.Places.{sub, kids, number, Matches}
use Rattle.term.proofs.Sizes.{length_flatten, length_sizes}
use Rattle.term.proofs.Subterms.{fits_sub}
use Rattle.term.proofs.MatchTest.{agrees_at, agree_at, matches_is}
use Rattle.matching.specs.Falling.{picked}
use Rattle.matching.proofs.LawsFalling.{size_one, size_span, pick_symbol, pick_blank}
use Rattle.matching.proofs.FallsTree.{Below, below_next, below_first, below_kids, below_at, span_here}

module _ (pick : Bool → ℕ → List ℕ) where
  abbrev mutual
    pub over : Term → Term → ℕ → List ℕ
    over (blank w) u x = pick false x
    over (node f ts) u x = pick true x ++ overs ts (kids u) (x + 1)

    pub overs : Terms → Terms → ℕ → List ℕ
    overs tnil us x = []
    overs (tcons t ts) tnil x = []
    overs (tcons t ts) (tcons u us) x = over t u x ++ overs ts us (x + span u)

-- ---- by words
module _ (pick : Bool → ℕ → List ℕ) (ar : List ℕ) (bl sb : ℕ) (F S : List ℕ) where
  mutual
    unfolding picked

    picked_tree : (ℓ u : Term) (r : List ℕ) (x : ℕ) → Fits ar bl ℓ → Fits ar sb u → agrees_at ℓ (some u) ≡ true → Below F S x (flatten u) (sizes u)
        → picked pick bl S (flatten ℓ ++ r) x ≡ over pick ℓ u x ++ picked pick bl S r (x + span u)
    picked_tree (blank w) u r x p q a b = rw (pick_blank bl w x pick p, size_span bl S w x p, span_here F S x u b)
    picked_tree (node f ts) (blank w) r x p q a b = false_true a
    picked_tree (node f ts) (node g us) r x p q a b =
        let e : f ≡ g = eqb_is f g (and_l (agree_at ts us) a) in
        let d : some (count ts) ≡ some (count us) = sym p.1 ∙ ap (get_elem? ar) e ∙ q.1 in
        let n : count ts ≡ count us = cc in
        let z : x + 1 + spans us ≡ x + suc (spans us) = omega arith in
        rw (pick_symbol bl f x pick p.0, size_one bl S f x p.0, ← z)
        (ap (λ (l : List ℕ). pick true x ++ l) (picked_trees ts us r (x + 1) p.2 q.2 (and_r (eqb f g) a) n (below_kids F S x g us b))
        ∙ sym (append_assoc (pick true x) (overs pick ts us (x + 1)) (picked pick bl S r (x + 1 + spans us))))

    picked_trees : (ts us : Terms) (r : List ℕ) (x : ℕ) → Fitss ar bl ts → Fitss ar sb us → agree_at ts us ≡ true → count ts ≡ count us
        → Below F S x (flattens us) (sizess us)
        → picked pick bl S (flattens ts ++ r) x ≡ overs pick ts us x ++ picked pick bl S r (x + spans us)
    picked_trees tnil tnil r x p q a n b = rw add-zero
    picked_trees tnil (tcons u us) r x p q a n b = absurd (omega arith)
    picked_trees (tcons t ts) tnil r x p q a n b = absurd (omega arith)
    picked_trees (tcons t ts) (tcons u us) r x p q a n b =
        let z : x + span u + spans us ≡ x + (span u + spans us) = omega arith in
        let ih = picked_trees ts us r (x + span u) p.1 q.1 (and_r (agrees_at t (some u)) a) (omega arith)
        (below_next F S x (span u) (flatten u) (flattens us) (sizes u) (sizess us) (length_flatten u) (length_sizes u) b) in
        ap (λ (l : List ℕ). picked pick bl S l x) (append_assoc (flatten t) (flattens ts) r)
        ∙ picked_tree t u (flattens ts ++ r) x p.0 q.0 (and_l (agree_at ts us) a) (below_first F S x (flatten u) (flattens us) (sizes u) (sizess us) b)
        ∙ ap (λ (l : List ℕ). over pick t u x ++ l) (ih ∙ ap (λ (y : ℕ). overs pick ts us (x + span u) ++ picked pick bl S r y) z)
        ∙ sym (append_assoc (over pick t u x) (overs pick ts us (x + span u)) (picked pick bl S r (x + (span u + spans us))))

-- ---- where the shape matches
pub picked_is : (pick : Bool → ℕ → List ℕ) (ar : List ℕ) (bl sb : ℕ) (ℓ t : Term) → Fits ar bl ℓ → Fits ar sb t → (p : Pos) (x : ℕ)
    → number t p ≡ some x → Matches ℓ t p → (u : Term) → sub t p ≡ some u → picked pick bl (sizes t) (flatten ℓ) x ≡ over pick ℓ u x
unfolding picked
picked_is pick ar bl sb ℓ t fits good p x n m u e =
    ap (λ (l : List ℕ). picked pick bl (sizes t) l x) (sym (append-nil (flatten ℓ)))
    ∙ picked_tree pick ar bl sb (flatten t) (sizes t) ℓ u [] x fits (fits_sub ar sb p t good e) (ap (agrees_at ℓ) (sym e) ∙ matches_is ℓ t p m)
    (below_at t p u x e n)
    ∙ append-nil (over pick ℓ u x)
