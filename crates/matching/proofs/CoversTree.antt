-- The nodes covered, by words, are those at the positions of the shape's blanks, one after the other.
--   over_edges overs_edges   term against term
--   covers                   where the shape matches
use Prim.Native.Nat.{ℕ, suc, ◌+◌}
use mathlib.Core.Path.{◌≡◌, refl, ap, sym, ◌∙◌, subst}
use mathlib.Core.List.{List, ◌∷◌, ◌++◌}
use mathlib.Core.Bool.{true}
use mathlib.Core.Option.{some, map}
use native.Mathlib.Omega.{arith}
use native.Mathlib.Nat.{add-zero}
use lib.Dec.{eqb}
use lib.ListN.{get_elem?}
use Rattle.kinds.specs.Positions.{Pos}
use Rattle.kinds.proofs.Along.{Along, along_nil, along_cons, along_append, along_map, along_weaken}
use Rattle.kinds.proofs.Bools.{and_l, and_r, eqb_is, false_true}
use Rattle.term.specs.Terms.{Term, blank, node, Terms, tnil, tcons, count, span, flatten, sizes, Fits, Fitss}
use Rattle.term.specs.Places.{nth, skip, edges, edgess, number, Matches}
use Rattle.term.proofs.Numbers.{sub_number, number_append}
use Rattle.term.proofs.Subterms.{fits_sub}
use Rattle.term.proofs.MatchTest.{agrees_at, agree_at, matches_is}
use Rattle.matching.specs.Falling.{on_blanks, covered}
use Rattle.matching.proofs.Picked.{over, overs, picked_is}

-- node y is the one at q under the term whose node is x
record At (u : Term) (x : ℕ) (q : Pos) (y : ℕ) : Type 0 where
  k : ℕ
  at : number u q ≡ some k
  sum : y ≡ x + k

-- it lies in one of the children, numbered from c on, which begin at x
record Kid (us : Terms) (c x : ℕ) (q : Pos) (y : ℕ) : Type 0 where
  i : ℕ
  rest : Pos
  v : Term
  is : q ≡ (c + i) ∷ rest
  child : nth us i ≡ some v
  under : At v (x + skip us i) rest y

module _ (ar : List ℕ) (bl sb : ℕ) where
  mutual
    over_edges : (ℓ u : Term) (x : ℕ) → Fits ar bl ℓ → Fits ar sb u → agrees_at ℓ (some u) ≡ true → Along (At u x) (edges ℓ) (over on_blanks ℓ u x)
    over_edges (blank w) u x p q a = along_cons (record { k = 0; at = refl; sum = sym (add-zero x) }) along_nil
    over_edges (node f ts) (blank w) x p q a = false_true a
    over_edges (node f ts) (node g us) x p q a =
        let e : f ≡ g = eqb_is f g (and_l (agree_at ts us) a) in
        let d : some (count ts) ≡ some (count us) = sym p.1 ∙ ap (get_elem? ar) e ∙ q.1 in
        let n : count ts ≡ count us = cc in
        along_weaken to (overs_edges ts us 1 (x + 1) p.2 q.2 (and_r (eqb f g) a) n)
      where
        to : (q : Pos) (y : ℕ) → Kid us 1 (x + 1) q y → At (node g us) x q y
        to q y h =
            let z : 1 + h.i ≡ suc h.i = omega arith in
            record {
              k = suc (skip us h.i) + h.under.k;
              at = rw (h.is, z, h.child, h.under.at);
              sum = omega (arith, h.under.sum);
            }

    overs_edges : (ts us : Terms) (c x : ℕ) → Fitss ar bl ts → Fitss ar sb us → agree_at ts us ≡ true → count ts ≡ count us
        → Along (Kid us c x) (edgess ts c) (overs on_blanks ts us x)
    overs_edges tnil us c x p q a n = along_nil
    overs_edges (tcons t ts) tnil c x p q a n = absurd (omega arith)
    overs_edges (tcons t ts) (tcons u us) c x p q a n =
        along_append (along_map (λ q. c ∷ q) (along_weaken first (over_edges t u x p.0 q.0 (and_l (agree_at ts us) a))))
        (along_weaken later (overs_edges ts us (suc c) (x + span u) p.1 q.1 (and_r (agrees_at t (some u)) a) (omega arith)))
      where
        first : (q : Pos) (y : ℕ) → At u x q y → Kid (tcons u us) c x (c ∷ q) y
        first q y h = record { i = 0; rest = q; v = u; is = ap (λ n. n ∷ q) (sym (add-zero c)); child = refl; under = rw add-zero h }

        later : (q : Pos) (y : ℕ) → Kid us (suc c) (x + span u) q y → Kid (tcons u us) c x q y
        later q y h =
            let z : suc c + h.i ≡ c + suc h.i = omega arith in
            let s : x + span u + skip us h.i ≡ x + (span u + skip us h.i) = omega arith in
            record {
              i = suc h.i;
              rest = h.rest;
              v = h.v;
              is = h.is ∙ ap (λ n. n ∷ h.rest) z;
              child = h.child;
              under = subst (λ n. At h.v n h.rest y) s h.under;
            }

pub covers : (ar : List ℕ) (bl sb : ℕ) (ℓ t : Term) → Fits ar bl ℓ → Fits ar sb t → (p : Pos) (x : ℕ) → number t p ≡ some x → Matches ℓ t p
    → Along (λ q y. number t (p ++ q) ≡ some y) (edges ℓ) (covered bl (sizes t) (flatten ℓ) x)
covers ar bl sb ℓ t fits good p x n m =
    let s = sub_number p t x n in
    rw (picked_is on_blanks ar bl sb ℓ t fits good p x n m s.0 s.1)
    (along_weaken (λ q y h. number_append p q t s.0 x s.1 n ∙ ap (map (λ k. x + k)) h.at ∙ ap some (sym h.sum))
    (over_edges ar bl sb ℓ s.0 x fits (fits_sub ar sb p t good s.1) (ap (agrees_at ℓ) (sym s.1) ∙ matches_is ℓ t p m)))
