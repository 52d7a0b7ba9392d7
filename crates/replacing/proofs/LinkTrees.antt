-- Words that pass the count of open children are exactly one tree.
--   Trees trees_of   words that pass are trees
--   tree_passes trees_pass   and the way back
--   link_is is_link link_or_not   a replacement, where the shape has n blanks
use Prim.Native.Nat.{ℕ, zero, suc, ◌+◌, ◌<◌, ◌≤◌}
use mathlib.Core.Path.{◌≡◌, refl, ap, ap₂, sym, ◌∙◌, subst}
use mathlib.Core.List.{List, [], ◌∷◌, ◌++◌, append_assoc, append-nil}
use mathlib.Core.Bool.{true, false}
use mathlib.Core.Option.{some}
use mathlib.Core.Logic.{◌⊎◌, inl, inr, ⊎_elim}
use native.Mathlib.Omega.{arith}
use native.Mathlib.Nat.{add-zero}
use lib.Dec.{ltb, leb}
use lib.ListN.{length, get_or, get_or-eq_default}
use Rattle.kinds.specs.Limits.{first_name}
use Rattle.kinds.proofs.Bools.{and_l, and_r, both, or_l, or_r, or_case, eqb_is, ltb_is, is_ltb, leb_is, is_leb, false_true, test}
use Rattle.kinds.proofs.Places.{at_below, get_d_at, get_elem_some}
use Rattle.term.specs.Terms.{Term, blank, node, Terms, tnil, tcons, count, flatten, flattens, Fits, Fitss}
use Rattle.term.specs.Places.{edges}
use Rattle.term.specs.Replacing.{Names, Namess}
use Rattle.replacing.specs.Links.{IsLink}
use Rattle.replacing.specs.Putting.{is_known, trees_in}

module _ (ar : List ℕ) (n : ℕ) (few : length ar ≤ first_name) where
  known_is : (w : ℕ) → is_known ar n w ≡ true → (w < length ar) ⊎ ((first_name ≤ w) × (w < first_name + n))
  unfolding is_known
  known_is w e = ⊎_elim (λ a. inl (ltb_is w (length ar) a))
      (λ b. inr (leb_is first_name w (and_l _ b), ltb_is w (first_name + n) (and_r (leb first_name w) b))) (or_case (ltb w (length ar)) e)

  symbol_known : (w : ℕ) → w < length ar → is_known ar n w ≡ true
  unfolding is_known
  symbol_known w h = or_l _ (is_ltb w (length ar) h)

  name_known : (w : ℕ) → first_name ≤ w → w < first_name + n → is_known ar n w ≡ true
  unfolding is_known
  name_known w h g = or_r (ltb w (length ar)) (both {a = leb first_name w} (is_leb first_name w h) (is_ltb w (first_name + n) g))

  no_children : (w : ℕ) → first_name ≤ w → get_or ar w 0 ≡ 0
  no_children w h = get_or-eq_default ar 0 (omega arith)

  -- ---- words that pass are trees
  record Trees (k : ℕ) (ws : List ℕ) : Type 0 where
    trees : Terms
    many : count trees ≡ k
    fit : Fitss ar first_name trees
    names : Namess (first_name + n) trees
    words : ws ≡ flattens trees

  -- the first m of them, and the others
  record Split (m k : ℕ) (ws : List ℕ) : Type 0 where
    first : Terms
    rest : Terms
    many : count first ≡ m
    left : count rest ≡ k
    fit : Fitss ar first_name first
    fits : Fitss ar first_name rest
    name : Namess (first_name + n) first
    names : Namess (first_name + n) rest
    words : ws ≡ flattens first ++ flattens rest

  split : (m k : ℕ) (ts : Terms) → count ts ≡ m + k → Fitss ar first_name ts → Namess (first_name + n) ts → Split m k (flattens ts)
  split zero k ts c f s =
      record { first = tnil; rest = ts; many = refl; left = omega arith; fit = tt; fits = f; name = tt; names = s; words = refl }
  split (suc m) k tnil c f s = absurd (omega arith)
  split (suc m) k (tcons t ts) c f s =
      let r = split m k ts (omega arith) f.1 s.1 in
      record {
        first = tcons t r.first;
        rest = r.rest;
        many = ap suc r.many;
        left = r.left;
        fit = (f.0, r.fit);
        fits = r.fits;
        name = (s.0, r.name);
        names = r.names;
        words = ap (λ l. flatten t ++ l) r.words ∙ sym (append_assoc (flatten t) (flattens r.first) (flattens r.rest));
      }

  with_name : (w k : ℕ) (ws : List ℕ) → first_name ≤ w → w < first_name + n → Trees (k + get_or ar w 0) ws → Trees (suc k) (w ∷ ws)
  with_name w k ws h g t = record {
    trees = tcons (blank w) t.trees;
    many = let z = no_children w h in let c = t.many in omega arith;
    fit = (h, t.fit);
    names = (g, t.names);
    words = ap (λ l. w ∷ l) t.words;
  }

  with_symbol : (w k : ℕ) (ws : List ℕ) → w < length ar → Trees (k + get_or ar w 0) ws → Trees (suc k) (w ∷ ws)
  with_symbol w k ws h t =
      let r = split (get_or ar w 0) k t.trees (let c = t.many in omega arith) t.fit t.names in
      record {
        trees = tcons (node w r.first) r.rest;
        many = ap suc r.left;
        fit = ((omega arith, get_elem_some ar w h ∙ ap some (sym r.many), r.fit), r.fits);
        names = (r.name, r.names);
        words = ap (λ l. w ∷ l) (t.words ∙ r.words);
      }

  trees_of : (ws : List ℕ) (k : ℕ) → trees_in ar n k ws ≡ true → Trees k ws
  unfolding trees_in
  trees_of [] k e = record { trees = tnil; many = sym (eqb_is k 0 e); fit = tt; names = tt; words = refl }
  trees_of (w ∷ ws) zero e = false_true e
  trees_of (w ∷ ws) (suc k) e =
      let t = trees_of ws (k + get_or ar w 0) (and_r (is_known ar n w) e) in
      ⊎_elim (λ h. with_symbol w k ws h t) (λ h. with_name w k ws h.0 h.1 t) (known_is w (and_l _ e))

  -- ---- and trees pass
  mutual
    unfolding trees_in

    tree_passes : (t : Term) (k : ℕ) (ws : List ℕ) → Fits ar first_name t → Names (first_name + n) t
        → trees_in ar n (suc k) (flatten t ++ ws) ≡ trees_in ar n k ws
    tree_passes (blank w) k ws f s = rw (name_known w f s, no_children w f, add-zero k)
    tree_passes (node g ts) k ws f s =
        let z : k + count ts ≡ count ts + k = omega arith in
        rw (symbol_known g (at_below ar g f.1), get_d_at ar g 0 f.1, z) (trees_pass ts k ws f.2 s)

    trees_pass : (ts : Terms) (k : ℕ) (ws : List ℕ) → Fitss ar first_name ts → Namess (first_name + n) ts
        → trees_in ar n (count ts + k) (flattens ts ++ ws) ≡ trees_in ar n k ws
    trees_pass tnil k ws f s = let z : 0 + k ≡ k = omega arith in ap (λ m. trees_in ar n m ws) z
    trees_pass (tcons t ts) k ws f s =
        let z : suc (count ts) + k ≡ suc (count ts + k) = omega arith in
        ap₂ (λ m l. trees_in ar n m l) z (append_assoc (flatten t) (flattens ts) ws)
        ∙ tree_passes t (count ts + k) (flattens ts ++ ws) f.0 s.0 ∙ trees_pass ts k ws f.1 s.1

-- ---- a replacement
module _ (ar link : List ℕ) (ℓ : Term) (n : ℕ) (few : length ar ≤ first_name) (blanks : n ≡ length (edges ℓ)) where
  one_tree : (ts : Terms) → count ts ≡ 1 → Fitss ar first_name ts → Namess (first_name + n) ts → link ≡ flattens ts → (r : Term) × IsLink ar ℓ link r
  one_tree tnil c f s e = absurd (omega arith)
  one_tree (tcons t tnil) c f s e =
      (t, record { fits = f.0; names = subst (λ m. Names (first_name + m) t) blanks s.0; words = e ∙ append-nil (flatten t) })
  one_tree (tcons t (tcons u us)) c f s e = absurd (omega arith)

  pub link_is : trees_in ar n 1 link ≡ true → (r : Term) × IsLink ar ℓ link r
  link_is e = let t = trees_of ar n few link 1 e in one_tree t.trees t.many t.fit t.names t.words

  pub is_link : {r : Term} → IsLink ar ℓ link r → trees_in ar n 1 link ≡ true
  unfolding trees_in
  is_link {r} h =
      ap (trees_in ar n 1) (h.words ∙ sym (append-nil (flatten r)))
      ∙ tree_passes ar n few r 0 [] h.fits (subst (λ m. Names (first_name + m) r) (sym blanks) h.names)

pub link_or_not : (ar link : List ℕ) (ℓ : Term) → length ar ≤ first_name → ((r : Term) × IsLink ar ℓ link r) ⊎ ((r : Term) → IsLink ar ℓ link r → ⊥)
link_or_not ar link ℓ few = go (test (trees_in ar (length (edges ℓ)) 1 link))
  where
    go : (trees_in ar (length (edges ℓ)) 1 link ≡ true) ⊎ (trees_in ar (length (edges ℓ)) 1 link ≡ false)
        → ((r : Term) × IsLink ar ℓ link r) ⊎ ((r : Term) → IsLink ar ℓ link r → ⊥)
    go (inl e) = inl (link_is ar link ℓ (length (edges ℓ)) few refl e)
    go (inr e) = inr (λ r h. false_true (sym e ∙ is_link ar link ℓ (length (edges ℓ)) few refl h))
