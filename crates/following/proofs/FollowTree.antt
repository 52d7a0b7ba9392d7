-- Following a position from a node by spans is following it in the tree, or none in both.
--   Stands past only_first     a list stands in another from an index on; so do what is behind its front, and its front
--   stands_at words_stand sizes_stand   what lists a term's nodes in preorder lists each subterm's where its node is
--   word_at_lem span_at_lem        the word and the span at a position's node
--   follow_is follow_at        following by spans reaches the number of the position, if it has one
--   target_is                  and so does following a code
use mathlib.Core.Path.{◌≡◌, refl, ap, sym, subst, ◌∙◌}
use mathlib.Core.Bool.{true, false}
use mathlib.Core.List.{List, [], ◌∷◌, ◌++◌, append_assoc, append-nil}
use mathlib.Core.Option.{Option, none, some, map}
use Prim.Native.Nat.{ℕ, zero, suc, ◌+◌, ◌≤◌}
use native.Mathlib.Omega.{arith}
use native.Mathlib.Nat.{add-zero, zero-add}
use borrow.Author.Tests.{lt-ltb}
use lib.Dec.{ltb}
use lib.ListN.{length, get_or, get_elem?, length-append}
use lib.Seq.{get_or_at}
use Rattle.kinds.specs.Lists.{bind, need}
use Rattle.kinds.specs.Positions.{Pos, code}
use Rattle.kinds.proofs.Bools.{both, is_ltb, is_leb, and_r, and_l, ltb_is, leb_is, not_true}
use Rattle.kinds.proofs.Options.{none_not, on_bind, on_map}
use Rattle.kinds.proofs.Places.{at_right}
use Rattle.kinds.proofs.Codes.{Small, decode_code, code_good_lem}
use Rattle.term.specs.Terms.{Term, blank, node, Terms, tnil, tcons, span, spans, flatten, flattens, sizes, sizess}
use Rattle.term.specs.Places.{nth, sub, skip, number}
use Rattle.following.specs.Following.{inside, sibling, child_at, follow, node_good, target}
use Rattle.term.proofs.Sizes.{length_flatten, length_sizes, span_pos}
use Rattle.term.proofs.Numbers.{number_below, number_append}

-- ---- a list that stands in another
pub record Stands (S : List ℕ) (c : ℕ) (l : List ℕ) : Type 0 where
  pub front : List ℕ
  pub back : List ℕ
  pub whole : S ≡ front ++ (l ++ back)
  pub place : length front ≡ c

pub stands_all : (l : List ℕ) → Stands l 0 l
stands_all l = record { front = []; back = []; whole = sym (append-nil l); place = refl }

pub past : (S : List ℕ) (c : ℕ) (a b : List ℕ) → Stands S c (a ++ b) → Stands S (c + length a) b
past S c a b h = record { front = h.front ++ a; back = h.back; whole = h.whole ∙ simp append_assoc; place = rw (length-append, h.place) }

pub only_first : (S : List ℕ) (c : ℕ) (a b : List ℕ) → Stands S c (a ++ b) → Stands S c a
only_first S c a b h = record { front = h.front; back = b ++ h.back; whole = h.whole ∙ simp append_assoc; place = h.place }

stands_length : (S : List ℕ) (c : ℕ) (l : List ℕ) → Stands S c l → c + length l ≤ length S
stands_length S c l h = rw (h.whole, length-append, length-append) (let p = h.place in omega arith)

head_span : (S : List ℕ) (c : ℕ) (t : Term) (r : List ℕ) → Stands S c (sizes t ++ r) → get_or S c 0 ≡ span t
head_span S c (blank w) r h = rw h.whole (get_or_at h.front 1 _ 0 c h.place)
head_span S c (node f ts) r h = rw h.whole (get_or_at h.front (suc (spans ts)) _ 0 c h.place)

-- ---- any listing of the nodes in preorder
module _ (L : Term → List ℕ) (Ls : Terms → List ℕ) (h : ℕ → Terms → ℕ) (on-node : (f : ℕ) (ts : Terms) → L (node f ts) ≡ h f ts ∷ Ls ts)
    (on-tcons : (t : Term) (ts : Terms) → Ls (tcons t ts) ≡ L t ++ Ls ts) (len : (t : Term) → length (L t) ≡ span t) where
  kid_stands : (S : List ℕ) (ts : Terms) (j c : ℕ) (u : Term) → nth ts j ≡ some u → Stands S c (Ls ts) → Stands S (c + skip ts j) (L u)
  kid_stands S tnil j c u e s = none_not e
  kid_stands S (tcons t ts) zero c u e s = let z : t ≡ u = cc in rw (add-zero, ← z) (only_first S c (L t) (Ls ts) (rw (on-tcons t ts) at s))
  kid_stands S (tcons t ts) (suc j) c u e s =
      let p : Stands S (c + span t) (Ls ts) = rw (len t) at (past S c (L t) (Ls ts) (rw (on-tcons t ts) at s)) in
      let z : c + (span t + skip ts j) ≡ c + span t + skip ts j = omega arith in
      rw z (kid_stands S ts j (c + span t) u e p)

  pub stands_at : (S : List ℕ) (p : Pos) (t u : Term) (c k : ℕ) → sub t p ≡ some u → number t p ≡ some k → Stands S c (L t) → Stands S (c + k) (L u)
  stands_at S [] t u c k e n s = let z : t ≡ u = cc in let y : 0 ≡ k = cc in rw (← y, add-zero, ← z) s
  stands_at S (i ∷ p) (blank w) u c k e n s = none_not e
  stands_at S (zero ∷ p) (node f ts) u c k e n s = none_not e
  stands_at S (suc i ∷ p) (node f ts) u c k e n s =
      on_bind (nth ts i) _ e λ v ev e₁.
      on_bind (nth ts i) _ n λ v' ev' n₁.
      on_map (number v' p) _ n₁ λ y ey d.
      let vv : v ≡ v' = cc in
      let one : c + 1 ≡ suc c = omega arith in
      let inner : Stands S (suc c) (Ls ts) = rw one at (past S c (h f ts ∷ []) (Ls ts) (rw (on-node f ts) at s)) in
      let ih = stands_at S p v u (suc c + skip ts i) y e₁ (rw vv ey) (kid_stands S ts i (suc c) v ev inner) in
      let z : suc c + skip ts i + y ≡ c + k = omega arith in
      rw z at ih

pub words_stand : (t : Term) (p : Pos) (u : Term) (x : ℕ) → sub t p ≡ some u → number t p ≡ some x → Stands (flatten t) x (flatten u)
words_stand t p u x e n = rw zero-add at (stands_at flatten flattens (λ f ts. f) (λ f ts. refl) (λ t ts. refl) length_flatten (flatten t) p t u 0 x e
    n (stands_all (flatten t)))

pub sizes_stand : (t : Term) (p : Pos) (u : Term) (x : ℕ) → sub t p ≡ some u → number t p ≡ some x → Stands (sizes t) x (sizes u)
sizes_stand t p u x e n = rw zero-add at (stands_at sizes sizess (λ f ts. suc (spans ts)) (λ f ts. refl) (λ t ts. refl) length_sizes (sizes t) p t u 0
    x e n (stands_all (sizes t)))

pub span_at_lem : (t : Term) (p : Pos) (u : Term) (x : ℕ) → sub t p ≡ some u → number t p ≡ some x → get_or (sizes t) x 0 ≡ span u
span_at_lem t p u x e n = head_span (sizes t) x u [] (rw (append-nil (sizes u)) (sizes_stand t p u x e n))

first_at : (S : List ℕ) (x f : ℕ) (l : List ℕ) → Stands S x (f ∷ l) → get_elem? S x ≡ some f
first_at S x f l s =
    let z : x ≡ length s.front + 0 = sym (add-zero (length s.front) ∙ s.place) in
    ap (get_elem? S) z ∙ ap (λ (r : List ℕ). get_elem? r (length s.front + 0)) s.whole ∙ at_right s.front (f ∷ (l ++ s.back)) 0

pub word_at_lem : (t : Term) (p : Pos) (f : ℕ) (ts : Terms) (x : ℕ) → sub t p ≡ some (node f ts) → number t p ≡ some x → get_elem? (flatten t) x ≡ some f
word_at_lem t p f ts x e n = first_at (flatten t) x f (flattens ts) (words_stand t p (node f ts) x e n)

-- ---- over the spans
child_inside : (S : List ℕ) (end c : ℕ) (t : Term) (r : List ℕ) → Stands S c (sizes t ++ r) → c + span t ≤ end → inside S end c ≡ true
child_inside S end c t r h l =
    let n : get_or S c 0 ≡ span t = head_span S c t r h in
    let p = span_pos t in
    let b = rw length-append at (stands_length S c (sizes t ++ r) h) in
    let s = length_sizes t in
    both (is_ltb c (length S) (omega arith)) (both (is_ltb 0 (get_or S c 0) (omega arith)) (is_leb (c + get_or S c 0) end (omega arith)))

-- nothing stands behind the parent's end
not_inside : (S : List ℕ) (c : ℕ) → inside S c c ≡ false
not_inside S c = not_true (inside S c c) λ e.
    let r = and_r (ltb c (length S)) e in
    let a = ltb_is 0 (get_or S c 0) (and_l _ r) in
    let b = leb_is (c + get_or S c 0) c (and_r (ltb 0 (get_or S c 0)) r) in
    omega arith

no_sibling : (S : List ℕ) (j c : ℕ) → sibling S c j c ≡ none
unfolding sibling
no_sibling S zero c = rw (not_inside S c)
no_sibling S (suc j) c = rw (not_inside S c)

sibling_none : (S : List ℕ) (ts : Terms) (j c : ℕ) → nth ts j ≡ none → Stands S c (sizess ts) → sibling S (c + spans ts) j c ≡ none
unfolding sibling
sibling_none S tnil j c e h = rw add-zero (no_sibling S j c)
sibling_none S (tcons t ts) zero c e h = none_not (sym e)
sibling_none S (tcons t ts) (suc j) c e h =
    let n : get_or S c 0 ≡ span t = head_span S c t (sizess ts) h in
    let p : Stands S (c + span t) (sizess ts) = rw length_sizes at (past S c (sizes t) (sizess ts) h) in
    let z : c + (span t + spans ts) ≡ c + span t + spans ts = omega arith in
    rw (child_inside S (c + (span t + spans ts)) c t (sizess ts) h (omega arith), n)
    (subst (λ end. sibling S end j (c + span t) ≡ none) (sym z) (sibling_none S ts j (c + span t) e p))

sibling_some : (S : List ℕ) (ts : Terms) (j c end : ℕ) (u : Term) → nth ts j ≡ some u → Stands S c (sizess ts) → c + spans ts ≤ end
    → (sibling S end j c ≡ some (c + skip ts j)) × Stands S (c + skip ts j) (sizes u)
unfolding sibling
sibling_some S tnil j c end u e h l = none_not e
sibling_some S (tcons t ts) zero c end u e h l =
    let z : t ≡ u = cc in
    (rw (child_inside S end c t (sizess ts) h (omega arith), add-zero), rw (add-zero, ← z) (only_first S c (sizes t) (sizess ts) h))
sibling_some S (tcons t ts) (suc j) c end u e h l =
    let n : get_or S c 0 ≡ span t = head_span S c t (sizess ts) h in
    let p : Stands S (c + span t) (sizess ts) = rw length_sizes at (past S c (sizes t) (sizess ts) h) in
    let r = sibling_some S ts j (c + span t) end u e p (omega arith) in
    let z : c + (span t + skip ts j) ≡ c + span t + skip ts j = omega arith in
    let i = child_inside S end c t (sizess ts) h (omega arith) in
    rw (i, n, z) r

-- ---- following
pub follow_is : (S : List ℕ) (p : Pos) (t : Term) (c : ℕ) → Stands S c (sizes t) → follow S p c ≡ map (λ k. c + k) (number t p)
unfolding follow child_at
follow_is S [] t c h = rw add-zero
follow_is S (zero ∷ p) (blank w) c h = refl
follow_is S (suc i ∷ p) (blank w) c h =
    let n : get_or S c 0 ≡ 1 = head_span S c (blank w) [] h in
    let b = stands_length S c (1 ∷ []) h in
    let z : c + 1 ≡ suc c = omega arith in
    rw (lt-ltb c (length S) (omega arith), n, z, no_sibling S i (suc c))
follow_is S (zero ∷ p) (node f ts) c h = refl
follow_is S (suc i ∷ p) (node f ts) c h = rw (y) (go (nth ts i) refl (λ u d s. follow_is S p u d s))
  where
    plain : sizes (node f ts) ++ [] ≡ sizes (node f ts)
    plain = append-nil (sizes (node f ts))

    n : get_or S c 0 ≡ suc (spans ts)
    n = head_span S c (node f ts) [] (rw plain h)

    y : ltb c (length S) ≡ true
    y = let b = stands_length S c (sizes (node f ts)) h in is_ltb c (length S) (omega arith)

    inner : Stands S (suc c) (sizess ts)
    inner = let one : c + 1 ≡ suc c = omega arith in rw one at (past S c (suc (spans ts) ∷ []) (sizess ts) h)

    e : c + get_or S c 0 ≡ suc c + spans ts
    e = let m = n in omega arith

    shift : (x : ℕ) (o : Option ℕ) → map (λ k. suc c + x + k) o ≡ map (λ k. c + k) (map (λ k. suc x + k) o)
    shift x none = refl
    shift x (some k) = let z : suc c + x + k ≡ c + (suc x + k) = omega arith in ap some z

    go : (o : Option Term) → nth ts i ≡ o → ((u : Term) (d : ℕ) → Stands S d (sizes u) → follow S p d ≡ map (λ k. d + k) (number u p))
        → bind (sibling S (c + get_or S c 0) i (suc c)) (λ x. follow S p x) ≡ map (λ k. c + k)
        (bind o (λ u. map (λ k. suc (skip ts i) + k) (number u p)))
    go none eo ih = rw (e, sibling_none S ts i (suc c) eo inner)
    go (some u) eo ih =
        let r = sibling_some S ts i (suc c) (c + get_or S c 0) u eo inner (omega (arith, e)) in
        rw r.0 (ih u (suc c + skip ts i) r.1 ∙ shift (skip ts i) (number u p))

-- from the node of p
pub follow_at : (t : Term) (p q : Pos) (u : Term) (x : ℕ) → sub t p ≡ some u → number t p ≡ some x → follow (sizes t) q x ≡ number t (p ++ q)
follow_at t p q u x e n = follow_is (sizes t) q u x (sizes_stand t p u x e n) ∙ sym (number_append p q t u x e n)

-- by a code
pub target_is : (t : Term) (p q : Pos) (u : Term) (x : ℕ) → span t ≤ 65536 → Small q → sub t p ≡ some u → number t p ≡ some x
    → target (span t) (sizes t) x (code q) ≡ number t (p ++ q)
unfolding target
target_is t p q u x h s e n = rw (code_good_lem q s, decode_code q s, follow_at t p q u x e n) (go (number t (p ++ q)) refl)
  where
    go : (o : Option ℕ) → number t (p ++ q) ≡ o → bind o (λ y. need (node_good (span t) y) (some y)) ≡ o
    go none eo = refl
    go (some y) eo = let b = number_below (p ++ q) t y eo in rw (lt-ltb y (span t) b, lt-ltb y 65536 (omega arith))
