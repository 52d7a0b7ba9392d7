-- Laws of t[u]_p and t^σ.
--   put_sub put_same put_head       what stands at and under p; nothing changes where the old subterm is put; every other position keeps its head
--   Parts parts put_words put_before put_behind   the words before and behind
--   put_fits put_whole              what fits, and has no blank
--   fill_sub names_sub fill_fits fill_whole fill_words   under the names, and the words
--   named_fits named_names named_back   a shape's blanks, named in order; and filled with what they cover
use mathlib.Core.Path.{◌≡◌, refl, ap, ap₂, sym, ◌∙◌}
use mathlib.Core.List.{List, [], ◌∷◌, ◌++◌, append_assoc, append-nil, map}
use mathlib.Core.Bool.{true}
use mathlib.Core.Option
use mathlib.Core.Option.{Option, none, some}
use Prim.Native.Nat.{ℕ, zero, suc, ◌+◌, ◌<◌, ◌≤◌}
use native.Mathlib.Omega.{arith}
use native.Mathlib.Nat.{add-zero, zero-add}
use native.Mathlib.Decide.{ℕ_discrete}
use lib.Dec.{eqb}
use lib.ListN.{length, get_elem?, take, drop, length-append, length-map}
use lib.Seq.{take_at, drop_at}
use Rattle.kinds.specs.Lists.{bind, gather}
use Rattle.kinds.specs.Positions.{Pos}
use Rattle.kinds.proofs.Bools.{and_l, and_r, eqb_is, false_true}
use Rattle.kinds.proofs.ListLaws.{gather_append}
use Rattle.kinds.proofs.Options.{none_not, on_bind, on_map}
use Rattle.kinds.proofs.Places.{at_below, at_left, at_right, at_map}
use Rattle.term.specs.Terms.{Term, blank, node, Terms, tnil, tcons, count, span, flatten, flattens, Fits, Fitss, Whole, Wholes}
use Rattle.term.specs.Places.{nth, child, sub, hd, head_at, skip, edges, edgess, number}
use Rattle.term.specs.Replacing.{on_nth, on_child, put, fill, fills, Names, Namess, named, nameds}
use Rattle.term.proofs.Sizes.{length_flatten}
use Rattle.term.proofs.MatchTest.{agrees_at, agree_at}

-- ---- one child
nth_on : (ts : Terms) (i : ℕ) (h : Term → Term) → nth (on_nth ts i h) i ≡ Option.map h (nth ts i)
nth_on tnil i h = refl
nth_on (tcons t ts) zero h = refl
nth_on (tcons t ts) (suc i) h = nth_on ts i h

child_on_lem : (t : Term) (i : ℕ) (h : Term → Term) → child (on_child t i h) i ≡ Option.map h (child t i)
child_on_lem (blank w) i h = refl
child_on_lem (node f ts) zero h = refl
child_on_lem (node f ts) (suc i) h = nth_on ts i h

nth_other : (ts : Terms) (i k : ℕ) (h : Term → Term) → (i ≡ k → ⊥) → nth (on_nth ts i h) k ≡ nth ts k
nth_other tnil i k h n = refl
nth_other (tcons t ts) zero zero h n = absurd (n refl)
nth_other (tcons t ts) zero (suc k) h n = refl
nth_other (tcons t ts) (suc i) zero h n = refl
nth_other (tcons t ts) (suc i) (suc k) h n = nth_other ts i k h (λ e. n (ap suc e))

child_other : (t : Term) (i k : ℕ) (h : Term → Term) → (i ≡ k → ⊥) → child (on_child t i h) k ≡ child t k
child_other (blank w) i k h n = refl
child_other (node f ts) zero k h n = refl
child_other (node f ts) (suc i) zero h n = refl
child_other (node f ts) (suc i) (suc k) h n = nth_other ts i k h (λ e. n (ap suc e))

hd_on : (t : Term) (i : ℕ) (h : Term → Term) → hd (on_child t i h) ≡ hd t
hd_on (blank w) i h = refl
hd_on (node f ts) zero h = refl
hd_on (node f ts) (suc i) h = refl

nth_same : (ts : Terms) (i : ℕ) (h : Term → Term) {v : Term} → nth ts i ≡ some v → h v ≡ v → on_nth ts i h ≡ ts
nth_same tnil i h e z = refl
nth_same (tcons t ts) zero h {v} e z = let y : t ≡ v = cc in ap (λ w. tcons w ts) (ap h y ∙ z ∙ sym y)
nth_same (tcons t ts) (suc i) h e z = ap (tcons t) (nth_same ts i h e z)

child_same : (t : Term) (i : ℕ) (h : Term → Term) {v : Term} → child t i ≡ some v → h v ≡ v → on_child t i h ≡ t
child_same (blank w) i h e z = refl
child_same (node f ts) zero h e z = refl
child_same (node f ts) (suc i) h e z = ap (node f) (nth_same ts i h e z)

-- ---- positions
pub put_sub : (p q : Pos) (t u : Term) {v : Term} → sub t p ≡ some v → sub (put t p u) (p ++ q) ≡ sub u q
put_sub [] q t u e = refl
put_sub (i ∷ p) q t u e = on_bind (child t i) _ e λ w ew d. rw (child_on_lem t i (λ v. put v p u), ew) (put_sub p q w u d)

pub put_same : (p : Pos) (t : Term) {v : Term} → sub t p ≡ some v → put t p v ≡ t
put_same [] t {v} e = let z : v ≡ t = cc in z
put_same (i ∷ p) t {v} e = on_bind (child t i) _ e λ w ew d. child_same t i (λ y. put y p v) ew (put_same p w d)

-- a position that is neither p nor under it
pub put_head : (p q : Pos) (t u : Term) → ((r : Pos) → q ≡ p ++ r → ⊥) → head_at (put t p u) q ≡ head_at t q
put_head [] q t u n = absurd (n q refl)
put_head (i ∷ p) [] t u n = hd_on t i (λ v. put v p u)
put_head (i ∷ p) (k ∷ q) t u n = go (ℕ_discrete i k) (λ e w. put_head p q w u (λ r d. n r (ap₂ (λ (j : ℕ) (l : Pos). j ∷ l) (sym e) d)))
  where
    head : Option Term → Option ℕ
    head o = bind (bind o (λ v. sub v q)) hd

    within : (o : Option Term) → ((w : Term) → head_at (put w p u) q ≡ head_at w q) → head (Option.map (λ v. put v p u) o) ≡ head o
    within none ih = refl
    within (some w) ih = ih w

    go : Dec (i ≡ k) → (i ≡ k → (w : Term) → head_at (put w p u) q ≡ head_at w q) → head_at (put t (i ∷ p) u) (k ∷ q) ≡ head_at t (k ∷ q)
    go (no d) ih = ap head (child_other t i k (λ v. put v p u) d)
    go (yes e) ih = ap (λ j. head (child (on_child t i (λ v. put v p u)) j)) (sym e) ∙ ap head (child_on_lem t i (λ v. put v p u)) ∙ within (child t i) (ih e)
        ∙ ap (λ j. head (child t j)) e

-- ---- words
-- the words of a term with another in the place of its subterm v
record Parts (t : Term) (p : Pos) (v : Term) (x : ℕ) : Type 0 where
  before : List ℕ
  behind : List ℕ
  place : length before ≡ x
  whole : flatten t ≡ before ++ (flatten v ++ behind)
  with : (u : Term) → flatten (put t p u) ≡ before ++ (flatten u ++ behind)

record Kids (ts : Terms) (i : ℕ) (p : Pos) (v : Term) (x : ℕ) : Type 0 where
  before : List ℕ
  behind : List ℕ
  place : length before ≡ x
  whole : flattens ts ≡ before ++ (flatten v ++ behind)
  with : (u : Term) → flattens (on_nth ts i (λ w. put w p u)) ≡ before ++ (flatten u ++ behind)

kid_parts : (ts : Terms) (i : ℕ) (p : Pos) (w v : Term) (k : ℕ) → nth ts i ≡ some w → Parts w p v k → Kids ts i p v (skip ts i + k)
kid_parts tnil i p w v k e h = none_not e
kid_parts (tcons t ts) zero p w v k e h =
    let z : t ≡ w = cc in
    record {
      before = h.before;
      behind = h.behind ++ flattens ts;
      place = h.place ∙ sym (zero-add k);
      whole = ap (λ y. flatten y ++ flattens ts) z ∙ ap (λ l. l ++ flattens ts) h.whole ∙ simp append_assoc;
      with = λ u. ap (λ y. flatten (put y p u) ++ flattens ts) z ∙ ap (λ l. l ++ flattens ts) (h.with u) ∙ simp append_assoc;
    }
kid_parts (tcons t ts) (suc i) p w v k e h =
    let r = kid_parts ts i p w v k e h in
    record {
      before = flatten t ++ r.before;
      behind = r.behind;
      place = length-append (flatten t) r.before ∙ (let a = length_flatten t in let b = r.place in omega arith);
      whole = ap (λ l. flatten t ++ l) r.whole ∙ sym (append_assoc (flatten t) r.before (flatten v ++ r.behind));
      with = λ u. ap (λ l. flatten t ++ l) (r.with u) ∙ sym (append_assoc (flatten t) r.before (flatten u ++ r.behind));
    }

parts : (p : Pos) (t v : Term) (x : ℕ) → sub t p ≡ some v → number t p ≡ some x → Parts t p v x
parts [] t v x e n =
    let z : t ≡ v = cc in
    let y : 0 ≡ x = cc in
    record { before = []; behind = []; place = y; whole = ap flatten z ∙ sym (append-nil (flatten v)); with = λ u. sym (append-nil (flatten u)) }
parts (i ∷ p) (blank w) v x e n = none_not e
parts (zero ∷ p) (node f ts) v x e n = none_not e
parts (suc i ∷ p) (node f ts) v x e n =
    on_bind (nth ts i) _ e λ w ew d.
    on_bind (nth ts i) _ n λ w' ew' d'.
    on_map (number w' p) _ d' λ k ek s.
    let same : w' ≡ w = cc in
    let r = kid_parts ts i p w v k ew (parts p w v k d (rw (← same) ek)) in
    record {
      before = f ∷ r.before;
      behind = r.behind;
      place = let a = r.place in omega arith;
      whole = ap (λ l. f ∷ l) r.whole;
      with = λ u. ap (λ l. f ∷ l) (r.with u);
    }

module _ (p : Pos) (t v : Term) (x : ℕ) (e : sub t p ≡ some v) (n : number t p ≡ some x) where
  words_before : take x (flatten t) ≡ (parts p t v x e n).before
  words_before = let r = parts p t v x e n in ap (take x) r.whole ∙ take_at r.before (flatten v ++ r.behind) x r.place

  words_behind : drop (x + span v) (flatten t) ≡ (parts p t v x e n).behind
  words_behind =
      let r = parts p t v x e n in
      ap (drop (x + span v)) (r.whole ∙ sym (append_assoc r.before (flatten v) r.behind))
      ∙ drop_at (r.before ++ flatten v) r.behind (x + span v)
      (length-append r.before (flatten v) ∙ ap₂ (λ (a b : ℕ). a + b) r.place (length_flatten v))

  pub put_words : (u : Term) → flatten (put t p u) ≡ take x (flatten t) ++ (flatten u ++ drop (x + span v) (flatten t))
  put_words u = (parts p t v x e n).with u ∙ ap₂ (λ (a b : List ℕ). a ++ (flatten u ++ b)) (sym words_before) (sym words_behind)

  module _ (u : Term) where
    pub put_before : take x (flatten (put t p u)) ≡ take x (flatten t)
    put_before = let r = parts p t v x e n in ap (take x) (r.with u) ∙ take_at r.before (flatten u ++ r.behind) x r.place ∙ sym words_before

    pub put_behind : drop (x + span u) (flatten (put t p u)) ≡ drop (x + span v) (flatten t)
    put_behind =
        let r = parts p t v x e n in
        ap (drop (x + span u)) (r.with u ∙ sym (append_assoc r.before (flatten u) r.behind))
        ∙ drop_at (r.before ++ flatten u) r.behind (x + span u)
        (length-append r.before (flatten u) ∙ ap₂ (λ (a b : ℕ). a + b) r.place (length_flatten u))
        ∙ sym words_behind

-- ---- what fits, and has no blank
count_on : (ts : Terms) (i : ℕ) (h : Term → Term) → count (on_nth ts i h) ≡ count ts
count_on tnil i h = refl
count_on (tcons t ts) zero h = refl
count_on (tcons t ts) (suc i) h = ap suc (count_on ts i h)

module _ (ar : List ℕ) (bl : ℕ) where
  nth_fits : (ts : Terms) (i : ℕ) (h : Term → Term) → Fitss ar bl ts → ((t : Term) → Fits ar bl t → Fits ar bl (h t)) → Fitss ar bl (on_nth ts i h)
  nth_fits tnil i h f k = f
  nth_fits (tcons t ts) zero h f k = (k t f.0, f.1)
  nth_fits (tcons t ts) (suc i) h f k = (f.0, nth_fits ts i h f.1 k)

  child_fits : (t : Term) (i : ℕ) (h : Term → Term) → Fits ar bl t → ((v : Term) → Fits ar bl v → Fits ar bl (h v)) → Fits ar bl (on_child t i h)
  child_fits (blank w) i h f k = f
  child_fits (node g ts) zero h f k = f
  child_fits (node g ts) (suc i) h f k = (f.0, f.1 ∙ ap some (sym (count_on ts i h)), nth_fits ts i h f.2 k)

  pub put_fits : (p : Pos) (t u : Term) → Fits ar bl t → Fits ar bl u → Fits ar bl (put t p u)
  put_fits [] t u f g = g
  put_fits (i ∷ p) t u f g = child_fits t i (λ v. put v p u) f (λ v k. put_fits p v u k g)

nth_whole : (ts : Terms) (i : ℕ) (h : Term → Term) → Wholes ts → ((t : Term) → Whole t → Whole (h t)) → Wholes (on_nth ts i h)
nth_whole tnil i h f k = f
nth_whole (tcons t ts) zero h f k = (k t f.0, f.1)
nth_whole (tcons t ts) (suc i) h f k = (f.0, nth_whole ts i h f.1 k)

child_whole : (t : Term) (i : ℕ) (h : Term → Term) → Whole t → ((v : Term) → Whole v → Whole (h v)) → Whole (on_child t i h)
child_whole (blank w) i h f k = f
child_whole (node g ts) zero h f k = f
child_whole (node g ts) (suc i) h f k = nth_whole ts i h f k

pub put_whole : (p : Pos) (t u : Term) → Whole t → Whole u → Whole (put t p u)
put_whole [] t u f g = g
put_whole (i ∷ p) t u f g = child_whole t i (λ v. put v p u) f (λ v k. put_whole p v u k g)

-- ---- filling
fills_nth : (σ : ℕ → Term) (ts : Terms) (i : ℕ) {v : Term} → nth ts i ≡ some v → nth (fills σ ts) i ≡ some (fill σ v)
fills_nth σ tnil i e = none_not e
fills_nth σ (tcons t ts) zero {v} e = let z : t ≡ v = cc in ap (λ w. some (fill σ w)) z
fills_nth σ (tcons t ts) (suc i) e = fills_nth σ ts i e

pub fill_sub : (σ : ℕ → Term) (q : Pos) (r : Term) {v : Term} → sub r q ≡ some v → sub (fill σ r) q ≡ some (fill σ v)
fill_sub σ [] r {v} e = let z : r ≡ v = cc in ap (λ w. some (fill σ w)) z
fill_sub σ (i ∷ q) (blank w) e = none_not e
fill_sub σ (zero ∷ q) (node f ts) e = none_not e
fill_sub σ (suc i ∷ q) (node f ts) e = on_bind (nth ts i) _ e λ w ew d. rw (fills_nth σ ts i ew) (fill_sub σ q w d)

nth_names : (n : ℕ) (ts : Terms) (i : ℕ) {u : Term} → Namess n ts → nth ts i ≡ some u → Names n u
nth_names n tnil i h e = none_not e
nth_names n (tcons t ts) zero {u} h e = let z : u ≡ t = cc in rw z h.0
nth_names n (tcons t ts) (suc i) h e = nth_names n ts i h.1 e

pub names_sub : (n : ℕ) (q : Pos) (r : Term) {u : Term} → Names n r → sub r q ≡ some u → Names n u
names_sub n [] r {u} h e = let z : u ≡ r = cc in rw z h
names_sub n (i ∷ q) (blank w) h e = none_not e
names_sub n (zero ∷ q) (node f ts) h e = none_not e
names_sub n (suc i ∷ q) (node f ts) h e = on_bind (nth ts i) _ e λ v ev d. names_sub n q v (nth_names n ts i h ev) d

count_fills : (σ : ℕ → Term) (ts : Terms) → count (fills σ ts) ≡ count ts
count_fills σ tnil = refl
count_fills σ (tcons t ts) = ap suc (count_fills σ ts)

-- names from bl on and below n stand for terms that fit
module _ (ar : List ℕ) (bl cl n : ℕ) (σ : ℕ → Term) (more : bl ≤ cl) where
  mutual
    pub fill_fits : (r : Term) → Fits ar bl r → Names n r → ((w : ℕ) → bl ≤ w → w < n → Fits ar cl (σ w)) → Fits ar cl (fill σ r)
    fill_fits (blank w) f m k = k w f m
    fill_fits (node g ts) f m k = (omega (arith, f.0), f.1 ∙ ap some (sym (count_fills σ ts)), fills_fit ts f.2 m k)

    fills_fit : (ts : Terms) → Fitss ar bl ts → Namess n ts → ((w : ℕ) → bl ≤ w → w < n → Fits ar cl (σ w)) → Fitss ar cl (fills σ ts)
    fills_fit tnil f m k = tt
    fills_fit (tcons t ts) f m k = (fill_fits t f.0 m.0 k, fills_fit ts f.1 m.1 k)

module _ (ar : List ℕ) (bl n : ℕ) (σ : ℕ → Term) where
  mutual
    pub fill_whole : (r : Term) → Fits ar bl r → Names n r → ((w : ℕ) → bl ≤ w → w < n → Whole (σ w)) → Whole (fill σ r)
    fill_whole (blank w) f m k = k w f m
    fill_whole (node g ts) f m k = fills_whole ts f.2 m k

    fills_whole : (ts : Terms) → Fitss ar bl ts → Namess n ts → ((w : ℕ) → bl ≤ w → w < n → Whole (σ w)) → Wholes (fills σ ts)
    fills_whole tnil f m k = tt
    fills_whole (tcons t ts) f m k = (fill_whole t f.0 m.0 k, fills_whole ts f.1 m.1 k)

  module _ (piece : ℕ → List ℕ) (symbol : (w : ℕ) → w < bl → piece w ≡ w ∷ []) where
    mutual
      pub fill_words : (r : Term) → Fits ar bl r → Names n r → ((w : ℕ) → bl ≤ w → w < n → flatten (σ w) ≡ piece w)
          → flatten (fill σ r) ≡ gather piece (flatten r)
      fill_words (blank w) f m k = k w f m ∙ sym (append-nil (piece w))
      fill_words (node g ts) f m k = rw (symbol g f.0) (ap (λ l. g ∷ l) (fills_words ts f.2 m k))

      fills_words : (ts : Terms) → Fitss ar bl ts → Namess n ts → ((w : ℕ) → bl ≤ w → w < n → flatten (σ w) ≡ piece w)
          → flattens (fills σ ts) ≡ gather piece (flattens ts)
      fills_words tnil f m k = refl
      fills_words (tcons t ts) f m k =
          ap₂ (λ (a b : List ℕ). a ++ b) (fill_words t f.0 m.0 k) (fills_words ts f.1 m.1 k)
          ∙ sym (gather_append piece (flatten t) (flattens ts))

-- ---- a shape's blanks, named in order
-- what each name stands for is what its blank covers
abbrev pub Bound : (ℕ → Term) → ℕ → List Pos → (Pos → Option Term) → Type 0
Bound σ n qs at = (j : ℕ) (q : Pos) (v : Term) → get_elem? qs j ≡ some q → at q ≡ some v → σ (n + j) ≡ v

module _ (ar : List ℕ) (bl sb : ℕ) (σ : ℕ → Term) where
  mutual
    pub named_back : (ℓ v : Term) (n : ℕ) → Fits ar bl ℓ → Fits ar sb v → agrees_at ℓ (some v) ≡ true → Bound σ n (edges ℓ) (sub v) → fill σ (named n ℓ) ≡ v
    named_back (blank w) v n p q a h = ap σ (sym (add-zero n)) ∙ h 0 [] v refl refl
    named_back (node f ts) (blank w) n p q a h = false_true a
    named_back (node f ts) (node g us) n p q a h =
        let e : f ≡ g = eqb_is f g (and_l (agree_at ts us) a) in
        let d : some (count ts) ≡ some (count us) = sym p.1 ∙ ap (get_elem? ar) e ∙ q.1 in
        let k : count ts ≡ count us = cc in
        ap₂ node e (nameds_back ts us n 1 (sub (node g us)) p.2 q.2 (and_r (eqb f g) a) k (λ i r. at i r) h)
      where
        at : (i : ℕ) (r : Pos) → sub (node g us) ((1 + i) ∷ r) ≡ bind (nth us i) (λ v. sub v r)
        at i r = let z : 1 + i ≡ suc i = omega arith in ap (λ k. sub (node g us) (k ∷ r)) z

    nameds_back : (ts us : Terms) (n c : ℕ) (at : Pos → Option Term) → Fitss ar bl ts → Fitss ar sb us → agree_at ts us ≡ true → count ts ≡ count us
        → ((i : ℕ) (r : Pos) → at ((c + i) ∷ r) ≡ bind (nth us i) (λ v. sub v r)) → Bound σ n (edgess ts c) at → fills σ (nameds n ts) ≡ us
    nameds_back tnil tnil n c at p q a k is h = refl
    nameds_back tnil (tcons u us) n c at p q a k is h = absurd (omega arith)
    nameds_back (tcons t ts) tnil n c at p q a k is h = absurd (omega arith)
    nameds_back (tcons t ts) (tcons u us) n c at p q a k is h =
        ap₂ tcons (named_back t u n p.0 q.0 (and_l (agree_at ts us) a) first)
        (nameds_back ts us (n + length (edges t)) (suc c) at p.1 q.1 (and_r (agrees_at t (some u)) a) (omega arith) later_at later)
      where
        front : List Pos
        front = map (λ r. c ∷ r) (edges t)

        first : Bound σ n (edges t) (sub u)
        first j r v e d =
            h j (c ∷ r) v (at_left front (edgess ts (suc c)) j (at_map (λ l. c ∷ l) (edges t) j e)) (ap (λ i. at (i ∷ r)) (sym (add-zero c)) ∙ is 0 r ∙ d)

        later_at : (i : ℕ) (r : Pos) → at ((suc c + i) ∷ r) ≡ bind (nth us i) (λ v. sub v r)
        later_at i r = let z : suc c + i ≡ c + suc i = omega arith in ap (λ i. at (i ∷ r)) z ∙ is (suc i) r

        later : Bound σ (n + length (edges t)) (edgess ts (suc c)) at
        later j r v e d =
            let z : n + length (edges t) + j ≡ n + (length front + j) = omega (arith, length-map (edges t) (λ r. c ∷ r)) in
            ap σ z ∙ h (length front + j) r v (at_right front (edgess ts (suc c)) j ∙ e) d

count_nameds : (n : ℕ) (ts : Terms) → count (nameds n ts) ≡ count ts
count_nameds n tnil = refl
count_nameds n (tcons t ts) = ap suc (count_nameds (n + length (edges t)) ts)

module _ (ar : List ℕ) (bl cl : ℕ) (few : length ar ≤ cl) where
  mutual
    pub named_fits : (ℓ : Term) (n : ℕ) → Fits ar bl ℓ → cl ≤ n → Fits ar cl (named n ℓ)
    named_fits (blank w) n p h = h
    named_fits (node f ts) n p h =
        (omega (arith, at_below ar f p.1, few), p.1 ∙ ap some (sym (count_nameds n ts)), nameds_fit ts n p.2 h)

    nameds_fit : (ts : Terms) (n : ℕ) → Fitss ar bl ts → cl ≤ n → Fitss ar cl (nameds n ts)
    nameds_fit tnil n p h = tt
    nameds_fit (tcons t ts) n p h = (named_fits t n p.0 h, nameds_fit ts (n + length (edges t)) p.1 (omega arith))

mutual
  pub named_names : (ℓ : Term) (n m : ℕ) → n + length (edges ℓ) ≤ m → Names m (named n ℓ)
  named_names (blank w) n m h = omega arith
  named_names (node f ts) n m h = nameds_names ts n 1 m h

  nameds_names : (ts : Terms) (n c m : ℕ) → n + length (edgess ts c) ≤ m → Namess m (nameds n ts)
  nameds_names tnil n c m h = tt
  nameds_names (tcons t ts) n c m h =
      let l = length-append (map (λ r. c ∷ r) (edges t)) (edgess ts (suc c)) in
      let k = length-map (edges t) (λ r. c ∷ r) in
      (named_names t n m (omega arith), nameds_names ts (n + length (edges t)) (suc c) m (omega arith))
