-- The spans of a term's words are the node counts of its subtrees.
--   length_flatten length_flattens, length_sizes length_sizess   a word and a span for each node
--   span_pos head_size                                           there is a node
--   over_sizes spans_flatten spans_flattens spans_are            the spans
use mathlib.Core.Path.{◌≡◌, refl, ap, sym, ◌∙◌}
use mathlib.Core.List.{List, [], ◌∷◌, ◌++◌, append_assoc, append-nil}
use Prim.Native.Nat.{ℕ, suc, ◌+◌, ◌≤◌}
use native.Mathlib.Omega.{arith}
use lib.ListN.{length, get_or, drop, length-append, get_or-eq_default}
use lib.Seq.{drop_at}
use Rattle.kinds.proofs.Places.{get_d_at}
use Rattle.term.specs.Spans.{over, spans_of}
use Rattle.term.specs.Terms.{Term, blank, node, Terms, tnil, tcons, count, span, spans, flatten, flattens, sizes, sizess, Fits, Fitss}

mutual
  pub length_flatten : (t : Term) → length (flatten t) ≡ span t
  length_flatten (blank w) = refl
  length_flatten (node f ts) = ap suc (length_flattens ts)

  pub length_flattens : (ts : Terms) → length (flattens ts) ≡ spans ts
  length_flattens tnil = refl
  length_flattens (tcons t ts) = simp (length-append, length_flatten t, length_flattens ts)

mutual
  pub length_sizes : (t : Term) → length (sizes t) ≡ span t
  length_sizes (blank w) = refl
  length_sizes (node f ts) = ap suc (length_sizess ts)

  pub length_sizess : (ts : Terms) → length (sizess ts) ≡ spans ts
  length_sizess tnil = refl
  length_sizess (tcons t ts) = simp (length-append, length_sizes t, length_sizess ts)

pub span_pos : (t : Term) → 1 ≤ span t
span_pos (blank w) = omega arith
span_pos (node f ts) = omega arith

pub head_size : (t : Term) (r : List ℕ) → get_or (sizes t ++ r) 0 0 ≡ span t
head_size (blank w) r = refl
head_size (node f ts) r = refl

-- stepping over subtrees whose sizes stand there
pub over_sizes : (ts : Terms) (r : List ℕ) → over (count ts) (sizess ts ++ r) ≡ spans ts
unfolding over
over_sizes tnil r = refl
over_sizes (tcons t ts) r =
    let a : sizess (tcons t ts) ++ r ≡ sizes t ++ (sizess ts ++ r) = append_assoc (sizes t) (sizess ts) r in
    let h : get_or (sizess (tcons t ts) ++ r) 0 0 ≡ span t = ap (λ (l : List ℕ). get_or l 0 0) a ∙ head_size t (sizess ts ++ r) in
    let d : drop (span t) (sizess (tcons t ts) ++ r) ≡ sizess ts ++ r =
    ap (drop (span t)) a ∙ drop_at (sizes t) (sizess ts ++ r) (span t) (length_sizes t) in
    ap (λ (n : ℕ). n + over (count ts) (drop n (sizess (tcons t ts) ++ r))) h ∙ ap (λ (l : List ℕ). span t + over (count ts) l) d
    ∙ ap (λ (n : ℕ). span t + n) (over_sizes ts r)

mutual
  unfolding spans_of over

  -- bl is at least the number of symbols, so a blank is no symbol
  pub spans_flatten : (ar : List ℕ) (bl : ℕ) (t : Term) (r : List ℕ) → length ar ≤ bl → Fits ar bl t
      → spans_of ar (flatten t ++ r) ≡ sizes t ++ spans_of ar r
  spans_flatten ar bl (blank w) r h p =
      let z : get_or ar w 0 ≡ 0 = get_or-eq_default ar 0 (omega arith) in
      rw z
  spans_flatten ar bl (node f ts) r h p =
      let k = spans_flattens ar bl ts r h p.2 in
      ap (λ (l : List ℕ). suc (over (get_or ar f 0) l) ∷ l) k
      ∙ ap (λ (n : ℕ). suc n ∷ (sizess ts ++ spans_of ar r))
      (ap (λ (n : ℕ). over n (sizess ts ++ spans_of ar r)) (get_d_at ar f 0 p.1) ∙ over_sizes ts (spans_of ar r))

  pub spans_flattens : (ar : List ℕ) (bl : ℕ) (ts : Terms) (r : List ℕ) → length ar ≤ bl → Fitss ar bl ts
      → spans_of ar (flattens ts ++ r) ≡ sizess ts ++ spans_of ar r
  spans_flattens ar bl tnil r h p = refl
  spans_flattens ar bl (tcons t ts) r h p =
      ap (spans_of ar) (append_assoc (flatten t) (flattens ts) r)
      ∙ spans_flatten ar bl t (flattens ts ++ r) h p.0
      ∙ ap (λ (l : List ℕ). sizes t ++ l) (spans_flattens ar bl ts r h p.1)
      ∙ sym (append_assoc (sizes t) (sizess ts) (spans_of ar r))

-- the spans of a score's words
pub spans_are : (ar : List ℕ) (bl : ℕ) (t : Term) → length ar ≤ bl → Fits ar bl t → spans_of ar (flatten t) ≡ sizes t
unfolding spans_of
spans_are ar bl t h p = ap (spans_of ar) (sym (append-nil (flatten t))) ∙ spans_flatten ar bl t [] h p ∙ append-nil (sizes t)
