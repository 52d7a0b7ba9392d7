-- Every term within the limits is read whole: the way back of WholeTerm. And `parse` reads it.
--   first                     the first word of a list that stands at an index
--   met_with                  what a term is met with
--   read_back reads_back      words that are a term's, and others behind them
--   term_whole                a term that stands there
--   parse_flatten many_flatten parse_all_lem  parsed
use Rattle.term.specs.declared.Fault.{Fault}
use Rattle.std.specs.Prelude.{Ok, Result}
use mathlib.Core.Path.{◌≡◌, refl, ap, ap₂, sym, ◌∙◌}
use mathlib.Core.List.{List, [], ◌∷◌, ◌++◌, append_assoc}
use mathlib.Core.Option.{some}
use Prim.Native.Nat.{ℕ, zero, suc, ◌+◌, max, ◌<◌, ◌≤◌}
use native.Mathlib.Omega.{arith}
use native.Mathlib.Nat.{add-zero, zero-add}
use borrow.Author.Tests.{le-leb, lt-leb}
use lib.ListN.{length, get_or, drop, length-drop}
use Rattle.kinds.specs.Lists.{gather}
use Rattle.kinds.specs.Members.{◌∈◌, here, there}
use Rattle.kinds.proofs.ListLaws.{from}
use Rattle.kinds.proofs.Places.{at_below, get_d_at}
use Rattle.term.specs.Terms.{Term, blank, node, Terms, tnil, tcons, count, depth, depths, span, spans, flatten, flattens, Fits, Fitss, Read, many, parse, and_more, parse_all}
use Rattle.term.specs.Reading.{children_of, met, alone, after, enter, next, kids_of, reading}
use Rattle.term.specs.declared.Limits.{Limits}
use Rattle.term.specs.declared.Met.{Met}
use Rattle.term.proofs.LawsReading.{children_blank, children_symbol, head_kids}
use Rattle.term.proofs.WholeTerm.{TermAt}

-- the first word of a list that stands at `at`
pub first : (ws : List ℕ) (at w : ℕ) (r : List ℕ) → drop at ws ≡ w ∷ r → (at < length ws) × (get_or ws at 0 ≡ w) × (drop (at + 1) ws ≡ r)
first ws at w r e =
    let n : length (drop at ws) ≡ suc (length r) = ap length e in
    let h : at < length ws = omega (arith, length-drop at ws) in
    let f : (get_or ws at 0 ∷ drop (at + 1) ws) ≡ (w ∷ r) = sym (from ws at h) ∙ e in
    let a : get_or ws at 0 ≡ w = cc in
    let b : drop (at + 1) ws ≡ r = cc in
    (h, a, b)

-- what a term that begins at an index is met with
abbrev pub met_with : ℕ → Term → Met
met_with at t = met (at + span t) (depth t)

mutual
  unfolding reading

  pub read_back : (ar ws : List ℕ) (l : Limits) (t : Term) (d at : ℕ) (r : List ℕ) → Fits ar l.blanks t → depth t < d → at + span t ≤ l.stop
      → drop at ws ≡ flatten t ++ r
      → (reading ar ws l d at ≡ Ok (met_with at t)) × (drop (at + span t) ws ≡ r)
  read_back ar ws l (blank w) zero at r p h g e = absurd (omega arith)
  read_back ar ws l (blank w) (suc d) at r p h g e =
      let f = first ws at w r e in
      let k = head_kids ar ws l at f.0 (ap (children_of ar l.blanks) f.1 ∙ children_blank ar l.blanks w p) (omega arith) in
      (ap (λ c. enter c at (λ n. kids_of (reading ar ws l d) n (alone at))) k, f.2)
  read_back ar ws l (node s ts) zero at r p h g e = absurd (omega arith)
  read_back ar ws l (node s ts) (suc d) at r p h g e =
      let f = first ws at s (flattens ts ++ r) e in
      let k = head_kids ar ws l at f.0 (ap (children_of ar l.blanks) f.1 ∙ children_symbol ar l.blanks s p.0 (at_below ar s p.1))
      (omega arith) in
      let b = reads_back ar ws l ts d 0 (at + 1) 0 r p.2 (omega arith) (omega arith) f.2 in
      let q : at + 1 + spans ts ≡ at + suc (spans ts) = omega arith in
      let z : max 0 (depths ts) ≡ depths ts = omega arith in (
        ap (λ c. enter c at (λ n. kids_of (reading ar ws l d) n (alone at))) k
            ∙ ap (λ (n : ℕ). kids_of (reading ar ws l d) n (alone at)) (get_d_at ar s 0 p.1 ∙ sym (add-zero (count ts))) ∙ b.0
            ∙ ap₂ (λ (n k : ℕ). Ok (met n k)) q z,
        ap (λ (n : ℕ). drop n ws) (sym q) ∙ b.1,
      )

  -- children that are terms, and k more to read behind them
  pub reads_back : (ar ws : List ℕ) (l : Limits) (ts : Terms) (d k at most : ℕ) (r : List ℕ) → Fitss ar l.blanks ts → depths ts ≤ d
      → at + spans ts ≤ l.stop → drop at ws ≡ flattens ts ++ r
      → (kids_of (reading ar ws l d) (count ts + k) (met at most) ≡ kids_of (reading ar ws l d) k (met (at + spans ts) (max most (depths ts))))
      × (drop (at + spans ts) ws ≡ r)
  reads_back ar ws l tnil d k at most r p h g e =
      let z : most ≡ max most 0 = omega arith in (
        λ i. kids_of (reading ar ws l d) (zero-add k i) (met (sym (add-zero at) i) (z i)),
        ap (λ (n : ℕ). drop n ws) (add-zero at) ∙ e,
      )
  reads_back ar ws l (tcons t ts) d k at most r p h g e =
      let a = read_back ar ws l t d at (flattens ts ++ r) p.0 (omega arith) (omega arith) (e ∙ append_assoc (flatten t) (flattens ts) r) in
      let b = reads_back ar ws l ts d k (at + span t) (max most (depth t + 1)) r p.1 (omega arith) (omega arith) a.1 in
      let n : suc (count ts) + k ≡ suc (count ts + k) = omega arith in
      let q : at + span t + spans ts ≡ at + (span t + spans ts) = omega arith in
      let z : max (max most (depth t + 1)) (depths ts) ≡ max most (max (suc (depth t)) (depths ts)) = omega arith in (
        ap (λ (x : ℕ). kids_of (reading ar ws l d) x (met at most)) n
            ∙ ap (λ (x : Result Met (Fault × ℕ)). next x (λ c. kids_of (reading ar ws l d) (count ts + k) (after (met at most) c))) a.0 ∙ b.0
            ∙ (λ i. kids_of (reading ar ws l d) k (met (q i) (z i))),
        ap (λ (n : ℕ). drop n ws) (sym q) ∙ b.1,
      )

-- a term that stands at `at` and ends within the limit
pub term_whole : (ar ws : List ℕ) (l : Limits) (d at : ℕ) (m : Met) → TermAt ar ws l.blanks d at m → m.end ≤ l.stop → reading ar ws l d at ≡ Ok m
term_whole ar ws l d at m r h =
    let s = r.size in
    (read_back ar ws l r.tree d at (drop m.end ws) r.fits r.flat (omega arith) r.words).0
    ∙ ap₂ (λ (n k : ℕ). Ok (met n k)) (sym s) (sym r.deep)

mutual
  pub parse_flatten : (ar : List ℕ) (bl : ℕ) (t : Term) (d : ℕ) (r : List ℕ) → Fits ar bl t → depth t < d
      → parse ar bl d (flatten t ++ r) ≡ some (t, r)
  parse_flatten ar bl (blank w) zero r p h = absurd (omega arith)
  parse_flatten ar bl (blank w) (suc d) r p h = rw (le-leb bl w p)
  parse_flatten ar bl (node f ts) zero r p h = absurd (omega arith)
  parse_flatten ar bl (node f ts) (suc d) r p h = rw (lt-leb bl f p.0, p.1, many_flatten ar bl ts d r p.2 (omega arith))

  pub many_flatten : (ar : List ℕ) (bl : ℕ) (ts : Terms) (d : ℕ) (r : List ℕ) → Fitss ar bl ts → depths ts ≤ d
      → many (λ v. parse ar bl d v) (count ts) (flattens ts ++ r) ≡ some (ts, r)
  many_flatten ar bl tnil d r p h = refl
  many_flatten ar bl (tcons t ts) d r p h =
      rw (append_assoc, parse_flatten ar bl t d (flattens ts ++ r) p.0 (omega arith), many_flatten ar bl ts d r p.1 (omega arith))

parse_none : (ar : List ℕ) (bl d k : ℕ) → parse_all ar bl d k [] ≡ []
parse_none ar bl d zero = refl
parse_none ar bl zero (suc k) = refl
parse_none ar bl (suc d) (suc k) = refl

-- terms back to back
pub parse_all_lem : (ar : List ℕ) (bl d : ℕ) (ts : List Term) (k : ℕ) → length ts ≤ k → ((t : Term) → t ∈ ts → Fits ar bl t × (depth t < d))
    → parse_all ar bl d k (gather flatten ts) ≡ ts
parse_all_lem ar bl d [] k h p = parse_none ar bl d k
parse_all_lem ar bl d (t ∷ ts) zero h p = absurd (omega arith)
parse_all_lem ar bl d (t ∷ ts) (suc k) h p =
    let a = p t (here refl) in
    ap (λ (x : Read Term). and_more x (λ v. parse_all ar bl d k v)) (parse_flatten ar bl t d (gather flatten ts) a.0 a.1)
    ∙ ap (λ (l : List Term). t ∷ l) (parse_all_lem ar bl d ts k (omega arith) (λ u m. p u (there m)))
