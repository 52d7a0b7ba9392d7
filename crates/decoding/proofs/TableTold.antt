-- TableOf each shape that stands at its start.
use mathlib.Core.Path.{◌≡◌, refl, ap, sym, ◌∙◌}
use mathlib.Core.List.{List, [], ◌∷◌, ◌++◌}
use Prim.Native.Nat.{ℕ, zero, suc, ◌+◌, ◌-◌, ◌*◌, ◌/◌, ◌%◌, ◌^◌, ◌≤◌, ◌<◌}
use native.Mathlib.Omega.{arith}
use native.Mathlib.Nat.{add-zero, zero-add, pow-succ', one-mul}
use native.Mathlib.Decide.{dec_lt}
use lib.ListN.{length, get_or, get_or-append}
use lib.Seq.{get_or-append-add}
use Rattle.term.specs.Terms.{Term, blank, node, Terms, tnil, tcons, span, spans, flatten, flattens, Fits}
use Rattle.kinds.specs.Positions.{Pos, code}
use Rattle.kinds.proofs.Codes.{five_pos}
use Rattle.decoding.specs.Decoding.{kid_masks, TableOf}
use Rattle.term.specs.Places.{dom}
use Rattle.term.proofs.Sizes.{length_flatten, span_pos}
use Rattle.tables.specs.ShapeTables.{word_at, kids_at, node_word, entry_w}
use Rattle.tables.proofs.TableLaws.{entry_in_lem, word_0, word_1, word_2, word_3, word_4}
use Rattle.decoding.proofs.TableSeek.{Stands, Standss, span_is, val, val_code, seek_term}
use Rattle.decoding.proofs.TableKids.{kids_node}
use Rattle.kinds.specs.Limits.{blank_word}

module _ (ws : List ℕ) where
  mutual
    pub word_node : (t : Term) (at r : ℕ) → r < span t → Stands ws at t → word_at ws (at + r) ≡ get_or (flatten t) r 0
    word_node (blank w) at zero h s = ap (word_at ws) (add-zero at) ∙ s
    word_node (blank w) at (suc r) h s = absurd (omega arith)
    word_node (node f ts) at zero h s = ap (word_at ws) (add-zero at) ∙ s.0
    word_node (node f ts) at (suc r) h s =
        let e : at + suc r ≡ at + 1 + r = omega arith in ap (word_at ws) e ∙ word_nodes ts (at + 1) r (omega arith) s.1

    pub word_nodes : (ts : Terms) (at r : ℕ) → r < spans ts → Standss ws at ts → word_at ws (at + r) ≡ get_or (flattens ts) r 0
    word_nodes tnil at r h s = absurd (omega arith)
    word_nodes (tcons t ts) at r h s =
        go (dec_lt r (span t)) (λ y. word_node t at r y s.0) (λ y. word_nodes ts (at + span t) (r - span t) (omega arith) s.1)
      where
        go : Dec (r < span t) → (r < span t → word_at ws (at + r) ≡ get_or (flatten t) r 0)
            → (span t ≤ r → word_at ws (at + span t + (r - span t)) ≡ get_or (flattens ts) (r - span t) 0)
            → word_at ws (at + r) ≡ get_or (flatten t ++ flattens ts) r 0
        go (yes y) f g = f y ∙ sym (get_or-append (flatten t) (flattens ts) 0 r (rw (length_flatten t) y))
        go (no y) f g =
            let e : at + r ≡ at + span t + (r - span t) = omega arith in
            let d : r ≡ span t + (r - span t) = omega arith in
            ap (word_at ws) e ∙ g (omega arith)
            ∙ sym
            (ap (λ u. get_or (flatten t ++ flattens ts) u 0) (d ∙ ap (λ u. u + (r - span t)) (sym (length_flatten t)))
            ∙ get_or-append-add (flatten t) (flattens ts) (r - span t) 0)

grow : (x P : ℕ) → 1 ≤ P → x ≤ x * P
grow x zero h = absurd (omega arith)
grow x (suc Q) h = let e : x * suc Q ≡ x * Q + x = omega arith in omega (arith, e)

pub val_pow : (p : Pos) (v : ℕ) → v * 5 ^ length p < 65536 → val 0 v p ≡ v * 5 ^ length p
val_pow [] v h = omega arith
val_pow (i ∷ p) v h =
    let e : v * 5 ^ suc (length p) ≡ 5 * v * 5 ^ length p = ap (λ u. v * u) (pow-succ' 5 (length p)) ∙ ring v (5 ^ length p) in
    let g = grow (5 * v) (5 ^ length p) (five_pos (length p)) in
    let m : (5 * v + i * 0) % 65536 ≡ 5 * v = omega (arith, g, e, h) in
    ap (λ u. val 0 u p) m ∙ val_pow p (5 * v) (omega (arith, e, h)) ∙ sym e
  where
    ring : (v P : ℕ) → v * (5 * P) ≡ 5 * v * P
    ring v P = omega arith

module _ (ar ws ss tab : List ℕ) (few_symbols : length ar ≤ blank_word) (filled : (k : ℕ) → k < 1280 → get_or tab k 0 ≡ entry_w ar ws ss k)
    (s : ℕ) (t : Term) (low : s < 16) (is : s < length ss) (stands : Stands ws (get_or ss s 0) t) (fits : Fits ar blank_word t)
    (few : span t ≤ 16) where
  word_in : (x r : ℕ) → x < 5 → r < span t → get_or tab (256 * x + (16 * s + r)) 0 ≡ node_word ar ws (get_or ss s 0) x r
  word_in x r h l =
      let k = 256 * x + (16 * s + r) in
      let a : k / 16 % 16 ≡ s = omega arith in
      let b : k % 16 ≡ r = omega arith in
      let d : k / 256 ≡ x = omega arith in
      let n = span_is ar ws few_symbols t (get_or ss s 0) stands fits few in
      filled k (omega arith) ∙ entry_in_lem ar ws ss k (omega (arith, a)) (rw (a, b, n) l) ∙ rw (a, b, d) refl

  start : Stands ws (get_or ss s 0 + 0) t
  start = rw (add-zero (get_or ss s 0)) stands

  pub table_of : ((r : ℕ) → r < span t → (code (get_or (dom t) r []) < 65536) × (5 ^ length (get_or (dom t) r []) < 65536)
      × (get_or (kid_masks 0 t) r 0 < 65536))
      → TableOf tab s t
  table_of small = record {
    size = let p = span_pos t in let e : 512 + 16 * s ≡ 256 * 2 + (16 * s + 0) = omega arith in
        ap (λ k. get_or tab k 0) e ∙ word_in 2 0 (omega arith) p ∙ word_2 ar ws (get_or ss s 0) 2 0 refl
        ∙ span_is ar ws few_symbols t (get_or ss s 0 + 0) start fits few;
    codes = λ r h. let e : 16 * s + r ≡ 256 * 0 + (16 * s + r) = omega arith in
        ap (λ k. get_or tab k 0) e ∙ word_in 0 r (omega arith) h ∙ word_0 ar ws (get_or ss s 0) 0 r refl
        ∙ seek_term ar ws few_symbols (get_or ss s 0) r 1 t 16 0 0 r (omega arith) h (omega arith) start fits few
        ∙ val_code (get_or (dom t) r []) 0 (small r h).0;
    pows = λ r h. let z = (small r h).1 in let o = one-mul (5 ^ length (get_or (dom t) r [])) in
        word_in 1 r (omega arith) h ∙ word_1 ar ws (get_or ss s 0) 1 r refl
        ∙ seek_term ar ws few_symbols (get_or ss s 0) r 0 t 16 0 1 r (omega arith) h (omega arith) start fits few
        ∙ val_pow (get_or (dom t) r []) 1 (omega (arith, z, o)) ∙ o;
    syms = λ r h. word_in 3 r (omega arith) h ∙ word_3 ar ws (get_or ss s 0) 3 r refl ∙ word_node ws t (get_or ss s 0) r h stands;
    kids = λ r h. let z = (small r h).2 in
        word_in 4 r (omega arith) h
        ∙ word_4 ar ws (get_or ss s 0) 4 r (λ w. omega arith) (λ w. omega arith) (λ w. omega arith) (λ w. omega arith)
        ∙ ap (kids_at ar ws (get_or ss s 0)) (sym (zero-add r)) ∙ kids_node ar ws few_symbols (get_or ss s 0) t 0 r h start fits few ∙ (omega (arith, z));
  }
