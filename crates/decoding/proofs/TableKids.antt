-- The masks of children, and the words, of the term that stands there.
use mathlib.Core.Path.{◌≡◌, ap, sym, ◌∙◌}
use mathlib.Core.List.{List, ◌++◌}
use Prim.Native.Nat.{ℕ, zero, suc, ◌+◌, ◌-◌, ◌*◌, ◌%◌, ◌^◌, ◌≤◌, ◌<◌}
use native.Mathlib.Omega.{arith}
use native.Mathlib.Nat.{add-zero, zero-mul}
use lib.Pow.{pow-add}
use native.Mathlib.Decide.{dec_lt}
use lib.ListN.{length, get_or, get_or-append}
use lib.Seq.{get_or-append-add}
use Rattle.term.specs.Terms.{Term, blank, node, Terms, tnil, tcons, span, spans, Fits, Fitss}
use Rattle.decoding.specs.Decoding.{roots, kid_masks, kid_maskss}
use Rattle.decoding.proofs.ShapeNodes.{length_kids}
use Rattle.tables.specs.ShapeTables.{kids_from, kids_at}
use Rattle.tables.proofs.TableLaws.{kids_there, kids_on, kids_off}
use Rattle.decoding.proofs.TableSeek.{Stands, Standss, span_is}
use Rattle.kinds.specs.Limits.{blank_word}

spread : (R n b c : ℕ) → (R * 2 ^ n + b) * 2 ^ c ≡ R * 2 ^ (c + n) + b * 2 ^ c
spread R n b c = rw (pow-add 2 c n) (ring R (2 ^ n) b (2 ^ c))
  where
    ring : (R P b Q : ℕ) → (R * P + b) * Q ≡ R * (Q * P) + b * Q
    ring R P b Q = omega arith

module _ (ar ws : List ℕ) (few_symbols : length ar ≤ blank_word) (st : ℕ) where
  pub kids_terms : (ts : Terms) (e k c m : ℕ) → e ≡ c + spans ts → spans ts ≤ k → Standss ws (st + c) ts → Fitss ar blank_word ts
      → spans ts ≤ 16 → m < 65536 → kids_from ar ws st e k c m ≡ (m + roots ts * 2 ^ c) % 65536
  kids_terms tnil e k c m x l s q b h = kids_there ar ws st e k c m (omega arith) ∙ rw (zero-mul (2 ^ c)) (omega arith)
  kids_terms (tcons (blank w) ts) e k c m x l s q b h =
      let n = span_is ar ws few_symbols (blank w) (st + c) s.0 q.0 (omega arith) in
      let z : st + c + 1 ≡ st + (c + 1) = omega arith in
      kids_off ar ws st e k c m (omega arith) (omega arith) (rw s.0 q.0)
      ∙ ap (λ u. kids_from ar ws st e (k - 1) (c + u) m) n
      ∙ kids_terms ts e (k - 1) (c + 1) m (omega arith) (omega arith) (rw z at s.1) q.1 (omega arith) h
      ∙ (let y = spread (roots ts) 1 0 c in omega (arith, y))
  kids_terms (tcons (node f us) ts) e k c m x l s q b h =
      let n = span_is ar ws few_symbols (node f us) (st + c) s.0 q.0 (omega arith) in
      let z : st + c + span (node f us) ≡ st + (c + span (node f us)) = omega arith in
      let a = q.0.0 in let d = s.0.0 in
      kids_on ar ws st e k c m (omega arith) (omega arith) (rw d a)
      ∙ ap (λ u. kids_from ar ws st e (k - 1) (c + u) ((m + 2 ^ c) % 65536)) n
      ∙ kids_terms ts e (k - 1) (c + span (node f us)) ((m + 2 ^ c) % 65536) (omega arith) (omega arith) (rw z at s.1) q.1
      (omega arith) (omega arith)
      ∙ (let y = spread (roots ts) (span (node f us)) 1 c in omega (arith, y))

  kids_here : (t : Term) (c : ℕ) → Stands ws (st + c) t → Fits ar blank_word t → span t ≤ 16
      → kids_at ar ws st c ≡ get_or (kid_masks c t) 0 0 % 65536
  kids_here (blank w) c s q b =
      let n = span_is ar ws few_symbols (blank w) (st + c) s q b in
      ap (λ u. kids_from ar ws st (c + u) 16 (c + 1) 0) n ∙ kids_there ar ws st (c + 1) 16 (c + 1) 0 (omega arith) ∙ omega arith
  kids_here (node f ts) c s q b =
      let n = span_is ar ws few_symbols (node f ts) (st + c) s q b in
      let z : st + c + 1 ≡ st + (c + 1) = omega arith in
      let e : c + 1 ≡ suc c = omega arith in
      ap (λ u. kids_from ar ws st (c + u) 16 (c + 1) 0) n
      ∙ kids_terms ts (c + span (node f ts)) 16 (c + 1) 0 (omega arith) (omega arith) (rw z at s.1) q.2 (omega arith) (omega arith)
      ∙ rw e (omega arith)

  mutual
    pub kids_node : (t : Term) (c r : ℕ) → r < span t → Stands ws (st + c) t → Fits ar blank_word t → span t ≤ 16
        → kids_at ar ws st (c + r) ≡ get_or (kid_masks c t) r 0 % 65536
    kids_node (blank w) c zero h s q b = ap (kids_at ar ws st) (add-zero c) ∙ kids_here (blank w) c s q b
    kids_node (blank w) c (suc r) h s q b = absurd (omega arith)
    kids_node (node f ts) c zero h s q b = ap (kids_at ar ws st) (add-zero c) ∙ kids_here (node f ts) c s q b
    kids_node (node f ts) c (suc r) h s q b =
        let z : st + c + 1 ≡ st + suc c = omega arith in
        let e : c + suc r ≡ suc c + r = omega arith in
        ap (kids_at ar ws st) e ∙ kids_nodes ts (suc c) r (omega arith) (rw z at s.1) q.2 (omega arith)

    pub kids_nodes : (ts : Terms) (c r : ℕ) → r < spans ts → Standss ws (st + c) ts → Fitss ar blank_word ts → spans ts ≤ 16
        → kids_at ar ws st (c + r) ≡ get_or (kid_maskss c ts) r 0 % 65536
    kids_nodes tnil c r h s q b = absurd (omega arith)
    kids_nodes (tcons t ts) c r h s q b =
        go (dec_lt r (span t)) (λ y. kids_node t c r y s.0 q.0 (omega arith))
        (λ y. let z : st + c + span t ≡ st + (c + span t) = omega arith in
        kids_nodes ts (c + span t) (r - span t) (omega arith) (rw z at s.1) q.1 (omega arith))
      where
        go : Dec (r < span t) → (r < span t → kids_at ar ws st (c + r) ≡ get_or (kid_masks c t) r 0 % 65536)
            → (span t ≤ r → kids_at ar ws st (c + span t + (r - span t)) ≡ get_or (kid_maskss (c + span t) ts) (r - span t) 0 % 65536)
            → kids_at ar ws st (c + r) ≡ get_or (kid_masks c t ++ kid_maskss (c + span t) ts) r 0 % 65536
        go (yes y) f g =
            f y ∙ ap (λ u. u % 65536) (sym (get_or-append (kid_masks c t) (kid_maskss (c + span t) ts) 0 r (rw (length_kids c t) y)))
        go (no y) f g =
            let e : c + r ≡ c + span t + (r - span t) = omega arith in
            let d : r ≡ span t + (r - span t) = omega arith in
            ap (kids_at ar ws st) e ∙ g (omega arith)
            ∙ ap (λ u. u % 65536)
            (sym (ap (λ u. get_or (kid_masks c t ++ kid_maskss (c + span t) ts) u 0) (d ∙ ap (λ u. u + (r - span t)) (sym (length_kids c t)))
            ∙ get_or-append-add (kid_masks c t) (kid_maskss (c + span t) ts) (r - span t) 0))
