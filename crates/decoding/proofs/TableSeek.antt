-- The tables' words are those of the term that stands there.
use mathlib.Core.Path.{◌≡◌, refl, ap, sym, ◌∙◌}
use mathlib.Core.List.{List, [], ◌∷◌, ◌++◌, map}
use mathlib.Core.Option.{some}
use Prim.Native.Nat.{ℕ, zero, suc, ◌+◌, ◌-◌, ◌*◌, ◌%◌, ◌≤◌, ◌<◌}
use native.Mathlib.Omega.{arith}
use native.Mathlib.Nat.{add-zero, zero-add}
use native.Mathlib.Decide.{dec_lt}
use lib.ListN.{length, get_or, get_elem?}
use Rattle.term.specs.Terms.{Term, blank, node, Terms, tnil, tcons, span, spans, count, Fits, Fitss}
use Rattle.kinds.specs.Positions.{Pos, code_from}
use Rattle.term.specs.Places.{dom, doms}
use Rattle.term.proofs.Subterms.{length_dom}
use Rattle.term.proofs.Sizes.{span_pos}
use Rattle.tables.specs.ShapeTables.{word_at, span_from, span_at, seek_from}
use Rattle.tables.proofs.TableLaws.{span_none, span_next, seek_there, seek_down, seek_on}
use Rattle.kinds.specs.Limits.{blank_word}

-- the term's words stand from `at` on
abbrev mutual
  pub Stands : List ℕ → ℕ → Term → Type 0
  Stands ws at (blank w) = word_at ws at ≡ w
  Stands ws at (node f ts) = (word_at ws at ≡ f) × Standss ws (at + 1) ts

  pub Standss : List ℕ → ℕ → Terms → Type 0
  Standss ws at tnil = Unit {0}
  Standss ws at (tcons t ts) = Stands ws at t × Standss ws (at + span t) ts

get_d_some : (xs : List ℕ) (i n : ℕ) → get_elem? xs i ≡ some n → get_or xs i 0 ≡ n
get_d_some [] i n e = let z : ◌≡◌ {A = ℕ} 0 1 = cc in absurd (omega arith)
get_d_some (x ∷ xs) zero n e = cc
get_d_some (x ∷ xs) (suc i) n e = get_d_some xs i n e

get_d_none : (xs : List ℕ) (i : ℕ) → length xs ≤ i → get_or xs i 0 ≡ 0
get_d_none [] i h = refl
get_d_none (x ∷ xs) zero h = absurd (omega arith)
get_d_none (x ∷ xs) (suc i) h = get_d_none xs i (omega arith)

module _ (ar ws : List ℕ) (few_symbols : length ar ≤ blank_word) where
  mutual
    -- reading along a term
    pub span_of : (t : Term) (j at need : ℕ) → Stands ws at t → Fits ar blank_word t
        → span_from ar ws (span t + j) at (suc need) ≡ span t + span_from ar ws j (at + span t) need
    span_of (blank w) j at need s f =
        let a : 1 + j - 1 ≡ j = omega arith in
        let b : suc need - 1 + get_or ar (word_at ws at) 0 ≡ need = rw (s, get_d_none ar w (omega arith)) (omega arith) in
        span_next ar ws (1 + j) at (suc need) (omega arith) (λ z. omega arith) ∙ rw (a, b) (omega arith)
    span_of (node f ts) j at need s k =
        let a : suc (spans ts) + j - 1 ≡ spans ts + j = omega arith in
        let b : suc need - 1 + get_or ar (word_at ws at) 0 ≡ count ts + need = rw (s.0, get_d_some ar f (count ts) k.1) (omega arith) in
        let c : at + 1 + spans ts ≡ at + suc (spans ts) = omega arith in
        let i = spans_of_lem ts j (at + 1) need s.1 k.2 in
        span_next ar ws (suc (spans ts) + j) at (suc need) (omega arith) (λ z. omega arith) ∙ rw (a, b, i, c) (omega arith)

    pub spans_of_lem : (ts : Terms) (j at need : ℕ) → Standss ws at ts → Fitss ar blank_word ts
        → span_from ar ws (spans ts + j) at (count ts + need) ≡ spans ts + span_from ar ws j (at + spans ts) need
    spans_of_lem tnil j at need s k = rw (zero-add j, zero-add need, add-zero at) (omega arith)
    spans_of_lem (tcons t ts) j at need s k =
        let a : span t + spans ts + j ≡ span t + (spans ts + j) = omega arith in
        let b : suc (count ts) + need ≡ suc (count ts + need) = omega arith in
        let c : at + span t + spans ts ≡ at + (span t + spans ts) = omega arith in
        let e = span_of t (spans ts + j) at (count ts + need) s.0 k.0 in
        let i = spans_of_lem ts j (at + span t) need s.1 k.1 in
        rw (a, b, e, i, c) (omega arith)

  pub span_is : (t : Term) (at : ℕ) → Stands ws at t → Fits ar blank_word t → span t ≤ 16 → span_at ar ws at ≡ span t
  span_is t at s k l =
      let a : 16 ≡ span t + (16 - span t) = omega arith in
      ap (λ z. span_from ar ws z at 1) a
      ∙ span_of t (16 - span t) at 0 s k
      ∙ (let z = span_none ar ws (16 - span t) (at + span t) 0 refl in omega (arith, z))

-- v along a position: five times it and `one` for each child number
abbrev pub val : ℕ → ℕ → Pos → ℕ
val one v [] = v
val one v (i ∷ p) = val one ((5 * v + i * one) % 65536) p

at_first : (i : ℕ) (ps qs : List Pos) (d : ℕ) → d < length ps → get_or (map (λ p. i ∷ p) ps ++ qs) d [] ≡ i ∷ get_or ps d []
at_first i [] qs d h = absurd (omega arith)
at_first i (p ∷ ps) qs zero h = refl
at_first i (p ∷ ps) qs (suc d) h = at_first i ps qs d (omega arith)

at_rest : (i : ℕ) (ps qs : List Pos) (d e : ℕ) → e ≡ length ps + d → get_or (map (λ p. i ∷ p) ps ++ qs) e [] ≡ get_or qs d []
at_rest i [] qs d e h = let z : e ≡ d = omega arith in rw z refl
at_rest i (p ∷ ps) qs d zero h = absurd (omega arith)
at_rest i (p ∷ ps) qs d (suc e) h = at_rest i ps qs d e (omega arith)

step_on : (v i one w : ℕ) → w ≡ (5 * v + i * one) % 65536 → (w + one) % 65536 ≡ (5 * v + suc i * one) % 65536
step_on v i one w e = let z : suc i * one ≡ i * one + one = omega arith in rw z (omega arith)

module _ (ar ws : List ℕ) (few_symbols : length ar ≤ blank_word) (st r one : ℕ) where
  mutual
    pub seek_term : (t : Term) (k c v d : ℕ) → r ≡ c + d → d < span t → d ≤ k → Stands ws (st + c) t → Fits ar blank_word t → span t ≤ 16
        → seek_from ar ws st r one k c v ≡ val one v (get_or (dom t) d [])
    seek_term (blank w) k c v zero e h l s q b = seek_there ar ws st r one k c v (omega arith)
    seek_term (blank w) k c v (suc d) e h l s q b = absurd (omega arith)
    seek_term (node f ts) k c v zero e h l s q b = seek_there ar ws st r one k c v (omega arith)
    seek_term (node f ts) k c v (suc d) e h l s q b =
        let n = span_is ar ws few_symbols (node f ts) (st + c) s q b in
        let z : st + c + 1 ≡ st + (c + 1) = omega arith in
        let o : 1 * one ≡ one = omega arith in
        seek_down ar ws st r one k c v (omega arith) (omega arith) (omega (arith, n, h, e))
        ∙ seek_terms ts 1 (k - 1) (c + 1) v ((5 * v + one) % 65536) d (omega arith) (omega arith) (omega arith) (rw z at s.1) q.2
        (omega arith) (rw o refl)

    pub seek_terms : (ts : Terms) (i k c v w d : ℕ) → r ≡ c + d → d < spans ts → d ≤ k → Standss ws (st + c) ts → Fitss ar blank_word ts
        → spans ts ≤ 16 → w ≡ (5 * v + i * one) % 65536 → seek_from ar ws st r one k c w ≡ val one v (get_or (doms ts i) d [])
    seek_terms tnil i k c v w d e h l s q b x = absurd (omega arith)
    seek_terms (tcons t ts) i k c v w d e h l s q b x =
        go (dec_lt d (span t)) (λ y. seek_term t k c w d e y l s.0 q.0 (omega arith))
        (λ y. let n = span_pos t in let z : st + c + span t ≡ st + (c + span t) = omega arith in
        seek_terms ts (suc i) (k - 1) (c + span t) v ((w + one) % 65536) (d - span t) (omega arith) (omega arith) (omega arith)
        (rw z at s.1) q.1 (omega arith) (step_on v i one w x))
      where
        go : Dec (d < span t) → (d < span t → seek_from ar ws st r one k c w ≡ val one w (get_or (dom t) d []))
            → (span t ≤ d → seek_from ar ws st r one (k - 1) (c + span t) ((w + one) % 65536) ≡ val one v (get_or (doms ts (suc i)) (d - span t) []))
            → seek_from ar ws st r one k c w ≡ val one v (get_or (map (λ p. i ∷ p) (dom t) ++ doms ts (suc i)) d [])
        go (yes y) f g =
            f y
            ∙ ap (λ u. val one u (get_or (dom t) d [])) x
            ∙ ap (val one v) (sym (at_first i (dom t) (doms ts (suc i)) d (rw (length_dom t) y)))
        go (no y) f g =
            let n = span_is ar ws few_symbols t (st + c) s.0 q.0 (omega arith) in
            let p = span_pos t in
            seek_on ar ws st r one k c w (omega arith) (omega arith) (omega (arith, n, y, e))
            ∙ ap (λ u. seek_from ar ws st r one (k - 1) (c + u) ((w + one) % 65536)) n
            ∙ g (omega arith)
            ∙ ap (val one v) (sym (at_rest i (dom t) (doms ts (suc i)) (d - span t) d (rw (length_dom t) (omega arith))))

code_over : (p : Pos) (c : ℕ) → c ≤ code_from c p
code_over [] c = omega arith
code_over (i ∷ p) c = let z = code_over p (5 * c + i) in omega arith

small_mod : (x : ℕ) → x < 65536 → x % 65536 ≡ x
small_mod x h = omega arith

pub val_code : (p : Pos) (v : ℕ) → code_from v p < 65536 → val 1 v p ≡ code_from v p
val_code [] v h = refl
val_code (i ∷ p) v h =
    let z = code_over p (5 * v + i) in
    let o : i * 1 ≡ i = omega arith in
    rw (o, small_mod (5 * v + i) (omega arith)) (val_code p (5 * v + i) h)
