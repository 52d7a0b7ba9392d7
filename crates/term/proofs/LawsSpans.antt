-- Stepping over subtrees, and the spans of words from one word on.
--   over_nil over_next over_out over_end        k subtrees, i of them stepped over
--   length_spans spans_drop spans_from          the spans from a word on
--   Fit over_le spans_fit                       a span ends within the words
--   write_start write_end write_fits write_next the loop that writes them, from the last one back
--   check_start check_next check_stop           the loop that compares them
use Prim.Native.Nat.{ℕ, zero, suc, ◌+◌, ◌-◌, ◌<◌, ◌≤◌}
use mathlib.Core.Path.{◌≡◌, refl, ap, ap₂, sym, ◌∙◌}
use mathlib.Core.List.{List, [], ◌∷◌}
use mathlib.Core.Bool.{false}
use native.Mathlib.Omega.{arith}
use native.Mathlib.Nat.{add-zero, zero-add}
use native.Mathlib.Numerals.{add-one}
use lib.ListN.{length, get_or, take, drop, set, length-drop}
use lib.Seq.{sets, drop-drop, get_or-drop}
use Rattle.kinds.specs.Lists.{same}
use Rattle.kinds.proofs.ListLaws.{from, from_end, set_before, run_back, same_not}
use Rattle.term.specs.Spans.{over, spans_of}

pub over_nil : (k : ℕ) → over k [] ≡ 0
unfolding over
over_nil zero = refl
over_nil (suc k) = zero-add (over k []) ∙ over_nil k

-- k subtrees from `here` on, i of them stepped over
module _ (s : List ℕ) (k i here : ℕ) where
  pub over_next : i < k → here + over (k - i) (drop here s) ≡ here + get_or s here 0 + over (k - (i + 1)) (drop (here + get_or s here 0) s)
  unfolding over
  over_next h =
      let e : k - i ≡ suc (k - (i + 1)) = omega arith in
      let g : get_or (drop here s) 0 0 ≡ get_or s here 0 = get_or-drop here s 0 0 ∙ ap (λ (n : ℕ). get_or s n 0) (add-zero here) in
      rw (e, g, drop-drop) (omega arith)

  pub over_out : length s ≤ here → here + over (k - i) (drop here s) ≡ here
  over_out h = rw (from_end s here h, over_nil (k - i)) (add-zero here)

  pub over_end : k ≤ i → here + over (k - i) (drop here s) ≡ here
  unfolding over
  over_end h = let e : k - i ≡ 0 = omega arith in rw e (add-zero here)

pub length_spans : (ar ws : List ℕ) → length (spans_of ar ws) ≡ length ws
unfolding spans_of
length_spans ar [] = refl
length_spans ar (w ∷ ws) = ap suc (length_spans ar ws)

-- the spans from word i on
pub spans_drop : (ar ws : List ℕ) (i : ℕ) → spans_of ar (drop i ws) ≡ drop i (spans_of ar ws)
unfolding spans_of
spans_drop ar ws zero = refl
spans_drop ar [] (suc i) = refl
spans_drop ar (w ∷ ws) (suc i) = spans_drop ar ws i

pub spans_from : (ar ws : List ℕ) (i : ℕ) → i < length ws
    → spans_of ar (drop i ws) ≡ suc (over (get_or ar (get_or ws i 0) 0) (spans_of ar (drop (i + 1) ws))) ∷ spans_of ar (drop (i + 1) ws)
unfolding spans_of
spans_from ar ws i h = ap (spans_of ar) (from ws i h)

-- ---- a span ends within the words

pub data Fit : List ℕ → Type 0 where
  fit_nil : Fit []
  fit_cons : {x : ℕ} {r : List ℕ} → x ≤ suc (length r) → Fit r → Fit (x ∷ r)

fit_drop : (n : ℕ) {r : List ℕ} → Fit r → Fit (drop n r)
fit_drop zero f = f
fit_drop (suc n) fit_nil = fit_nil
fit_drop (suc n) (fit_cons h f) = fit_drop n f

pub over_le : (k : ℕ) {r : List ℕ} → Fit r → over k r ≤ length r
unfolding over
over_le zero f = omega arith
over_le (suc k) fit_nil = let ih = over_le k fit_nil in omega arith
over_le (suc k) (fit_cons {x} {r} h f) =
    let ih = over_le k (fit_drop x (fit_cons h f)) in
    omega (arith, length-drop x (x ∷ r))

pub spans_fit : (ar ws : List ℕ) → Fit (spans_of ar ws)
unfolding spans_of
spans_fit ar [] = fit_nil
spans_fit ar (w ∷ ws) = let f = spans_fit ar ws in
    fit_cons {x = suc (over (get_or ar w 0) (spans_of ar ws))} {r = spans_of ar ws} (omega (arith, over_le (get_or ar w 0) f)) f

-- ---- one turn of the loop that writes them

module _ (ar ws s : List ℕ) (i e : ℕ) (inside : i < length ws) (room : length ws ≤ length s) where
  -- k and m as the code has them
  pub write_end : (now : List ℕ) (k m : ℕ) → k ≡ get_or ar (get_or ws i 0) 0 → m ≡ length ws → now ≡ sets s (i + 1) (spans_of ar (drop (i + 1) ws))
      → e ≡ i + 1 + over k (drop (i + 1) (take m now)) → e ≡ i + 1 + over (get_or ar (get_or ws i 0) 0) (spans_of ar (drop (i + 1) ws))
  write_end now k m ek em en h =
      let b = run_back s (i + 1) (length ws) (spans_of ar (drop (i + 1) ws)) (omega (arith, length_spans ar (drop (i + 1) ws), length-drop (i + 1) ws))
      room in
      h
      ∙ ap₂ (λ (x y : ℕ). i + 1 + over x (drop (i + 1) (take y now))) ek em
      ∙ ap (λ (x : List ℕ). i + 1 + over (get_or ar (get_or ws i 0) 0) x) (ap (λ (x : List ℕ). drop (i + 1) (take (length ws) x)) en ∙ b)

  pub write_fits : e ≡ i + 1 + over (get_or ar (get_or ws i 0) 0) (spans_of ar (drop (i + 1) ws)) → e ≤ length ws
  write_fits h = omega (
    arith,
    over_le (get_or ar (get_or ws i 0) 0) (spans_fit ar (drop (i + 1) ws)),
    length_spans ar (drop (i + 1) ws),
    length-drop
        (i + 1) ws,
  )

  pub write_next : (now : List ℕ) → now ≡ sets s (i + 1) (spans_of ar (drop (i + 1) ws))
      → e ≡ i + 1 + over (get_or ar (get_or ws i 0) 0) (spans_of ar (drop (i + 1) ws))
      → set now i (e - i) ≡ sets s i (spans_of ar (drop i ws))
  write_next now en h =
      let v : e - i ≡ suc (over (get_or ar (get_or ws i 0) 0) (spans_of ar (drop (i + 1) ws))) = omega arith in
      ap (λ (x : List ℕ). set x i (e - i)) en
      ∙ set_before s i (i + 1) (e - i) (spans_of ar (drop (i + 1) ws)) (omega arith)
      ∙ ap₂ (λ (x y : ℕ). sets (set s i x) y (spans_of ar (drop (i + 1) ws))) v (add-one i)
      ∙ sym (ap (sets s i) (spans_from ar ws i inside))

-- ---- one turn of the loop that compares them

module _ (ar ws sp : List ℕ) (i e : ℕ) (inside : i < length ws) (as_long : length sp ≡ length ws)
    (rest : drop (i + 1) sp ≡ spans_of ar (drop (i + 1) ws)) (k : ℕ) (ek : k ≡ get_or ar (get_or ws i 0) 0) (ie : e ≡ i + 1 + over k (drop (i + 1) sp))
  where
    is : e ≡ i + 1 + over (get_or ar (get_or ws i 0) 0) (drop (i + 1) sp)
    is = ie ∙ ap (λ (x : ℕ). i + 1 + over x (drop (i + 1) sp)) ek

    pub check_next : get_or sp i 0 ≡ e - i → drop i sp ≡ spans_of ar (drop i ws)
    check_next h =
        let is' = is in
        let v : get_or sp i 0 ≡ suc (over (get_or ar (get_or ws i 0) 0) (drop (i + 1) sp)) = omega arith in
        from sp i (omega arith) ∙ ap₂ (λ (x : ℕ) (l : List ℕ). x ∷ l) (v ∙ ap (λ (l : List ℕ). suc (over (get_or ar (get_or ws i 0) 0) l)) rest) rest
        ∙ sym (spans_from ar ws i inside)

    pub check_stop : (get_or sp i 0 ≡ e - i → ⊥) → same sp (spans_of ar ws) ≡ false
    check_stop h = same_not sp (spans_of ar ws) λ q. h (bad q)
      where
        bad : sp ≡ spans_of ar ws → get_or sp i 0 ≡ e - i
        bad q =
            let is' = is in
            let d : drop i sp ≡ spans_of ar (drop i ws) = ap (drop i) q ∙ sym (spans_drop ar ws i) in
            let f : get_or (drop i sp) 0 0 ≡ suc (over (get_or ar (get_or ws i 0) 0) (spans_of ar (drop (i + 1) ws))) =
            ap (λ (l : List ℕ). get_or l 0 0) (d ∙ spans_from ar ws i inside) in
            let g : get_or (drop i sp) 0 0 ≡ get_or sp i 0 = get_or-drop i sp 0 0 ∙ ap (λ (n : ℕ). get_or sp n 0) (add-zero i) in
            let r : over (get_or ar (get_or ws i 0) 0) (drop (i + 1) sp) ≡ over (get_or ar (get_or ws i 0) 0) (spans_of ar (drop (i + 1) ws)) =
            ap (over (get_or ar (get_or ws i 0) 0)) rest in
            omega arith

-- before the first turn nothing is written
pub write_start : (ar ws s : List ℕ) → s ≡ sets s (length ws) (spans_of ar (drop (length ws) ws))
unfolding spans_of
write_start ar ws s = sym (ap (λ (x : List ℕ). sets s (length ws) (spans_of ar x)) (from_end ws (length ws) (omega arith)))

pub check_start : (ar ws sp : List ℕ) → length sp ≡ length ws → drop (length ws) sp ≡ spans_of ar (drop (length ws) ws)
unfolding spans_of
check_start ar ws sp h = from_end sp (length ws) (omega arith) ∙ sym (ap (spans_of ar) (from_end ws (length ws) (omega arith)))
