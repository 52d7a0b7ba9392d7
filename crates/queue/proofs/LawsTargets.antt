-- Pairs of a number and a code, and what they lead to.
--   couple next_pair last_pair all_pairs         the pairs from a word on, as the code goes over them
--   all_head all_tail first_number first_room    a test of the first pair and of those behind it
--   all_wider                                    with a higher limit
--   fine_split fine_fail fine_small              all of them, and the targets
--   landed_length
--   marks_next marks_end, newly_next newly_end, items_next items_end   one at a time: marks, the bits newly set, and items
--   newly_most                                   no more bits than announcements
--   next_up end_up                               items close up
use mathlib.Core.Path.{◌≡◌, refl, ap, ap₂, sym, ◌∙◌}
use mathlib.Core.Bool.{Bool, true, false, ◌&&◌}
use mathlib.Core.List.{List, [], ◌∷◌, map}
use mathlib.Core.Option.{Option, none, some}
use mathlib.Core.Logic.{◌⊎◌, inl, inr, ⊎_elim}
use Prim.Native.Nat.{ℕ, zero, suc, ◌+◌, ◌-◌, ◌*◌, ◌/◌, ◌<◌, ◌≤◌}
use native.Mathlib.Omega.{arith}
use native.Mathlib.Numerals.{add-one}
use borrow.Author.Tests.{lt-ltb}
use lib.Dec.{ltb}
use lib.ListN.{length, get_or, take, drop, set, length-drop, get_or-map, drop_of_length-le}
use lib.Seq.{sets, drop-cons, drop-set-lt, get_or-take, get_or-drop, length-take-le}
use Rattle.std.proofs.lemmas.List.{length-map, drop_more}
use Rattle.std.specs.List.{list_all}
use Rattle.std.specs.Simd.{first_chunks}
use Rattle.kinds.specs.Lists.{or_else, all}
use Rattle.kinds.specs.Bits.{clear_bit, with_bit}
use Rattle.kinds.proofs.Bools.{and_l, and_r, both, and_false, false_true, ltb_is}
use Rattle.readers.specs.PlanParts.{pair_words}
use Rattle.queue.specs.Targets.{targets, put, marked, newly, below_room, fine, landed, closed_up}
use Rattle.readers.specs.BlockWords.{pair_list}

-- ---- the pairs of a plan, as the code goes over them
-- a pair of words
abbrev pub couple : List ℕ → ℕ × ℕ
couple c = (get_or c 0 0, get_or c 1 0)

couples : (n : ℕ) (zs ws : List ℕ) (b : ℕ) → ((k : ℕ) → k < 2 * n → get_or zs k 0 ≡ get_or ws (b + k) 0) → map couple (first_chunks 2 n zs) ≡ pair_list ws b n
unfolding pair_list
couples zero zs ws b same = refl
couples (suc n) zs ws b same =
    let e : b + 0 ≡ b = omega arith in
    let x : get_or (take 2 zs) 0 0 ≡ get_or ws b 0 = get_or-take 2 zs 0 0 (omega arith) ∙ same 0 (omega arith) ∙ ap (λ k. get_or ws k 0) e in
    let y : get_or (take 2 zs) 1 0 ≡ get_or ws (b + 1) 0 = get_or-take 2 zs 1 0 (omega arith) ∙ same 1 (omega arith) in
    ap₂ (λ p ps. p ∷ ps) (ap₂ (λ a c. (a, c)) x y) (couples n (drop 2 zs) ws (b + 2) (λ k h.
    let f : b + (2 + k) ≡ b + 2 + k = omega arith in
    get_or-drop 2 zs k 0 ∙ same (2 + k) (omega arith) ∙ ap (λ j. get_or ws j 0) f))

all_couples : (f : ℕ × ℕ → Bool) (ps : List (List ℕ)) → list_all (λ c. f (couple c)) ps ≡ all f (map couple ps)
all_couples f [] = refl
all_couples f (c ∷ ps) = ap (λ b. f (couple c) && b) (all_couples f ps)

-- so many pairs from b on, cut out and taken two words at a time
module _ (ws : List ℕ) (b n : ℕ) {ps : List (List ℕ)}
    (cut : ps ≡ first_chunks 2 (length (take (b + 2 * n - b) (drop b ws)) / 2) (take (b + 2 * n - b) (drop b ws))) (within : b + 2 * n ≤ length ws) where
  are : map couple ps ≡ pair_list ws b n
  are =
      let zs = take (b + 2 * n - b) (drop b ws) in
      let l : length zs ≡ 2 * n = length-take-le _ _ (omega (arith, length-drop b ws)) ∙ (omega arith) in
      let m : length zs / 2 ≡ n = omega (arith, l) in
      ap (map couple) cut ∙ ap (λ k. map couple (first_chunks 2 k zs)) m ∙ couples n zs ws b (λ k h. get_or-take _ (drop b ws) k 0 (omega arith) ∙ get_or-drop b ws k 0)

  pub next_pair : {i : ℕ} → i < length ps → drop i (pair_list ws b n) ≡ couple (get_or ps i []) ∷ drop (i + 1) (pair_list ws b n)
  next_pair {i} h =
      let m : length ps ≡ length (pair_list ws b n) = sym (length-map ps couple) ∙ ap length are in
      let x : get_or (pair_list ws b n) i (0, 0) ≡ couple (get_or ps i []) = ap (λ xs. get_or xs i (0, 0)) (sym are) ∙ get_or-map couple ps i [] in
      drop_more (pair_list ws b n) i (0, 0) (omega arith) ∙ ap (λ p. p ∷ drop (i + 1) (pair_list ws b n)) x

  pub all_pairs : (f : ℕ × ℕ → Bool) → list_all (λ c. f (couple c)) ps ≡ all f (pair_list ws b n)
  all_pairs f = all_couples f ps ∙ ap (all f) are

  pub last_pair : {i : ℕ} → length ps ≤ i → drop i (pair_list ws b n) ≡ []
  last_pair h =
      let m : length ps ≡ length (pair_list ws b n) = sym (length-map ps couple) ∙ ap length are in
      drop_of_length-le (pair_list ws b n) (omega arith)

-- what holds of all pairs, one at a time
module _ (f : ℕ × ℕ → Bool) {x : ℕ × ℕ} {xs ys : List (ℕ × ℕ)} (next : xs ≡ x ∷ ys) where
  pub all_head : all f xs ≡ true → f x ≡ true
  all_head e = and_l _ (rw next at e)

  pub all_tail : all f xs ≡ true → all f ys ≡ true
  all_tail e = and_r (f x) (rw next at e)

-- a pair that is fine
module _ (limit room : ℕ) (to : ℕ → Option ℕ) (x : ℕ × ℕ) where
  fine_number : fine limit room to x ≡ true → x.0 < limit
  unfolding fine
  fine_number e = ltb_is _ _ (and_l _ e)

  fine_room : fine limit room to x ≡ true → or_else (to x.1) 0 < room
  unfolding fine
  fine_room e = go (to x.1) (and_r (ltb x.0 limit) e)
    where
      go : (o : Option ℕ) → below_room room o ≡ true → or_else o 0 < room
      go (some y) h = ltb_is _ _ h
      go none h = false_true h

module _ (limit room : ℕ) (to : ℕ → Option ℕ) {x : ℕ × ℕ} {xs ys : List (ℕ × ℕ)} (next : xs ≡ x ∷ ys) where
  pub first_number : all (fine limit room to) xs ≡ true → x.0 < limit
  first_number e = fine_number limit room to x (all_head (fine limit room to) next e)

  pub first_room : all (fine limit room to) xs ≡ true → or_else (to x.1) 0 < room
  first_room e = fine_room limit room to x (all_head (fine limit room to) next e)

pub all_wider : (l l' room : ℕ) (to : ℕ → Option ℕ) (ps : List (ℕ × ℕ)) → l ≤ l' → all (fine l room to) ps ≡ true → all (fine l' room to) ps ≡ true
unfolding fine
all_wider l l' room to [] h e = refl
all_wider l l' room to (x ∷ xs) h e =
    let a : (ltb x.0 l && below_room room (to x.1)) ≡ true = and_l _ e in
    let n : x.0 < l = ltb_is _ _ (and_l _ a) in
    let n' : x.0 < l' = omega arith in
    both (both (lt-ltb _ _ n') (and_r (ltb x.0 l) a)) (all_wider l l' room to xs h (and_r (ltb x.0 l && below_room room (to x.1)) e))

-- ---- all of them, and the targets
pub fine_split : (l r : ℕ) (to : ℕ → Option ℕ) (ps : List (ℕ × ℕ)) → all (fine l r to) ps ≡ true → (targets l to ps ≡ some (landed to ps))
    × (all (λ x. ltb x.1 r) (landed to ps) ≡ true)
unfolding fine landed targets
fine_split l r to [] h = (refl, refl)
fine_split l r to (x ∷ xs) h =
    let a : (ltb x.0 l && below_room r (to x.1)) ≡ true = and_l _ h in
    go (to x.1) refl (and_l _ a) (and_r (ltb x.0 l) a) (fine_split l r to xs (and_r (ltb x.0 l && below_room r (to x.1)) h))
  where
    go : (o : Option ℕ) → to x.1 ≡ o → ltb x.0 l ≡ true → below_room r o ≡ true → (targets l to xs ≡ some (landed to xs))
        × (all (λ y. ltb y.1 r) (landed to xs) ≡ true)
        → (targets l to (x ∷ xs) ≡ some (landed to (x ∷ xs))) × (all (λ y. ltb y.1 r) (landed to (x ∷ xs)) ≡ true)
    go (some y) e n q ih = (rw (n, e, ih.0), rw (e, q, ih.1))
    go none e n q ih = false_true q

pub fine_fail : (l r : ℕ) (to : ℕ → Option ℕ) (ps : List (ℕ × ℕ)) → all (fine l r to) ps ≡ false
    → (targets l to ps ≡ none) ⊎ ((targets l to ps ≡ some (landed to ps)) × (all (λ x. ltb x.1 r) (landed to ps) ≡ false))
unfolding fine landed targets
fine_fail l r to [] h = false_true (sym h)
fine_fail l r to (x ∷ xs) h = go (ltb x.0 l) refl (to x.1) refl (all (fine l r to) xs) refl (fine_split l r to xs) (fine_fail l r to xs)
  where
    Fails : List (ℕ × ℕ) → Type 0
    Fails ps = (targets l to ps ≡ none) ⊎ ((targets l to ps ≡ some (landed to ps)) × (all (λ y. ltb y.1 r) (landed to ps) ≡ false))

    first : (y : ℕ) → ltb x.0 l ≡ true → to x.1 ≡ some y → all (fine l r to) xs ≡ true → ltb y r ≡ false
    first y n e q = let z : ((ltb x.0 l && below_room r (to x.1)) && all (fine l r to) xs) ≡ false = h in one (ltb y r) (rw (n, e, q) at z)
      where
        one : (b : Bool) → (b && true) ≡ false → b ≡ false
        one true k = k
        one false k = refl

    go : (n : Bool) → ltb x.0 l ≡ n → (o : Option ℕ) → to x.1 ≡ o → (b : Bool) → all (fine l r to) xs ≡ b
        → (all (fine l r to) xs ≡ true → (targets l to xs ≡ some (landed to xs)) × (all (λ y. ltb y.1 r) (landed to xs) ≡ true))
        → (all (fine l r to) xs ≡ false → Fails xs) → Fails (x ∷ xs)
    go false n o e b q good bad = inl (rw n)
    go true n none e b q good bad = inl (rw (n, e))
    go true n (some y) e true q good bad = inr (rw (n, e, (good q).0), rw (e, first y n e q))
    go true n (some y) e false q good bad = ⊎_elim
        (λ (t : targets l to xs ≡ none). inl (rw (n, e, t)))
        (λ (t : (targets l to xs ≡ some (landed to xs)) × (all (λ z. ltb z.1 r) (landed to xs) ≡ false)). inr
        (rw (n, e, t.0), rw e (and_false (ltb y r) t.1)))
        (bad q)

pub fine_small : (l : ℕ) (to : ℕ → Option ℕ) → ((c y : ℕ) → to c ≡ some y → y < 65536) → (ps : List (ℕ × ℕ)) → all (fine l 65536 to) ps ≡ false
    → targets l to ps ≡ none
unfolding fine targets
fine_small l to small [] h = false_true (sym h)
fine_small l to small (x ∷ xs) h = go (ltb x.0 l) refl (to x.1) refl (fine_small l to small xs)
  where
    go : (n : Bool) → ltb x.0 l ≡ n → (o : Option ℕ) → to x.1 ≡ o → (all (fine l 65536 to) xs ≡ false → targets l to xs ≡ none)
        → targets l to (x ∷ xs) ≡ none
    go false n o e ih = rw n
    go true n none e ih = rw (n, e)
    go true n (some y) e ih =
        let s : ltb y 65536 ≡ true = lt-ltb _ _ (small x.1 y e) in
        let z : ((ltb x.0 l && below_room 65536 (to x.1)) && all (fine l 65536 to) xs) ≡ false = h in
        let q : all (fine l 65536 to) xs ≡ false = rw (n, e, s) at z in
        rw (n, e, ih q)

pub landed_length : (to : ℕ → Option ℕ) (ps : List (ℕ × ℕ)) → length (landed to ps) ≡ length ps
unfolding landed
landed_length to [] = refl
landed_length to (x ∷ ps) = ap suc (landed_length to ps)

pub newly_most : (xs : List (ℕ × ℕ)) (ms : List ℕ) → newly xs ms ≤ length xs
unfolding newly
newly_most [] ms = omega arith
newly_most (x ∷ xs) ms = let ih = newly_most xs (put x ms) in omega arith

-- ---- marks and items, one at a time
module _ (to : ℕ → Option ℕ) {p : ℕ × ℕ} {xs ys : List (ℕ × ℕ)} (next : xs ≡ p ∷ ys) where
  pub marks_next : (ms : List ℕ) (x v : ℕ) → x ≡ or_else (to p.1) 0 → v ≡ with_bit (get_or ms x 0) p.0
      → marked (landed to xs) ms ≡ marked (landed to ys) (set ms x v)
  unfolding marked landed
  marks_next ms x v ex ev = rw (next, ev, ex)

  -- of all bits newly set, some are counted
  pub newly_next : (ms : List ℕ) (x v all new c : ℕ) → all ≡ new + newly (landed to xs) ms → x ≡ or_else (to p.1) 0
      → c ≡ clear_bit (get_or ms x 0) p.0 → v ≡ with_bit (get_or ms x 0) p.0
      → all ≡ new + c + newly (landed to ys) (set ms x v)
  unfolding newly landed
  newly_next ms x v all new c e ex ec ev =
      let d : newly (landed to xs) ms ≡ c + newly (landed to ys) (set ms x v) = rw (next, ec, ev, ex) in
      omega (arith, e, d)

  pub items_next : (its : List ℕ) (e x there : ℕ) → x ≡ or_else (to p.1) 0 → there ≡ e + 2
      → sets its e (pair_words (landed to xs)) ≡ sets (set (set its e p.0) (e + 1) x) there (pair_words (landed to ys))
  unfolding landed
  items_next its e x there ex on =
      let e₁ : e + 1 ≡ suc e = omega arith in
      let e₂ : there ≡ suc (suc e) = omega arith in
      rw (next, e₁, e₂, ex)

-- none is left
module _ (to : ℕ → Option ℕ) {xs : List (ℕ × ℕ)} (none_left : xs ≡ []) where
  pub marks_end : (ms : List ℕ) → marked (landed to xs) ms ≡ ms
  unfolding marked landed
  marks_end ms = rw none_left

  pub newly_end : (ms : List ℕ) (all new : ℕ) → all ≡ new + newly (landed to xs) ms → new ≡ all
  unfolding newly landed
  newly_end ms all new e = let d : newly (landed to xs) ms ≡ 0 = rw none_left in omega (arith, e, d)

  pub items_end : (its : List ℕ) (e : ℕ) → sets its e (pair_words (landed to xs)) ≡ its
  unfolding landed
  items_end its e = rw none_left

module _ (xs : List ℕ) (k end : ℕ) where
  pub next_up : k + 2 < end → end ≤ length xs → closed_up xs k end ≡ closed_up (set xs k (get_or xs (k + 2) 0)) (k + 1) end
  next_up h fits =
      let x = get_or xs (k + 2) 0 in
      let n : end - (k + 2) ≡ suc (end - (k + 1 + 2)) = omega arith in
      let at : suc (k + 2) ≡ k + 1 + 2 = omega arith in
      ap₂ (λ (m : ℕ) (l : List ℕ). sets xs k (take m l)) n (drop-cons xs (k + 2) 0 (omega arith))
      ∙ ap₂ (λ (i : ℕ) (l : List ℕ). sets (set xs k x) i (take (end - (k + 1 + 2)) l)) (sym (add-one k))
      (sym (drop-set-lt (suc (k + 2)) xs k x (omega arith)) ∙ ap (λ (i : ℕ). drop i (set xs k x)) at)

  pub end_up : end ≤ k + 2 → closed_up xs k end ≡ xs
  end_up h = let n : end - (k + 2) ≡ 0 = omega arith in ap (λ (m : ℕ). sets xs k (take m (drop (k + 2) xs))) n
