-- How often a node is touched.
--   times times_append in_times times_in   how often a number stands in a list
--   more_is                                a count is above 1 exactly if the node is met more than once
--   touched_once                           one shape touches a node once
--   falls_inside                           where it stands, it touches nodes of the score
use Prim.Native.Nat.{ℕ, suc, ◌+◌, ◌<◌, ◌≤◌}
use mathlib.Core.Path.{◌≡◌, refl, sym, ◌∙◌}
use mathlib.Core.List.{List, [], ◌∷◌, ◌++◌}
use mathlib.Core.Bool.{true, cond}
use mathlib.Core.Logic.{⊎_elim}
use native.Mathlib.Omega.{arith}
use native.Mathlib.Nat.{add-zero, zero-add}
use native.Mathlib.Decide.{dec_lt, ℕ_discrete}
use lib.Dec.{eqb, ltb}
use lib.ListN.{length, get_or, set, length-set}
use lib.Seq.{get_or-set_same, get_or-set_other}
use borrow.Author.Tests.{eq-eqb, ne_eqb, lt-ltb, le-ltb}
use Rattle.kinds.specs.Members.{◌∈◌, here, there}
use Rattle.kinds.proofs.Bools.{and_l, and_r, false_true}
use Rattle.kinds.proofs.Members.{in_none, in_one, ∈_append}
use Rattle.matching.specs.Falling.{size, stands, falls, falling, touched}
use Rattle.matching.specs.Counts.{raise, raises}
use Rattle.matching.proofs.LawsFalling.{size_one, falling_some, falling_none, stands_out}

abbrev pub times : ℕ → List ℕ → ℕ
times y [] = 0
times y (x ∷ xs) = cond (eqb x y) 1 0 + times y xs

pub times_append : (y : ℕ) (xs ys : List ℕ) → times y (xs ++ ys) ≡ times y xs + times y ys
times_append y [] ys = sym (zero-add _)
times_append y (x ∷ xs) ys = rw (times_append y xs ys) (omega arith)

pub in_times : (y : ℕ) (xs : List ℕ) → y ∈ xs → 1 ≤ times y xs
in_times y (x ∷ xs) (here e) = rw (eq-eqb x y (sym e)) (omega arith)
in_times y (x ∷ xs) (there m) = let h = in_times y xs m in omega arith
in_times y [] x' = elim x' [ ]

pub times_in : (y : ℕ) (xs : List ℕ) → 1 ≤ times y xs → y ∈ xs
times_in y [] h = absurd (omega arith)
times_in y (x ∷ xs) h = go (ℕ_discrete x y) (λ l. times_in y xs l)
  where
    go : Dec (x ≡ y) → (1 ≤ times y xs → y ∈ xs) → y ∈ (x ∷ xs)
    go (yes e) ih = here (sym e)
    go (no e) ih = let l : 1 ≤ times y xs = let z = rw (ne_eqb x y e) at h in omega arith in there (ih l)

-- ---- counts
pub more_is : (xs cs : List ℕ) (y : ℕ) → y < length cs → ltb 1 (get_or (raises xs cs) y 0) ≡ ltb 1 (get_or cs y 0 + times y xs)
unfolding raises
more_is [] cs y h = rw add-zero
more_is (x ∷ xs) cs y h = more_is xs (set cs x (raise (get_or cs x 0))) y (rw (length-set cs x (raise (get_or cs x 0))) h) ∙ go (ℕ_discrete x y)
  where
    grown : (c k : ℕ) → ltb 1 (raise c + k) ≡ ltb 1 (c + (1 + k))
    grown c k = turn (dec_lt c 65535)
      where
        turn : Dec (c < 65535) → ltb 1 (raise c + k) ≡ ltb 1 (c + (1 + k))
        turn (yes l) = let z : suc c + k ≡ c + (1 + k) = omega arith in rw (lt-ltb c 65535 l, z)
        turn (no l) = rw (le-ltb c 65535 (omega arith), lt-ltb 1 (c + k) (omega arith), lt-ltb 1 (c + (1 + k)) (omega arith))

    go : Dec (x ≡ y) → ltb 1 (get_or (set cs x (raise (get_or cs x 0))) y 0 + times y xs) ≡ ltb 1 (get_or cs y 0 + (cond (eqb x y) 1 0 + times y xs))
    go (yes e) = rw (e, get_or-set_same cs y (raise (get_or cs y 0)) 0 h, eq-eqb y y refl) (grown (get_or cs y 0) (times y xs))
    go (no e) = rw (get_or-set_other cs x y (raise (get_or cs x 0)) 0 (λ q. e (sym q)), ne_eqb x y e, zero-add)

-- ---- what one shape touches
module _ (bl : ℕ) (spans : List ℕ) where
  touched_low : (ws : List ℕ) (x y : ℕ) → y < x → times y (touched bl spans ws x) ≡ 0
  unfolding touched
  touched_low [] x y h = refl
  touched_low (w ∷ ws) x y h = times_append y (falling bl w x) _ ∙ go (dec_lt w bl) (touched_low ws (x + size bl spans w x) y (omega arith))
    where
      go : Dec (w < bl) → times y (touched bl spans ws (x + size bl spans w x)) ≡ 0
          → times y (falling bl w x) + times y (touched bl spans ws (x + size bl spans w x)) ≡ 0
      go (yes l) rest = rw (falling_some bl w x l, ne_eqb x y (λ e. omega arith), rest)
      go (no l) rest = rw (falling_none bl w x (omega arith), rest)

  pub touched_once : (ws : List ℕ) (x y : ℕ) → times y (touched bl spans ws x) ≤ 1
  unfolding touched
  touched_once [] x y = omega arith
  touched_once (w ∷ ws) x y = rw (times_append y (falling bl w x) (touched bl spans ws (x + size bl spans w x)))
      (go (dec_lt w bl) (ℕ_discrete x y) (touched_once ws (x + size bl spans w x) y))
    where
      go : Dec (w < bl) → Dec (x ≡ y) → times y (touched bl spans ws (x + size bl spans w x)) ≤ 1
          → times y (falling bl w x) + times y (touched bl spans ws (x + size bl spans w x)) ≤ 1
      go (yes l) (yes e) ih = let s = size_one bl spans w x l in let z = touched_low ws (x + size bl spans w x) y (omega arith) in rw
          (falling_some bl w x l, eq-eqb x y e, z) (omega arith)
      go (yes l) (no e) ih = rw (falling_some bl w x l, ne_eqb x y e) (omega arith)
      go (no l) e ih = rw (falling_none bl w x (omega arith)) (omega arith)

  pub falls_inside : (score ws : List ℕ) (x y : ℕ) → falls bl score spans ws x ≡ true → y ∈ touched bl spans ws x → y < length score
  unfolding falls touched
  falls_inside score [] x y e m = in_none m
  falls_inside score (w ∷ ws) x y e m = ⊎_elim (λ i. go (dec_lt w bl) (dec_lt x (length score)) i)
      (λ i. falls_inside score ws (x + size bl spans w x) y (and_r (stands bl score w x) e) i) (∈_append (falling bl w x) m)
    where
      go : Dec (w < bl) → Dec (x < length score) → y ∈ falling bl w x → y < length score
      go (yes l) (yes k) i = let q : y ≡ x = in_one (rw (falling_some bl w x l) at i) in omega arith
      go (yes l) (no k) i = false_true (sym (stands_out bl score w x l (omega arith)) ∙ and_l (falls bl score spans ws (x + size bl spans w x)) e)
      go (no l) k i = in_none (rw (falling_none bl w x (omega arith)) at i)
