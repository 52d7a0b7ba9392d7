-- The elements that a mask selects.
use mathlib.Core.Path.{◌≡◌, refl, ap, sym, ◌∙◌}
use mathlib.Core.List.{List, [], ◌∷◌, ◌++◌, map}
use mathlib.Core.Bool.{Bool, true, false, cond, false≢true}
use Prim.Native.Nat.{ℕ, zero, suc, ◌+◌, ◌*◌, ◌/◌, ◌%◌, ◌^◌, ◌<◌}
use native.Mathlib.Omega.{arith}
use native.Mathlib.Nat.{pow-suc, div-one, div-div-eq-div-mul, pow-succ'}
use borrow.Author.Tests.{eq-eqb}
use lib.Dec.{eqb}
use lib.Bits.{block_half, block_odd}
use lib.ListN.{length, get_or}
use Rattle.kinds.specs.Members.{◌∈◌, here, there}
use Rattle.decoding.specs.Decoding.{select}

module _ {ℓ} {A : Type ℓ} where
  pub select_zero : (xs : List A) → select 0 xs ≡ []
  unfolding select
  select_zero [] = refl
  select_zero (x ∷ xs) = select_zero xs

  pub select_append : (xs ys : List A) (h low : ℕ) → low < 2 ^ length xs
      → select (h * 2 ^ length xs + low) (xs ++ ys) ≡ select low xs ++ select h ys
  unfolding select
  select_append [] ys h low l = let e : h * 1 + low ≡ h = omega arith in ap (λ m. select m ys) e
  select_append (x ∷ xs) ys h low l =
      rw (block_half h (length xs) low, block_odd h (length xs) low)
      (go (eqb (low % 2) 1) (select_append xs ys h (low / 2) (omega (arith, pow-suc 2 (length xs)))))
    where
      go : (b : Bool) → select (h * 2 ^ length xs + low / 2) (xs ++ ys) ≡ select (low / 2) xs ++ select h ys
          → cond b (x ∷ select (h * 2 ^ length xs + low / 2) (xs ++ ys)) (select (h * 2 ^ length xs + low / 2) (xs ++ ys)) ≡ cond b
          (x ∷ select (low / 2) xs) (select (low / 2) xs) ++ select h ys
      go true e = ap (λ zs. x ∷ zs) e
      go false e = e

  pub select_sub : (m : ℕ) (xs : List A) {y : A} → y ∈ select m xs → y ∈ xs
  unfolding select
  select_sub m [] {y = y} i = elim i [ ]
  select_sub m (x ∷ xs) {y} i = go (eqb (m % 2) 1) i (λ j. select_sub (m / 2) xs j)
    where
      go : (b : Bool) → y ∈ cond b (x ∷ select (m / 2) xs) (select (m / 2) xs) → (y ∈ select (m / 2) xs → y ∈ xs) → y ∈ (x ∷ xs)
      go true (here e) k = here e
      go true (there j) k = there (k j)
      go false j k = there (k j)

  -- an element whose bit is set
  pub select_at : (m i : ℕ) (xs : List A) (d : A) → i < length xs → m / 2 ^ i % 2 ≡ 1 → get_or xs i d ∈ select m xs
  unfolding select
  select_at m i [] d h b = absurd (omega arith)
  select_at m zero (x ∷ xs) d h b = rw (eq-eqb (m % 2) 1 (ap (λ k. k % 2) (sym (div-one m)) ∙ b)) (here refl)
  select_at m (suc i) (x ∷ xs) d h b =
      let e : m / 2 / 2 ^ i % 2 ≡ 1 = ap (λ k. k % 2) (div-div-eq-div-mul m 2 (2 ^ i) ∙ ap (λ k. m / k) (sym (pow-succ' 2 i))) ∙ b in
      go (eqb (m % 2) 1) (select_at (m / 2) i xs d (omega arith) e)
    where
      go : (t : Bool) → get_or xs i d ∈ select (m / 2) xs → get_or xs i d ∈ cond t (x ∷ select (m / 2) xs) (select (m / 2) xs)
      go true j = there j
      go false j = j

  -- nothing selected, no bit set
  pub select_none : (m : ℕ) (xs : List A) → m < 2 ^ length xs → select m xs ≡ [] → m ≡ 0
  unfolding select
  select_none m [] h e = omega arith
  select_none m (x ∷ xs) h e = go (eqb (m % 2) 1) refl e (λ i. select_none (m / 2) xs (omega (arith, pow-suc 2 (length xs))) i)
    where
      go : (b : Bool) → eqb (m % 2) 1 ≡ b → cond b (x ∷ select (m / 2) xs) (select (m / 2) xs) ≡ [] → (select (m / 2) xs ≡ [] → m / 2 ≡ 0)
          → m ≡ 0
      go true t i k = let z : ◌≡◌ {A = ℕ} 0 1 = cc in absurd (omega arith)
      go false t i k = let n : m % 2 ≡ 1 → ⊥ = λ o. false≢true (sym t ∙ eq-eqb _ _ o) in let z = k i in omega (arith, n)

module _ {ℓ κ} {A : Type ℓ} {B : Type κ} (f : A → B) where
  pub select_map : (m : ℕ) (xs : List A) → select m (map f xs) ≡ map f (select m xs)
  unfolding select
  select_map m [] = refl
  select_map m (x ∷ xs) = go (eqb (m % 2) 1) (select_map (m / 2) xs)
    where
      go : (b : Bool) → select (m / 2) (map f xs) ≡ map f (select (m / 2) xs)
          → cond b (f x ∷ select (m / 2) (map f xs)) (select (m / 2) (map f xs)) ≡ map f (cond b (x ∷ select (m / 2) xs) (select (m / 2) xs))
      go true e = ap (λ zs. f x ∷ zs) e
      go false e = e
