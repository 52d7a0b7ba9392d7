-- Each way through the digits of a number.
--   Done digits_none digits_single digits_more   written: none, one, more
--   digits_few                                   at most as many as are asked for
use Prim.Native.Nat.{ℕ, zero, suc, ◌+◌, ◌-◌, ◌/◌, ◌%◌, ◌<◌, ◌≤◌}
use mathlib.Core.Path.{◌≡◌, refl, ap, ap₂, sym, ◌∙◌}
use mathlib.Core.List.{List, [], ◌∷◌, ◌++◌}
use native.Mathlib.Omega.{arith}
use native.Mathlib.Nat.{add-zero}
use native.Mathlib.Decide.{dec_lt}
use borrow.Author.Tests.{lt-ltb, le-ltb}
use lib.ListN.{length, set, length-append}
use lib.Seq.{sets}
use Rattle.kinds.proofs.ListLaws.{sets_append}
use Rattle.report.specs.Text.{digits_to}

abbrev pub Done : ℕ → ℕ → List ℕ → ℕ → ℕ → List ℕ → Type 0
Done n d o at r o' = (r ≡ at + length (digits_to d n)) × ((o' ≡ sets o at (digits_to d n)) × (r ≤ at + d))

pub digits_none : (n d : ℕ) (o : List ℕ) (at : ℕ) → d ≡ 0 → Done n d o at at o
unfolding digits_to
digits_none n d o at e = rw e (sym (add-zero at), (refl, omega arith))

pub digits_single : (n d : ℕ) (o : List ℕ) (at : ℕ) → (d ≡ 0 → ⊥) → n < 10 → Done n d o at (at + 1) (set o at (48 + n))
unfolding digits_to
digits_single n zero o at ne h = absurd (ne refl)
digits_single n (suc d) o at ne h = rw (lt-ltb n 10 h) (refl, (refl, omega arith))

pub digits_more : (n d : ℕ) (o : List ℕ) (at e : ℕ) (o' : List ℕ) → (d ≡ 0 → ⊥) → 10 ≤ n → Done (n / 10) (d - 1) o at e o'
    → Done n d o at (e + 1) (set o' e (48 + n % 10))
unfolding digits_to
digits_more n zero o at e o' ne h t = absurd (ne refl)
digits_more n (suc d) o at e o' ne h t =
    let q : suc d - 1 ≡ d = omega arith in
    let te : e ≡ at + length (digits_to d (n / 10)) = t.0 ∙ ap (λ (k : ℕ). at + length (digits_to k (n / 10))) q in
    let to : o' ≡ sets o at (digits_to d (n / 10)) = t.1.0 ∙ ap (λ (k : ℕ). sets o at (digits_to k (n / 10))) q in
    let l : length (digits_to d (n / 10) ++ ((48 + n % 10) ∷ [])) ≡ length (digits_to d (n / 10)) + 1 =
    length-append (digits_to d (n / 10)) ((48 + n % 10) ∷ []) in
    let few : e ≤ at + d = omega (arith, t.1.1) in
    rw (le-ltb n 10 h) (
      omega arith,
      (ap₂ (λ (x : List ℕ) (k : ℕ). set x k (48 + n % 10)) to te ∙ sym (sets_append o at (digits_to d (n / 10)) ((48 + n % 10) ∷ [])), omega arith),
    )

pub digits_few : (d n : ℕ) → length (digits_to d n) ≤ d
unfolding digits_to
digits_few zero n = omega arith
digits_few (suc d) n = go (dec_lt n 10) (digits_few d (n / 10))
  where
    go : Dec (n < 10) → length (digits_to d (n / 10)) ≤ d → length (digits_to (suc d) n) ≤ suc d
    go (yes h) ih = rw (lt-ltb n 10 h) (omega arith)
    go (no h) ih = rw (le-ltb n 10 (omega arith), length-append (digits_to d (n / 10)) ((48 + n % 10) ∷ [])) (omega arith)
