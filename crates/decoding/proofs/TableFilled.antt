-- What fill_tables wrote, read word by word.
use mathlib.Core.Path.{◌≡◌, refl, ap, sym, ◌∙◌}
use mathlib.Core.List.{List}
use Prim.Native.Nat.{ℕ, zero, suc, ◌+◌, ◌≤◌, ◌<◌}
use native.Mathlib.Omega.{arith}
use native.Mathlib.Nat.{add-zero, zero-add}
use lib.ListN.{length, get_or, drop, get_or-append}
use lib.Seq.{sets, sets-eq}
use Rattle.tables.specs.ShapeTables.{entry_w, entries_from}

module _ (ar ws ss : List ℕ) where
  entries_length : (n k : ℕ) → length (entries_from ar ws ss k n) ≡ n
  unfolding entries_from
  entries_length zero k = refl
  entries_length (suc n) k = ap suc (entries_length n (k + 1))

  entries_at : (n k i : ℕ) → i < n → get_or (entries_from ar ws ss k n) i 0 ≡ entry_w ar ws ss (k + i)
  unfolding entries_from
  entries_at zero k i h = absurd (omega arith)
  entries_at (suc n) k zero h = ap (entry_w ar ws ss) (sym (add-zero k))
  entries_at (suc n) k (suc i) h =
      let e : k + 1 + i ≡ k + suc i = omega arith in entries_at n (k + 1) i (omega arith) ∙ ap (entry_w ar ws ss) e

  front : (l vs : List ℕ) (k : ℕ) → length vs ≤ length l → k < length vs → get_or (sets l 0 vs) k 0 ≡ get_or vs k 0
  front l vs k h i = ap (λ xs. get_or xs k 0) (sets-eq vs l 0 (omega arith)) ∙ get_or-append vs (drop (0 + length vs) l) 0 k i

  pub filled_is : (l : List ℕ) (n k : ℕ) → n ≤ length l → k < n → get_or (sets l 0 (entries_from ar ws ss 0 n)) k 0 ≡ entry_w ar ws ss k
  filled_is l n k h i =
      let e = entries_length n 0 in
      front l (entries_from ar ws ss 0 n) k (omega (arith, e, h)) (omega (arith, e, i))
      ∙ entries_at n 0 k i
      ∙ ap (entry_w ar ws ss) (zero-add k)
