-- Storing into a square, and a row filled from a test.
use Prim.Native.Nat.{ℕ, ◌+◌, ◌<◌}
use mathlib.Core.Path.{◌≡◌, ap, ◌∙◌}
use mathlib.Core.List.{[]}
use mathlib.Core.Bool.{Bool, false}
use native.Mathlib.Omega.{arith}
use native.Mathlib.Decide.{ℕ_discrete}
use lib.ListN.{length, get_or, set, length-set}
use lib.Seq.{get_or-set_same, get_or-set_other}
use Rattle.automaton.specs.Classes.{Square, cell}
use Rattle.classes.specs.Squares.{IsSquare, RowFilled, RowsFilled}

abbrev pub store : Square → ℕ → ℕ → Bool → Square
store d i j v = set d i (set (get_or d i []) j v)

module _ (d : Square) (i j : ℕ) (v : Bool) (hi : i < 96) (hj : j < 96) (sq : IsSquare 96 d) where
  pub store_same : cell (store d i j v) i j ≡ v
  store_same =
      ap (λ r. get_or r j false) (get_or-set_same d i (set (get_or d i []) j v) [] (rw sq.rows hi))
      ∙ get_or-set_same (get_or d i []) j v false (rw (sq.cols i hi) hj)

  pub store_other : (a b : ℕ) → (a ≡ i → b ≡ j → ⊥) → cell (store d i j v) a b ≡ cell d a b
  store_other a b ne = go (ℕ_discrete a i)
    where
      go : Dec (a ≡ i) → cell (store d i j v) a b ≡ cell d a b
      go (yes e) =
          rw e (ap (λ r. get_or r b false) (get_or-set_same d i (set (get_or d i []) j v) [] (rw sq.rows hi))
          ∙ get_or-set_other (get_or d i []) j b v false (λ z. ne e z))
      go (no n) = ap (λ r. get_or r b false) (get_or-set_other d i a (set (get_or d i []) j v) [] n)

  pub store_square : IsSquare 96 (store d i j v)
  store_square = record {
    rows = length-set d i (set (get_or d i []) j v) ∙ sq.rows;
    cols = λ a h. go a h (ℕ_discrete a i);
  }
    where
      go : (a : ℕ) → a < 96 → Dec (a ≡ i) → length (get_or (store d i j v) a []) ≡ 96
      go a h (yes e) =
          rw e (ap length (get_or-set_same d i (set (get_or d i []) j v) [] (rw sq.rows hi)) ∙ length-set (get_or d i []) j v ∙ sq.cols i hi)
      go a h (no n) = ap length (get_or-set_other d i a (set (get_or d i []) j v) [] n) ∙ sq.cols a h

pub row_more : (i : ℕ) (p : ℕ → Bool) (e d : Square) (j : ℕ) (v : Bool) → i < 96 → j < 96 → RowFilled i p e d j → v ≡ p j
    → RowFilled i p e (store d i j v) (j + 1)
row_more i p e d j v hi hj r w = record {
  square = store_square d i j v hi hj r.square;
  row = λ b h. go b h (ℕ_discrete b j);
  others = λ a b n. store_other d i j v hi hj r.square a b (λ z _. n z) ∙ r.others a b n;
}
  where
    go : (b : ℕ) → b < j + 1 → Dec (b ≡ j) → cell (store d i j v) i b ≡ p b
    go b h (yes z) = rw z (store_same d i j v hi hj r.square ∙ w)
    go b h (no n) = store_other d i j v hi hj r.square i b (λ _ z. n z) ∙ r.row b (omega (arith, n))

pub rows_more : (n : ℕ) (p : ℕ → ℕ → Bool) (d x : Square) (i : ℕ) → RowsFilled n p d i → RowFilled i (p i) d x n → RowsFilled n p x (i + 1)
rows_more n p d x i r f = record { square = f.square; rows = λ a b h g. go a b h g (ℕ_discrete a i) }
  where
    go : (a b : ℕ) → a < i + 1 → b < n → Dec (a ≡ i) → cell x a b ≡ p a b
    go a b h g (yes z) = rw z (f.row b g)
    go a b h g (no z) = f.others a b z ∙ r.rows a b (omega (arith, z)) g
