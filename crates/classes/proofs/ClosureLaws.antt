-- A store into a square, growth, and the step of Warshall's closure.
--   put put_…                 a yes stored
--   grown_…                   growth, one after the other
--   Row row_…                 row i joined with row k, column by column
--   rows_more closed_…        row by row, and third by third
--   filled_closes             filled from a test and then closed
use Prim.Native.Nat.{ℕ, ◌+◌, ◌<◌, ◌≤◌}
use mathlib.Core.Path.{◌≡◌, refl, ap, sym, ◌∙◌}
use mathlib.Core.List.{List, []}
use mathlib.Core.Bool.{Bool, true, false}
use mathlib.Core.Logic.{◌⊎◌, inl, inr, ⊎_elim}
use native.Mathlib.Omega.{arith}
use borrow.Author.Count.{below_more}
use native.Mathlib.Decide.{ℕ_discrete}
use lib.ListN.{length, replicate, get_or-replicate}
use Rattle.kinds.specs.Chains.{Chain, one, via, Yes}
use Rattle.kinds.proofs.ChainLaws.{chain_bind, chain_step, chain_split, chain_within}
use Rattle.automaton.specs.Classes.{Square, cell}
use Rattle.classes.proofs.SquareLaws.{store, store_same, store_other, store_square}
use Rattle.classes.specs.Squares.{IsSquare, RowsFilled, Grown, RowJoined, RowsJoined, ClosedUpTo, Closes}

abbrev pub put : Square → ℕ → ℕ → Square
put d i j = store d i j true

module _ (d : Square) (i j : ℕ) (hi : i < 96) (hj : j < 96) (sq : IsSquare 96 d) where
  here? : (a b : ℕ) → ((a ≡ i) × (b ≡ j)) ⊎ (a ≡ i → b ≡ j → ⊥)
  here? a b = both (ℕ_discrete a i) (ℕ_discrete b j)
    where
      both : Dec (a ≡ i) → Dec (b ≡ j) → ((a ≡ i) × (b ≡ j)) ⊎ (a ≡ i → b ≡ j → ⊥)
      both (yes p) (yes q) = inl (p, q)
      both (yes p) (no q) = inr (λ _ z. q z)
      both (no p) y = inr (λ z _. p z)

  pub put_grows : (a b : ℕ) → cell d a b ≡ true → cell (put d i j) a b ≡ true
  put_grows a b h =
      ⊎_elim
      (λ w. ap (λ (x : ℕ). cell (put d i j) x b) w.0 ∙ ap (λ (x : ℕ). cell (put d i j) i x) w.1 ∙ store_same d i j true hi hj sq)
      (λ ne. store_other d i j true hi hj sq a b ne ∙ h)
      (here? a b)

  pub put_only : (p : ℕ → ℕ → Type 0) → p i j → ((a b : ℕ) → cell d a b ≡ true → p a b) → (a b : ℕ) → cell (put d i j) a b ≡ true → p a b
  put_only p it only a b h =
      ⊎_elim
      (λ w. rw (w.0, w.1) it)
      (λ ne. only a b (sym (store_other d i j true hi hj sq a b ne) ∙ h))
      (here? a b)

  pub grown_put : (n : ℕ) → i < n → j < n → Chain n (Yes (cell d)) i j → Grown n d (put d i j)
  grown_put n gi gj r = record {
    grows = put_grows;
    sound = put_only (Chain n (Yes (cell d))) r (λ a b h. one h);
    kept = λ a b o. store_other d i j true hi hj sq a b (λ p q. ⊎_elim (λ h. omega arith) (λ h. omega arith) o);
  }

module _ (n : ℕ) where
  pub grown_refl : (e : Square) → Grown n e e
  grown_refl e = record { grows = λ a b h. h; sound = λ a b h. one h; kept = λ a b o. refl }

  pub grown_trans : {e x y : Square} → Grown n e x → Grown n x y → Grown n e y
  grown_trans f g = record {
    grows = λ a b h. g.grows a b (f.grows a b h);
    sound = λ a b h. chain_bind f.sound (g.sound a b h);
    kept = λ a b o. g.kept a b o ∙ f.kept a b o;
  }

pub no_both : (x : Bool) → x ≡ false → x ≡ true → ⊥
no_both x h g = let z : ◌≡◌ {A = ℕ} 0 1 = cc in omega arith

-- row i joined with row k, below column j
pub record Row (n k i : ℕ) (e d : Square) (j : ℕ) : Type 0 where
  pub within : j ≤ n
  pub square : IsSquare 96 d
  pub grown : Grown n e d
  pub joined : (b : ℕ) → b < j → cell e k b ≡ true → cell d i b ≡ true

module _ (n k i : ℕ) (hn : n ≤ 96) (hk : k < n) (hi : i < n) (e : Square) where
  pub row_none : IsSquare 96 e → Row n k i e e 0
  row_none sq = record { within = omega arith; square = sq; grown = grown_refl n e; joined = λ b h. absurd (omega arith) }

  pub row_skip : {d : Square} {j : ℕ} → j < n → Row n k i e d j → cell d k j ≡ false → Row n k i e d (j + 1)
  row_skip {d} {j} hj r no-entry = record {
    within = omega arith;
    square = r.square;
    grown = r.grown;
    joined = below_more (λ (b : ℕ). cell e k b ≡ true → cell d i b ≡ true) j r.joined (λ h. absurd (no_both _ no-entry (r.grown.grows k j h)));
  }

  pub row_put : {d : Square} {j : ℕ} → j < n → Row n k i e d j → cell e i k ≡ true → cell d k j ≡ true → Row n k i e (put d i j) (j + 1)
  row_put {d} {j} hj r ik kj =
      let i96 : i < 96 = omega arith in
      let j96 : j < 96 = omega arith in
      let g = grown_put d i j i96 j96 r.square n hi hj (via hk (one (r.grown.grows i k ik)) (one kj)) in
      record {
        within = omega arith;
        square = store_square d i j true i96 j96 r.square;
        grown = grown_trans n r.grown g;
        joined = below_more (λ (b : ℕ). cell e k b ≡ true → cell (put d i j) i b ≡ true) j (λ b h x. g.grows i b (r.joined b h x))
            (λ h. store_same d i j true i96 j96 r.square);
      }

pub rows_more : {n k i : ℕ} {e d x : Square} → i < n → RowsJoined n k e d i → RowJoined n k i d x → RowsJoined n k e x (i + 1)
rows_more {n} {k} {i} {e} {d} {x} h r j = record {
  within = omega arith;
  square = j.square;
  grown = grown_trans n r.grown j.grown;
  joined = below_more (λ (a : ℕ). (b : ℕ) → b < n → cell e a k ≡ true → cell e k b ≡ true → cell x a b ≡ true) i
      (λ a ha b hb ak kb. j.grown.grows a b (r.joined a ha b hb ak kb))
      (λ b hb ak kb. j.joined b hb (r.grown.grows i k ak) (r.grown.grows k b kb));
}

pub closed_more : {n k : ℕ} {e d x : Square} → k < n → ClosedUpTo n e d k → RowsJoined n k d x n → ClosedUpTo n e x (k + 1)
closed_more {n} {k} {e} {d} {x} h r j = record {
  within = omega arith;
  square = j.square;
  grown = grown_trans n r.grown j.grown;
  closed = λ a b ha hb way.
      ⊎_elim
      (λ w. j.grown.grows a b (r.closed a b ha hb w))
      (λ w. j.joined a ha b hb (r.closed a k ha h w.0) (r.closed k b h hb w.1))
      (chain_split k (k + 1) (omega arith) way);
}

pub closed_none : (n : ℕ) (e : Square) → IsSquare 96 e → ClosedUpTo n e e 0
closed_none n e sq = record { within = omega arith; square = sq; grown = grown_refl n e; closed = λ a b ha hb way. chain_step way }

-- a square that was filled from a test and then closed
pub filled_closes : {n : ℕ} {p : ℕ → ℕ → Bool} {e x : Square} → RowsFilled n p e n → ClosedUpTo n e x n → Closes n (Yes p) x
filled_closes f c = record {
  square = c.square;
  sound = λ a b ha hb y. chain_within (λ i j hi hj z. sym (f.rows i j hi hj) ∙ z) ha hb (c.grown.sound a b y);
  complete = λ a b ha hb way. c.closed a b ha hb (chain_within (λ i j hi hj z. f.rows i j hi hj ∙ z) ha hb way);
}

pub empty_square : IsSquare 96 (replicate 96 (replicate 96 false))
empty_square = record { rows = refl; cols = λ i h. ap (λ (r : List Bool). length r) (get_or-replicate 96 i (replicate 96 false) [] h) }
