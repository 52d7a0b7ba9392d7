-- Chains of steps through thirds.
--   chain_map      along other steps
--   chain_bind     along steps that are chains themselves
--   chain_within   along steps that are others between numbers below n
--   chain_wider    through more thirds
--   chain_step     with no thirds, a chain is a step
--   chain_split    a chain through thirds up to k avoids k, or goes to k and on from k
use Prim.Native.Nat.{ℕ, suc, ◌<◌, ◌≤◌}
use mathlib.Core.Path.{◌≡◌}
use mathlib.Core.Logic.{◌⊎◌, inl, inr}
use native.Mathlib.Omega.{arith}
use native.Mathlib.Decide.{ℕ_discrete}
use Rattle.kinds.specs.Chains.{Chain, one, via}

pub chain_bind : {n : ℕ} {p q : ℕ → ℕ → Type 0} {i j : ℕ} → ((a b : ℕ) → p a b → Chain n q a b) → Chain n p i j → Chain n q i j
chain_bind f (one {i = a} {j = b} s) = f a b s
chain_bind f (via h c d) = via h (chain_bind f c) (chain_bind f d)

pub chain_map : {n : ℕ} {p q : ℕ → ℕ → Type 0} {i j : ℕ} → ((a b : ℕ) → p a b → q a b) → Chain n p i j → Chain n q i j
chain_map f c = chain_bind (λ a b s. one (f a b s)) c

pub chain_within : {n : ℕ} {p q : ℕ → ℕ → Type 0} {i j : ℕ} → ((a b : ℕ) → a < n → b < n → p a b → q a b) → i < n → j < n → Chain n p i j
    → Chain n q i j
chain_within f hi hj (one {i = a} {j = b} s) = one (f a b hi hj s)
chain_within f hi hj (via h c d) = via h (chain_within f hi h c) (chain_within f h hj d)

pub chain_wider : {n k : ℕ} {p : ℕ → ℕ → Type 0} {i j : ℕ} → n ≤ k → Chain n p i j → Chain k p i j
chain_wider le (one s) = one s
chain_wider le (via {m = m} h c d) = via {m = m} (omega arith) (chain_wider le c) (chain_wider le d)

pub chain_step : {p : ℕ → ℕ → Type 0} {i j : ℕ} → Chain 0 p i j → p i j
chain_step (one s) = s
chain_step (via h c d) = absurd (omega arith)

pub chain_split : (k n : ℕ) {p : ℕ → ℕ → Type 0} {i j : ℕ} → n ≤ suc k → Chain n p i j → Chain k p i j ⊎ (Chain k p i k × Chain k p k j)
chain_split k n le (one s) = inl (one s)
chain_split k n {p} {i} {j} le (via {m = m} h c d) = at (ℕ_discrete m k) (chain_split k n le c) (chain_split k n le d)
  where
    at : Dec (m ≡ k) → Chain k p i m ⊎ (Chain k p i k × Chain k p k m) → Chain k p m j ⊎ (Chain k p m k × Chain k p k j) → Chain k p i j
        ⊎ (Chain k p i k × Chain k p k j)
    at (yes z) (inl a) (inl b) = inr (rw z at a, rw z at b)
    at (yes z) (inl a) (inr b) = inr (rw z at a, b.1)
    at (yes z) (inr a) (inl b) = inr (a.0, rw z at b)
    at (yes z) (inr a) (inr b) = inr (a.0, b.1)
    at (no z) (inl a) (inl b) = inl (via {m = m} (omega (arith, z)) a b)
    at (no z) (inl a) (inr b) = inr (via {m = m} (omega (arith, z)) a b.0, b.1)
    at (no z) (inr a) (inl b) = inr (a.0, via {m = m} (omega (arith, z)) a.1 b)
    at (no z) (inr a) (inr b) = inr (a.0, b.1)
