-- The closed square says yes exactly where two goals are Dependent.
--   close_chain               n rounds of closing give the chains through numbers below n
--   square_of on_square       an cell of the square is a direct dependency
--   dep_sym                   direct dependency is symmetric
--   direct dependent_…        Dependent goals stand in the list; the relation is transitive and symmetric
--   dependent_closed          the closed square and the paper's relation agree
use mathlib.Core.Path.{◌≡◌, refl, ap, sym, ◌∙◌}
use mathlib.Core.Bool.{Bool, true, false, cond, ◌&&◌, ◌||◌, false≢true, or-false}
use mathlib.Core.List.{List, [], ◌∷◌, map}
use mathlib.Core.Option.{some}
use mathlib.Core.Logic.{◌⊎◌, inl, inr, ◌↔◌}
use Prim.Native.Nat.{ℕ, zero, suc, ◌+◌, ◌<◌}
use native.Mathlib.Omega.{arith}
use native.Mathlib.Nat.{add-zero, zero-add}
use lib.ListN.{length, get_or, get_elem?, get_or-map}
use Rattle.kinds.specs.Lists.{same, range}
use Rattle.kinds.specs.Chains.{Chain, one, via, Yes}
use Rattle.kinds.proofs.ChainLaws.{chain_map, chain_wider, chain_step, chain_split}
use Rattle.kinds.proofs.Bools.{and_l, and_r, both, or_l, or_r, or_case}
use Rattle.kinds.proofs.Members.{on_any, any_of, same_is, same_refl}
use Rattle.kinds.proofs.Places.{at_below, at_map, get_d_at}
use Rattle.automaton.specs.Goals.{Goal, State, Calculus, has}
use Rattle.automaton.specs.Classes.{Square, cell, ors, through, close, dep, Direct, Dependent, square, closed}

module _ (R : ℕ → ℕ → Bool) where
  -- n rounds, each going through one number more
  abbrev rounds : ℕ → ℕ → ℕ → Bool
  rounds zero i j = R i j
  rounds (suc k) i j = rounds k i j || (rounds k i k && rounds k k j)

  rounds_chain : (n i j : ℕ) → rounds n i j ≡ true → Chain n (Yes R) i j
  rounds_chain zero i j e = one e
  rounds_chain (suc n) i j e = go (or_case (rounds n i j) e) (λ a b. rounds_chain n a b)
    where
      go : (rounds n i j ≡ true) ⊎ ((rounds n i n && rounds n n j) ≡ true) → ((a b : ℕ) → rounds n a b ≡ true → Chain n (Yes R) a b)
          → Chain (suc n) (Yes R) i j
      go (inl d) ih = chain_wider (omega arith) (ih i j d)
      go (inr d) ih = via {m = n} (omega arith) (chain_wider (omega arith) (ih i n (and_l _ d)))
          (chain_wider (omega arith) (ih n j (and_r (rounds n i n) d)))

  chain_rounds : (n i j : ℕ) → Chain n (Yes R) i j → rounds n i j ≡ true
  chain_rounds zero i j c = chain_step c
  chain_rounds (suc n) i j c = go (chain_split n (suc n) (omega arith) c) (λ a b. chain_rounds n a b)
    where
      go : Chain n (Yes R) i j ⊎ (Chain n (Yes R) i n × Chain n (Yes R) n j) → ((a b : ℕ) → Chain n (Yes R) a b → rounds n a b ≡ true)
          → rounds (suc n) i j ≡ true
      go (inl d) ih = or_l _ (ih i j d)
      go (inr d) ih = or_r (rounds n i j) (both (ih i n d.0) (ih n j d.1))

ors_at : (a b : List Bool) (j : ℕ) → get_or (ors a b) j false ≡ (get_or a j false || get_or b j false)
ors_at [] b j = refl
ors_at (x ∷ xs) [] j = sym (or-false (get_or (x ∷ xs) j false))
ors_at (x ∷ xs) (y ∷ ys) zero = refl
ors_at (x ∷ xs) (y ∷ ys) (suc j) = ors_at xs ys j

row_at : (b : Bool) (row r : List Bool) (j : ℕ) → get_or (cond b (ors row r) row) j false ≡ (get_or row j false || (b && get_or r j false))
row_at true row r j = ors_at row r j
row_at false row r j = sym (or-false (get_or row j false))

through_at : (k : ℕ) (m : Square) (i j : ℕ) → cell (through k m) i j ≡ (cell m i j || (cell m i k && cell m k j))
through_at k m i j =
    rw (get_or-map (λ row. cond (get_or row k false) (ors row (get_or m k [])) row) m i [])
    (row_at (cell m i k) (get_or m i []) (get_or m k []) j)

close_from : (R : ℕ → ℕ → Bool) (n c : ℕ) (m : Square) → ((i j : ℕ) → cell m i j ≡ rounds R c i j) → (i j : ℕ)
    → cell (close (range c n) m) i j ≡ rounds R (c + n) i j
close_from R zero c m h i j = rw add-zero (h i j)
close_from R (suc n) c m h i j =
    let e : c + suc n ≡ suc c + n = omega arith in
    rw e (close_from R n (suc c) (through c m) (λ a b. through_at c m a b ∙ rw (h a b, h a c, h c b)) i j)

close_at : (n : ℕ) (m : Square) (i j : ℕ) → cell (close (range 0 n) m) i j ≡ rounds (cell m) n i j
close_at n m i j = close_from (cell m) n 0 m (λ a b. refl) i j ∙ rw zero-add

-- yes after n rounds: a chain through numbers below n
pub close_chain : (n : ℕ) (m : Square) (i j : ℕ) → (cell (close (range 0 n) m) i j ≡ true) ↔ Chain n (Yes (cell m)) i j
close_chain n m i j = (λ e. rounds_chain (cell m) n i j (sym (close_at n m i j) ∙ e), λ c. close_at n m i j ∙ chain_rounds (cell m) n i j c)

-- what stands in a list that is made of each
on_yes {κ} : {A : Type 0} {C : Type κ} (f : A → Bool) (s : List A) (j : ℕ) → get_or (map f s) j false ≡ true
    → ((x : A) → get_elem? s j ≡ some x → f x ≡ true → C) → C
on_yes f [] j e k = absurd (false≢true e)
on_yes f (x ∷ s) zero e k = k x refl e
on_yes f (x ∷ s) (suc j) e k = on_yes f s j e k

on_row {κ} : {A : Type 0} {C : Type κ} (f : A → List Bool) (s : List A) (i j : ℕ) → cell (map f s) i j ≡ true
    → ((x : A) → get_elem? s i ≡ some x → get_or (f x) j false ≡ true → C) → C
on_row f [] i j e k = absurd (false≢true e)
on_row f (x ∷ s) zero j e k = k x refl e
on_row f (x ∷ s) (suc i) j e k = on_row f s i j e k

module _ {O : Type 0} (K : Calculus O) where
  pub on_square {κ} : {C : Type κ} (s : State O) (i j : ℕ) → cell (square K s) i j ≡ true
      → ((g h : Goal O) → get_elem? s i ≡ some g → get_elem? s j ≡ some h → dep K g h ≡ true → C) → C
  on_square s i j e k = on_row (λ g. map (dep K g) s) s i j e λ g a t. on_yes (dep K g) s j t λ h b u. k g h a b u

  pub square_of : (s : State O) (i j : ℕ) {g h : Goal O} → get_elem? s i ≡ some g → get_elem? s j ≡ some h → dep K g h ≡ true
      → cell (square K s) i j ≡ true
  square_of s i j {g} a b t =
      let row : get_or (square K s) i [] ≡ map (dep K g) s = get_d_at (square K s) i [] (at_map (λ x. map (dep K x) s) s i a) in
      ap (λ r. get_or r j false) row ∙ get_d_at (map (dep K g) s) j false (at_map (dep K g) s j b) ∙ t

  pub dep_sym : (g h : Goal O) → dep K g h ≡ true → dep K h g ≡ true
  dep_sym g h e =
      on_any (λ o. has K (K.at o) h.obs) g.obs e λ o i t.
      on_any (λ x. same (K.at o) (K.at x)) h.obs t λ x j u.
      any_of (λ y. has K (K.at y) g.obs) j (any_of (λ y. same (K.at x) (K.at y)) i (rw (same_is (K.at o) (K.at x) u) (same_refl (K.at x))))

  pub direct : (s : State O) {i j : ℕ} {g h : Goal O} → get_elem? s i ≡ some g → get_elem? s j ≡ some h → dep K g h ≡ true → Dependent K s i j
  direct s {g = g} {h = h} a b t = one (record { g = g; h = h; at_i = a; at_j = b; shares = t })

  pub dependent_place : (s : State O) {i j : ℕ} → Dependent K s i j → (i < length s) × (j < length s)
  dependent_place s (one {i} {j} d) = (at_below s i d.at_i, at_below s j d.at_j)
  dependent_place s (via l d e) = ((dependent_place s d).0, (dependent_place s e).1)

  pub dependent_join : (s : State O) {i m j : ℕ} → Dependent K s i m → Dependent K s m j → Dependent K s i j
  dependent_join s d e = via (dependent_place s e).0 d e

  pub dependent_sym : (s : State O) {i j : ℕ} → Dependent K s i j → Dependent K s j i
  dependent_sym s (one d) = direct s d.at_j d.at_i (dep_sym d.g d.h d.shares)
  dependent_sym s (via l d e) = via l (dependent_sym s e) (dependent_sym s d)

  -- an entry of the square is a direct dependency
  yes_direct : (s : State O) (i j : ℕ) → Yes (cell (square K s)) i j → Direct K s i j
  yes_direct s i j e = on_square s i j e λ g h a b t. record { g = g; h = h; at_i = a; at_j = b; shares = t }

  direct_yes : (s : State O) (i j : ℕ) → Direct K s i j → Yes (cell (square K s)) i j
  direct_yes s i j d = square_of s i j d.at_i d.at_j d.shares

  pub dependent_closed : (s : State O) (i j : ℕ) → (cell (closed K s) i j ≡ true) ↔ Dependent K s i j
  dependent_closed s i j = (
    λ e. chain_map (yes_direct s) ((close_chain (length s) (square K s) i j).0 e),
    λ d. (close_chain (length s) (square K s) i j).1 (chain_map (direct_yes s) d),
  )
