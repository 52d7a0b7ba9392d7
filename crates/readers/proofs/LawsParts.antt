-- Header, labels, block starts and pairs of a plan, way by way; and the readers over them.
--   counts_of_lem                            the counts
--   label_state label_out label_at           a label
--   no_label a_label                         a label that is answered, taken apart
--   start_state start_symbol start_out start_cut start_at start_fits start_in   a block's start
--   block_start                          the block is what stands at its start
--   second pair_none pair_number pair_code pair_some   a pair of a block
--   label_view label_none label_bad label_good, lengths_view lengths_none lengths_some,
--   pair_view pair_start pair_in_lem
use Rattle.std.specs.Prelude.{Err, Ok, Some, Option as Optional}
use mathlib.Core.Path.{◌≡◌, refl, ap, sym, ◌∙◌}
use mathlib.Core.Bool.{Bool, true, false, cond, ◌&&◌}
use mathlib.Core.List.{List}
use mathlib.Core.Option.{Option, none, some}
use Prim.Native.Nat.{ℕ, ◌+◌, ◌*◌, ◌<◌, ◌≤◌}
use native.Mathlib.Omega.{arith}
use borrow.Author.Tests.{lt-ltb, le-ltb}
use lib.Dec.{ltb, leb}
use lib.ListN.{length, get_or, get_elem?, drop}
use Rattle.kinds.specs.Lists.{bind, need}
use Rattle.kinds.specs.Positions.{code_good}
use Rattle.kinds.specs.Kinds.{position}
use Rattle.kinds.specs.declared.Reason.{Reason}
use Rattle.kinds.specs.declared.Reason.TheVariants.{OutOfRange}
use Rattle.kinds.proofs.Bools.{and_l, and_r, leb_is}
use Rattle.kinds.proofs.Options.{on_bind, on_need}
use Rattle.kinds.proofs.Places.{get_elem_some, get_elem_none}
use Rattle.readers.specs.PlanParts.{counts_good, label_word, to_label, block_at, block_of, pair_at, view_good, label_of, lengths_of, pair_in}
use Rattle.readers.specs.BlockWords.{pair_list, middle, outs_at, nexts_at, block_fits, block_start, begins}
use Rattle.readers.proofs.LawsPairs.{fits_in, pair_list_at, pair_list_none, pair_list_length, block_list, block_none}

-- ---- the counts
pub counts_of_lem : (plan : List ℕ) → counts_good plan ≡ true → (4 ≤ length plan) × (get_or plan 0 0 ≤ 128) × (get_or plan 1 0 ≤ 32) × (get_or plan 2 0 ≤ 16)
counts_of_lem plan e =
    let r = and_r (leb 4 (length plan)) e in
    let r₁ = and_r (ltb 0 (get_or plan 0 0) && leb (get_or plan 0 0) 128) r in
    let r₂ = and_r (ltb 0 (get_or plan 1 0) && leb (get_or plan 1 0) 32) r₁ in (
      leb_is _ _ (and_l _ e),
      leb_is _ _ (and_r (ltb 0 (get_or plan 0 0)) (and_l _ r)),
      leb_is _ _ (and_r (ltb 0 (get_or plan 1 0)) (and_l _ r₁)),
      leb_is _ _ (and_r (ltb 0 (get_or plan 2 0)) r₂),
    )

-- ---- a label
module _ (plan : List ℕ) (m s : ℕ) where
  pub label_state : m ≤ s → label_word plan m s ≡ none
  unfolding label_word
  label_state h = rw (le-ltb _ _ h)

  pub label_out : s < m → length plan ≤ 4 + s → label_word plan m s ≡ none
  unfolding label_word
  label_out h l = rw (lt-ltb _ _ h, get_elem_none _ _ l)

  pub label_at : s < m → 4 + s < length plan → label_word plan m s ≡ some (get_or plan (4 + s) 0)
  unfolding label_word
  label_at h l = rw (lt-ltb _ _ h, get_elem_some _ _ l)

pub no_label : (o : Option ℕ) {r : Reason} → to_label o ≡ Err r → o ≡ none
no_label none e = refl
no_label (some c) e = let z : ◌≡◌ {A = ℕ} 0 1 = cc in absurd (omega arith)

pub a_label : (o : Option ℕ) {c : ℕ} → to_label o ≡ Ok (position c) → o ≡ some c
a_label none e = let z : ◌≡◌ {A = ℕ} 0 1 = cc in absurd (omega arith)
a_label (some d) {c} e = let z : position d ≡ position c = cc in ap (λ p. some p.0) z

-- ---- a block's start
module _ (plan : List ℕ) (m k s f : ℕ) where
  pub start_state : m ≤ s → block_start plan m k s f ≡ none
  unfolding block_start
  start_state h = rw (le-ltb _ _ h)

  pub start_symbol : s < m → k ≤ f → block_start plan m k s f ≡ none
  unfolding block_start
  start_symbol h g = rw (lt-ltb _ _ h, le-ltb _ _ g)

  pub start_out : s < m → f < k → length plan ≤ 4 + m + (s * k + f) → block_start plan m k s f ≡ none
  unfolding block_start
  start_out h g l = rw (lt-ltb _ _ h, lt-ltb _ _ g, get_elem_none _ _ l)

  pub start_cut : s < m → f < k → 4 + m + (s * k + f) < length plan → block_fits plan (get_or plan (4 + m + (s * k + f)) 0) ≡ false
      → block_start plan m k s f ≡ none
  unfolding block_start
  start_cut h g l e = rw (lt-ltb _ _ h, lt-ltb _ _ g, get_elem_some _ _ l, e)

  pub start_at : s < m → f < k → 4 + m + (s * k + f) < length plan → block_fits plan (get_or plan (4 + m + (s * k + f)) 0) ≡ true
      → block_start plan m k s f ≡ some (get_or plan (4 + m + (s * k + f)) 0)
  unfolding block_start
  start_at h g l e = rw (lt-ltb _ _ h, lt-ltb _ _ g, get_elem_some _ _ l, e)

  pub start_fits : {b : ℕ} → block_start plan m k s f ≡ some b → block_fits plan b ≡ true
  unfolding block_start
  start_fits {b} e =
      on_need (ltb s m) _ e λ t d.
      on_need (ltb f k) _ d λ t₁ d₁.
      on_bind (get_elem? plan (4 + m + (s * k + f))) _ d₁ λ a ea d₂.
      on_need (block_fits plan a) _ d₂ λ t₃ d₃.
      let z : a ≡ b = cc in rw z at t₃

  -- a start that is answered: the whole block lies within the words
  pub start_in : {r : (Optional ℕ)} (b : ℕ) → begins r ≡ block_start plan m k s f → r ≡ Some b
      → middle plan b + 1 + 2 * get_or plan (middle plan b) 0 ≤ length plan
  start_in b e d = fits_in plan b (start_fits (sym e ∙ ap begins d))

  pub block_start_lem : block_of plan m k s f ≡ bind (block_start plan m k s f) (λ b. some (outs_at plan b, nexts_at plan b))
  unfolding block_of block_start
  block_start_lem = go (ltb s m) (ltb f k) (get_elem? plan (4 + m + (s * k + f)))
    where
      whole : (b : ℕ) (t : Bool) → block_fits plan b ≡ t → block_at (drop b plan) ≡ bind (need t (some b)) (λ b. some (outs_at plan b, nexts_at plan b))
      whole b true e = block_list plan b e
      whole b false e = block_none plan b e

      go : (t u : Bool) (o : Option ℕ) → need t (need u (bind o (λ b. block_at (drop b plan)))) ≡ bind
          (need t (need u (bind o (λ b. need (block_fits plan b) (some b))))) (λ b. some (outs_at plan b, nexts_at plan b))
      go true true (some b) = whole b (block_fits plan b) refl
      go true true none = refl
      go true false o = refl
      go false u o = refl

-- ---- a pair of a block
pub second : (at i : ℕ) → at + 2 + 2 * i ≡ at + 1 + 2 * i + 1
second at i = omega arith

module _ (plan : List ℕ) (at limit n i : ℕ) where
  pub pair_none : n ≤ i → pair_at limit (pair_list plan at n) i ≡ none
  unfolding pair_at
  pair_none h = rw (pair_list_none n plan at i h)

  module _ (x y : ℕ) (h : i < n) (ex : x ≡ get_or plan (at + 2 * i) 0) (ey : y ≡ get_or plan (at + 2 * i + 1) 0) where
    found : get_elem? (pair_list plan at n) i ≡ some (x, y)
    found = rw (ex, ey) (pair_list_at n plan at i h)

    pub pair_number : limit ≤ x → pair_at limit (pair_list plan at n) i ≡ none
    unfolding pair_at
    pair_number l = rw (found, le-ltb _ _ l)

    pub pair_code : x < limit → code_good y ≡ false → pair_at limit (pair_list plan at n) i ≡ none
    unfolding pair_at
    pair_code l e = rw (found, lt-ltb _ _ l, e)

    pub pair_some : x < limit → code_good y ≡ true → pair_at limit (pair_list plan at n) i ≡ some (x, y)
    unfolding pair_at
    pair_some l e = rw (found, lt-ltb _ _ l, e)

-- ---- the readers
module _ (plan : List ℕ) (m k : ℕ) where
  pub label_view : (s : ℕ) → view_good plan m k ≡ false → label_of plan m k s ≡ Err OutOfRange
  unfolding label_of
  label_view s e = rw e

  pub lengths_view : (s f : ℕ) → view_good plan m k ≡ false → lengths_of plan m k s f ≡ Err OutOfRange
  unfolding lengths_of
  lengths_view s f e = rw e

  pub pair_view : (nexts : Bool) (s f i : ℕ) → view_good plan m k ≡ false → pair_in nexts plan m k s f i ≡ none
  unfolding pair_in
  pair_view nexts s f i e = rw e

  module _ (good : view_good plan m k ≡ true) (s : ℕ) where
    pub label_none : {r : Reason} → to_label (label_word plan m s) ≡ Err r → label_of plan m k s ≡ Err OutOfRange
    unfolding label_of
    label_none e = rw (good, no_label (label_word plan m s) e)

    pub label_bad : (c : ℕ) → to_label (label_word plan m s) ≡ Ok (position c) → code_good c ≡ false
        → label_of plan m k s ≡ Err OutOfRange
    unfolding label_of
    label_bad c e n = rw (good, a_label (label_word plan m s) e, n)

    pub label_good : (c : ℕ) → to_label (label_word plan m s) ≡ Ok (position c) → code_good c ≡ true → label_of plan m k s ≡ Ok (position c)
    unfolding label_of
    label_good c e g = rw (good, a_label (label_word plan m s) e, g)

    module _ (f : ℕ) where
      pub lengths_none : block_start plan m k s f ≡ none → lengths_of plan m k s f ≡ Err OutOfRange
      unfolding lengths_of
      lengths_none e = rw (good, block_start_lem plan m k s f, e)

      pub pair_start : (nexts : Bool) (i : ℕ) → block_start plan m k s f ≡ none → pair_in nexts plan m k s f i ≡ none
      unfolding pair_in
      pair_start nexts i e = rw (good, block_start_lem plan m k s f, e)

      module _ (b : ℕ) (e : block_start plan m k s f ≡ some b) where
        pub lengths_some : lengths_of plan m k s f ≡ Ok (record { announcements = get_or plan b 0; successors = get_or plan (middle plan b) 0 })
        unfolding lengths_of
        lengths_some = rw (
          good,
          block_start_lem plan m k s f,
          e,
          pair_list_length (get_or plan b 0) plan (b + 1),
          pair_list_length
              (get_or plan (middle plan b) 0) plan (middle plan b + 1),
        )

        pub pair_in_lem : (nexts : Bool) (i : ℕ)
            → pair_in nexts plan m k s f i ≡ cond nexts (pair_at m (nexts_at plan b) i) (pair_at (get_or plan 2 0) (outs_at plan b) i)
        unfolding pair_in
        pair_in_lem nexts i = rw (good, block_start_lem plan m k s f, e)
