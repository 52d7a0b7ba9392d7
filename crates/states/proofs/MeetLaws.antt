-- Meeting classes one after the other, for any construction.
--   meet_big meet_known meet_full meet_new        the four ways to meet a class
--   onto meets_on meets_end                      classes in turn, after successors met before
--   row_on, run_on run_stop run_end               symbols in turn; states in turn
use mathlib.Core.Path.{◌≡◌, refl, ap, sym, ◌∙◌}
use mathlib.Core.List.{List, [], ◌∷◌, ◌++◌, append_assoc, append-nil}
use mathlib.Core.Bool.{Bool}
use mathlib.Core.Option.{Option, none, some}
use Prim.Native.Nat.{ℕ, zero, suc, ◌+◌, ◌-◌, ◌<◌, ◌≤◌}
use native.Mathlib.Omega.{arith}
use native.Mathlib.Numerals.{add-one}
use borrow.Author.Tests.{lt-ltb, le-ltb, le-leb, lt-leb}
use lib.ListN.{length, get_or}
use Rattle.kinds.specs.Lists.{find, or_else}
use Rattle.kinds.specs.declared.Reason.{Reason}
use Rattle.kinds.specs.declared.Reason.TheVariants.{ManyGoals, ManyStates}
use Rattle.kinds.proofs.Places.{find_at, at_below}
use Rattle.automaton.specs.Exploring.{Construction, Succ, Block, Met, stopped, met, refused, made, and_then, then_block, then_more, numbered, meet, meets, row, run}
use Rattle.automaton.specs.FinalBlocks.{succ_of}

-- ---- the first that passes
module _ {S : Type 0} (p : S → Bool) (ss : List S) where
  pub found_some : or_else (find p ss 0) (length ss) < length ss → find p ss 0 ≡ some (or_else (find p ss 0) (length ss))
  found_some h = go (find p ss 0) h
    where
      go : (o : Option ℕ) → or_else o (length ss) < length ss → o ≡ some (or_else o (length ss))
      go (some i) l = refl
      go none l = absurd (omega arith)

  pub found_none : length ss ≤ or_else (find p ss 0) (length ss) → find p ss 0 ≡ none
  found_none h = go (find p ss 0) refl h
    where
      go : (o : Option ℕ) → find p ss 0 ≡ o → length ss ≤ or_else o (length ss) → find p ss 0 ≡ none
      go (some i) e l =
          let r = find_at p ss 0 i e in
          let b = at_below ss r.0 r.2.1 in
          let z = r.1 in
          absurd (omega arith)
      go none e l = e

module _ {S : Type 0} (C : Construction S) where
  -- ---- one class
  module _ (ss : List S) (k : S) where
    pub meet_big : 32 < C.size k → meet C ss k ≡ stopped ManyGoals
    meet_big h = rw (lt-ltb 32 (C.size k) h) refl

    module _ (small : C.size k ≤ 32) where
      pub meet_known : (succ_of C ss k).to < length ss → meet C ss k ≡ met ss (succ_of C ss k ∷ [])
      meet_known h =
          rw (le-ltb 32 (C.size k) small) (ap (λ o. numbered o ss (C.lift k) (C.gcp k)) (found_some (C.same (C.lift k)) ss h))

      module _ (new : length ss ≤ (succ_of C ss k).to) where
        pub meet_full : 128 ≤ length ss → meet C ss k ≡ stopped ManyStates
        meet_full h =
            rw (le-ltb 32 (C.size k) small)
            (ap (λ o. numbered o ss (C.lift k) (C.gcp k)) (found_none (C.same (C.lift k)) ss new) ∙ rw (le-leb 128 (length ss) h) refl)

        pub meet_new : length ss < 128 → meet C ss k ≡ met (ss ++ (C.lift k ∷ [])) (record { to = length ss; by = C.gcp k } ∷ [])
        meet_new h =
            rw (le-ltb 32 (C.size k) small)
            (ap (λ o. numbered o ss (C.lift k) (C.gcp k)) (found_none (C.same (C.lift k)) ss new) ∙ rw (lt-leb 128 (length ss) h) refl)

  -- ---- classes in turn, after successors xs
  abbrev pub onto : List Succ → Met S → Met S
  onto xs m = and_then m (λ ss ys. met ss (xs ++ ys))

  module _ (xs : List Succ) (ss : List S) (k : S) (ks : List S) where
    pub meets_stop : (r : Reason) → meet C ss k ≡ stopped r → onto xs (meets C ss (k ∷ ks)) ≡ stopped r
    meets_stop r e = ap (λ m. onto xs (and_then m (λ ss₁ ys. and_then (meets C ss₁ ks) (λ ss₂ zs. met ss₂ (ys ++ zs))))) e

    pub meets_on : (ss' : List S) (ys : List Succ) → meet C ss k ≡ met ss' ys
        → onto xs (meets C ss (k ∷ ks)) ≡ onto (xs ++ ys) (meets C ss' ks)
    meets_on ss' ys e =
        ap (λ m. onto xs (and_then m (λ ss₁ ys. and_then (meets C ss₁ ks) (λ ss₂ zs. met ss₂ (ys ++ zs))))) e ∙ go (meets C ss' ks)
      where
        go : (m : Met S) → onto xs (and_then m (λ ss₂ zs. met ss₂ (ys ++ zs))) ≡ onto (xs ++ ys) m
        go (stopped r) = refl
        go (met ss₂ zs) = ap (met ss₂) (sym (append_assoc xs ys zs))

  pub meets_end : (xs : List Succ) (ss ks : List S) → ks ≡ [] → onto xs (meets C ss ks) ≡ met ss xs
  meets_end xs ss ks e = ap (λ l. onto xs (meets C ss l)) e ∙ ap (met ss) (append-nil xs)

  -- ---- symbols in turn
  module _ (i : ℕ) (s : S) (f n : ℕ) (ns : List ℕ) (ss : List S) (bs : List Block) where
    pub row_on : (ss' : List S) (xs : List Succ) → meets C ss (C.classes s f n) ≡ met ss' xs
        → row C i s f (n ∷ ns) ss bs ≡ row C i s (suc f) ns ss' (bs ++ (record { out = C.outputs s f n; succs = xs } ∷ []))
    row_on ss' xs e = ap (λ m. then_block i (C.outputs s f n) bs m (λ ss₁ bs₁. row C i s (suc f) ns ss₁ bs₁)) e

  -- ---- states in turn
  module _ (ar : List ℕ) (i : ℕ) (ss : List S) (bs : List Block) where
    module _ (inside : i < length ss) (few : i < 128) where
      run_next : run C ar (128 - i) i ss bs ≡ then_more (row C i (get_or ss i C.start) 0 ar ss bs)
          (λ ss₁ bs₁. run C ar (128 - (i + 1)) (suc i) ss₁ bs₁)
      run_next =
          let e : 128 - i ≡ suc (128 - (i + 1)) = omega arith in
          rw (e, lt-ltb i (length ss) inside) refl

      pub run_stop : (r : Reason) → row C i (get_or ss i C.start) 0 ar ss bs ≡ refused r i → run C ar (128 - i) i ss bs ≡ refused r i
      run_stop r e = run_next ∙ ap (λ m. then_more m (λ ss₁ bs₁. run C ar (128 - (i + 1)) (suc i) ss₁ bs₁)) e

      pub run_on : (ss' : List S) (bs' : List Block) → row C i (get_or ss i C.start) 0 ar ss bs ≡ made ss' bs'
          → run C ar (128 - i) i ss bs ≡ run C ar (128 - (i + 1)) (i + 1) ss' bs'
      run_on ss' bs' e = run_next ∙ ap (λ m. then_more m (λ ss₁ bs₁. run C ar (128 - (i + 1)) (suc i) ss₁ bs₁)) e ∙ rw (add-one i) refl

    pub run_end : length ss ≤ i → run C ar (128 - i) i ss bs ≡ made ss bs
    run_end h = go (128 - i)
      where
        go : (fuel : ℕ) → run C ar fuel i ss bs ≡ made ss bs
        go zero = refl
        go (suc fuel) = rw (le-ltb i (length ss) h) refl
