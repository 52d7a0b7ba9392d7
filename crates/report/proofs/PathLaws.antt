-- The way from the root to a node, child by child.
--   child_out child_empty child_past child_here child_next child_end child_last   the search for the child
--   place_here place_none place_next place_end place_over   the path
--   path_out path_begins   a node past the spans, or not
--   Written written_none_yet written_done written_nowhere written_next   what is written so far, and what is left
use Prim.Native.Nat.{ℕ, suc, ◌+◌, ◌-◌, ◌<◌, ◌≤◌}
use mathlib.Core.Path.{◌≡◌, refl, ap, sym, ◌∙◌}
use mathlib.Core.List.{List, [], ◌∷◌, ◌++◌, append_assoc, append-nil}
use mathlib.Core.Option.{Option, none, some, map}
use native.Mathlib.Omega.{arith}
use native.Mathlib.Numerals.{add-one}
use borrow.Author.Tests.{lt-ltb, le-ltb, le-leb, lt-leb, eq-eqb, ne_eqb}
use lib.ListN.{length, get_or, set, take}
use Rattle.kinds.specs.Positions.{Pos}
use Rattle.kinds.proofs.ListLaws.{take_set}
use Rattle.report.specs.Paths.{child_on, child_of, path_to, path_of}

module _ (sp : List ℕ) (x : ℕ) where
  -- a node that is none has no child
  pub child_last : (a : ℕ) → length sp ≤ a → child_of sp x a ≡ none
  unfolding child_on
  child_last a h = rw (le-ltb (a + 1) (length sp) (omega arith))

  module _ (end k c : ℕ) (l : k ≤ 4) where
    more : 5 - k ≡ suc (5 - (k + 1))
    more = omega arith

    pub child_out : length sp ≤ c → child_on sp end x (5 - k) c k ≡ none
    unfolding child_on
    child_out h = rw (more, le-ltb c (length sp) h)

    pub child_empty : c < length sp → get_or sp c 0 ≡ 0 → child_on sp end x (5 - k) c k ≡ none
    unfolding child_on
    child_empty h e = rw (more, lt-ltb c (length sp) h, le-ltb 0 (get_or sp c 0) (omega arith))

    module _ (h : c < length sp) (some_span : get_or sp c 0 ≡ 0 → ⊥) where
      spans_some : 0 < get_or sp c 0
      spans_some = omega (arith, some_span)

      pub child_past : end < c + get_or sp c 0 → child_on sp end x (5 - k) c k ≡ none
      unfolding child_on
      child_past g = rw (more, lt-ltb c (length sp) h, lt-ltb 0 (get_or sp c 0) spans_some, lt-leb (c + get_or sp c 0) end g)

      pub child_here : c + get_or sp c 0 ≤ end → x < c + get_or sp c 0 → child_on sp end x (5 - k) c k ≡ some (k, c)
      unfolding child_on
      child_here i g =
          rw (more, lt-ltb c (length sp) h, lt-ltb 0 (get_or sp c 0) spans_some, le-leb (c + get_or sp c 0) end i, lt-ltb x (c + get_or sp c 0) g)

      pub child_next : c + get_or sp c 0 ≤ end → c + get_or sp c 0 ≤ x
          → child_on sp end x (5 - k) c k ≡ child_on sp end x (5 - (k + 1)) (c + get_or sp c 0) (k + 1)
      unfolding child_on
      child_next i g =
          rw (more, lt-ltb c (length sp) h, lt-ltb 0 (get_or sp c 0) spans_some, le-leb (c + get_or sp c 0) end i, le-ltb x (c + get_or sp c 0) g)

  -- behind the last
  pub child_end : (end k c i : ℕ) → 4 ≤ k → child_on sp end x (5 - (k + 1)) c i ≡ none
  unfolding child_on
  child_end end k c i h = let e : 5 - (k + 1) ≡ 0 = omega arith in rw e

  module _ (d a : ℕ) where
    pub place_here : d < 64 → a ≡ x → path_to (64 - d) sp x a ≡ some []
    unfolding path_to
    place_here l h = let e : 64 - d ≡ suc (64 - (d + 1)) = omega arith in rw (e, eq-eqb a x h)

    pub place_none : d < 64 → (a ≡ x → ⊥) → child_of sp x a ≡ none → path_to (64 - d) sp x a ≡ none
    unfolding path_to
    place_none l h q = let e : 64 - d ≡ suc (64 - (d + 1)) = omega arith in rw (e, ne_eqb a x h, q)

    pub place_next : (i c : ℕ) → d < 64 → (a ≡ x → ⊥) → child_of sp x a ≡ some (i, c)
        → path_to (64 - d) sp x a ≡ map (λ p. i ∷ p) (path_to (64 - (d + 1)) sp x c)
    unfolding path_to
    place_next i c l h q = let e : 64 - d ≡ suc (64 - (d + 1)) = omega arith in rw (e, ne_eqb a x h, q)

    pub place_end : 64 ≤ d → a ≡ x → path_to (64 - d) sp x a ≡ some []
    unfolding path_to
    place_end l h = let e : 64 - d ≡ 0 = omega arith in rw (e, eq-eqb a x h)

    pub place_over : 64 ≤ d → (a ≡ x → ⊥) → path_to (64 - d) sp x a ≡ none
    unfolding path_to
    place_over l h = let e : 64 - d ≡ 0 = omega arith in rw (e, ne_eqb a x h)

  pub path_out : length sp ≤ x → path_of sp x ≡ none
  unfolding path_of
  path_out h = rw (le-ltb x (length sp) h)

  pub path_begins : x < length sp → path_of sp x ≡ path_to 64 sp x 0
  unfolding path_of
  path_begins h = rw (lt-ltb x (length sp) h)

-- written so far: d numbers, the rest from node a on
pub record Written (sp : List ℕ) (x : ℕ) (o : List ℕ) (d a : ℕ) : Type 0 where
  pub rest : path_of sp x ≡ map (λ p. take d o ++ p) (path_to (64 - d) sp x a)

pub written_none_yet : (sp : List ℕ) (x : ℕ) (o : List ℕ) → x < length sp → Written sp x o 0 0
written_none_yet sp x o h = record { rest = path_begins sp x h ∙ go (path_to 64 sp x 0) }
  where
    go : (q : Option Pos) → q ≡ map (λ p. p) q
    go none = refl
    go (some p) = refl

module _ {sp : List ℕ} {x : ℕ} {o : List ℕ} {d a : ℕ} (w : Written sp x o d a) where
  pub written_done : path_to (64 - d) sp x a ≡ some [] → some (take d o) ≡ path_of sp x
  written_done e = sym (w.rest ∙ ap (map (λ p. take d o ++ p)) e ∙ ap some (append-nil (take d o)))

  pub written_nowhere : path_to (64 - d) sp x a ≡ none → none ≡ path_of sp x
  written_nowhere e = sym (w.rest ∙ ap (map (λ p. take d o ++ p)) e)

  pub written_next : (i c : ℕ) → d < length o → path_to (64 - d) sp x a ≡ map (λ p. i ∷ p) (path_to (64 - (d + 1)) sp x c)
      → Written sp x (set o d i) (d + 1) c
  written_next i c h e = record { rest = w.rest ∙ ap (map (λ p. take d o ++ p)) e ∙ go (path_to (64 - (d + 1)) sp x c) }
    where
      one : take (d + 1) (set o d i) ≡ take d o ++ (i ∷ [])
      one = ap (λ n. take n (set o d i)) (add-one d) ∙ take_set o d i h

      go : (q : Option Pos) → map (λ p. take d o ++ p) (map (λ p. i ∷ p) q) ≡ map (λ p. take (d + 1) (set o d i) ++ p) q
      go none = refl
      go (some p) = ap some (sym (ap (λ l. l ++ p) one ∙ append_assoc (take d o) (i ∷ []) p))
