-- Following a position from a node by spans, way by way.
--   child_out child_in                                       a child, and its parent
--   siblings, siblings_out siblings_empty siblings_past siblings_here siblings_next   a child, over its earlier siblings
--   follow_append descend_root descend_child descend_none    a code, by its higher digits and its last
--   target_in                                                a node that a code leads to is below the bounds
--   reached_at reached_nowhere                               the answer of following, taken apart
use Rattle.std.specs.Prelude.{None, Some}
use mathlib.Core.Path.{◌≡◌, refl, ap, ◌∙◌}
use mathlib.Core.Bool.{false, true}
use mathlib.Core.List.{List, [], ◌∷◌, ◌++◌}
use mathlib.Core.Option.{Option, none, some}
use Prim.Native.Nat.{ℕ, zero, suc, ◌+◌, ◌-◌, ◌/◌, ◌%◌, ◌<◌, ◌≤◌}
use native.Mathlib.Omega.{arith}
use borrow.Author.Tests.{lt-ltb, le-ltb, le-leb, lt-leb}
use lib.Dec.{ltb}
use lib.ListN.{length, get_or}
use Rattle.kinds.specs.Lists.{bind}
use Rattle.kinds.specs.Positions.{Pos, decode, code_good}
use Rattle.kinds.specs.declared.Node.{Node}
use Rattle.kinds.proofs.Bools.{and_l, and_r, ltb_is}
use Rattle.kinds.proofs.Options.{on_bind, on_need}
use Rattle.kinds.proofs.Codes.{decode_nil, decode_more}
use Rattle.following.specs.Following.{inside, sibling, child_at, follow, node_good, target, reached}

-- ---- a child
module _ (spans : List ℕ) where
  pub child_out : (i at : ℕ) → length spans ≤ at → child_at spans i at ≡ none
  unfolding child_at
  child_out zero at h = refl
  child_out (suc i) at h = rw (le-ltb _ _ h)

  module _ (end : ℕ) where
    -- child i, counted from 1; none where none is asked for
    abbrev pub siblings : ℕ → ℕ → Option ℕ
    siblings zero at = none
    siblings (suc i) at = sibling spans end i at

    outside : (i at : ℕ) → inside spans end at ≡ false → siblings i at ≡ none
    unfolding sibling
    outside zero at e = refl
    outside (suc zero) at e = rw e
    outside (suc (suc i)) at e = rw e

    pub siblings_out : (i at : ℕ) → length spans ≤ at → siblings i at ≡ none
    siblings_out i at h = outside i at (rw (le-ltb _ _ h))

    pub siblings_empty : (i at : ℕ) → at < length spans → get_or spans at 0 ≡ 0 → siblings i at ≡ none
    siblings_empty i at h e = outside i at (let z : ltb 0 (get_or spans at 0) ≡ false = rw e in rw (lt-ltb _ _ h, z))

    pub siblings_past : (i at : ℕ) → at < length spans → (get_or spans at 0 ≡ 0 → ⊥) → end < at + get_or spans at 0 → siblings i at ≡ none
    siblings_past i at h e l = outside i at (let p : 0 < get_or spans at 0 = omega arith in rw (lt-ltb _ _ h, lt-ltb _ _ p, lt-leb _ _ l))

    within : (at : ℕ) → at < length spans → (get_or spans at 0 ≡ 0 → ⊥) → at + get_or spans at 0 ≤ end → inside spans end at ≡ true
    within at h e l = let p : 0 < get_or spans at 0 = omega arith in rw (lt-ltb _ _ h, lt-ltb _ _ p, le-leb _ _ l)

    pub siblings_here : (i at : ℕ) → at < length spans → (get_or spans at 0 ≡ 0 → ⊥) → at + get_or spans at 0 ≤ end → i ≡ 1
        → siblings i at ≡ some at
    unfolding sibling
    siblings_here i at h e l z = rw (z, within at h e l)

    pub siblings_next : (i at : ℕ) → at < length spans → (get_or spans at 0 ≡ 0 → ⊥) → at + get_or spans at 0 ≤ end → 1 < i
        → siblings i at ≡ siblings (i - 1) (at + get_or spans at 0)
    unfolding sibling
    siblings_next zero at h e l n = absurd (omega arith)
    siblings_next (suc zero) at h e l n = absurd (omega arith)
    siblings_next (suc (suc i)) at h e l n = let b : suc (suc i) - 1 ≡ suc i = omega arith in rw (within at h e l, b)

  pub child_in : (i at : ℕ) → at < length spans → child_at spans i at ≡ siblings (at + get_or spans at 0) i (at + 1)
  unfolding child_at
  child_in zero at h = refl
  child_in (suc i) at h = let a : suc at ≡ at + 1 = omega arith in rw (lt-ltb _ _ h, a)

-- ---- a position
pub follow_append : (spans : List ℕ) (p q : Pos) (at : ℕ) → follow spans (p ++ q) at ≡ bind (follow spans p at) (λ x. follow spans q x)
unfolding follow
follow_append spans [] q at = refl
follow_append spans (i ∷ p) q at = go (child_at spans i at) (λ x. follow_append spans p q x)
  where
    go : (o : Option ℕ) → ((x : ℕ) → follow spans (p ++ q) x ≡ bind (follow spans p x) (λ y. follow spans q y))
        → bind o (λ x. follow spans (p ++ q) x) ≡ bind (bind o (λ x. follow spans p x)) (λ x. follow spans q x)
    go none ih = refl
    go (some x) ih = ih x

module _ (spans : List ℕ) (at c : ℕ) where
  pub descend_root : c ≡ 0 → follow spans (decode c) at ≡ some at
  unfolding follow
  descend_root e = ap (λ (x : ℕ). follow spans (decode x) at) e ∙ ap (λ (p : Pos). follow spans p at) (decode_nil 7)

  descend : (c ≡ 0 → ⊥) → c < 65536 → follow spans (decode c) at ≡ bind (follow spans (decode (c / 5)) at) (λ x. child_at spans (c % 5) x)
  unfolding follow
  descend n h =
      ap (λ (p : Pos). follow spans p at) (decode_more c (omega arith) (omega arith))
      ∙ follow_append spans (decode (c / 5)) (c % 5 ∷ []) at
      ∙ last (follow spans (decode (c / 5)) at)
    where
      one : (o : Option ℕ) → bind o (λ x. some x) ≡ o
      one none = refl
      one (some x) = refl

      last : (o : Option ℕ) → bind o (λ x. follow spans (c % 5 ∷ []) x) ≡ bind o (λ x. child_at spans (c % 5) x)
      last none = refl
      last (some x) = one (child_at spans (c % 5) x)

  pub descend_child : {x : ℕ} → (c ≡ 0 → ⊥) → c < 65536 → follow spans (decode (c / 5)) at ≡ some x
      → follow spans (decode c) at ≡ child_at spans (c % 5) x
  descend_child n h e = descend n h ∙ rw e

  pub descend_none : (c ≡ 0 → ⊥) → c < 65536 → follow spans (decode (c / 5)) at ≡ none → follow spans (decode c) at ≡ none
  descend_none n h e = descend n h ∙ rw e

-- ---- a target
pub target_in : (n : ℕ) (spans : List ℕ) (at c y : ℕ) → target n spans at c ≡ some y → (y < n) × (y < 65536)
unfolding target
target_in n spans at c y e =
    on_need (code_good c) _ e λ t d.
    on_bind (follow spans (decode c) at) _ d λ z ez d₁.
    on_need (node_good n z) _ d₁ λ t₂ d₂.
    let zy : z ≡ y = cc in
    let a : z < n = ltb_is _ _ (and_l _ t₂) in
    let b : z < 65536 = ltb_is _ _ (and_r (ltb z n) t₂) in
    omega arith

pub reached_at : (o : Option ℕ) (x : Node) → reached o ≡ Some x → o ≡ some x.0
reached_at none x e = let z : ◌≡◌ {A = ℕ} 0 1 = cc in absurd (omega arith)
reached_at (some y) x e = let z : ◌≡◌ {A = Node} (record { 0 = y }) x = cc in ap (λ n. some n.0) z

pub reached_nowhere : (o : Option ℕ) → reached o ≡ None → o ≡ none
reached_nowhere none e = refl
reached_nowhere (some y) e = let z : ◌≡◌ {A = ℕ} 0 1 = cc in absurd (omega arith)
