-- A position's child is found, or lies beyond the codes in use; a position is followed to a node, or to none.
use Rattle.std.specs.Prelude.{None, Some}
use mathlib.Core.Path.{◌≡◌, refl, ap, sym, ◌∙◌}
use mathlib.Core.List.{List, [], ◌∷◌}
use mathlib.Core.Option.{Option, none, some}
use mathlib.Core.Logic.{◌⊎◌, inl, inr}
use borrow.Author.Tests.{lt-ltb, ltb-true}
use lib.Dec.{ltb}
use mathlib.Core.Bool.{true, false}
use Rattle.kinds.proofs.Bools.{and_l, and_r, test}
use Rattle.kinds.proofs.Options.{on_bind, on_need}
use Rattle.following.specs.Following.{follow, node_good, target, reached, reached_says}
use Prim.Native.Nat.{ℕ, ◌+◌, ◌*◌, ◌<◌}
use native.Mathlib.Omega.{arith}
use native.Mathlib.Decide.{dec_lt}
use Rattle.kinds.specs.Positions.{decode, code_good, largest}
use Rattle.kinds.specs.Kinds.{position, child_of, child_says}
use Rattle.kinds.specs.declared.Position.{Position}
use Rattle.kinds.proofs.KindLaws.{child_bad, child_none, child_many, child_far, child_at_lem}
use Rattle.promises.specs.Found.{FoundRow, ChildFound, Reaches}
use Rattle.promises.specs.Told.{By}
use Rattle.promises.proofs.FoundRows.{by_found}

pub by_child : (p : Position) (i : ℕ) → By (FoundRow (ChildFound p i) (λ c. c ∷ [])) (child_says (child_of p i))
by_child p i = by_found (ChildFound p i) (λ c. c ∷ []) child_says None (λ c. Some (position c)) (child_of p i) refl (λ c. refl) is
    (either (test (code_good p.0)) (dec_lt i 1) (dec_lt 4 i) (dec_lt largest (5 * p.0 + i)))
  where
    is : (c : ℕ) → ChildFound p i c → child_of p i ≡ Some (position c)
    is c f = let e = f.code in let u = f.in_use in
        child_at_lem p i f.position f.number.0 f.number.1 (omega arith) ∙ ap (λ x. Some (position x)) (sym e)

    either : (code_good p.0 ≡ true) ⊎ (code_good p.0 ≡ false) → Dec (i < 1) → Dec (4 < i) → Dec (largest < 5 * p.0 + i)
        → ((c : ℕ) × ChildFound p i c) ⊎ (child_of p i ≡ None)
    either (inr n) a b c = inr (child_bad p i n)
    either (inl g) (yes a) b c = inr (child_none p i g a)
    either (inl g) (no a) (yes b) c = inr (child_many p i g b)
    either (inl g) (no a) (no b) (yes c) = inr (child_far p i g (omega arith) (omega arith) c)
    either (inl g) (no a) (no b) (no c) =
        inl (5 * p.0 + i, record { position = g; number = (omega arith, omega arith); code = refl; in_use = omega arith })

pub by_follow : (spans : List ℕ) (n from by : ℕ)
    → By (FoundRow (Reaches spans n from by) (λ x. x ∷ [])) (reached_says (reached (target n spans from by)))
unfolding target
by_follow spans n from by = by_found (Reaches spans n from by) (λ x. x ∷ []) (λ o. reached_says (reached o)) none some (target n spans from by) refl
    (λ x. refl) is (either (target n spans from by) refl)
  where
    is : (x : ℕ) → Reaches spans n from by x → target n spans from by ≡ some x
    is x f = rw (f.code_in, f.way, lt-ltb x n f.node_in.0, lt-ltb x 65536 f.node_in.1) refl

    either : (o : Option ℕ) → target n spans from by ≡ o → ((x : ℕ) × Reaches spans n from by x) ⊎ (target n spans from by ≡ none)
    either none e = inr e
    either (some x) e =
        on_need (code_good by) _ e λ t d.
        on_bind (follow spans (decode by) from) _ d λ y ey d₁.
        on_need (node_good n y) _ d₁ λ t₁ d₂.
        let z : y ≡ x = cc in
        inl (y, record { code_in = t; way = ey; node_in = (ltb-true y n (and_l _ t₁), ltb-true y 65536 (and_r (ltb y n) t₁)) })
