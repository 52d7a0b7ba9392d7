-- The words of a shape, among those of shapes laid one behind the other.
--   shape_words_lem  they are the words of the term
--   shapes_laid      they lie among the words
use Prim.Native.Nat.{ℕ, zero, suc, ◌+◌, ◌-◌, ◌<◌, ◌≤◌}
use mathlib.Core.Path.{◌≡◌, refl, ap, ap₂, sym, ◌∙◌}
use mathlib.Core.List.{List, [], ◌∷◌, ◌++◌, append_assoc}
use mathlib.Core.Bool.{Bool, cond}
use mathlib.Core.Option.{some}
use native.Mathlib.Omega.{arith}
use native.Mathlib.Decide.{dec_lt}
use lib.ListN.{length, get_or, get_elem?, length-append}
use lib.Seq.{drop_at, take_at}
use Rattle.kinds.specs.Lists.{gather}
use Rattle.kinds.proofs.Bools.{is_ltb, ltb_suc}
use Rattle.kinds.proofs.Options.{none_not}
use Rattle.kinds.proofs.Places.{at_below, at_some}
use Rattle.term.specs.Terms.{Term, span, flatten}
use Rattle.term.proofs.Sizes.{length_flatten, span_pos}
use Rattle.folio.specs.Folio.{starts_at}
use Rattle.folio.proofs.ShapesFound.{length_starts}
use Rattle.matching.specs.Shapes.{end_of, part, shape_at, Laid}
use Rattle.matching.proofs.LawsShapes.{part_none, part_out, part_is, words_are}

first_end : (pre : List ℕ) (s : Term) (ss : List Term) (at : ℕ) → length pre ≡ at
    → end_of (pre ++ (flatten s ++ gather flatten ss)) (starts_at at (s ∷ ss)) 0 ≡ at + span s
unfolding end_of
first_end pre s [] at e = let l = length_flatten s in simp length-append (omega arith)
first_end pre s (u ∷ ss) at e = rw (is_ltb 1 (suc (suc (length (starts_at (at + span s + span u) ss)))) (omega arith))

first_part : (pre w r : List ℕ) (at n : ℕ) → length pre ≡ at → length w ≡ n → part (pre ++ (w ++ r)) at (at + n) ≡ w
first_part pre w r at n e d =
    let a : length (pre ++ (w ++ r)) ≡ length pre + (length w + length r) = rw (length-append, length-append) in
    let z : at + n - at ≡ n = omega arith in
    part_is (pre ++ (w ++ r)) at (at + n) (omega arith) (omega arith) ∙ rw (z, drop_at pre (w ++ r) at e) (take_at w r n d)

shape_part_lem : (ss : List Term) (j : ℕ) (ℓ : Term) (at : ℕ) (pre : List ℕ) → length pre ≡ at → get_elem? ss j ≡ some ℓ
    → part (pre ++ gather flatten ss) (get_or (starts_at at ss) j 0) (end_of (pre ++ gather flatten ss) (starts_at at ss) j) ≡ flatten ℓ
unfolding end_of
shape_part_lem [] j ℓ at pre e h = none_not h
shape_part_lem (s ∷ ss) zero ℓ at pre e h =
    let z : s ≡ ℓ = cc in
    rw (first_end pre s ss at e, ← z) (first_part pre (flatten s) (gather flatten ss) at (span s) e (length_flatten s))
shape_part_lem (s ∷ ss) (suc j) ℓ at pre e h =
    let l : length (pre ++ flatten s) ≡ at + span s = let k = length_flatten s in rw length-append (omega arith) in
    ap₂ (λ (w : List ℕ) (b : Bool). part w (get_or (starts_at (at + span s) ss) j 0) (cond b (get_or (starts_at (at + span s) ss) (suc j) 0) (length w)))
    (sym (append_assoc pre (flatten s) (gather flatten ss))) (ltb_suc (suc j) (length (starts_at (at + span s) ss)))
    ∙ shape_part_lem ss j ℓ (at + span s) (pre ++ flatten s) l h

pub shape_words_lem : (ss : List Term) (j : ℕ) (ℓ : Term) → get_elem? ss j ≡ some ℓ → shape_at (gather flatten ss) (starts_at 0 ss) j ≡ flatten ℓ
shape_words_lem ss j ℓ h = let b = at_below ss j h in words_are (gather flatten ss) (starts_at 0 ss) j (rw (length_starts 0 ss) b) ∙ shape_part_lem ss j ℓ 0 [] refl h

-- a part that has words lies where it is asked for
part_in : (ws : List ℕ) (a e : ℕ) → 0 < length (part ws a e) → (a ≤ e) × (e ≤ length ws)
part_in ws a e h = go (dec_lt e a) (dec_lt (length ws) e)
  where
    go : Dec (e < a) → Dec (length ws < e) → (a ≤ e) × (e ≤ length ws)
    go (yes l) d = absurd (omega (arith, h, ap length (part_none ws a e l)))
    go (no l) (yes k) = absurd (omega (arith, h, ap length (part_out ws a e (omega arith) k)))
    go (no l) (no k) = (omega arith, omega arith)

pub shapes_laid : (ss : List Term) → Laid (gather flatten ss) (starts_at 0 ss)
shapes_laid ss j h =
    let ℓ = at_some ss j (omega (arith, h, length_starts 0 ss)) in
    let e = shape_part_lem ss j ℓ.0 0 [] refl ℓ.1 in
    part_in (gather flatten ss) (get_or (starts_at 0 ss) j 0) (end_of (gather flatten ss) (starts_at 0 ss) j)
    (omega (arith, ap length e, length_flatten ℓ.0, span_pos ℓ.0))
