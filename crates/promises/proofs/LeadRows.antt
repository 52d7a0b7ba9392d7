-- What pairs of a number and a code lead to: the computed list is the one that `AllLead` says.
--   targets_some some_targets      pairs, place by place
--   lead_targets targets_lead      the pairs counted at a word
use mathlib.Core.Path.{◌≡◌, refl, ap, sym, ◌∙◌}
use mathlib.Core.Bool.{true}
use mathlib.Core.List.{List, [], ◌∷◌}
use mathlib.Core.Option.{Option, some}
use Prim.Native.Nat.{ℕ, zero, suc, ◌+◌, ◌*◌, ◌<◌}
use native.Mathlib.Omega.{arith}
use borrow.Author.Tests.{lt-ltb, ltb-true}
use lib.Dec.{ltb}
use lib.ListN.{length, get_or, get_elem?}
use Rattle.kinds.specs.Positions.{code_good}
use Rattle.kinds.proofs.Options.{none_not, on_bind, on_need}
use Rattle.kinds.proofs.Places.{at_below}
use Rattle.readers.specs.PlanParts.{pair_at}
use Rattle.readers.specs.BlockWords.{pair_list}
use Rattle.readers.proofs.LawsPairs.{pair_list_length, pair_list_at}
use Rattle.readers.proofs.LawsParts.{second}
use Rattle.queue.specs.Targets.{targets}
use Rattle.promises.specs.StepFound.{LeadsTo, AllLead}
use Rattle.promises.proofs.ReaderRows.{pair_of_lem}

-- ---- place by place
module _ (limit : ℕ) (to : ℕ → Option ℕ) where
  abbrev Lands : ℕ × ℕ → ℕ × ℕ → Type 0
  Lands x y = (x.0 < limit) × ((x.0 ≡ y.0) × (to x.1 ≡ some y.1))

  abbrev AllLand : List (ℕ × ℕ) → List (ℕ × ℕ) → Type 0
  AllLand ps ys = (length ys ≡ length ps) × ((j : ℕ) (x y : ℕ × ℕ) → get_elem? ps j ≡ some x → get_elem? ys j ≡ some y → Lands x y)

  land_more : (x y : ℕ × ℕ) (ps ys : List (ℕ × ℕ)) → Lands x y → AllLand ps ys → AllLand (x ∷ ps) (y ∷ ys)
  land_more x y ps ys l h = (ap suc h.0, go)
    where
      go : (j : ℕ) (p q : ℕ × ℕ) → get_elem? (x ∷ ps) j ≡ some p → get_elem? (y ∷ ys) j ≡ some q → Lands p q
      go zero p q a b = let c : x ≡ p = cc in let d : y ≡ q = cc in rw (← c, ← d) l
      go (suc j) p q a b = h.1 j p q a b

  targets_some : (ps ys : List (ℕ × ℕ)) → AllLand ps ys → targets limit to ps ≡ some ys
  unfolding targets
  targets_some [] [] h = refl
  targets_some [] (y ∷ ys) h = let n = h.0 in absurd (omega arith)
  targets_some (x ∷ ps) [] h = let n = h.0 in absurd (omega arith)
  targets_some (x ∷ ps) (y ∷ ys) h =
      let a = h.1 0 x y refl refl in
      let n = h.0 in
      rw (lt-ltb x.0 limit a.0, a.1.1, targets_some ps ys (omega arith, λ j p q d e. h.1 (suc j) p q d e))
      (ap (λ (k : ℕ). some ((k, y.1) ∷ ys)) a.1.0)

  some_targets : (ps ys : List (ℕ × ℕ)) → targets limit to ps ≡ some ys → AllLand ps ys
  unfolding targets
  some_targets [] ys e = let z : [] ≡ ys = cc in rw (← z) (refl, λ j x y a b. none_not a)
  some_targets (x ∷ ps) ys e =
      on_need (ltb x.0 limit) _ e λ t d.
      on_bind (to x.1) _ d λ y ey d₁.
      on_bind (targets limit to ps) _ d₁ λ zs ez d₂.
      let z : (x.0, y) ∷ zs ≡ ys = cc in
      rw (← z) (land_more x (x.0, y) ps zs (ltb-true x.0 limit t, (refl, ey)) (some_targets ps zs ez))

  -- ---- the pairs counted at a word
  module _ (plan : List ℕ) (at : ℕ) (ys : List (ℕ × ℕ)) where
    abbrev ps : List (ℕ × ℕ)
    ps = pair_list plan (at + 1) (get_or plan at 0)

    many : length ps ≡ get_or plan at 0
    many = pair_list_length (get_or plan at 0) plan (at + 1)

    pub lead_targets : AllLead plan at limit to ys → targets limit to ps ≡ some ys
    unfolding pair_at
    lead_targets h = targets_some ps ys (h.as_many ∙ sym many, go)
      where
        go : (j : ℕ) (x y : ℕ × ℕ) → get_elem? ps j ≡ some x → get_elem? ys j ≡ some y → Lands x y
        go j x y ex ey =
            let l = h.each j y ey in
            on_bind (get_elem? ps j) _ (pair_of_lem plan at limit j (y.0, l.code) l.pair) λ a ea d.
            on_need (ltb a.0 limit) _ d λ t d₁.
            on_need (code_good a.1) _ d₁ λ t₁ d₂.
            let z : x ≡ (y.0, l.code) = cc in
            rw z (l.pair.number_in, (refl, l.node))

    pub targets_lead : ((c y : ℕ) → to c ≡ some y → code_good c ≡ true) → targets limit to ps ≡ some ys → AllLead plan at limit to ys
    targets_lead good e = record { as_many = h.0 ∙ many; each = go }
      where
        h : AllLand ps ys
        h = some_targets ps ys e

        go : (j : ℕ) (y : ℕ × ℕ) → get_elem? ys j ≡ some y → LeadsTo plan at limit to j y
        go j y ey =
            let n = at_below ys j ey in
            let m = h.0 ∙ many in
            let k : j < get_or plan at 0 = omega arith in
            let l = h.1 j _ y (pair_list_at (get_or plan at 0) plan (at + 1) j k) ey in
            record {
              code = get_or plan (at + 1 + 2 * j + 1) 0;
              pair = record {
                counted = k;
                number = sym l.1.0;
                code = ap (λ (q : ℕ). get_or plan q 0) (sym (second at j));
                number_in = rw (← l.1.0) l.0;
                code_in = good _ y.1 l.1.1;
              };
              node = l.1.1;
            }
