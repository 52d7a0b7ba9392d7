-- Direct dependency in words is that of the construction.
use mathlib.Core.Path.{◌≡◌, refl, ap₂, sym, ◌∙◌}
use mathlib.Core.List.{List, [], ◌∷◌, ◌++◌, map}
use mathlib.Core.Bool.{◌||◌}
use Prim.Native.Nat.{ℕ, ◌<◌}
use native.Mathlib.Omega.{arith}
use native.Mathlib.Decide.{ℕ_discrete}
use borrow.Author.Tests.{eq-eqb, ne_eqb}
use lib.Dec.{eqb}
use lib.ListN.{length}
use Rattle.automaton.specs.Classes.{dep}
use Rattle.automaton.specs.Bare.{bare}
use Rattle.kinds.proofs.Codes.{code_same}
use Rattle.kinds.proofs.Members.{on_map}
use Rattle.kinds.specs.Members.{here, there}
use Rattle.kinds.specs.Lists.{any, same}
use Rattle.kinds.specs.Positions.{Pos, code, decode}
use Rattle.decoding.proofs.LabelDecoded.{Fit}
use Rattle.decoding.proofs.GoalDecoded.{Fine, owed_is}
use Rattle.decoding.specs.Decoding.{select, shape_at, goal_meant, TableOf}
use Rattle.goals.specs.GoalWords.{GoalWords}
use Rattle.goals.specs.WordStages.{has_code, sharing, dep_w}
use Rattle.term.specs.Places.{dom}
use Rattle.term.specs.Terms.{Term}

eqb_turn : (a b : ℕ) → eqb a b ≡ eqb b a
eqb_turn a b = go (ℕ_discrete a b)
  where
    go : Dec (a ≡ b) → eqb a b ≡ eqb b a
    go (yes e) = eq-eqb a b e ∙ sym (eq-eqb b a (sym e))
    go (no n) = ne_eqb a b n ∙ sym (ne_eqb b a (λ z. n (sym z)))

pub has_code_lem : (o : Pos) (qs : List Pos) → Fit (o ∷ qs) → has_code (code o) (map code qs) ≡ any (same o) qs
has_code_lem o [] f = refl
has_code_lem o (q ∷ qs) f =
    let a = f o (here refl) in
    let b = f q (there (here refl)) in
    ap₂ (λ x y. x || y)
    (eqb_turn (code q) (code o) ∙ code_same o q a.0 b.0 (omega (arith, a.1)) (omega (arith, b.1)))
    (has_code_lem o qs (skip f))
  where
    skip : Fit (o ∷ q ∷ qs) → Fit (o ∷ qs)
    skip g x (here e) = g x (here e)
    skip g x (there m) = g x (there (there m))

pub sharing_is : (ps qs : List Pos) → Fit ps → Fit qs → sharing (map code ps) (map code qs) ≡ any (λ o. any (same o) qs) ps
unfolding sharing
sharing_is [] qs fp fq = refl
sharing_is (p ∷ ps) qs fp fq = ap₂ (λ x y. x || y) (has_code_lem p qs both) (sharing_is ps qs (λ x i. fp x (there i)) fq)
  where
    both : Fit (p ∷ qs)
    both x (here e) = fp x (here e)
    both x (there m) = fq x m

pub fit_obs : (shapes : List Term) (g : GoalWords) → Fine shapes g → Fit (goal_meant shapes g).obs
fit_obs shapes g fine q m =
    on_map (λ r. decode g.an ++ r) (select g.mask (dom (shape_at shapes g.sh))) m λ r k d. rw d (fine.fit r k)

pub dep_is : (shapes : List Term) (tab : List ℕ) → ((s : ℕ) → s < length shapes → TableOf tab s (shape_at shapes s)) → (g h : GoalWords)
    → Fine shapes g → Fine shapes h → dep_w tab g h ≡ dep (bare shapes) (goal_meant shapes g) (goal_meant shapes h)
dep_is shapes tab tables g h fg fh =
    ap₂ sharing (owed_is shapes tab tables g fg) (owed_is shapes tab tables h fh)
    ∙ sharing_is (goal_meant shapes g).obs (goal_meant shapes h).obs (fit_obs shapes g fg) (fit_obs shapes h fh)
