-- S1 and S2 of a derivative: each goal owes something, at or under its announcement, and what is owed is apart.
--   label_owes                          the label is owed
--   child_below                         a child of a position is below it
--   deriv_owing deriv_low deriv_apart
use mathlib.Core.Path.{◌≡◌, refl, sym}
use mathlib.Core.List.{[], ◌∷◌, ◌++◌}
use mathlib.Core.Logic.{⊎_elim}
use Prim.Native.Nat.{ℕ}
use native.Mathlib.Omega.{arith}
use lib.ListN.{length-append}
use Rattle.kinds.specs.Positions.{Pos}
use Rattle.kinds.specs.Members.{◌∈◌, here}
use Rattle.kinds.proofs.Prefixes.{◌≼◌, ≼_refl, ≼_trans, ≼_snoc, ≼_same, comparable}
use Rattle.automaton.specs.Goals.{Calculus, Goal, State, label, deriv}
use Rattle.automaton.specs.Bare.{owed, args_of}
use Rattle.automaton.specs.Walking.{Setting, calculus}
use Rattle.automaton.proofs.Derivative.{Owes, owes, on_owes, on_in_place, args_under, Derived, kept, cut, new, derived, From, old, under, from}
use Rattle.automaton.proofs.Sound.{SoundState}

pub label_owes : (S : Setting) (s : State Pos) → SoundState S s → Owes s (label (calculus S) s)
label_owes S s w = owes w.root_in w.label_owed

-- a position right below another
pub child_below : (p : Pos) (i : ℕ) → (p ++ (i ∷ [])) ≼ p
child_below p i = ≼_snoc (i ∷ []) (≼_refl p)

module _ (S : Setting) where
  abbrev K : Calculus Pos
  K = calculus S

  module _ (s : State Pos) (w : SoundState S s) (f n : ℕ) where
    abbrev L : Pos
    L = label K s

    abbrev D : State Pos
    D = deriv K s f n

    pub deriv_owing : (g : Goal Pos) → g ∈ D → (o : Pos) × (o ∈ g.obs)
    deriv_owing g m = go (derived S s f n g m)
      where
        go : Derived S s f n g → (o : Pos) × (o ∈ g.obs)
        go (kept a e) = w.goals.owing g a
        go (cut h a e d o i) = (o, i)
        go (new i j l u b d) = rw d (L ++ (i ∷ []), here refl)

    pub deriv_low : (g : Goal Pos) → g ∈ D → (o : Pos) → o ∈ g.obs → o ≼ g.ann
    deriv_low g m o i = go (derived S s f n g m)
      where
        only : {p : Pos} → o ∈ (p ∷ []) → o ≼ p
        only {p} (here d) = rw d (≼_refl p)
        only {p = p} (Rattle.kinds.specs.Members.there x4) = elim x4 [ ]

        go : Derived S s f n g → o ≼ g.ann
        go (kept a e) = w.goals.low g a o i
        go (cut h a e d x j) = rw d (on_in_place L (args_of L n (owed S.shapes h L)) h.obs (rw d at i)
            (λ b ne. w.goals.low h a o b)
            (λ b c. args_under L n (owed S.shapes h L) c λ k l u z. rw z (≼_snoc (k ∷ []) (w.goals.low h a L b))))
        go (new c j l u h d) = rw d (only (rw d at i))

    pub deriv_apart : (o x : Pos) → Owes D o → Owes D x → o ≼ x → o ≡ x
    deriv_apart o x mo mx h =
        on_owes D mo λ g i j.
        on_owes D mx λ g' i' j'.
        go (from S s f n g o i j) (from S s f n g' x i' j')
      where
        -- nothing else that is owed stands above a child of the label
        alone : (y : Pos) → Owes s y → (y ≡ L → ⊥) → (i : ℕ) → (L ++ (i ∷ [])) ≼ y → ⊥
        alone y oy ne i u =
            ⊎_elim (λ (b : y ≼ L). ne (w.goals.apart y L oy (label_owes S s w) b))
            (λ (b : L ≼ y). ne (sym (w.goals.apart L y (label_owes S s w) oy b)))
            (comparable u (child_below L i))

        go : From S s n o → From S s n x → o ≡ x
        go (old a na) (old b nb) = w.goals.apart o x a b h
        go (old a na) (under i l u e) = absurd (na (w.goals.apart o L a (label_owes S s w) (≼_trans h (rw e (child_below L i)))))
        go (under i l u e) (old b nb) = absurd (alone x b nb i (rw e at h))
        go (under i l u e) (under j l' u' d) = ≼_same h (rw (e, d, length-append, length-append) (omega arith))
