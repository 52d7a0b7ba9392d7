-- S4: where something is owed stands the fresh goal of every shape, in a derivative, a class of it, and that class lifted.
--   fresh_stays     a fresh goal away from the label stays
--   deriv_fresh class_fresh lift_fresh
use mathlib.Core.Path.{◌≡◌, sym}
use mathlib.Core.List.{[], ◌∷◌}
use Prim.Native.Nat.{ℕ, ◌<◌}
use lib.ListN.{length}
use Rattle.kinds.specs.Lists.{same}
use Rattle.kinds.specs.Positions.{Pos}
use Rattle.kinds.proofs.Bools.{or_l, not_true}
use Rattle.kinds.proofs.Members.{map_in, any_of, same_is, same_refl}
use Rattle.kinds.specs.Members.{◌∈◌}
use Rattle.automaton.specs.Goals.{Calculus, State, has, label, deriv}
use Rattle.automaton.specs.Classes.{classes, gcp, lift_goal, lift}
use Rattle.automaton.specs.Bare.{fresh}
use Rattle.automaton.specs.Walking.{Setting, calculus}
use Rattle.automaton.proofs.Classes.{class_sub, class_closed}
use Rattle.automaton.proofs.Derivative.{Owes, owes, on_owes, kept_in, new_in, From, old, under, from, on_lifted}
use Rattle.automaton.proofs.Sound.{Sound, SoundState}

module _ (S : Setting) where
  abbrev K : Calculus Pos
  K = calculus S

  pub fresh_stays : (s : State Pos) (f n : ℕ) (p : Pos) (i : ℕ) → fresh p i ∈ s → (p ≡ label K s → ⊥) → fresh p i ∈ deriv K s f n
  fresh_stays s f n p i m h = kept_in S s f n (fresh p i) m (rw (not_true (same (label K s) p) (λ e. h (sym (same_is (label K s) p e)))))

  pub deriv_fresh : (s : State Pos) → SoundState S s → (f n : ℕ) (o : Pos) → Owes (deriv K s f n) o → (i : ℕ) → i < length S.shapes
      → fresh o i ∈ deriv K s f n
  deriv_fresh s w f n o m i h = on_owes (deriv K s f n) m λ g a b. go (from S s f n g o a b)
    where
      go : From S s n o → fresh o i ∈ deriv K s f n
      go (old a na) = fresh_stays s f n o i (w.goals.fresh o a i h) na
      go (under j l u d) = rw d (new_in S s f n j i l u h)

  pub class_fresh : (d : State Pos) → Sound S d → (k : State Pos) → k ∈ classes K d → (o : Pos) → Owes k o → (i : ℕ) → i < length S.shapes
      → fresh o i ∈ k
  class_fresh d w k m o x i h =
      on_owes k x λ g a b.
      class_closed K d k m g (fresh o i) a (w.fresh o (owes (class_sub K d k m g a) b) i h)
      (any_of (λ y. has K y (o ∷ [])) b (or_l _ (same_refl o)))

  pub lift_fresh : (k : State Pos) → Sound S k → (o : Pos) → Owes (lift K k) o → (i : ℕ) → i < length S.shapes → fresh o i ∈ lift K k
  lift_fresh k w o x i h = on_lifted S k o x λ y g a b d. rw d (map_in (lift_goal K (gcp k)) (w.fresh y (owes a b) i h))
