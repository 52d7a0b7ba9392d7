-- S5 and S6: the label has at most five numbers, so positions have at most six.
--   root_label                  the label is owed by a root goal and has at most five numbers
--   deriv_small lift_small      obligation positions
--   ann_small gcp_small         announcements, and the displacement of a class
use mathlib.Core.Path.{◌≡◌}
use mathlib.Core.List.{[]}
use Prim.Native.Nat.{ℕ, ◌≤◌}
use native.Mathlib.Omega.{arith}
use lib.ListN.{length}
use Rattle.kinds.specs.Positions.{Pos, strip}
use Rattle.kinds.specs.Members.{◌∈◌}
use Rattle.kinds.proofs.Prefixes.{strip_join}
use Rattle.kinds.proofs.Codes.{Small, small_prefix, small_rest, small_snoc}
use Rattle.term.specs.Terms.{node}
use Rattle.automaton.specs.Goals.{Calculus, Goal, State, label, deriv}
use Rattle.automaton.specs.Classes.{gcp, lift}
use Rattle.automaton.specs.Walking.{Setting, calculus}
use Rattle.term.proofs.Subterms.{sub_depth}
use Rattle.automaton.proofs.Root.{gcp_below}
use Rattle.automaton.proofs.Derivative.{Owes, owes, on_owes, From, old, under, from, on_lifted, on_label}
use Rattle.automaton.proofs.Sound.{Real, Sound, SoundState}
use Rattle.automaton.proofs.Apart.{label_owes}
use Rattle.automaton.proofs.Within.{shape_at_lem}
use Rattle.automaton.proofs.Owed.{below_gcp}

module _ (S : Setting) where
  abbrev K : Calculus Pos
  K = calculus S

  -- a position that a root goal owes is a position of its shape
  root_short : (g : Goal Pos) (o : Pos) → g.ann ≡ [] → Real S g o → length o ≤ 5
  root_short g o e r =
      let h = sub_depth (strip g.ann o) r.shape (node r.head r.kids) r.is in
      let d = (shape_at_lem S g.shape r.shape r.is_shape).flat in
      let z : strip g.ann o ≡ o = rw e in
      let h' = rw z at h in omega arith

  -- goals of which one announces at the root are a state
  pub root_label : (s : State Pos) → Sound S s → (r : Goal Pos) → r ∈ s → r.ann ≡ [] → SoundState S s
  root_label s w r i e =
      let o = w.owing r i in
      on_label S s r o.0 i e o.1 λ g a b c.
      record { goals = w; root = g; root_in = a; root_at = b; label_owed = c; label_short = root_short g (label K s) b (w.real g a (label K s) c) }

  pub deriv_small : (s : State Pos) → SoundState S s → (f n : ℕ) → n ≤ 4 → (o : Pos) → Owes (deriv K s f n) o → Small o
  deriv_small s w f n few o m = on_owes (deriv K s f n) m λ g i j. go (from S s f n g o i j)
    where
      go : From S s n o → Small o
      go (old a ne) = w.goals.small o a
      go (under i l u e) = rw e (small_snoc (label K s) i (w.goals.small (label K s) (label_owes S s w)) w.label_short l (omega arith))

  pub lift_small : (k : State Pos) → Sound S k → (o : Pos) → Owes (lift K k) o → Small o
  lift_small k w o m = on_lifted S k o m λ y g i j e.
      rw e (small_rest (gcp k) (strip (gcp k) y) (rw (strip_join (gcp k) y (below_gcp S k w g i y j)) (w.small y (owes i j))))

  pub ann_small : (s : State Pos) → Sound S s → (g : Goal Pos) → g ∈ s → Small g.ann
  ann_small s w g m = let o = w.owing g m in small_prefix (w.low g m o.0 o.1) (w.small o.0 (owes m o.1))

  pub gcp_small : (k : State Pos) → Sound S k → (g : Goal Pos) → g ∈ k → Small (gcp k)
  gcp_small k w g m = small_prefix (gcp_below k g m) (ann_small k w g m)
