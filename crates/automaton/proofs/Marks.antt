-- W4: what is announced, after every step.
--   ReadWhole        each node of a shape that is no blank falls on a position read
--   told_exactly     announced so far is what matches and was read whole
use mathlib.Core.Path.{◌≡◌}
use mathlib.Core.List.{List, [], ◌++◌, append_assoc, append-nil}
use mathlib.Core.Option.{some}
use mathlib.Core.Logic.{◌↔◌}
use Prim.Native.Nat.{ℕ}
use lib.ListN.{get_elem?}
use Rattle.kinds.specs.Positions.{Pos, strip}
use Rattle.kinds.specs.Members.{◌∈◌}
use Rattle.kinds.proofs.Prefixes.{◌≼◌, strip_join}
use Rattle.term.specs.Terms.{Term, node, Terms}
use Rattle.term.specs.Places.{sub, head_at, Matches}
use Rattle.automaton.specs.Goals.{Goal, Announcement}
use Rattle.automaton.specs.Walking.{Setting, Scored, Item}
use Rattle.automaton.proofs.Within.{shape_node}
use Rattle.automaton.proofs.Derivative.{owes}
use Rattle.automaton.proofs.Sound.{Real}
use Rattle.automaton.proofs.Reachable.{reachable_sound}
use Rattle.automaton.proofs.Invariant.{announced, Due, is_told, is_waiting, is_refuted, Invariant, unread}

abbrev pub ReadWhole : Term → Pos → List Pos → Type 0
ReadWhole x q R = (r : Pos) (k : ℕ) → head_at x r ≡ some k → (q ++ r) ∈ R

module _ (C : Scored) where
  abbrev S : Setting
  S = C.setting

  pub told_exactly : {items : List Item} {R : List Pos} {told : List Announcement} → Invariant C items R told → (i : ℕ) (x : Term)
      → get_elem? S.shapes i ≡ some x → (q : Pos)
      → (announced i q ∈ told) ↔ (Matches x C.score q × ReadWhole x q R)
  told_exactly {items} {R} {told} inv i x gx q =
      (λ m. (λ r k e. (inv.seen (announced i q) m x gx r k e).is, λ r k e. (inv.seen (announced i q) m x gx r k e).read), λ h. back h.0 h.1)
    where
      back : Matches x C.score q → ReadWhole x q R → announced i q ∈ told
      back mt rd = let so = shape_node S i x gx in go (inv.due q (root so.0 so.1 so.2) i x gx)
        where
          root : (f : ℕ) (us : Terms) → x ≡ node f us → q ∈ R
          root f us e = rw append-nil at (rd [] f (rw e))

          -- a goal that waits owes at a node of the shape that was not read
          unmet : (it : Item) (g : Goal Pos) → it ∈ items → g ∈ it.state → g.shape ≡ i → it.at ++ g.ann ≡ q → (o : Pos) → o ∈ g.obs → o ≼ g.ann
              → Real S g o → ⊥
          unmet it g m k es eq o j low r =
              let gx' : get_elem? S.shapes g.shape ≡ some x = rw es gx in
              let same_shape : r.shape ≡ x = cc (r.is_shape, gx') in
              let sx : sub x (strip g.ann o) ≡ some (node r.head r.kids) = rw (← same_shape) r.is in
              let place : q ++ strip g.ann o ≡ it.at ++ o = rw (← eq, append_assoc, strip_join g.ann o low) in
              unread inv it m o (owes k j) (rw place at (rd (strip g.ann o) r.head (rw sx)))

          go : Due C.score items R told i x q → announced i q ∈ told
          go (is_told m) = m
          go (is_refuted r k e m n) = absurd (n (mt r k e))
          go (is_waiting it g m k es eq) =
              let w = reachable_sound S (inv.reach it m) in
              let o = w.goals.owing g k in
              absurd (unmet it g m k es eq o.0 o.1 (w.goals.low g k o.0 o.1) (w.goals.real g k o.0 o.1))
