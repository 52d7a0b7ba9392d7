-- Every reachable state is sound; so are its derivatives and their classes.
--   initial_owes initial_sound deriv_sound class_sound lift_sound
--   reachable_sound      S1 to S6 of a reachable state
--   class_announces      a class of a derivative has a goal that announces at its greatest common prefix
--   next_sound           a class of a derivative, lifted, is a sound state again
use mathlib.Core.Path.{◌≡◌, refl, ap, sym, ◌∙◌}
use mathlib.Core.List.{[], ◌∷◌}
use mathlib.Core.Option.{some}
use Prim.Native.Nat.{ℕ}
use native.Mathlib.Omega.{arith}
use lib.ListN.{get_elem?}
use Rattle.kinds.specs.Positions.{Pos, strip}
use Rattle.kinds.proofs.Members.{on_map, map_in}
use Rattle.kinds.specs.Members.{◌∈◌, here, ◌⊆◌}
use Rattle.kinds.proofs.Prefixes.{◌≼◌, ≼_refl, strip_self, strip_below, strip_back}
use Rattle.kinds.proofs.Codes.{proper_nil}
use Rattle.automaton.specs.Goals.{Calculus, Goal, State, initial, deriv}
use Rattle.automaton.specs.Classes.{classes, gcp, lift_goal, lift}
use Rattle.automaton.specs.Bare.{fresh}
use Rattle.automaton.specs.Walking.{init, next, Setting, calculus, Reachable}
use Rattle.automaton.proofs.Classes.{class_sub}
use Rattle.automaton.proofs.Root.{Top, class_top, gcp_below}
use Rattle.automaton.proofs.Derivative.{Owes, owes, on_owes, on_initial, initial_in, on_lifted}
use Rattle.automaton.proofs.Sound.{Sound, SoundState}
use Rattle.automaton.proofs.Apart.{deriv_owing, deriv_low, deriv_apart}
use Rattle.automaton.proofs.Owed.{fresh_real, deriv_real, lift_real, deriv_ordered, lift_ordered, below_gcp}
use Rattle.automaton.proofs.Fresh.{deriv_fresh, class_fresh, lift_fresh}
use Rattle.automaton.proofs.Keys.{freshes_keyed, deriv_keyed, class_keyed, lift_keyed}
use Rattle.automaton.proofs.Bounds.{root_label, deriv_small, lift_small}

module _ (S : Setting) where
  abbrev K : Calculus Pos
  K = calculus S

  pub initial_owes : (o : Pos) → Owes (initial K) o → o ≡ []
  initial_owes o m = on_owes (initial K) m λ g i j. on_initial S i λ c h e. only (rw e at j)
    where
      only : o ∈ ([] ∷ []) → o ≡ []
      only (here d) = d
      only (Rattle.kinds.specs.Members.there x4) = elim x4 [ ]

  initial_goals : Sound S (initial K)
  initial_goals = record {
    owing = λ g m. on_initial S m λ j h e. rw e ([], here refl);
    low = λ g m o i. on_initial S m λ j h e. rw (e, initial_owes o (owes m i)) (≼_refl []);
    real = λ g m o i. on_initial S m λ j h e. rw e (fresh_real S [] j h o (rw e at i));
    ordered = λ g m. on_initial S m λ j h e. rw e (λ y z. elim z [ ], tt);
    apart = λ o x a b h. initial_owes o a ∙ sym (initial_owes x b);
    keyed = freshes_keyed S [];
    fresh = λ o m i h. rw (initial_owes o m) (initial_in S i h);
    small = λ o m. rw (initial_owes o m) (record { short = omega arith; digits = proper_nil });
  }

  pub initial_sound : SoundState S (initial K)
  initial_sound = root_label S (initial K) initial_goals (fresh [] 0) (initial_in S 0 S.limits.some_shape) refl

  pub deriv_sound : (s : State Pos) → SoundState S s → (f n : ℕ) → get_elem? S.symbols f ≡ some n → Sound S (deriv K s f n)
  deriv_sound s w f n a = record {
    owing = deriv_owing S s w f n;
    low = deriv_low S s w f n;
    real = deriv_real S s w f n;
    ordered = deriv_ordered S s w f n;
    apart = deriv_apart S s w f n;
    keyed = deriv_keyed S s w f n;
    fresh = deriv_fresh S s w f n;
    small = deriv_small S s w f n (S.limits.symbols.children f n a);
  }

  pub class_sound : (d : State Pos) → Sound S d → (k : State Pos) → k ∈ classes K d → Sound S k
  class_sound d w k m = record {
    owing = λ g i. w.owing g (up g i);
    low = λ g i. w.low g (up g i);
    real = λ g i. w.real g (up g i);
    ordered = λ g i. w.ordered g (up g i);
    apart = λ o x a b. w.apart o x (all_up o a) (all_up x b);
    keyed = class_keyed S d k w.keyed m;
    fresh = class_fresh S d w k m;
    small = λ o a. w.small o (all_up o a);
  }
    where
      up : k ⊆ d
      up = class_sub K d k m

      all_up : (o : Pos) → Owes k o → Owes d o
      all_up o a = on_owes k a λ g i j. owes (up g i) j

  pub lift_sound : (k : State Pos) → Sound S k → Sound S (lift K k)
  lift_sound k w = record {
    owing = λ g i. on_map (lift_goal K (gcp k)) k i λ h a e. rw e (lifted h (w.owing h a));
    low = λ g m o j. on_map (lift_goal K (gcp k)) k m λ x i e. on_map (strip (gcp k)) x.obs (rw e at j) λ y l d. rw (e, d)
        (strip_below (gcp k) y x.ann (w.low x i y l) (gcp_below k x i));
    real = lift_real S k w;
    ordered = lift_ordered S k w;
    apart = λ o x mo mx h.
        on_lifted S k o mo λ o' g a b e.
        on_lifted S k x mx λ x' g' a' b' e'.
        let up : o' ≼ x' = strip_back (gcp k) o' x' (below_gcp S k w g a o' b) (below_gcp S k w g' a' x' b') (rw (← e, ← e') h) in
        e ∙ ap (strip (gcp k)) (w.apart o' x' (owes a b) (owes a' b') up) ∙ sym e';
    keyed = lift_keyed S k w.keyed;
    fresh = lift_fresh S k w;
    small = lift_small S k w;
  }
    where
      lifted : (h : Goal Pos) → (o : Pos) × (o ∈ h.obs) → (o : Pos) × (o ∈ (lift_goal K (gcp k) h).obs)
      lifted h o = (strip (gcp k) o.0, map_in (strip (gcp k)) o.1)

  pub class_announces : (d : State Pos) → Sound S d → (k : State Pos) → k ∈ classes K d → Top k
  class_announces d w k m = class_top K d w.low k m

  pub next_sound : (s : State Pos) → SoundState S s → (f n : ℕ) → get_elem? S.symbols f ≡ some n → (k : State Pos) → k ∈ classes K (deriv K s f n)
      → SoundState S (lift K k)
  next_sound s w f n a k m =
      let d = deriv_sound s w f n a in
      let t = class_announces (deriv K s f n) d k m in
      root_label S (lift K k) (lift_sound k (class_sound (deriv K s f n) d k m)) (lift_goal K (gcp k) t.goal)
      (map_in (lift_goal K (gcp k)) t.inside) (rw (← t.at) (strip_self (gcp k)))

  pub reachable_sound : {s : State Pos} → Reachable S s → SoundState S s
  reachable_sound init = initial_sound
  reachable_sound (next {s} {k} f n r a m) = next_sound s (reachable_sound r) f n a k m
