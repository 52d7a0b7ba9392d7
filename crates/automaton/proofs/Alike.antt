-- States that are equal as sets, and what that keeps.
--   alike_refl alike_sym
--   alike_owes alike_back        the same positions are owed
--   same_alike alike_same        the test, and the relation
use mathlib.Core.Path.{◌≡◌, refl, sym}
use mathlib.Core.Bool.{true, ◌&&◌}
use mathlib.Core.List.{List}
use lib.Dec.{eqb}
use Rattle.kinds.specs.Lists.{same, any, all}
use Rattle.kinds.specs.Positions.{Pos}
use Rattle.kinds.proofs.Bools.{and_l, and_r, both, eqb_is, is_eqb}
use Rattle.kinds.proofs.Members.{all_at, all_of_lem, on_any, any_of, on_gather, gather_in, same_is, same_refl}
use Rattle.kinds.specs.Members.{◌∈◌, ◌⊆◌}
use Rattle.automaton.specs.Goals.{Calculus, Goal, State, all_obs}
use Rattle.automaton.specs.Classes.{same_goal, same_state}
use Rattle.automaton.specs.Walking.{Setting, calculus, Partner, Alike}

-- each of a list of positions is in another
subset : (xs ys : List Pos) → all (λ o. any (same o) ys) xs ≡ true → xs ⊆ ys
subset xs ys e o i = on_any (same o) ys (all_at (λ x. any (same x) ys) e i) λ x m t. rw (same_is o x t) m

pub alike_refl : (s : State Pos) → Alike s s
alike_refl s = record { to = self; fro = self }
  where
    self : (g : Goal Pos) → g ∈ s → Partner s g
    self g m = record { goal = g; inside = m; shape = refl; ann = refl; less = λ o i. i; more = λ o i. i }

pub alike_sym : {s s' : State Pos} → Alike s s' → Alike s' s
alike_sym a = record { to = a.fro; fro = a.to }

pub alike_owes : (s s' : State Pos) → Alike s s' → all_obs s ⊆ all_obs s'
alike_owes s s' a o m = on_gather (λ g. g.obs) s m λ g i j. let p = a.to g i in gather_in (λ g. g.obs) p.inside (p.more o j)

pub alike_back : (s s' : State Pos) → Alike s s' → all_obs s' ⊆ all_obs s
alike_back s s' a o m = alike_owes s' s (alike_sym a) o m

module _ (S : Setting) where
  abbrev K : Calculus Pos
  K = calculus S

  partner : (s : State Pos) (g : Goal Pos) → any (same_goal K g) s ≡ true → Partner s g
  partner s g e = on_any (same_goal K g) s e λ h m t. go h m t
    where
      go : (h : Goal Pos) → h ∈ s → same_goal K g h ≡ true → Partner s g
      go h m t = record {
        goal = h;
        inside = m;
        shape = sym (eqb_is g.shape h.shape (and_l _ (and_l _ (and_l _ t))));
        ann = sym (same_is g.ann h.ann (and_r (eqb g.shape h.shape) (and_l _ (and_l _ t))));
        less = subset h.obs g.obs (and_r (eqb g.shape h.shape && same g.ann h.ann && all (λ y. any (same y) h.obs) g.obs) t);
        more = subset g.obs h.obs (and_r (eqb g.shape h.shape && same g.ann h.ann) (and_l _ t));
      }

  pub same_alike : (s s' : State Pos) → same_state K s s' ≡ true → Alike s s'
  same_alike s s' e = record {
    to = λ g m. partner s' g (all_at (λ y. any (same_goal K y) s') (and_l _ e) m);
    fro = λ g m. partner s g (all_at (λ y. any (same_goal K y) s) (and_r (all (λ y. any (same_goal K y) s') s) e) m);
  }

  partner_same : (s : State Pos) (g : Goal Pos) → Partner s g → any (same_goal K g) s ≡ true
  partner_same s g p = any_of (same_goal K g) p.inside
      (both (both (both {a = eqb g.shape p.goal.shape} (is_eqb g.shape p.goal.shape (sym p.shape))
      (rw p.ann (same_refl g.ann)))
      (inside g.obs p.goal.obs p.more)) (inside p.goal.obs g.obs p.less))
    where
      inside : (xs ys : List Pos) → xs ⊆ ys → all (λ o. any (same o) ys) xs ≡ true
      inside xs ys h = all_of_lem (λ o. any (same o) ys) xs (λ o i. any_of (same o) (h o i) (same_refl o))

  pub alike_same : (s s' : State Pos) → Alike s s' → same_state K s s' ≡ true
  alike_same s s' a = both (all_of_lem (λ g. any (same_goal K g) s') s (λ g m. partner_same s' g (a.to g m)))
      (all_of_lem (λ g. any (same_goal K g) s) s' (λ g m. partner_same s g (a.fro g m)))
