-- The greatest common prefix of a class is announced: for any kind of obligation whose positions are below its goal's announcement.
--   Below AllBelow                        each obligation is at or under its goal's announcement
--   gcp_below gcp_least top_is_gcp        the greatest common prefix is the least position above all announcements
--   dep_comparable                        goals with a common obligation position have comparable announcements
--   Top class_top                         a class has a goal that announces at its greatest common prefix
use mathlib.Core.Path.{◌≡◌, refl}
use mathlib.Core.Bool.{true}
use mathlib.Core.List.{[], ◌∷◌}
use mathlib.Core.Option.{some}
use mathlib.Core.Logic.{◌⊎◌, inl, inr, ⊎_elim}
use Prim.Native.Nat.{ℕ, ◌≤◌}
use native.Mathlib.Omega.{arith}
use native.Mathlib.Decide.{dec_le}
use lib.ListN.{length, get_elem?}
use Rattle.kinds.specs.Lists.{same}
use Rattle.kinds.specs.Chains.{one, via}
use Rattle.kinds.specs.Positions.{Pos, common_prefix}
use Rattle.kinds.proofs.Members.{on_any, same_is}
use Rattle.kinds.specs.Members.{◌∈◌, here, there}
use Rattle.kinds.proofs.Places.{at_in, at_some}
use Rattle.kinds.proofs.Prefixes.{◌≼◌, ≼_refl, ≼_trans, ≼_same, ≼_antisym, comparable, common_left, common_right, common_least}
use Rattle.automaton.specs.Goals.{Goal, State, Calculus, has}
use Rattle.automaton.specs.Classes.{dep, Dependent, classes, gcp_from, gcp}
use Rattle.automaton.proofs.Classes.{Class, class_is, class_at_lem, class_has, class_some}
use Rattle.automaton.proofs.Closure.{dependent_join, dependent_sym}

module _ {O : Type 0} where
  gcp_from_start : (s : State O) (p : Pos) → p ≼ gcp_from p s
  gcp_from_start [] p = ≼_refl p
  gcp_from_start (g ∷ s) p = ≼_trans (common_left p g.ann) (gcp_from_start s (common_prefix p g.ann))

  gcp_from_in : (s : State O) (p : Pos) (g : Goal O) → g ∈ s → g.ann ≼ gcp_from p s
  gcp_from_in (x ∷ s) p g (here e) = rw e (≼_trans (common_right p x.ann) (gcp_from_start s (common_prefix p x.ann)))
  gcp_from_in (x ∷ s) p g (there m) = gcp_from_in s (common_prefix p x.ann) g m
  gcp_from_in [] p g x' = elim x' [ ]

  pub gcp_below : (s : State O) (g : Goal O) → g ∈ s → g.ann ≼ gcp s
  gcp_below (x ∷ s) g (here e) = rw e (gcp_from_start s x.ann)
  gcp_below (x ∷ s) g (there m) = gcp_from_in s x.ann g m
  gcp_below [] g x' = elim x' [ ]

  gcp_from_least : (s : State O) (p r : Pos) → p ≼ r → ((g : Goal O) → g ∈ s → g.ann ≼ r) → gcp_from p s ≼ r
  gcp_from_least [] p r a h = a
  gcp_from_least (g ∷ s) p r a h = gcp_from_least s (common_prefix p g.ann) r (common_least p g.ann r a (h g (here refl))) (λ x m. h x (there m))

  pub gcp_least : (s : State O) (r : Pos) {m : Goal O} → m ∈ s → ((g : Goal O) → g ∈ s → g.ann ≼ r) → gcp s ≼ r
  gcp_least (g ∷ s) r m h = gcp_from_least s g.ann r (h g (here refl)) (λ x i. h x (there i))
  gcp_least [] r m h = elim m [ ]

  -- a goal above all others announces at the greatest common prefix
  pub top_is_gcp : (s : State O) (m : Goal O) → m ∈ s → ((g : Goal O) → g ∈ s → g.ann ≼ m.ann) → gcp s ≡ m.ann
  top_is_gcp s m i h = ≼_antisym (gcp_least s m.ann i h) (gcp_below s m i)

  record Shortest (s : State O) : Type 0 where
    pub goal : Goal O
    pub inside : goal ∈ s
    pub least : (g : Goal O) → g ∈ s → length goal.ann ≤ length g.ann

  shortest : (g : Goal O) (s : State O) → Shortest (g ∷ s)
  shortest g [] = record { goal = g; inside = here refl; least = only }
    where
      only : (x : Goal O) → x ∈ (g ∷ []) → length g.ann ≤ length x.ann
      only x (here e) = rw e (omega arith)
      only x (there x5) = elim x5 [ ]
  shortest g (x ∷ s) = go (shortest x s) (dec_le _ _)
    where
      go : (r : Shortest (x ∷ s)) → Dec (length g.ann ≤ length r.goal.ann) → Shortest (g ∷ x ∷ s)
      go r (yes h) = record { goal = g; inside = here refl; least = all }
        where
          all : (y : Goal O) → y ∈ (g ∷ x ∷ s) → length g.ann ≤ length y.ann
          all y (here e) = rw e (omega arith)
          all y (there m) = let k = r.least y m in omega arith
      go r (no h) = record { goal = r.goal; inside = there r.inside; least = all }
        where
          all : (y : Goal O) → y ∈ (g ∷ x ∷ s) → length r.goal.ann ≤ length y.ann
          all y (here e) = rw e (omega arith)
          all y (there m) = r.least y m

  short_of : {s : State O} {x : Goal O} → x ∈ s → Shortest s
  short_of {s = g ∷ s} m = shortest g s
  short_of {s = []} m = elim m [ ]

  pub record Top (k : State O) : Type 0 where
    pub goal : Goal O
    pub inside : goal ∈ k
    pub at : gcp k ≡ goal.ann

module _ {O : Type 0} (K : Calculus O) where
  abbrev pub Below : Goal O → Type 0
  Below g = (o : O) → o ∈ g.obs → K.at o ≼ g.ann

  abbrev pub AllBelow : State O → Type 0
  AllBelow s = (g : Goal O) → g ∈ s → Below g

  pub dep_comparable : (g h : Goal O) → Below g → Below h → dep K g h ≡ true → (g.ann ≼ h.ann) ⊎ (h.ann ≼ g.ann)
  dep_comparable g h bg bh e =
      on_any (λ o. has K (K.at o) h.obs) g.obs e λ o i t.
      on_any (λ x. same (K.at o) (K.at x)) h.obs t λ x j u.
      comparable (bg o i) (rw (same_is (K.at o) (K.at x) u) (bh x j))

  near : (m : Pos) (g h : Goal O) → Below g → Below h → dep K g h ≡ true → g.ann ≼ m → length m ≤ length h.ann → h.ann ≼ m
  near m g h bg bh t b l = ⊎_elim (λ (u : g.ann ≼ h.ann). up (comparable u b)) (λ (u : h.ann ≼ g.ann). ≼_trans u b) (dep_comparable g h bg bh t)
    where
      up : (h.ann ≼ m) ⊎ (m ≼ h.ann) → h.ann ≼ m
      up (inl u) = u
      up (inr u) = rw (≼_same u l) (≼_refl h.ann)

  -- where m is no longer than any announcement that depends on goal i, all these are below m
  all_below : (s : State O) → AllBelow s → (m : Pos) {i j : ℕ} → Dependent K s i j → (g : Goal O) → get_elem? s i ≡ some g → g.ann ≼ m
      → ((y : ℕ) (h : Goal O) → Dependent K s i y → get_elem? s y ≡ some h → length m ≤ length h.ann) → (h : Goal O) → get_elem? s j ≡ some h
      → h.ann ≼ m
  all_below s low m (one {i} {j} d) g ag u l h ah =
      let xg : d.g ≡ g = cc (d.at_i, ag) in
      let yh : d.h ≡ h = cc (d.at_j, ah) in
      near m g h (low g (at_in s i ag)) (low h (at_in s j ah)) (rw (xg, yh) at d.shares) u (l j h (one d) ah)
  all_below s low m (via {m = mid} b d e) g ag u l h ah =
      let x = at_some s mid b in
      all_below s low m e x.0 x.1 (all_below s low m d g ag u l x.0 x.1) (λ y z c. l y z (via b d c)) h ah

  pub class_top : (s : State O) → AllBelow s → (k : State O) → k ∈ classes K s → Top k
  class_top s low k m = let c = class_is K s k m in top c (short_of (class_some K s k c).1)
    where
      top : Class K s k → Shortest k → Top k
      top c b = record { goal = b.goal; inside = b.inside; at = top_is_gcp k b.goal b.inside below }
        where
          below : (g : Goal O) → g ∈ k → g.ann ≼ b.goal.ann
          below g gk =
              class_at_lem K s k c b.inside λ i ai di.
              class_at_lem K s k c gk λ j aj dj.
              all_below s low b.goal.ann (dependent_join K s (dependent_sym K s di) dj) b.goal ai (≼_refl b.goal.ann)
              (λ y h d ah. b.least h (class_has K s k c y ah (dependent_join K s di d))) g aj
