-- What an item announces at a step.
--   on_outputs on_announces announces_in   a goal that owed at the label and owes nothing after the symbol
--   announces_differ               nothing twice
use mathlib.Core.Path.{◌≡◌, ap, sym, ◌∙◌}
use mathlib.Core.Bool.{true}
use mathlib.Core.List.{map}
use Prim.Native.Nat.{ℕ}
use Rattle.kinds.specs.Lists.{filter, is_nil}
use Rattle.kinds.specs.Positions.{Pos}
use Rattle.kinds.proofs.Members.{in_filter, filter_in, on_map, map_in, in_sort, sort_in, sort_perm}
use Rattle.kinds.specs.Members.{◌∈◌, Pairwise}
use Rattle.kinds.proofs.Pairwise.{pairwise_filter, pairwise_map, pairwise_perm}
use Rattle.kinds.proofs.ListLaws.{append_same}
use Rattle.automaton.specs.Goals.{Calculus, Goal, State, label, reduced, met, Announcement, announcement, ann_before, outputs}
use Rattle.automaton.specs.Walking.{Setting, calculus, Item, placed, announces}
use Rattle.automaton.proofs.Derivative.{on_met, met_in_lem}
use Rattle.automaton.proofs.Sound.{Other, SoundState}
use Rattle.automaton.proofs.Keys.{met_keyed}

module _ (S : Setting) where
  abbrev K : Calculus Pos
  K = calculus S

  -- an output, by the goal that owes nothing after the symbol
  pub on_outputs {κ} : {C : Type κ} (s : State Pos) (f n : ℕ) {a : Announcement} → a ∈ outputs K s f n
      → ((g : Goal Pos) → g ∈ s → K.expects f (label K s) g ≡ true → is_nil (reduced K (label K s) n g).obs ≡ true → a ≡ announcement g → C) → C
  on_outputs {C = C} s f n {a} m k =
      on_map announcement (filter (λ g. is_nil g.obs) (met K s f n))
      (in_sort ann_before (map announcement (filter (λ g. is_nil g.obs) (met K s f n))) m) λ h j d.
      let w = in_filter (λ g. is_nil g.obs) (met K s f n) j in
      on_met S s f n w.0 λ g l x y. k g l x (ap (λ u. is_nil u.obs) (sym y) ∙ w.1) (d ∙ ap announcement y)

  pub on_announces {κ} : {C : Type κ} (it : Item) (f n : ℕ) {a : Announcement} → a ∈ announces S it f n
      → ((g : Goal Pos) → g ∈ it.state → K.expects f (label K it.state) g ≡ true → is_nil (reduced K (label K it.state) n g).obs ≡ true
      → a ≡ placed S it (announcement g) → C) → C
  on_announces it f n m k =
      on_map (placed S it) (outputs K it.state f n) m λ b i e.
      on_outputs it.state f n i λ g l x z d. k g l x z (e ∙ ap (placed S it) d)

  pub announces_in : (it : Item) (f n : ℕ) (g : Goal Pos) → g ∈ it.state → K.expects f (label K it.state) g ≡ true
      → is_nil (reduced K (label K it.state) n g).obs ≡ true
      → placed S it (announcement g) ∈ announces S it f n
  announces_in it f n g m e z = map_in (placed S it)
      (sort_in ann_before (map_in announcement (filter_in (λ g. is_nil g.obs) (met_in_lem S it.state f n g m e) z)))

  pub announces_differ : (it : Item) → SoundState S it.state → (f n : ℕ) → Pairwise (λ a b. a ≡ b → ⊥) (announces S it f n)
  announces_differ it w f n =
      pairwise_map (λ a b. a ≡ b → ⊥) (λ a b. a ≡ b → ⊥) (placed S it) (outputs K it.state f n)
      (λ a b i j o e. o (same_announcement a b (ap (λ y. y.shape) e) (append_same it.at a.at b.at (ap (λ y. y.at) e))))
      (pairwise_perm (λ a b. a ≡ b → ⊥) (λ a b o e. o (sym e))
      (sort_perm ann_before (map announcement (filter (λ g. is_nil g.obs) (met K it.state f n))))
      (pairwise_map Other (λ a b. a ≡ b → ⊥) announcement (filter (λ g. is_nil g.obs) (met K it.state f n))
      (λ g h i j o e. o (ap (λ y. y.shape) e, ap (λ y. y.at) e))
      (pairwise_filter Other (λ g. is_nil g.obs) (met K it.state f n) (met_keyed S it.state w f n))))
    where
      same_announcement : (a b : Announcement) → a.shape ≡ b.shape → a.at ≡ b.at → a ≡ b
      same_announcement a b p q = λ i. record { shape = p i; at = q i }
