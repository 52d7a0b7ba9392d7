-- A position that a state covers is its label, or is covered by exactly one class of the derivative: by counting, so that nothing has to be said of order.
--   on_covers covered        what covers a position
--   share                    goals that owe at one position depend on each other
--   class_owing              each goal is in a class
--   deriv_covers             the derivative covers what the state does, but the label
--   parts_cover              one class covers what the derivative does
use mathlib.Core.Path.{◌≡◌, refl, sym, ◌∙◌}
use mathlib.Core.Bool.{Bool, true, false, false≢true}
use mathlib.Core.List.{[], ◌∷◌, ◌++◌, map}
use mathlib.Core.Option.{some}
use mathlib.Core.Logic.{⊎_elim}
use Prim.Native.Nat.{ℕ, ◌+◌, ◌≤◌}
use native.Mathlib.Nat.{zero-add}
use lib.ListN.{get_elem?}
use Rattle.kinds.specs.Lists.{same, sum}
use Rattle.kinds.specs.Positions.{Pos, prefix}
use Rattle.kinds.proofs.Bools.{not_true, bool_ext}
use Rattle.kinds.proofs.Members.{on_any, any_of, same_is, same_refl}
use Rattle.kinds.specs.Members.{◌∈◌, here}
use Rattle.kinds.proofs.Places.{at_in, on_in}
use Rattle.kinds.proofs.Prefixes.{◌≼◌, ≼_refl, ≼_trans, comparable, below_cases, snoc_not, prefix_is, below_prefix}
use Rattle.automaton.specs.Goals.{Calculus, Goal, State, has, all_obs, label, deriv}
use Rattle.automaton.specs.Classes.{dep, Dependent, classes}
use Rattle.automaton.specs.Bare.{fresh}
use Rattle.automaton.specs.Walking.{Setting, calculus, covers, one}
use Rattle.automaton.proofs.Classes.{Class, class_sub, class_at_lem, class_has, class_of, class_unique, classes_one, classes_none}
use Rattle.automaton.proofs.Closure.{direct, dependent_join}
use Rattle.automaton.proofs.Derivative.{Owes, owes, on_owes, new_in, From, old, under, from}
use Rattle.automaton.proofs.Sound.{Sound, SoundState}
use Rattle.automaton.proofs.Apart.{label_owes, child_below}
use Rattle.automaton.proofs.Fresh.{fresh_stays}

pub on_covers {κ} : {C : Type κ} (s : State Pos) (q : Pos) → covers s q ≡ true → ((g : Goal Pos) (o : Pos) → g ∈ s → o ∈ g.obs → q ≼ o → C) → C
on_covers s q e k = on_any (λ o. prefix o q) (all_obs s) e λ o m t. on_owes s m λ g a b. k g o a b (prefix_is o q t)

pub covered : (s : State Pos) {o : Pos} (q : Pos) → Owes s o → q ≼ o → covers s q ≡ true
covered s q w h = any_of (λ x. prefix x q) w (below_prefix h)

module _ (S : Setting) where
  abbrev K : Calculus Pos
  K = calculus S

  pub share : (g h : Goal Pos) (o : Pos) → o ∈ g.obs → o ∈ h.obs → dep K g h ≡ true
  share g h o a b = any_of (λ y. has K y h.obs) a (any_of (λ y. same o y) b (same_refl o))

  self : (d : State Pos) → Sound S d → (j : ℕ) (g : Goal Pos) → get_elem? d j ≡ some g → Dependent K d j j
  self d w j g a = let o = w.owing g (at_in d j a) in direct K d a a (share g g o.0 o.1 o.1)

  pub class_owing {κ} : {C : Type κ} (d : State Pos) → Sound S d → (g : Goal Pos) → g ∈ d → ((k : State Pos) → k ∈ classes K d → g ∈ k → C) → C
  class_owing d w g m f = on_in m λ j a. class_of K d j (self d w j g a) λ k c i e. f k i (class_has K d k c j a e)

  pub parts_cover : (d : State Pos) → Sound S d → (q : Pos) → one (covers d q) ≡ sum (map (λ k. one (covers k q)) (classes K d))
  parts_cover d w q = go (covers d q) refl
    where
      some_class : covers d q ≡ true → sum (map (λ k. one (covers k q)) (classes K d)) ≡ 1
      some_class e =
          on_covers d q e λ g o a b h.
          on_in a λ j aj.
          class_of K d j (self d w j g aj) λ k c i dj.
          classes_one K (λ x. covers x q) d k c (covered k q (owes (class_has K d k c j aj dj) b) h) (only g o b h j aj k c dj)
        where
          -- another class that covers q owes at the same position
          only : (g : Goal Pos) (o : Pos) → o ∈ g.obs → q ≼ o → (j : ℕ) → get_elem? d j ≡ some g → (k : State Pos) (c : Class K d k)
              → Dependent K d c.lead j
              → (k' : State Pos) (c' : Class K d k') → covers k' q ≡ true → c'.lead ≡ c.lead
          only g o b h j aj k c dj k' c' p =
              on_covers k' q p λ g' o' a' b' h'.
              class_at_lem K d k' c' a' λ j' aj' dj'.
              let x = owes (at_in d j aj) b in
              let x' = owes (at_in d j' aj') b' in
              let e : o ≡ o' = ⊎_elim (λ (z : o ≼ o'). w.apart o o' x x' z) (λ (z : o' ≼ o). sym (w.apart o' o x' x z)) (comparable h h') in
              class_unique K d k' k c' c j' dj' (dependent_join K d dj (direct K d aj aj' (share g g' o b (rw e b'))))

      go : (b : Bool) → covers d q ≡ b → one (covers d q) ≡ sum (map (λ k. one (covers k q)) (classes K d))
      go true e = rw e (sym (some_class e))
      go false e = rw e (sym (classes_none K (λ x. covers x q) d (λ k m. not_true (covers k q) (λ c.
          on_covers k q c λ g o a b h.
          false≢true (sym e ∙ covered d q (owes (class_sub K d k m g a) b) h)))))

  -- of the positions right below the label only those of the symbol read are looked at
  module _ (s : State Pos) (w : SoundState S s) (f n : ℕ) where
    abbrev L : Pos
    L = label K s

    abbrev D : State Pos
    D = deriv K s f n

    module _ (q : Pos) (fits : (i : ℕ) → q ≼ (L ++ (i ∷ [])) → (1 ≤ i) × (i ≤ n)) where
      there_not : q ≡ L → covers D q ≡ true → ⊥
      there_not e c = on_covers D q c λ g o a b h. go o h (from S s f n g o a b)
        where
          go : (o : Pos) → q ≼ o → From S s n o → ⊥
          go o h (old a ne) = ne (sym (w.goals.apart L o (label_owes S s w) a (rw (← e) h)))
          go o h (under i l u d) = snoc_not L i (rw (e, d) at h)

      on : (q ≡ L → ⊥) → covers s q ≡ true → covers D q ≡ true
      on ne c = on_covers s q c go
        where
          by_fresh : (p : Pos) → q ≼ p → fresh p 0 ∈ D → covers D q ≡ true
          by_fresh p u m = covered D q (owes m (here refl)) u

          go : (g : Goal Pos) (o : Pos) → g ∈ s → o ∈ g.obs → q ≼ o → covers D q ≡ true
          go g o a b h = at (same L o) refl
            where
              at : (x : Bool) → same L o ≡ x → covers D q ≡ true
              at true e = ⊎_elim (λ (z : q ≡ L). absurd (ne z))
                  (λ i. by_fresh (L ++ (i.0 ∷ [])) i.1
                  (new_in S s f n i.0 0 (fits i.0 i.1).0 (fits i.0 i.1).1 S.limits.some_shape))
                  (below_cases (rw (← (same_is L o e)) at h))
              at false e = by_fresh o h (fresh_stays S s f n o 0 (w.goals.fresh o (owes a b) 0 S.limits.some_shape)
                  (λ z. false≢true (sym e ∙ rw z (same_refl L))))

      off : covers D q ≡ true → covers s q ≡ true
      off c = on_covers D q c λ g o a b h. go o h (from S s f n g o a b)
        where
          go : (o : Pos) → q ≼ o → From S s n o → covers s q ≡ true
          go o h (old a ne) = covered s q a h
          go o h (under i l u d) = covered s q (label_owes S s w) (≼_trans (rw d at h) (child_below L i))

      pub deriv_covers : one (covers s q) ≡ one (same L q) + one (covers D q)
      deriv_covers = go (same L q) refl
        where
          go : (b : Bool) → same L q ≡ b → one (covers s q) ≡ one (same L q) + one (covers D q)
          go true e =
              let z : q ≡ L = sym (same_is L q e) in
              rw (e, not_true (covers D q) (there_not z), covered s q (label_owes S s w) (rw z (≼_refl L)))
          go false e =
              let z : q ≡ L → ⊥ = λ h. false≢true (sym e ∙ rw h (same_refl L)) in
              rw (e, bool_ext (covers s q) (covers D q) (on z) off, zero-add)
