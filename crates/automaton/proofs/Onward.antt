-- W3 at one step: a goal of the item that is taken is announced, goes on with one of the items that follow, or is refuted by the symbol read.
--   goes_on   a goal of the derivative is a goal of one of the items that follow
--   onward
use mathlib.Core.Path.{◌≡◌, refl, sym}
use mathlib.Core.Bool.{Bool, true, false}
use mathlib.Core.List.{◌++◌, append_assoc}
use mathlib.Core.Option.{some}
use mathlib.Core.Logic.{⊎_elim}
use Prim.Native.Nat.{ℕ}
use native.Mathlib.Decide.{ℕ_discrete}
use lib.ListN.{get_elem?}
use Rattle.kinds.specs.Lists.{is_nil}
use Rattle.kinds.specs.Positions.{Pos, strip}
use Rattle.kinds.proofs.Bools.{test}
use Rattle.kinds.proofs.Members.{map_in}
use Rattle.kinds.specs.Members.{◌∈◌}
use Rattle.kinds.proofs.Prefixes.{strip_join}
use Rattle.term.specs.Terms.{Term, node, Terms, count}
use Rattle.term.specs.Places.{sub, head_at}
use Rattle.automaton.specs.Goals.{Goal, has, label, reduced, deriv}
use Rattle.automaton.specs.Classes.{gcp, lift_goal}
use Rattle.automaton.specs.Walking.{Setting, Scored, calculus, Item, looks, goes_on, follows, announces}
use Rattle.automaton.proofs.Root.{gcp_below}
use Rattle.automaton.proofs.Derivative.{expects_of, owes_has, kept_in, cut_in}
use Rattle.automaton.proofs.Sound.{Real, Sound, SoundState}
use Rattle.automaton.proofs.Covers.{class_owing}
use Rattle.automaton.proofs.Announced.{announces_in}
use Rattle.automaton.proofs.Invariant.{announced}

module _ (S : Setting) (it : Item) (f n : ℕ) (w : Sound S (deriv (calculus S) it.state f n)) where
  pub goes_on_lem {κ} : {X : Type κ} (h : Goal Pos) → h ∈ deriv (calculus S) it.state f n
      → ((j : Item) (g : Goal Pos) → j ∈ follows S it f n → g ∈ j.state → g.shape ≡ h.shape → j.at ++ g.ann ≡ it.at ++ h.ann → X) → X
  goes_on_lem h m on =
      class_owing S (deriv (calculus S) it.state f n) w h m λ k i j.
      on (goes_on S it k) (lift_goal (calculus S) (gcp k) h) (map_in (goes_on S it) i) (map_in (lift_goal (calculus S) (gcp k)) j) refl
      (rw (append_assoc, strip_join (gcp k) h.ann (gcp_below k h j)))

module _ (C : Scored) (it : Item) where
  abbrev S : Setting
  S = C.setting

  abbrev L : Pos
  L = label (calculus S) it.state

  module _ (w : SoundState S it.state) (f : ℕ) (ts : Terms) (node_is : sub C.score (looks S it) ≡ some (node f ts))
      (d : Sound S (deriv (calculus S) it.state f (count ts))) where
    pub onward {κ} : {X : Type κ} (g : Goal Pos) → g ∈ it.state → (x : Term) → get_elem? C.setting.shapes g.shape ≡ some x
        → (announced g.shape (it.at ++ g.ann) ∈ announces S it f (count ts) → X)
        → ((j : Item) (h : Goal Pos) → j ∈ follows S it f (count ts) → h ∈ j.state → h.shape ≡ g.shape → j.at ++ h.ann ≡ it.at ++ g.ann → X)
        → ((r : Pos) (k : ℕ) → head_at x r ≡ some k → (it.at ++ g.ann) ++ r ≡ looks S it → (head_at C.score (looks S it) ≡ some k → ⊥) → X) → X
    onward {X = X} g m x gx told on refuted = ⊎_elim hit miss (test (has (calculus S) L g.obs))
      where
        miss : has (calculus S) L g.obs ≡ false → X
        miss e = goes_on_lem S it f (count ts) d g (kept_in S it.state f (count ts) g m e) on

        hit : has (calculus S) L g.obs ≡ true → X
        hit e = found (owes_has S L g.obs e)
          where
            found : L ∈ g.obs → X
            found i = by_head (ℕ_discrete r.head f)
              where
                r : Real S g L
                r = w.goals.real g m L i

                same_shape : r.shape ≡ x
                same_shape = cc (r.is_shape, gx)

                sx : sub x (strip g.ann L) ≡ some (node r.head r.kids)
                sx = rw (← same_shape) r.is

                place : (it.at ++ g.ann) ++ strip g.ann L ≡ looks S it
                place = rw (append_assoc, strip_join g.ann L (w.goals.low g m L i))

                by_head : Dec (r.head ≡ f) → X
                by_head (no ne) = refuted (strip g.ann L) r.head (rw sx) place
                    (λ h. let z : some f ≡ some r.head = rw node_is at h in ne (sym (cc)))
                by_head (yes hf) = emptied (is_nil (reduced (calculus S) L (count ts) g).obs) refl
                  where
                    ex : (calculus S).expects f L g ≡ true
                    ex = expects_of S f L g r.kids i (rw (gx, sx, hf))

                    emptied : (b : Bool) → is_nil (reduced (calculus S) L (count ts) g).obs ≡ b → X
                    emptied true z = told (announces_in S it f (count ts) g m ex z)
                    emptied false z = goes_on_lem S it f (count ts) d (reduced (calculus S) L (count ts) g) (cut_in S it.state f (count ts) g m ex z)
                        on
