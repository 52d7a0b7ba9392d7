-- S3: no two goals have the same shape and announcement, in a derivative, a class of it, and that class lifted; so their number is the list's length.
--   keyed_one freshes_keyed met_keyed deriv_keyed class_keyed lift_keyed
use mathlib.Core.Path.{◌≡◌, refl, ap, sym, ◌∙◌}
use mathlib.Core.Bool.{true, not, false≢true}
use mathlib.Core.List.{[], ◌∷◌, ◌++◌}
use mathlib.Core.Logic.{⊎_elim}
use Prim.Native.Nat.{ℕ, ◌<◌}
use native.Mathlib.Omega.{arith}
use lib.ListN.{length, length-append}
use Rattle.kinds.specs.Lists.{filter, gather, range, is_nil}
use Rattle.kinds.specs.Positions.{Pos}
use Rattle.kinds.proofs.Bools.{and_l}
use Rattle.kinds.proofs.Members.{∈_append, in_filter, on_map, on_gather}
use Rattle.kinds.specs.Members.{◌∈◌, Pairwise}
use Rattle.kinds.proofs.Pairwise.{pairwise_append, pairwise_filter, pairwise_two, pairwise_map, pairwise_gather, pairwise_range}
use Rattle.kinds.proofs.ListLaws.{append_same}
use Rattle.kinds.proofs.Prefixes.{◌≼◌, ≼_trans, ≼_length, strip_join}
use Rattle.automaton.specs.Goals.{Calculus, Goal, State, has, label, reduced, met, deriv}
use Rattle.automaton.specs.Classes.{classes, gcp, lift_goal, lift}
use Rattle.automaton.specs.Bare.{fresh}
use Rattle.automaton.specs.Walking.{Setting, calculus}
use Rattle.automaton.proofs.Classes.{class_is, pairwise_picked}
use Rattle.automaton.proofs.Root.{gcp_below}
use Rattle.automaton.proofs.Derivative.{owes, on_met}
use Rattle.automaton.proofs.Sound.{SameKey, Other, SoundState}
use Rattle.automaton.proofs.Apart.{label_owes, child_below}

pub keyed_one : (s : State Pos) → Pairwise Other s → (g h : Goal Pos) → g ∈ s → h ∈ s → SameKey g h → g ≡ h
keyed_one s a g h i j k = ⊎_elim (λ (e : g ≡ h). e) (λ (o : Other g h). absurd (o k))
    (pairwise_two Other (λ x y o e. o (sym e.0, sym e.1)) s a g h i j)

last_same : (p : Pos) (i j : ℕ) → p ++ (i ∷ []) ≡ p ++ (j ∷ []) → i ≡ j
last_same p i j e = let z : i ∷ [] ≡ j ∷ [] = append_same p (i ∷ []) (j ∷ []) e in cc

module _ (S : Setting) where
  abbrev K : Calculus Pos
  K = calculus S

  pub freshes_keyed : (p : Pos) → Pairwise Other (K.fresh p)
  freshes_keyed p = pairwise_map ◌<◌ Other (fresh p) (range 0 (length S.shapes)) (λ x y i j l e. let z : x ≡ y = e.0 in omega arith)
      (pairwise_range 0 (length S.shapes))

  fresh_ann : (p : Pos) (g : Goal Pos) → g ∈ K.fresh p → g.ann ≡ p
  fresh_ann p g m = on_map (fresh p) (range 0 (length S.shapes)) m λ i a e. rw e

  module _ (s : State Pos) (w : SoundState S s) (f n : ℕ) where
    abbrev L : Pos
    L = label K s

    abbrev D : State Pos
    D = deriv K s f n

    pub met_keyed : Pairwise Other (met K s f n)
    met_keyed = pairwise_map Other Other (reduced K L n) (filter (K.expects f L) s) (λ x y i j o e. o e)
        (pairwise_filter Other (K.expects f L) s w.goals.keyed)

    -- no goal of the state announces right below the label: it would owe below the label
    not_below_label : (g : Goal Pos) → g ∈ s → (i : ℕ) → g.ann ≡ L ++ (i ∷ []) → ⊥
    not_below_label g m i e = let o = w.goals.owing g m in go o.0 o.1 g.ann e (w.goals.low g m o.0 o.1)
      where
        go : (o : Pos) → o ∈ g.obs → (a : Pos) → a ≡ L ++ (i ∷ []) → o ≼ a → ⊥
        go o j a d h =
            let down : o ≼ (L ++ (i ∷ [])) = rw d at h in
            let z : o ≡ L = w.goals.apart o L (owes m j) (label_owes S s w) (≼_trans down (child_below L i)) in
            let y : length o ≡ length L = ap length z in
            let v = rw length-append at (≼_length down) in
            omega arith

    new_keyed : Pairwise Other (gather (λ i. K.fresh (L ++ (i ∷ []))) (range 1 n))
    new_keyed = pairwise_gather ◌<◌ Other (λ i. K.fresh (L ++ (i ∷ []))) (range 1 n) (λ i m. freshes_keyed (L ++ (i ∷ [])))
        (λ i j a b l g h c d e. let z : i ≡ j = last_same L i j (sym (fresh_ann (L ++ (i ∷ [])) g c) ∙ e.1 ∙ fresh_ann (L ++ (j ∷ [])) h d) in
        omega arith)
        (pairwise_range 1 n)

    old_new : (g h x : Goal Pos) → x ∈ s → SameKey x g → h ∈ gather (λ i. K.fresh (L ++ (i ∷ []))) (range 1 n) → Other g h
    old_new g h x i k m e = on_gather (λ c. K.fresh (L ++ (c ∷ []))) (range 1 n) m λ c a b. not_below_label x i c
        (k.1 ∙ e.1 ∙ fresh_ann (L ++ (c ∷ [])) h b)

    pub deriv_keyed : Pairwise Other D
    deriv_keyed = pairwise_append Other A (B ++ C) (pairwise_filter Other (λ g. not (has K L g.obs)) s w.goals.keyed)
        (pairwise_append Other B C (pairwise_filter Other (λ g. not (is_nil g.obs)) (met K s f n) met_keyed) new_keyed
        (λ g h i j. on_met S s f n (in_filter (λ x. not (is_nil x.obs)) (met K s f n) i).0 λ x a b e. old_new g h x a (rw e (refl, refl)) j))
        (λ g h i j. ⊎_elim (λ b. cross g h i b) (λ c. old_new g h g (in_filter (λ y. not (has K L y.obs)) s i).0 (refl, refl) c) (∈_append B j))
      where
        A : State Pos
        A = filter (λ g. not (has K L g.obs)) s

        B : State Pos
        B = filter (λ g. not (is_nil g.obs)) (met K s f n)

        C : State Pos
        C = gather (λ i. K.fresh (L ++ (i ∷ []))) (range 1 n)

        cross : (g h : Goal Pos) → g ∈ A → h ∈ B → Other g h
        cross g h i j k = on_met S s f n (in_filter (λ x. not (is_nil x.obs)) (met K s f n) j).0 λ x a b e.
            let u = in_filter (λ y. not (has K L y.obs)) s i in
            let z : g ≡ x = keyed_one s w.goals.keyed g x u.0 a (rw e at k) in
            let v : has K L g.obs ≡ true = rw z (and_l _ b) in
            false≢true (sym (ap not v) ∙ u.1)

  pub class_keyed : (d k : State Pos) → Pairwise Other d → k ∈ classes K d → Pairwise Other k
  class_keyed d k a m = let c = class_is K d k m in rw c.is (pairwise_picked Other c.row d a)

  pub lift_keyed : (k : State Pos) → Pairwise Other k → Pairwise Other (lift K k)
  lift_keyed k a = pairwise_map Other Other (lift_goal K (gcp k)) k
      (λ g h i j o e. o (
        e.0,
        sym (strip_join (gcp k) g.ann (gcp_below k g i)) ∙ ap (λ x. gcp k ++ x) e.1
            ∙ strip_join (gcp k) h.ann (gcp_below k h j),
      )) a
