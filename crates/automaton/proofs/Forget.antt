-- A map of obligations that commutes with each part of two calculi commutes with every stage, down to the words of the plan.
--   forget forgets                  a goal, a state with each obligation mapped
--   Carries                         the map commutes with each part, on the goals that are Right; and what is made of these is Right
--   AllRight AllRights              of all goals of a state, of states
--   label_same outputs_same deriv_same classes_same gcp_same lift_same same_state_same  and so with each stage
--   reach_same                      what is reachable stays so
--   plan_same                       so the same plan is made, or refused
use mathlib.Core.Path.{◌≡◌, refl, ap, ap₂, sym, ◌∙◌, subst}
use mathlib.Core.Bool.{Bool, true, false, cond, not, ◌&&◌}
use mathlib.Core.List.{List, [], ◌∷◌, ◌++◌, map}
use mathlib.Core.Logic.{⊎_elim}
use Prim.Native.Nat.{ℕ}
use lib.Dec.{eqb}
use lib.ListN.{length-map}
use Rattle.kinds.specs.Lists.{same, filter, any, all, sort, gather, range, is_nil}
use Rattle.kinds.specs.Positions.{Pos, before, common_prefix, strip}
use Rattle.kinds.proofs.Bools.{and_l, and_r, eqb_is}
use Rattle.kinds.proofs.Members.{∈_append, in_filter, on_map, map_in, on_gather, same_is}
use Rattle.kinds.specs.Members.{◌∈◌}
use Rattle.kinds.proofs.ListLaws.{map_append, map_map, map_same, filter_map, filter_same, any_map, any_same, all_map, all_same, sort_map, gather_same, map_gather, gather_map, nil_same}
use Rattle.kinds.proofs.Prefixes.{◌≼◌}
use Rattle.automaton.specs.Goals.{Goal, State, Calculus, is_root, has, first_from, first, all_obs, label, reduced, met, deriv, announcement, ann_before, outputs}
use Rattle.automaton.specs.Classes.{dep, square, closed, picked, rows_from, class_before, classes, gcp_from, gcp, lift_goal, lift, same_goal, same_state}
use Rattle.automaton.specs.Exploring.{construction}
use Rattle.automaton.specs.PlanWords.{planned}
use Rattle.automaton.specs.Walking.{Reach, init, next}
use Rattle.automaton.proofs.Classes.{class_sub, picked_map}
use Rattle.automaton.proofs.Root.{gcp_below}
use Rattle.automaton.proofs.Simulation.{Simulates, plan_simulated}

module _ {O P : Type 0} (h : O → P) where
  abbrev pub forget : Goal O → Goal P
  forget g = record { shape = g.shape; ann = g.ann; obs = map h g.obs }

  abbrev pub forgets : State O → State P
  forgets s = map forget s

pub record Carries {O P : Type 0} (K : Calculus O) (J : Calculus P) (h : O → P) (Right : Goal O → Type 0) : Type 0 where
  pub at : (o : O) → J.at (h o) ≡ K.at o
  pub fresh : (p : Pos) → forgets h (K.fresh p) ≡ J.fresh p
  pub expects : (f : ℕ) (p : Pos) (g : Goal O) → Right g → J.expects f p (forget h g) ≡ K.expects f p g
  pub reduce : (p : Pos) (n : ℕ) (g : Goal O) → Right g → map h (K.reduce p n g) ≡ J.reduce p n (forget h g)
  pub lifted : (c : Pos) (o : O) → h (K.lifted c o) ≡ J.lifted c (h o)
  pub alike : (g g' : Goal O) → Right g → Right g' → g.shape ≡ g'.shape → g.ann ≡ g'.ann → (o x : O) → o ∈ g.obs → x ∈ g'.obs
      → K.alike o x ≡ J.alike (h o) (h x)
  pub fresh_right : (p : Pos) (g : Goal O) → g ∈ K.fresh p → Right g
  pub reduced_right : (p : Pos) (n : ℕ) (g : Goal O) → Right g → Right (reduced K p n g)
  pub lifted_right : (c : Pos) (g : Goal O) → g.ann ≼ c → Right g → Right (lift_goal K c g)

-- two tests under a third
under : (a c c' d d' : Bool) → (a ≡ true → c ≡ c') → (a ≡ true → d ≡ d') → (a && c && d) ≡ (a && c' && d')
under true c c' d d' f g = ap₂ ◌&&◌ (f refl) (g refl)
under false c c' d d' f g = refl

module _ {O P : Type 0} (K : Calculus O) (J : Calculus P) (h : O → P) (Right : Goal O → Type 0) (carries : Carries K J h Right) where
  abbrev pub AllRight : State O → Type 0
  AllRight s = (g : Goal O) → g ∈ s → Right g

  has_same : (p : Pos) (os : List O) → has J p (map h os) ≡ has K p os
  has_same p os = any_map h (λ o. same p (J.at o)) os ∙ any_same _ _ os (λ o m. ap (same p) (carries.at o))

  first_from_same : (p : Pos) (os : List O) → first_from J p (map h os) ≡ first_from K p os
  first_from_same p [] = refl
  first_from_same p (o ∷ os) = ap (λ a. first_from J (cond (before a p) a p) (map h os)) (carries.at o)
      ∙ first_from_same (cond (before (K.at o) p) (K.at o) p) os

  first_same : (os : List O) → first J (map h os) ≡ first K os
  first_same [] = refl
  first_same (o ∷ os) = ap (λ a. first_from J a (map h os)) (carries.at o) ∙ first_from_same (K.at o) os

  obs_same : (s : State O) → all_obs (forgets h s) ≡ map h (all_obs s)
  obs_same s = gather_map (λ g. g.obs) (forget h) s ∙ sym (map_gather h (λ g. g.obs) s)

  pub label_same : (s : State O) → label J (forgets h s) ≡ label K s
  label_same s = ap (λ l. first J (all_obs l)) (filter_map (forget h) (λ g. is_root g.ann) s) ∙ ap (first J) (obs_same roots)
      ∙ first_same (all_obs roots)
    where
      roots : State O
      roots = filter (λ g. is_root g.ann) s

  -- ---- derivatives
  met_same : (s : State O) → AllRight s → (f n : ℕ) (p : Pos)
      → forgets h (map (reduced K p n) (filter (K.expects f p) s)) ≡ map (reduced J p n) (filter (J.expects f p) (forgets h s))
  met_same s r f n p =
      map_map (forget h) (reduced K p n) kept
      ∙ map_same _ _ kept (λ g m. one g (r g (in_filter (K.expects f p) s m).0))
      ∙ sym (map_map (reduced J p n) (forget h) kept)
      ∙ ap (map (reduced J p n)) (ap (forgets h) (sym (filter_same _ _ s (λ g m. carries.expects f p g (r g m))))
      ∙ sym (filter_map (forget h) (J.expects f p) s))
    where
      kept : State O
      kept = filter (K.expects f p) s

      one : (g : Goal O) → Right g → forget h (reduced K p n g) ≡ reduced J p n (forget h g)
      one g rg = ap (λ os. record { shape = g.shape; ann = g.ann; obs = os }) (carries.reduce p n g rg)

  -- those that pass a test of their obligations
  left_same : (q : List P → Bool) (q' : List O → Bool) → ((os : List O) → q (map h os) ≡ q' os) → (s : State O)
      → forgets h (filter (λ g. q' g.obs) s) ≡ filter (λ g. q g.obs) (forgets h s)
  left_same q q' e s = sym (filter_map (forget h) (λ g. q g.obs) s ∙ ap (forgets h) (filter_same _ _ s (λ g m. e g.obs)))

  pub outputs_same : (s : State O) → AllRight s → (f n : ℕ) → outputs J (forgets h s) f n ≡ outputs K s f n
  outputs_same s r f n =
      ap (λ p. sort ann_before (map announcement (filter (λ g. is_nil g.obs) (map (reduced J p n) (filter (J.expects f p) (forgets h s))))))
      (label_same s)
      ∙ ap (λ l. sort ann_before (map announcement (filter (λ g. is_nil g.obs) l))) (sym (met_same s r f n (label K s)))
      ∙ ap (λ l. sort ann_before (map announcement l)) (sym (left_same is_nil is_nil (nil_same h) (met K s f n)))
      ∙ ap (sort ann_before) (map_map announcement (forget h) (filter (λ g. is_nil g.obs) (met K s f n)))

  pub deriv_same : (s : State O) → AllRight s → (f n : ℕ) → forgets h (deriv K s f n) ≡ deriv J (forgets h s) f n
  deriv_same s r f n =
      map_append (forget h) A (B ++ C)
      ∙ ap₂ ◌++◌ (left_same (λ os. not (has J p os)) (λ os. not (has K p os)) (λ os. ap not (has_same p os)) s)
      (map_append (forget h) B C ∙ ap₂ ◌++◌
      (left_same (λ os. not (is_nil os)) (λ os. not (is_nil os)) (λ os. ap not (nil_same h os)) (met K s f n)
      ∙ ap (filter (λ g. not (is_nil g.obs))) (met_same s r f n p)) c)
      ∙ ap (λ q. filter (λ g. not (has J q g.obs)) (forgets h s)
      ++ (filter (λ g. not (is_nil g.obs)) (map (reduced J q n) (filter (J.expects f q) (forgets h s)))
      ++ gather (λ i. J.fresh (q ++ (i ∷ []))) (range 1 n))) (sym (label_same s))
    where
      p : Pos
      p = label K s

      A : State O
      A = filter (λ g. not (has K p g.obs)) s

      B : State O
      B = filter (λ g. not (is_nil g.obs)) (met K s f n)

      C : State O
      C = gather (λ i. K.fresh (p ++ (i ∷ []))) (range 1 n)

      c : forgets h C ≡ gather (λ i. J.fresh (p ++ (i ∷ []))) (range 1 n)
      c = map_gather (forget h) (λ i. K.fresh (p ++ (i ∷ []))) (range 1 n) ∙ gather_same _ _ (range 1 n) (λ i m. carries.fresh (p ++ (i ∷ [])))

  deriv_right : (s : State O) → AllRight s → (f n : ℕ) → AllRight (deriv K s f n)
  deriv_right s r f n g m = ⊎_elim old (λ i. ⊎_elim less new (∈_append (filter (λ x. not (is_nil x.obs)) (met K s f n)) i))
      (∈_append (filter (λ x. not (has K (label K s) x.obs)) s) m)
    where
      old : g ∈ filter (λ x. not (has K (label K s) x.obs)) s → Right g
      old i = r g (in_filter (λ x. not (has K (label K s) x.obs)) s i).0

      less : g ∈ filter (λ x. not (is_nil x.obs)) (met K s f n) → Right g
      less i = on_map (reduced K (label K s) n) (filter (K.expects f (label K s)) s) (in_filter (λ x. not (is_nil x.obs)) (met K s f n) i).0 λ x
          j e.
          rw e (carries.reduced_right (label K s) n x (r x (in_filter (K.expects f (label K s)) s j).0))

      new : g ∈ gather (λ i. K.fresh (label K s ++ (i ∷ []))) (range 1 n) → Right g
      new i = on_gather (λ c. K.fresh (label K s ++ (c ∷ []))) (range 1 n) i λ c j k. carries.fresh_right (label K s ++ (c ∷ [])) g k

  -- ---- classes
  dep_same : (g g' : Goal O) → dep J (forget h g) (forget h g') ≡ dep K g g'
  dep_same g g' = any_map h (λ o. has J (J.at o) (map h g'.obs)) g.obs
      ∙ any_same _ _ g.obs (λ o m. ap (λ a. has J a (map h g'.obs)) (carries.at o) ∙ has_same (K.at o) g'.obs)

  square_same : (s : State O) → square J (forgets h s) ≡ square K s
  square_same s = map_map (λ g. map (dep J g) (forgets h s)) (forget h) s
      ∙ map_same _ _ s (λ g m. map_map (dep J (forget h g)) (forget h) s ∙ map_same _ _ s (λ x i. dep_same g x))

  closed_same : (s : State O) → closed J (forgets h s) ≡ closed K s
  closed_same s = rw (square_same s, length-map s (forget h))

  pub classes_same : (s : State O) → map (forgets h) (classes K s) ≡ classes J (forgets h s)
  classes_same s =
      sort_map (forgets h) (class_before K) (class_before J) (λ a b. sym (ap₂ before (first_of_lem a) (first_of_lem b)))
      (map (λ r. picked r s) (rows_from 0 (closed K s)))
      ∙ ap (sort (class_before J)) (map_map (forgets h) (λ r. picked r s) (rows_from 0 (closed K s))
      ∙ map_same _ _ (rows_from 0 (closed K s)) (λ r m. picked_map (forget h) r s)
      ∙ ap (λ c. map (λ r. picked r (forgets h s)) (rows_from 0 c)) (sym (closed_same s)))
    where
      first_of_lem : (a : State O) → first J (all_obs (forgets h a)) ≡ first K (all_obs a)
      first_of_lem a = ap (first J) (obs_same a) ∙ first_same (all_obs a)

  gcp_from_same : (p : Pos) (s : State O) → gcp_from p (forgets h s) ≡ gcp_from p s
  gcp_from_same p [] = refl
  gcp_from_same p (g ∷ s) = gcp_from_same (common_prefix p g.ann) s

  pub gcp_same : (s : State O) → gcp (forgets h s) ≡ gcp s
  gcp_same [] = refl
  gcp_same (g ∷ s) = gcp_from_same g.ann s

  pub lift_same : (k : State O) → forgets h (lift K k) ≡ lift J (forgets h k)
  lift_same k = map_map (forget h) (lift_goal K (gcp k)) k ∙ map_same _ _ k (λ g m. one g) ∙ sym (map_map (lift_goal J (gcp k)) (forget h) k)
      ∙ ap (λ c. map (lift_goal J c) (forgets h k)) (sym (gcp_same k))
    where
      one : (g : Goal O) → forget h (lift_goal K (gcp k) g) ≡ lift_goal J (gcp k) (forget h g)
      one g = ap (λ os. record { shape = g.shape; ann = strip (gcp k) g.ann; obs = os })
          (map_map h (K.lifted (gcp k)) g.obs ∙ map_same _ _ g.obs (λ o m. carries.lifted (gcp k) o)
          ∙ sym (map_map (J.lifted (gcp k)) h g.obs))

  lift_right : (k : State O) → AllRight k → AllRight (lift K k)
  lift_right k r g m = on_map (lift_goal K (gcp k)) k m λ y i e. rw e (carries.lifted_right (gcp k) y (gcp_below k y i) (r y i))

  -- what is reachable
  pub reach_same : (ar : List ℕ) {s : State O} → Reach K ar s → AllRight s × Reach J ar (forgets h s)
  reach_same ar init = (carries.fresh_right [], subst (Reach J ar) (sym (carries.fresh [])) init)
  reach_same ar (next {s} {k} f n r a m) =
      let ih = reach_same ar r in
      let right : AllRight k = λ g i. deriv_right s ih.0 f n g (class_sub K (deriv K s f n) k m g i) in
      let e : map (forgets h) (classes K (deriv K s f n)) ≡ classes J (deriv J (forgets h s) f n) =
      classes_same (deriv K s f n) ∙ ap (classes J) (deriv_same s ih.0 f n) in
      let inside : forgets h k ∈ classes J (deriv J (forgets h s) f n) = subst (λ l. forgets h k ∈ l) e (map_in (forgets h) m) in
      (lift_right k right, subst (Reach J ar) (sym (lift_same k)) (next f n ih.1 a inside))

  -- ---- equality of states
  inside_same : (g g' : Goal O) → Right g → Right g' → g.shape ≡ g'.shape → g.ann ≡ g'.ann
      → all (λ o. any (K.alike o) g'.obs) g.obs ≡ all (λ o. any (J.alike o) (map h g'.obs)) (map h g.obs)
  inside_same g g' rg rg' es ea =
      all_same _ _ g.obs (λ o i. any_same _ _ g'.obs (λ x j. carries.alike g g' rg rg' es ea o x i j)
      ∙ sym (any_map h (J.alike (h o)) g'.obs))
      ∙ sym (all_map h (λ o. any (J.alike o) (map h g'.obs)) g.obs)

  same_goal_same : (g g' : Goal O) → Right g → Right g' → same_goal K g g' ≡ same_goal J (forget h g) (forget h g')
  same_goal_same g g' rg rg' = under (eqb g.shape g'.shape && same g.ann g'.ann) _ _ _ _
      (λ e. inside_same g g' rg rg' (key e).0 (key e).1)
      (λ e. inside_same g' g rg' rg (sym (key e).0) (sym (key e).1))
    where
      key : (eqb g.shape g'.shape && same g.ann g'.ann) ≡ true → (g.shape ≡ g'.shape) × (g.ann ≡ g'.ann)
      key e = (eqb_is g.shape g'.shape (and_l (same g.ann g'.ann) e), same_is g.ann g'.ann (and_r (eqb g.shape g'.shape) e))

  half_same : (s t : State O) → AllRight s → AllRight t
      → all (λ g. any (same_goal K g) t) s ≡ all (λ g. any (same_goal J g) (forgets h t)) (forgets h s)
  half_same s t rs rt =
      all_same _ _ s (λ g i. any_same _ _ t (λ x j. same_goal_same g x (rs g i) (rt x j)) ∙ sym (any_map (forget h) (same_goal J (forget h g)) t))
      ∙ sym (all_map (forget h) (λ g. any (same_goal J g) (forgets h t)) s)

  pub same_state_same : (s t : State O) → AllRight s → AllRight t → same_state K s t ≡ same_state J (forgets h s) (forgets h t)
  same_state_same s t rs rt = ap₂ ◌&&◌ (half_same s t rs rt) (half_same t s rt rs)

  -- ---- exploring
  carried : (ar : List ℕ) → Simulates (construction K) (construction J) (forgets h) AllRight AllRight ar
  carried ar = record {
    start = carries.fresh [];
    start_right = carries.fresh_right [];
    label = λ s r. label_same s;
    outputs = λ s r f n e. outputs_same s r f n;
    classes = λ s r f n e. classes_same (deriv K s f n) ∙ ap (classes J) (deriv_same s r f n);
    parts = λ s r f n e k m g j. deriv_right s r f n g (class_sub K (deriv K s f n) k m g j);
    size = λ k r. length-map k (forget h);
    gcp = λ k r. gcp_same k;
    lift = λ k r. lift_same k;
    lifted = λ k r l. lift_right k r;
    same = same_state_same;
  }

  pub plan_same : (ar : List ℕ) (n room : ℕ) → planned (construction K) ar n room ≡ planned (construction J) ar n room
  plan_same ar n room = plan_simulated (construction K) (construction J) (forgets h) AllRight AllRight ar (carried ar) n room
