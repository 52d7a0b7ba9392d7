-- The classes of goals that each owe something are their parts under the dependency relation, one after the other in document order.
--   share                    goals that owe at one position depend on each other
--   pairwise_at pairwise_both pairwise_back   pairs at two places; of two relations; of what a list was made of
--   rows_pairwise            rows that begin a class, by their places
--   classes_apart            no goal of a class depends on one of another
--   first_not_after          nothing owed comes before the first position
--   parted                   so the list is parted
--   reach_carried            what is reachable over the paper's obligations is so over bare positions, when the subpatterns are forgotten
--   paper_once paper_parted  no reachable state of the paper's calculus has a goal twice, and each of its derivatives is parted
--   plan_reachable           the states of the plan are reachable
use mathlib.Core.Path.{◌≡◌, refl, sym, ◌∙◌, subst}
use mathlib.Core.Bool.{Bool, true, false, cond}
use mathlib.Core.List.{List, [], ◌∷◌, map}
use mathlib.Core.Logic.{◌↔◌, ⊎_elim}
use mathlib.Core.Option.{some}
use Prim.Native.Nat.{ℕ, zero, suc, ◌+◌, ◌<◌}
use native.Mathlib.Omega.{arith}
use native.Mathlib.Nat.{add-zero, zero-add}
use lib.ListN.{get_elem?}
use Rattle.kinds.specs.Lists.{same}
use Rattle.kinds.specs.Positions.{Pos, before}
use Rattle.kinds.specs.Members.{◌∈◌, here, there, Pairwise}
use Rattle.kinds.proofs.Bools.{not_true, false_true, Order, less, equal, more, order}
use Rattle.kinds.proofs.Members.{any_of, same_refl, on_map, map_in, on_gather, gather_in, sort_perm}
use Rattle.kinds.proofs.Options.{none_not}
use Rattle.kinds.proofs.Ordered.{before_irrefl, before_total, before_asym, before_pass}
use Rattle.kinds.proofs.Pairwise.{pairwise_map, pairwise_perm}
use Rattle.kinds.proofs.Places.{at_in, on_in}
use Rattle.term.specs.Terms.{Term}
use Rattle.automaton.specs.Goals.{Goal, State, Calculus, has, first_from, first, all_obs, deriv}
use Rattle.automaton.specs.Classes.{Square, leads, rows_from, picked, dep, Dependent, closed, class_before, classes}
use Rattle.automaton.specs.Paper.{Ob, paper}
use Rattle.automaton.specs.Exploring.{construction, Block, made, explored}
use Rattle.automaton.specs.Parted.{SameAnnouncement, Once, FirstOf, OneClass, Parted}
use Rattle.automaton.specs.Walking.{Setting, Reach, calculus, Reachable}
use Rattle.automaton.proofs.ClassOrder.{classes_in_order}
use Rattle.automaton.proofs.Classes.{pairwise_picked, on_row, Class, class_is, class_sub, class_at_lem, class_has, class_some, class_unique, class_of}
use Rattle.automaton.proofs.Closure.{dep_sym, direct, dependent_join, dependent_sym, dependent_closed}
use Rattle.automaton.proofs.Derivative.{first_in}
use Rattle.automaton.proofs.Forget.{forget, forgets, AllRight, deriv_same, reach_same}
use Rattle.automaton.proofs.Numbered.{numbered}
use Rattle.automaton.proofs.Reachable.{reachable_sound, deriv_sound}
use Rattle.automaton.proofs.SamePlan.{position, Right, carries, alike_refl}
use Rattle.automaton.proofs.Sound.{Sound, SoundState}

-- ---- pairs
module _ {A : Type 0} (R : A → A → Type 0) where
  pub pairwise_at : (xs : List A) → Pairwise R xs → (i j : ℕ) {x y : A} → i < j → get_elem? xs i ≡ some x → get_elem? xs j ≡ some y → R x y
  pairwise_at [] a i j l e d = none_not e
  pairwise_at (z ∷ xs) a i zero l e d = absurd (omega arith)
  pairwise_at (z ∷ xs) a zero (suc j) {x} {y} l e d = let u : x ≡ z = cc in rw u (a.0 y (at_in xs j d))
  pairwise_at (z ∷ xs) a (suc i) (suc j) l e d = pairwise_at xs a.1 i j (omega arith) e d

  pub pairwise_back : {B : Type 0} (f : B → A) (xs : List B) → Pairwise R (map f xs) → Pairwise (λ x y. R (f x) (f y)) xs
  pairwise_back f [] a = tt
  pairwise_back f (x ∷ xs) a = (λ y m. a.0 (f y) (map_in f m), pairwise_back f xs a.1)

  pub pairwise_both : (Q T : A → A → Type 0) (xs : List A) → ((x y : A) → x ∈ xs → y ∈ xs → R x y → Q x y → T x y) → Pairwise R xs → Pairwise Q xs
      → Pairwise T xs
  pairwise_both Q T [] h a b = tt
  pairwise_both Q T (x ∷ xs) h a b =
      (λ y m. h x y (here refl) (there m) (a.0 y m) (b.0 y m), pairwise_both Q T xs (λ u v i j. h u v (there i) (there j)) a.1 b.1)

rows_pairwise : (R : List Bool → List Bool → Type 0) (m : Square) (i : ℕ)
    → ((k l : ℕ) (x y : List Bool) → k < l → get_elem? m k ≡ some x → leads (i + k) x ≡ true → get_elem? m l ≡ some y → leads (i + l) y ≡ true → R x y)
    → Pairwise R (rows_from i m)
rows_pairwise R [] i h = tt
rows_pairwise R (x ∷ m) i h =
    go (leads i x) refl (rows_pairwise R m (suc i)
    (λ k l a b u e t d v. h (suc k) (suc l) a b (omega arith) e (rw (shift k) at t) d (rw (shift l) at v)))
  where
    shift : (c : ℕ) → suc i + c ≡ i + suc c
    shift c = omega arith

    go : (b : Bool) → leads i x ≡ b → Pairwise R (rows_from (suc i) m) → Pairwise R (cond b (x ∷ rows_from (suc i) m) (rows_from (suc i) m))
    go true e ih = (λ y a. on_row m (suc i) a λ l d t. h 0 (suc l) x y (omega arith) refl (rw add-zero e) d (rw (shift l) at t), ih)
    go false e ih = ih

-- ---- the first position
module _ {O : Type 0} (K : Calculus O) where
  first_from_not_after : (p : Pos) (os : List O) → (before p (first_from K p os) ≡ false)
      × ((o : O) → o ∈ os → before (K.at o) (first_from K p os) ≡ false)
  first_from_not_after p [] = (not_true (before p p) (before_irrefl p), λ o m. elim m [ ])
  first_from_not_after p (x ∷ os) = go (before (K.at x) p) refl (first_from_not_after (K.at x) os) (first_from_not_after p os)
    where
      go : (b : Bool) → before (K.at x) p ≡ b
          → (before (K.at x) (first_from K (K.at x) os) ≡ false) × ((o : O) → o ∈ os → before (K.at o) (first_from K (K.at x) os) ≡ false)
          → (before p (first_from K p os) ≡ false) × ((o : O) → o ∈ os → before (K.at o) (first_from K p os) ≡ false)
          → (before p (first_from K (cond b (K.at x) p) os) ≡ false)
          × ((o : O) → o ∈ (x ∷ os) → before (K.at o) (first_from K (cond b (K.at x) p) os) ≡ false)
      go true e a b = (before_pass (first_from K (K.at x) os) (K.at x) p a.0 (before_asym (K.at x) p e), all)
        where
          all : (o : O) → o ∈ (x ∷ os) → before (K.at o) (first_from K (K.at x) os) ≡ false
          all o (here d) = rw d a.0
          all o (there m) = a.1 o m
      go false e a b = (b.0, all)
        where
          all : (o : O) → o ∈ (x ∷ os) → before (K.at o) (first_from K p os) ≡ false
          all o (here d) = rw d (before_pass (first_from K p os) p (K.at x) b.0 e)
          all o (there m) = b.1 o m

  pub first_not_after : (os : List O) (o : O) → o ∈ os → before (K.at o) (first K os) ≡ false
  first_not_after (x ∷ os) o (here e) = rw e (first_from_not_after (K.at x) os).0
  first_not_after (x ∷ os) o (there m) = (first_from_not_after (K.at x) os).1 o m
  first_not_after [] o x' = elim x' [ ]

  pub share : (g h : Goal O) (o x : O) → o ∈ g.obs → x ∈ h.obs → K.at o ≡ K.at x → dep K g h ≡ true
  share g h o x a b e = any_of (λ y. has K (K.at y) h.obs) a (any_of (λ y. same (K.at o) (K.at y)) b (rw e (same_refl (K.at x))))

  -- ---- goals that each owe something
  abbrev pub Apart : State O → State O → Type 0
  Apart a b = (g h : Goal O) → g ∈ a → h ∈ b → dep K g h ≡ true → ⊥

  module _ (d : State O) where
    pub classes_apart : Pairwise Apart (classes K d)
    classes_apart =
        pairwise_perm Apart (λ a b o g h i j t. o h g j i (dep_sym K g h t))
        (sort_perm (class_before K) (map (λ r. picked r d) (rows_from 0 (closed K d))))
        (pairwise_map (λ x y. Apart (picked x d) (picked y d)) Apart (λ r. picked r d) (rows_from 0 (closed K d)) (λ x y i j a. a)
        (rows_pairwise (λ x y. Apart (picked x d) (picked y d)) (closed K d) 0 two))
      where
        two : (k l : ℕ) (x y : List Bool) → k < l → get_elem? (closed K d) k ≡ some x → leads (0 + k) x ≡ true → get_elem? (closed K d) l ≡ some y
            → leads (0 + l) y ≡ true
            → Apart (picked x d) (picked y d)
        two k l x y u e t e' t' g h i j s =
            let c : Class K d (picked x d) = record { lead = k; row = x; is_row = e; begins = rw zero-add at t; is = refl } in
            let c' : Class K d (picked y d) = record { lead = l; row = y; is_row = e'; begins = rw zero-add at t'; is = refl } in
            class_at_lem K d (picked x d) c i λ p a dp.
            class_at_lem K d (picked y d) c' j λ q b dq.
            let z : k ≡ l = class_unique K d (picked x d) (picked y d) c c' q (dependent_join K d dp (direct K d a b s)) dq in
            omega arith

    module _ (owing : (g : Goal O) → g ∈ d → (o : O) × (o ∈ g.obs)) (once : Once d) where
      self : (g : Goal O) → g ∈ d → dep K g g ≡ true
      self g m = let o = owing g m in share g g o.0 o.0 o.1 o.1 refl

      firsts : (k : State O) → k ∈ classes K d → FirstOf K k (first K (all_obs k))
      firsts k m =
          let g = class_some K d k (class_is K d k m) in
          let o = owing g.0 (class_sub K d k m g.0 g.1) in
          record { owed = first_in K (all_obs k) (gather_in (λ g. g.obs) g.1 o.1); none_before = first_not_after (all_obs k) }

      strict : (a b : State O) → a ∈ classes K d → b ∈ classes K d → Apart a b → before (first K (all_obs b)) (first K (all_obs a)) ≡ false
          → before (first K (all_obs a)) (first K (all_obs b)) ≡ true
      strict a b i j o e =
          ⊎_elim (λ l. l) (⊎_elim (λ (s : first K (all_obs a) ≡ first K (all_obs b)). absurd (equal_not s)) (λ l. false_true (sym e ∙ l)))
          (before_total (first K (all_obs a)) (first K (all_obs b)))
        where
          equal_not : first K (all_obs a) ≡ first K (all_obs b) → ⊥
          equal_not s =
              let x = (firsts a i).owed in
              let y = (firsts b j).owed in
              on_gather (λ g. g.obs) a x.1 λ g gi go.
              on_gather (λ g. g.obs) b y.1 λ h hi ho.
              o g h gi hi (share g h x.0 y.0 go ho (x.2 ∙ s ∙ sym y.2))

      -- the goals of a class depend on its first goal, at whatever place they stand
      leads_to : (k : State O) (c : Class K d k) (i : ℕ) (g : Goal O) → get_elem? d i ≡ some g → g ∈ k → Dependent K d c.lead i
      leads_to k c i g a m = class_at_lem K d k c m λ j b e. dependent_join K d e (direct K d b a (self g (at_in d i a)))

      together : (k : State O) → k ∈ classes K d → (i j : ℕ) (g h : Goal O) → get_elem? d i ≡ some g → get_elem? d j ≡ some h → g ∈ k
          → (h ∈ k) ↔ Dependent K d i j
      together k m i j g h a b gk =
          let c = class_is K d k m in
          let to = leads_to k c i g a gk in
          (λ hk. dependent_join K d (dependent_sym K d to) (leads_to k c j h b hk), λ e. class_has K d k c j b (dependent_join K d to e))

      one_class : (g : Goal O) → g ∈ d → OneClass K d g
      one_class g m =
          on_in m λ j a.
          class_of K d j (direct K d a a (self g m)) λ k c i e.
          on_in i λ n at.
          let gk = class_has K d k c j a e in
          record { number = n; part = k; is = at; inside = gk; only = λ c' k' at' gk'. only n c' k k' at at' gk gk' }
        where
          only : (n c : ℕ) (k k' : State O) → get_elem? (classes K d) n ≡ some k → get_elem? (classes K d) c ≡ some k' → g ∈ k → g ∈ k' → c ≡ n
          only n c k k' at at' gk gk' = go (order c n)
            where
              go : Order c n → c ≡ n
              go (less l) = absurd (pairwise_at Apart (classes K d) classes_apart c n l at' at g g gk' gk (self g m))
              go (equal e) = e
              go (more l) = absurd (pairwise_at Apart (classes K d) classes_apart n c l at at' g g gk gk' (self g m))

      pub parted : Parted K d
      parted = record {
        square = dependent_closed K d;
        within = class_sub K d;
        together = together;
        one_class = one_class;
        some_goal = λ k m. class_some K d k (class_is K d k m);
        first_is = firsts;
        in_order =
            pairwise_both Apart (λ a b. before (first K (all_obs b)) (first K (all_obs a)) ≡ false) _ (classes K d) strict classes_apart
            (classes_in_order K d);
        once = once;
        once_in = λ k m. let c = class_is K d k m in rw c.is (pairwise_picked (λ g h. SameAnnouncement g h → ⊥) c.row d once);
      }

-- ---- the paper's calculus
module _ (S : Setting) where
  abbrev P : Calculus Ob
  P = paper S.shapes

  abbrev J : Calculus Pos
  J = calculus S

  abbrev Rights : State Ob → Type 0
  Rights s = AllRight P J position (Right S.shapes) (carries S.shapes) s

  pub reach_carried : {s : State Ob} → Reach P S.symbols s → Rights s × Reachable S (forgets position s)
  reach_carried r = reach_same P J position (Right S.shapes) (carries S.shapes) S.symbols r

  module _ {s : State Ob} (r : Reach P S.symbols s) where
    sound : SoundState S (forgets position s)
    sound = reachable_sound S (reach_carried r).1

    pub paper_once : Once s
    paper_once = pairwise_back (λ g h. SameAnnouncement g h → ⊥) (forget position) s sound.goals.keyed

    module _ (f n : ℕ) (a : get_elem? S.symbols f ≡ some n) where
      d_same : forgets position (deriv P s f n) ≡ deriv J (forgets position s) f n
      d_same = deriv_same P J position (Right S.shapes) (carries S.shapes) s (reach_carried r).0 f n

      d_sound : Sound S (forgets position (deriv P s f n))
      d_sound = subst (Sound S) (sym d_same) (deriv_sound S (forgets position s) sound f n a)

      d_owing : (g : Goal Ob) → g ∈ deriv P s f n → (o : Ob) × (o ∈ g.obs)
      d_owing g m = let o = d_sound.owing (forget position g) (map_in (forget position) m) in on_map position g.obs o.1 λ x i e. (x, i)

      pub paper_parted : Parted P (deriv P s f n)
      paper_parted = parted P (deriv P s f n) d_owing
          (pairwise_back (λ g h. SameAnnouncement g h → ⊥) (forget position) (deriv P s f n) d_sound.keyed)

pub plan_reachable : (shapes : List Term) (ar : List ℕ) (ss : List (State Ob)) (bs : List Block)
    → explored (construction (paper shapes)) ar ≡ made ss bs
    → (s : State Ob) → s ∈ ss → Reach (paper shapes) ar s
plan_reachable shapes ar ss bs e = (numbered (paper shapes) alike_refl ar ss bs e).reach
