-- The invariant holds where a walk begins, and every step keeps it.
--   on_goes goes_in        an item that goes on, and the one for which it goes
--   begin_invariant step_invariant
--   new_only               what a step announces was not announced before
--   walked_invariant       so it holds of every walk
use mathlib.Core.Path.{◌≡◌, refl, sym, ◌∙◌}
use mathlib.Core.Bool.{true, false≢true}
use mathlib.Core.List.{List, [], ◌∷◌, ◌++◌, append_assoc}
use mathlib.Core.Option.{some}
use mathlib.Core.Logic.{⊎_elim}
use Prim.Native.Nat.{ℕ}
use native.Mathlib.Omega.{arith}
use lib.ListN.{get_elem?}
use Rattle.kinds.specs.Lists.{same, is_nil}
use Rattle.kinds.specs.Positions.{Pos, strip}
use Rattle.kinds.proofs.Members.{∈_left, ∈_right, ∈_append, on_map}
use Rattle.kinds.specs.Members.{◌∈◌, here, there}
use Rattle.kinds.proofs.Pairwise.{pairwise_append}
use Rattle.kinds.proofs.Places.{at_below}
use Rattle.kinds.proofs.Sums.{sum_append}
use Rattle.kinds.proofs.Prefixes.{strip_join}
use Rattle.term.specs.Terms.{Term, node, Terms, count}
use Rattle.term.specs.Places.{sub, head_at}
use Rattle.automaton.specs.Goals.{Calculus, Goal, State, label, initial, reduced, deriv, Announcement}
use Rattle.automaton.specs.Classes.{classes, gcp, lift}
use Rattle.automaton.specs.Bare.{fresh}
use Rattle.automaton.specs.Walking.{Setting, Scored, calculus, Reachable, init, Alike, Item, sees, one, looks, goes_on, follows, announces, Goes, one_goes, Walked, begin, step}
use Rattle.term.proofs.Subterms.{sub_append, child_some}
use Rattle.automaton.proofs.Within.{score_arity}
use Rattle.automaton.proofs.Classes.{class_sub}
use Rattle.automaton.proofs.Derivative.{Owes, owes, on_initial, initial_in, expects_owes, on_lifted, From, old, under, from}
use Rattle.automaton.proofs.Sound.{Sound, SoundState}
use Rattle.automaton.proofs.Apart.{label_owes}
use Rattle.automaton.proofs.Owed.{below_gcp}
use Rattle.automaton.proofs.Reachable.{initial_owes, deriv_sound, class_sound, reachable_sound}
use Rattle.automaton.proofs.Alike.{alike_back}
use Rattle.automaton.proofs.Covers.{covered}
use Rattle.automaton.proofs.ReadOnce.{follows_see, goes_see}
use Rattle.automaton.proofs.History.{known_more, known_fresh, known_alike, known_lifted, known_cut, known_derived}
use Rattle.automaton.proofs.Announced.{on_announces, announces_differ}
use Rattle.automaton.proofs.Onward.{onward}
use Rattle.automaton.proofs.Invariant.{Open, Seen, Known, Due, is_told, is_waiting, is_refuted, Invariant, unread}

module _ (S : Setting) where
  pub on_goes {κ} : {C : Type κ} {js js' : List Item} → Goes S js js' → (j' : Item) → j' ∈ js'
      → ((j : Item) → j ∈ js → j'.at ≡ j.at → Alike j.state j'.state → Reachable S j'.state → C) → C
  on_goes (one_goes {j} {j'} a b r n) i (here e) k = k j (here refl) (rw e a) (rw e b) (rw e r)
  on_goes (one_goes a b r n) i (there m) k = on_goes n i m (λ j l. k j (there l))
  on_goes {C = C} Rattle.automaton.specs.Walking.none_go i x7 k = elim x7 [ ]

  pub goes_in {κ} : {C : Type κ} {js js' : List Item} → Goes S js js' → (j : Item) → j ∈ js
      → ((j' : Item) → j' ∈ js' → j'.at ≡ j.at → Alike j.state j'.state → C) → C
  goes_in (one_goes {j} {j'} a b r n) i (here e) k = k j' (here refl) (rw e a) (rw e b)
  goes_in (one_goes a b r n) i (there m) k = goes_in n i m (λ j l. k j (there l))
  goes_in {C = C} Rattle.automaton.specs.Walking.none_go i x7 k = elim x7 [ ]

module _ (C : Scored) where
  abbrev S : Setting
  S = C.setting

  abbrev K : Calculus Pos
  K = calculus S

  pub begin_invariant : Invariant C (record { state = initial K; at = [] } ∷ []) [] []
  begin_invariant = record {
    reach = λ it m. only it m init;
    inside = λ it m. at_root it m;
    read_inside = λ q m. elim m [ ];
    once = λ q u e. rw (covered (initial K) q (owes (initial_in S 0 S.limits.some_shape) (here refl)) (record { by = q; eq = refl }));
    known = λ it m. fresh_known it m;
    due = λ q m. elim m [ ];
    shape = λ a m. elim m [ ];
    seen = λ a m. elim m [ ];
    differ = tt;
  }
    where
      only : (it : Item) → it ∈ (record { state = initial K; at = [] } ∷ []) → Reachable S (initial K) → Reachable S it.state
      only it (here e) r = rw e r
      only it (there x5) r = elim x5 [ ]

      at_root : (it : Item) → it ∈ (record { state = initial K; at = [] } ∷ []) → (o : Pos) → Owes it.state o → (u : Term)
          × (sub C.score (it.at ++ o) ≡ some u)
      at_root it (here e) = rw e (λ o m. (C.score, rw (initial_owes S o m)))
      at_root it (there x4) = elim x4 [ ]

      fresh_known : (it : Item) → it ∈ (record { state = initial K; at = [] } ∷ []) → (g : Goal Pos) → g ∈ it.state → Known C [] it.at g
      fresh_known it (here e) = rw e (λ g m. on_initial S m λ j h d. rw d (known_fresh C [] [] [] j))
      fresh_known it (there x4) = elim x4 [ ]

  -- one step, at one of the items
  module _ (before after : List Item) (R : List Pos) (told : List Announcement) (it : Item) (f : ℕ) (ts : Terms) (js : List Item) where
    -- what waits before the step; the label, the derivative; what waits, was read and announced after it
    abbrev items : List Item
    items = before ++ (it ∷ after)

    abbrev L : Pos
    L = label K it.state

    abbrev D : State Pos
    D = deriv K it.state f (count ts)

    abbrev items' : List Item
    items' = before ++ (after ++ js)

    abbrev R' : List Pos
    R' = R ++ (looks S it ∷ [])

    abbrev told' : List Announcement
    told' = told ++ announces S it f (count ts)

    module _ (inv : Invariant C items R told) (node_is : sub C.score (looks S it) ≡ some (node f ts))
        (goes : Goes S (follows S it f (count ts)) js) where
      it_in : it ∈ items
      it_in = ∈_right before (here refl)

      arity : get_elem? S.symbols f ≡ some (count ts)
      arity = score_arity C (looks S it) f ts node_is

      sound : SoundState S it.state
      sound = reachable_sound S (inv.reach it it_in)

      sound_d : Sound S D
      sound_d = deriv_sound S it.state sound f (count ts) arity

      -- an item of those after the step was there before, or goes on
      items_after : {X : Type 0} (j : Item) → j ∈ items' → (j ∈ items → X) → (j ∈ js → X) → X
      items_after j m there-before goes_on_lem =
          ⊎_elim (λ l. there-before (∈_left (it ∷ after) l)) (λ l. ⊎_elim (λ k. there-before (∈_right before (there k))) goes_on_lem (∈_append after l))
          (∈_append before m)

      -- and one that was there before is there after it, or is the one taken
      items_before : {X : Type 0} (j : Item) → j ∈ items → (j ∈ items' → X) → (j ≡ it → X) → X
      items_before {X = X} j m stays taken = ⊎_elim (λ l. stays (∈_left (after ++ js) l)) rest (∈_append before m)
        where
          rest : j ∈ (it ∷ after) → X
          rest (here e) = taken e
          rest (there l) = stays (∈_right before (∈_left js l))

      on_follows {κ} : {X : Type κ} (j : Item) → j ∈ follows S it f (count ts) → ((k : State Pos) → k ∈ classes K D → j ≡ goes_on S it k → X) → X
      on_follows j m c = on_map (goes_on S it) (classes K D) m c

      -- the items that follow owe inside the score
      follows_inside : (j : Item) → j ∈ follows S it f (count ts) → (o : Pos) → Owes j.state o → (u : Term)
          × (sub C.score (j.at ++ o) ≡ some u)
      follows_inside j m = on_follows j m λ k i e. rw e (λ o m. go k i o m)
        where
          from_it : (x : Pos) → From S it.state (count ts) x → (u : Term) × (sub C.score (it.at ++ x) ≡ some u)
          from_it x (old a ne) = inv.inside it it_in x a
          from_it x (under i l h e) =
              let c = child_some f ts i l h in
              (c.0, rw (e, ← (append_assoc it.at L (i ∷ [])), sub_append (looks S it) (i ∷ []) C.score, node_is) c.1)

          go : (k : State Pos) → k ∈ classes K D → (o : Pos) → Owes (lift K k) o → (u : Term) × (sub C.score ((it.at ++ gcp k) ++ o) ≡ some u)
          go k i o m = on_lifted S k o m λ x g a b d.
              let up = below_gcp S k (class_sound S D sound_d k i) g a x b in
              let place : (it.at ++ gcp k) ++ o ≡ it.at ++ x = rw (d, append_assoc, strip_join (gcp k) x up) in
              rw place (from_it x (from S it.state f (count ts) g x (class_sub K D k i g a) b))

      -- where more was read, the position looked at too
      read_more : (q : Pos) → q ∈ R → q ∈ R'
      read_more q m = ∈_left (looks S it ∷ []) m

      read_this : looks S it ∈ R'
      read_this = ∈_right R (here refl)

      it_known : (g : Goal Pos) → g ∈ it.state → Known C R' it.at g
      it_known g m = known_more C R (looks S it ∷ []) it.at g (inv.known it it_in g m)

      follows_known : (j : Item) → j ∈ follows S it f (count ts) → (g : Goal Pos) → g ∈ j.state → Known C R' j.at g
      follows_known j m = on_follows j m λ k i e. rw e
          (known_lifted C R' it.at k (class_sound S D sound_d k i)
          (λ g a. known_derived C R' it.at it.state sound it_known f ts node_is read_this g (class_sub K D k i g a)))

      -- ---- W3
      -- a goal of the item that is taken
      taken_due : (i : ℕ) (x : Term) → get_elem? S.shapes i ≡ some x → (q : Pos) (g : Goal Pos) → g ∈ it.state → g.shape ≡ i
          → it.at ++ g.ann ≡ q
          → Due C.score items' R' told' i x q
      taken_due i x gx q g m es eq = onward C it sound f ts node_is sound_d g m x (rw es gx)
          (λ l. is_told (∈_right told (rw (← es, ← eq) l)))
          (λ j h l n e d. goes_in S goes j l λ j' l' at al. let p = al.to h n in
          is_waiting j' p.goal (∈_right before (∈_right after l')) p.inside (p.shape ∙ e ∙ es) (rw (at, p.ann) (d ∙ eq)))
          (λ r k e d n. let z : q ++ r ≡ looks S it = rw (← eq) d in is_refuted r k e (rw z read_this) (rw z n))

      due_after : (q : Pos) → q ∈ R' → (i : ℕ) (x : Term) → get_elem? S.shapes i ≡ some x
          → Due C.score items' R' told' i x q
      due_after q m i x gx = ⊎_elim (λ l. was_due (inv.due q l i x gx)) is_new (∈_append R m)
        where
          was_due : Due C.score items R told i x q → Due C.score items' R' told' i x q
          was_due (is_told l) = is_told (∈_left _ l)
          was_due (is_refuted r k e l n) = is_refuted r k e (read_more (q ++ r) l) n
          was_due (is_waiting j g l k es eq) =
              items_before j l (λ c. is_waiting j g c k es eq) (λ e. taken_due i x gx q g (rw e at k) es (rw e at eq))

          -- a position that is read now has the fresh goal of each shape
          is_new : q ∈ (looks S it ∷ []) → Due C.score items' R' told' i x q
          is_new (here e) = taken_due i x gx q (fresh L i)
              (sound.goals.fresh L (label_owes S it.state sound) i (at_below S.shapes i gx)) refl (sym e)
          is_new (there x5) = elim x5 [ ]

      -- ---- W4
      -- an announcement of the step, by its goal
      new_seen : (a : Announcement) → a ∈ announces S it f (count ts) → (x : Term)
          → get_elem? S.shapes a.shape ≡ some x → (r : Pos) (k : ℕ) → head_at x r ≡ some k → Seen C.score R' (a.at ++ r) k
      new_seen a m x gx r k e = on_announces S it f (count ts) m λ g i ex z d. go g i ex z d
        where
          empty : (os : List Pos) → is_nil os ≡ true → {o : Pos} → o ∈ os → ⊥
          empty (o ∷ os) e m = false≢true e
          empty [] e {o = o} m = elim m [ ]

          go : (g : Goal Pos) → g ∈ it.state → K.expects f L g ≡ true → is_nil (reduced K L (count ts) g).obs ≡ true
              → a ≡ record { shape = g.shape; at = it.at ++ g.ann }
              → Seen C.score R' (a.at ++ r) k
          go g i ex z d =
              let gx' : get_elem? S.shapes g.shape ≡ some x = rw d at gx in
              rw d (⊎_elim (λ (o : Open (reduced K L (count ts) g) (g.ann ++ r)). absurd (empty (reduced K L (count ts) g).obs z o.in_obs))
              (λ y. y)
              (known_cut C R' it.at L f ts node_is read_this g (sound.goals.low g i) ex (it_known g i) x gx' r k e))

      new_shape : (a : Announcement) → a ∈ announces S it f (count ts) → (x : Term) × (get_elem? S.shapes a.shape ≡ some x)
      new_shape a m = on_announces S it f (count ts) m λ g i ex z d.
          let r = sound.goals.real g i L (expects_owes S f L g ex) in
          (r.shape, rw d r.is_shape)

      -- what the step announces was not announced before: the item's label was not read
      pub new_only : (a : Announcement) → a ∈ announces S it f (count ts) → a ∈ told → ⊥
      new_only a m b = on_announces S it f (count ts) m λ g i ex z d. go g i (expects_owes S f L g ex) d
        where
          go : (g : Goal Pos) → g ∈ it.state → L ∈ g.obs → a ≡ record { shape = g.shape; at = it.at ++ g.ann } → ⊥
          go g i j d =
              let r = sound.goals.real g i L j in
              let gx : get_elem? S.shapes a.shape ≡ some r.shape = rw d r.is_shape in
              let place : a.at ++ strip g.ann L ≡ looks S it = rw (d, append_assoc, strip_join g.ann L (sound.goals.low g i L j)) in
              unread inv it it_in L (label_owes S it.state sound)
              (rw place at (inv.seen a b r.shape gx (strip g.ann L) r.head (rw r.is)).read)

      pub step_invariant : Invariant C items' R' told'
      step_invariant = record {
        reach = λ j m. items_after j m (λ l. inv.reach j l) (λ l. on_goes S goes j l λ i n at al re. re);
        inside = λ j m. items_after j m (λ l. inv.inside j l)
            (λ l. on_goes S goes j l λ i n at al re. λ o b. rw at (follows_inside i n o (alike_back i.state j.state al o b)));
        read_inside = λ q m. ⊎_elim (λ l. inv.read_inside q l) (λ l. this_inside q l) (∈_append R m);
        once = λ q u e.
            let ih = rw (sum_append (λ j. one (sees j q)) before (it ∷ after)) at (inv.once q u e) in
            let n = goes_see S q goes in
            let s = follows_see C it sound f ts node_is q u e in
            rw (
              sum_append (λ j. one (sees j q)) before (after ++ js),
              sum_append (λ j. one (sees j q)) after js,
              sum_append (λ p. one (same p q)) R
                  (looks S it ∷ []),
            ) (omega arith);
        known = λ j m. items_after j m (λ l g i. known_more C R (looks S it ∷ []) j.at g (inv.known j l g i))
            (λ l. on_goes S goes j l λ i n at al re. λ g k. rw at (known_alike C R' i.at i.state g (al.fro g k) (follows_known i n)));
        due = due_after;
        shape = λ a m. ⊎_elim (λ l. inv.shape a l) (new_shape a) (∈_append told m);
        seen = λ a m x gx r k e. ⊎_elim (λ l. let z = inv.seen a l x gx r k e in record { is = z.is; read = read_more (a.at ++ r) z.read })
            (λ l. new_seen a l x gx r k e) (∈_append told m);
        differ = pairwise_append (λ a b. a ≡ b → ⊥) told (announces S it f (count ts)) inv.differ (announces_differ S it sound f (count ts))
            (λ a b i j e. new_only b j (rw e at i));
      }
        where
          this_inside : (q : Pos) → q ∈ (looks S it ∷ []) → (u : Term) × (sub C.score q ≡ some u)
          this_inside q (here e) = (node f ts, rw e node_is)
          this_inside q (there x4) = elim x4 [ ]

  pub walked_invariant : {items : List Item} {R : List Pos} {told : List Announcement} → Walked C items R told → Invariant C items R told
  walked_invariant begin = begin_invariant
  walked_invariant (step before after R told it f ts js w node_is goes) =
      step_invariant before after R told it f ts js (walked_invariant w) node_is goes
