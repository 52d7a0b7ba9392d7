-- W2 at one step: what a goal no longer owes was read.
--   known_more known_fresh known_alike    more is read; a fresh goal; a state that is equal as a set
--   known_cut known_derived known_lifted  a reduced goal, a derivative, a class lifted
use mathlib.Core.Path.{◌≡◌, refl, ap, sym, ◌∙◌}
use mathlib.Core.Bool.{true, false}
use mathlib.Core.List.{List, [], ◌∷◌, ◌++◌, append_assoc, append-nil}
use mathlib.Core.Option.{some}
use mathlib.Core.Logic.{◌⊎◌, inl, inr, ⊎_elim}
use Prim.Native.Nat.{ℕ, suc, ◌+◌, ◌<◌}
use native.Mathlib.Omega.{arith}
use lib.ListN.{get_elem?}
use Rattle.kinds.specs.Lists.{same}
use Rattle.kinds.specs.Positions.{Pos, strip}
use Rattle.kinds.proofs.Bools.{test}
use Rattle.kinds.proofs.Members.{∈_left, on_map, map_in, same_is}
use Rattle.kinds.specs.Members.{◌∈◌, here}
use Rattle.kinds.proofs.Prefixes.{◌≼◌, ≼_refl, ≼_snoc, strip_append, strip_more, strip_below, strip_join}
use Rattle.term.specs.Terms.{Term, node, Terms, count}
use Rattle.term.specs.Places.{sub, head_at}
use Rattle.automaton.specs.Goals.{Calculus, Goal, State, label, reduced, deriv}
use Rattle.automaton.specs.Classes.{gcp, lift_goal, lift}
use Rattle.automaton.specs.Bare.{owed, fresh, args, args_of}
use Rattle.automaton.specs.Walking.{Setting, Scored, calculus, Partner}
use Rattle.kinds.specs.Limits.{blank_word}
use Rattle.term.proofs.Subterms.{sub_append, nth_below, on_child_lem, fits_at}
use Rattle.automaton.proofs.Within.{shape_at_lem, score_arity}
use Rattle.automaton.proofs.Root.{gcp_below}
use Rattle.automaton.proofs.Derivative.{in_place_kept, in_place_put, args_in, expects_owes, on_expects, Derived, kept, cut, new, derived}
use Rattle.automaton.proofs.Sound.{Sound, SoundState}
use Rattle.automaton.proofs.Owed.{below_gcp}
use Rattle.automaton.proofs.Invariant.{Open, Seen, Known}

module _ (C : Scored) where
  abbrev S : Setting
  S = C.setting

  abbrev K : Calculus Pos
  K = calculus S

  -- what was read stays read
  pub known_more : (R more : List Pos) (a : Pos) (g : Goal Pos) → Known C R a g → Known C (R ++ more) a g
  known_more R more a g h x gx r k e = ⊎_elim (λ o. inl o) (λ z. inr (record { is = z.is; read = ∈_left more z.read })) (h x gx r k e)

  pub known_fresh : (R : List Pos) (a p : Pos) (i : ℕ) → Known C R a (fresh p i)
  known_fresh R a p i x gx r k e = inl (record { at = p; in_obs = here refl; over = ≼_snoc r (≼_refl p) })

  pub known_alike : (R : List Pos) (a : Pos) (s : State Pos) (g : Goal Pos) → Partner s g → ((h : Goal Pos) → h ∈ s → Known C R a h) → Known C R a g
  known_alike R a s g p h x gx r k e =
      rw (← p.ann) (⊎_elim (λ o. inl (record { at = o.at; in_obs = p.less o.at o.in_obs; over = o.over })) (λ z. inr z)
      (h p.goal p.inside x (rw p.shape gx) r k e))

  pub known_lifted : (R : List Pos) (a : Pos) (k : State Pos) → Sound S k → ((g : Goal Pos) → g ∈ k → Known C R a g) → (g : Goal Pos) → g ∈ lift K k
      → Known C R (a ++ gcp k) g
  known_lifted R a k w his g m = on_map (lift_goal K (gcp k)) k m λ y i e. rw e (go y i)
    where
      go : (y : Goal Pos) → y ∈ k → Known C R (a ++ gcp k) (lift_goal K (gcp k) y)
      go y i x gx r n e = ⊎_elim is_open_lem is_seen (his y i x gx r n e)
        where
          up : y.ann ≼ gcp k
          up = gcp_below k y i

          is_open_lem : Open y (y.ann ++ r) → Open (lift_goal K (gcp k) y) (strip (gcp k) y.ann ++ r)
              ⊎ Seen C.score R (((a ++ gcp k) ++ strip (gcp k) y.ann) ++ r) n
          is_open_lem o = inl (record {
            at = strip (gcp k) o.at;
            in_obs = map_in (strip (gcp k)) o.in_obs;
            over = rw (← (strip_more (gcp k) y.ann r up))
                (strip_below (gcp k) (y.ann ++ r) o.at o.over (below_gcp S k w y i o.at o.in_obs));
          })

          is_seen : Seen C.score R ((a ++ y.ann) ++ r) n → Open (lift_goal K (gcp k) y) (strip (gcp k) y.ann ++ r)
              ⊎ Seen C.score R (((a ++ gcp k) ++ strip (gcp k) y.ann) ++ r) n
          is_seen z = let p : (a ++ gcp k) ++ strip (gcp k) y.ann ≡ a ++ y.ann = rw (append_assoc, strip_join (gcp k) y.ann up) in inr (rw p z)

  -- the symbol at L is read
  module _ (R : List Pos) (a L : Pos) (f : ℕ) (ts : Terms) (node_is : sub C.score (a ++ L) ≡ some (node f ts)) (read : (a ++ L) ∈ R) where
    -- the part of the shape that is owed at L
    at_label : (g : Goal Pos) (v : Pos) → L ≡ g.ann ++ v → K.expects f L g ≡ true → (x : Term) → get_elem? S.shapes g.shape ≡ some x
        → (b : Pos) (k : ℕ) → head_at x (v ++ b) ≡ some k
        → Open (reduced K L (count ts) g) (L ++ b) ⊎ Seen C.score R (a ++ (L ++ b)) k
    at_label g v lv ex x gx b k e = on_expects S f L g ex λ us ow. go us (sym is_owed ∙ ow) b e
      where
        is_owed : owed S.shapes g L ≡ sub x v
        is_owed = rw (gx, lv, strip_append)

        go : (us : Terms) → sub x v ≡ some (node f us) → (b : Pos) → head_at x (v ++ b) ≡ some k → Open (reduced K L (count ts) g) (L ++ b)
            ⊎ Seen C.score R (a ++ (L ++ b)) k
        go us sx [] e = inr (record { is = rw (append-nil L, node_is) (rw (append-nil v, sx) at e); read = rw (append-nil L) read })
        go us sx (i ∷ b) e = on_child_lem f us i b (rw (sub_append v (i ∷ b) x, sx) at e) λ j h vs ij nj.
            let same_count : count us ≡ count ts =
            cc (
              fits_at S.symbols blank_word x (shape_at_lem S g.shape x gx).fits v f us sx,
              score_arity C (a ++ L) f ts node_is,
            ) in
            let few : j < count ts = rw same_count at (nth_below us j nj) in
            let add : 1 + j ≡ suc j = omega arith in
            inl (record {
              at = L ++ (i ∷ []);
              in_obs = rw (ij, ← add, is_owed, sx)
                  (in_place_put L (args L 1 (count ts) us) (expects_owes S f L g ex) (args_in L us 1 (count ts) j nj few));
              over = record { by = b; eq = simp append_assoc };
            })

    pub known_cut : (g : Goal Pos) → ((o : Pos) → o ∈ g.obs → o ≼ g.ann) → K.expects f L g ≡ true → Known C R a g
        → Known C R a (reduced K L (count ts) g)
    known_cut g low ex h x gx r k e = ⊎_elim is_open_lem (λ m. inr m) (h x gx r k e)
      where
        Result : Type 0
        Result = Open (reduced K L (count ts) g) (g.ann ++ r) ⊎ Seen C.score R ((a ++ g.ann) ++ r) k

        is_open_lem : Open g (g.ann ++ r) → Result
        is_open_lem o = ⊎_elim hit miss (test (same L o.at))
          where
            miss : same L o.at ≡ false → Result
            miss d = inl (record { at = o.at; in_obs = in_place_kept L (args_of L (count ts) (owed S.shapes g L)) o.in_obs d; over = o.over })

            hit : same L o.at ≡ true → Result
            hit d = turn_back (low L (expects_owes S f L g ex)) (rw (← (same_is L o.at d)) at o.over)
              where
                turn_back : L ≼ g.ann → (g.ann ++ r) ≼ L → Result
                turn_back u v =
                    let r-is : r ≡ u.by ++ v.by =
                    sym (strip_append g.ann r) ∙ ap (strip g.ann) v.eq ∙ rw (u.eq, append_assoc, strip_append) in
                    let e' : head_at x (u.by ++ v.by) ≡ some k = rw r-is at e in
                    let back : a ++ (L ++ v.by) ≡ (a ++ g.ann) ++ r = rw (← v.eq, append_assoc) in
                    rw (v.eq, ← back) (at_label g u.by u.eq ex x gx v.by k e')

  pub known_derived : (R : List Pos) (a : Pos) (s : State Pos) → SoundState S s → ((g : Goal Pos) → g ∈ s → Known C R a g)
      → (f : ℕ) (ts : Terms) → sub C.score (a ++ label K s) ≡ some (node f ts) → (a ++ label K s) ∈ R
      → (g : Goal Pos) → g ∈ deriv K s f (count ts) → Known C R a g
  known_derived R a s w his f ts node_is read g m = go (derived S s f (count ts) g m)
    where
      go : Derived S s f (count ts) g → Known C R a g
      go (kept i e) = his g i
      go (cut h i e d o j) = rw d (known_cut R a (label K s) f ts node_is read h (w.goals.low h i) e (his h i))
      go (new i j l u b d) = rw d (known_fresh R a (label K s ++ (i ∷ [])) j)
