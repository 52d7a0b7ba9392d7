-- A class of a derivative on words: its displacement, and what is lifted of it.
--   PartFor class_part   what is known of a class: it is sound, bounded, and announces at its greatest common prefix; each class of a good state's derivative is such
--   displaced_small      that prefix is a small position
--   part_displaced       its code is the least code of the class
--   part_lifted          lifting on words is lifting
--   lifted_good          a class of at most 32 goals, lifted, is a good state
use mathlib.Core.Path.{◌≡◌, refl, ap, sym, ◌∙◌, subst}
use mathlib.Core.List.{List, [], ◌∷◌, ◌++◌, map}
use mathlib.Core.Option.{some}
use Prim.Native.Nat.{ℕ, ◌≤◌, ◌<◌}
use native.Mathlib.Omega.{arith}
use lib.ListN.{length, get_elem?, length-map}
use Rattle.kinds.specs.Positions.{Pos, code, strip}
use Rattle.kinds.proofs.Codes.{Small, small_rest, small_code, code_decode}
use Rattle.kinds.proofs.ListLaws.{map_map, map_same}
use Rattle.kinds.proofs.Members.{map_in, on_map}
use Rattle.kinds.specs.Members.{◌∈◌, here, there}
use Rattle.kinds.proofs.Prefixes.{◌≼◌, strip_self}
use Rattle.automaton.specs.Bare.{bare}
use Rattle.automaton.specs.Goals.{Goal, State}
use Rattle.automaton.specs.Classes.{gcp, lift, lift_goal, classes}
use Rattle.automaton.proofs.Root.{Top, gcp_below}
use Rattle.automaton.proofs.Sound.{Sound, SoundState}
use Rattle.automaton.proofs.Bounds.{root_label, ann_small, gcp_small}
use Rattle.automaton.proofs.Reachable.{class_sound, class_announces, lift_sound}
use Rattle.goals.specs.GoalWords.{GoalWords, label_code}
use Rattle.goals.specs.WordStages.{deriv_w, under_code, lift_w, classes_w, displacement_w}
use Rattle.decoding.specs.Decoding.{goal_meant, state_meant, codes_end}
use Rattle.automaton.specs.Walking.{setting_of}
use Rattle.decoding.specs.GoodStates.{Ready}
use Rattle.decoding.proofs.GcpDecoded.{Tops, none, more, TopIn, now, late, gcp_is}
use Rattle.decoding.proofs.LiftDecoded.{under_is, lift_is}
use Rattle.decoding.proofs.ClassesDecoded.{classes_is}
use Rattle.decoding.proofs.FineSound.{Bounded, bounded_within, GoodFor, deriv_bounded, deriv_goals_sound, deriv_fine, class_within}

pub record PartFor {ar tab : List ℕ} {n : ℕ} (r : Ready ar tab n) (c : List GoalWords) : Type 0 where
  pub sound : Sound (setting_of r.limits) (state_meant r.shapes c)
  pub bounded : Bounded r.shapes c
  pub top : Top (state_meant r.shapes c)

tops_of : (T : Pos) (s : State Pos) → ((g : Goal Pos) → g ∈ s → g.ann ≼ T) → Tops T s
tops_of T [] h = none
tops_of T (g ∷ s) h = let b = h g (here refl) in more b.by b.eq (tops_of T s (λ x m. h x (there m)))

top_in : (T : Pos) (s : State Pos) (g : Goal Pos) → g ∈ s → g.ann ≡ T → TopIn T s
top_in T [] g x'' a = elim x'' [ ]
top_in T (x ∷ s) g (here e) a = now (ap (λ y. y.ann) (sym e) ∙ a)
top_in T (x ∷ s) g (there m) a = late (top_in T s g m a)

module _ {ar tab : List ℕ} {n : ℕ} (r : Ready ar tab n) where
  pub class_part : (gs : List GoalWords) (good : GoodFor r gs) (f k : ℕ) (a : get_elem? ar f ≡ some k) (c : List GoalWords)
      → c ∈ classes_w tab (deriv_w tab n (label_code tab gs) f k gs) → PartFor r c
  class_part gs good f k a c m = record {
    sound = class_sound (setting_of r.limits) (state_meant r.shapes D) sound (state_meant r.shapes c) inside;
    bounded = bounded_within r.shapes D c (class_within tab D c m) (deriv_bounded r gs good f k a);
    top = class_announces (setting_of r.limits) (state_meant r.shapes D) sound (state_meant r.shapes c) inside;
  }
    where
      D : List GoalWords
      D = deriv_w tab n (label_code tab gs) f k gs

      sound : Sound (setting_of r.limits) (state_meant r.shapes D)
      sound = deriv_goals_sound r gs good f k a

      inside : state_meant r.shapes c ∈ classes (bare r.shapes) (state_meant r.shapes D)
      inside =
          subst (λ ks. state_meant r.shapes c ∈ ks) (classes_is r.shapes tab r.tables D (deriv_fine r gs good f k a) sound.owing)
          (map_in (state_meant r.shapes) m)

  module _ (c : List GoalWords) (part : PartFor r c) where
    abbrev s : State Pos
    s = state_meant r.shapes c

    pub displaced_small : Small (gcp s)
    displaced_small = gcp_small (setting_of r.limits) s part.sound part.top.goal part.top.inside

    pub part_displaced : displacement_w c ≡ code (gcp s)
    part_displaced =
        let l = small_code (gcp s) displaced_small in
        gcp_is r.shapes (gcp s) c part.bounded.code (tops_of (gcp s) s (λ g m. gcp_below s g m))
        (top_in (gcp s) s part.top.goal part.top.inside (sym part.top.at)) (omega arith)

    -- what is left of an announcement
    rest_small : (g : GoalWords) (m : g ∈ c) → Small (gcp_below s (goal_meant r.shapes g) (map_in (goal_meant r.shapes) m)).by
    rest_small g m =
        let i = map_in (goal_meant r.shapes) m in
        let b = gcp_below s (goal_meant r.shapes g) i in
        small_rest (gcp s) b.by (subst Small b.eq (ann_small (setting_of r.limits) s part.sound (goal_meant r.shapes g) i))

    pub part_lifted : state_meant r.shapes (map (lift_w (displacement_w c)) c) ≡ lift (bare r.shapes) s
    part_lifted =
        map_map (goal_meant r.shapes) (lift_w (displacement_w c)) c
        ∙ map_same (λ g. goal_meant r.shapes (lift_w (displacement_w c) g))
        (λ g. lift_goal (bare r.shapes) (gcp s) (goal_meant r.shapes g)) c one
        ∙ sym (map_map (lift_goal (bare r.shapes) (gcp s)) (goal_meant r.shapes) c)
      where
        one : (g : GoalWords) → g ∈ c
            → goal_meant r.shapes (lift_w (displacement_w c) g) ≡ lift_goal (bare r.shapes) (gcp s) (goal_meant r.shapes g)
        one g m =
            let b = gcp_below s (goal_meant r.shapes g) (map_in (goal_meant r.shapes) m) in
            let q = rest_small g m in
            let l = q.short in
            ap (λ x. goal_meant r.shapes (lift_w x g)) part_displaced
            ∙ lift_is r.shapes (gcp s) b.by g (part.bounded.code g m) b.eq q.digits (omega arith)

    pub lifted_good : length c ≤ 32 → GoodFor r (map (lift_w (displacement_w c)) c)
    lifted_good few = record {
      sound = subst (SoundState (setting_of r.limits)) (sym part_lifted)
          (root_label (setting_of r.limits) (lift (bare r.shapes) s) (lift_sound (setting_of r.limits) s part.sound)
          (lift_goal (bare r.shapes) (gcp s) part.top.goal) (map_in (lift_goal (bare r.shapes) (gcp s)) part.top.inside)
          (ap (strip (gcp s)) (sym part.top.at) ∙ strip_self (gcp s)));
      few = let e = length-map c (lift_w (displacement_w c)) in omega arith;
      bounded = record {
        code = λ g m. on_map (lift_w (displacement_w c)) c m λ h i e. rw e (low h i);
        mask =
            λ g m. on_map (lift_w (displacement_w c)) c m λ h i e. rw e (part.bounded.mask h i);
      };
    }
      where
        low : (h : GoalWords) → h ∈ c → under_code (displacement_w c) h.an < codes_end
        low h i =
            let b = gcp_below s (goal_meant r.shapes h) (map_in (goal_meant r.shapes) i) in
            let q = rest_small h i in
            let l = q.short in
            let z = small_code b.by q in
            let a : h.an ≡ code (gcp s ++ b.by) = sym (code_decode h.an (part.bounded.code h i)) ∙ ap code b.eq in
            let u = under_is (gcp s) b.by q.digits (omega arith) in
            let v : under_code (displacement_w c) h.an ≡ code b.by =
            ap (λ x. under_code x h.an) part_displaced ∙ ap (under_code (code (gcp s))) a ∙ u in
            omega (arith, v, z)
