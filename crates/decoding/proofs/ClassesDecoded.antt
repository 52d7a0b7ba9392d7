-- The classes on words are the classes, in the same order.
--   closed_words               the closed square on words is the closed square
--   owed_all                   the codes that goals owe are the codes of all their obligations
--   Owing row_owing            goals that are Fine and owe something; those of a row that begins a class
--   first_of key_is before_is  classes on words are ordered as classes are
--   classes_is                 for Fine goals that each owe something
use mathlib.Core.Path.{◌≡◌, refl, ap, ap₂, sym, ◌∙◌, subst}
use mathlib.Core.List.{List, [], ◌∷◌, map}
use mathlib.Core.Bool.{Bool}
use Prim.Native.Nat.{ℕ, ◌<◌}
use native.Mathlib.Nat.{zero-add}
use lib.Dec.{ltb}
use lib.ListN.{length, length-map}
use Rattle.kinds.specs.Lists.{sort, gather, range}
use Rattle.kinds.specs.Positions.{Pos, code}
use Rattle.kinds.proofs.ListLaws.{map_map, map_same, gather_same, gather_map, map_gather, sort_map_in}
use Rattle.kinds.proofs.Members.{in_none, on_map, on_gather}
use Rattle.kinds.specs.Members.{◌∈◌, here}
use Rattle.term.specs.Terms.{Term}
use Rattle.automaton.specs.Bare.{bare}
use Rattle.automaton.specs.Goals.{Goal, all_obs, first}
use Rattle.automaton.specs.Classes.{Square, close, picked, rows_from, dep, closed, class_before, classes}
use Rattle.automaton.proofs.Classes.{Class, class_some, on_row, picked_in, picked_map}
use Rattle.automaton.proofs.Derivative.{owes, first_in}
use Rattle.goals.specs.GoalWords.{GoalWords, owed_by, pad, first_code, no_code}
use Rattle.goals.specs.WordStages.{dep_w, picked_w, closed_w, class_key, class_before_w, classes_w}
use Rattle.decoding.specs.Decoding.{shape_at, goal_meant, state_meant, TableOf}
use Rattle.decoding.proofs.PaddedCodes.{code_before}
use Rattle.decoding.proofs.GoalDecoded.{Fine, owed_is}
use Rattle.decoding.proofs.LabelDecoded.{Fit, first_from_lem}
use Rattle.decoding.proofs.DepDecoded.{fit_obs, dep_is}

pub picked_is : (shapes : List Term) (bs : List Bool) (gs : List GoalWords)
    → state_meant shapes (picked_w bs gs) ≡ picked bs (state_meant shapes gs)
unfolding picked_w
picked_is shapes bs gs = picked_map (goal_meant shapes) bs gs

module _ (shapes : List Term) (tab : List ℕ) (tables : (s : ℕ) → s < length shapes → TableOf tab s (shape_at shapes s)) where
  pub closed_words : (gs : List GoalWords) → ((g : GoalWords) → g ∈ gs → Fine shapes g)
      → closed_w tab gs ≡ closed (bare shapes) (state_meant shapes gs)
  unfolding closed_w
  closed_words gs fine =
      ap₂ (λ k m. close (range 0 k) m) (sym (length-map gs (goal_meant shapes)))
      (map_same (λ g. map (dep_w tab g) gs) (λ g. map (dep (bare shapes) (goal_meant shapes g)) (state_meant shapes gs)) gs
      (λ g i. map_same (dep_w tab g) (λ h. dep (bare shapes) (goal_meant shapes g) (goal_meant shapes h)) gs
      (λ h j. dep_is shapes tab tables g h (fine g i) (fine h j))
      ∙ sym (map_map (dep (bare shapes) (goal_meant shapes g)) (goal_meant shapes) gs))
      ∙ sym (map_map (λ g. map (dep (bare shapes) g) (state_meant shapes gs)) (goal_meant shapes) gs))

  pub owed_all : (gs : List GoalWords) → ((g : GoalWords) → g ∈ gs → Fine shapes g)
      → gather (owed_by tab) gs ≡ map code (all_obs (state_meant shapes gs))
  owed_all gs fine =
      gather_same (owed_by tab) (λ g. map code (goal_meant shapes g).obs) gs (λ g i. owed_is shapes tab tables g (fine g i))
      ∙ sym (map_gather code (λ g. (goal_meant shapes g).obs) gs)
      ∙ ap (map code) (sym (gather_map (λ g. g.obs) (goal_meant shapes) gs))

  pub record Owing (gs : List GoalWords) : Type 0 where
    pub fine : (g : GoalWords) → g ∈ gs → Fine shapes g
    pub some_ob : Pos
    pub owed : some_ob ∈ all_obs (state_meant shapes gs)

  all_fit : (gs : List GoalWords) → ((g : GoalWords) → g ∈ gs → Fine shapes g) → Fit (all_obs (state_meant shapes gs))
  all_fit gs fine q m =
      on_gather (λ g. g.obs) (state_meant shapes gs) m λ G i j.
      on_map (goal_meant shapes) gs i λ g k e.
      fit_obs shapes g (fine g k) q (rw e at j)

  abbrev pub first_of : List GoalWords → Pos
  first_of gs = first (bare shapes) (all_obs (state_meant shapes gs))

  pub key_is : (gs : List GoalWords) → Owing gs → class_key tab gs ≡ pad (code (first_of gs))
  unfolding class_key
  key_is gs w =
      ap (λ cs. pad (first_code no_code cs)) (owed_all gs w.fine)
      ∙ ap pad
      (first_from_lem (all_obs (state_meant shapes gs)) (all_fit gs w.fine)
      (λ e. let i : w.some_ob ∈ [] = subst (λ os. w.some_ob ∈ os) e w.owed in in_none i))

  first_fit : (gs : List GoalWords) → Owing gs → Fit (first_of gs ∷ [])
  first_fit gs w q (Rattle.kinds.specs.Members.there x4) = elim x4 [ ]
  first_fit gs w q (here e) =
      let x = first_in (bare shapes) (all_obs (state_meant shapes gs)) w.owed in
      all_fit gs w.fine q (rw (e, ← x.2) x.1)

  pub before_is : (gs hs : List GoalWords) → Owing gs → Owing hs
      → class_before_w tab gs hs ≡ class_before (bare shapes) (state_meant shapes gs) (state_meant shapes hs)
  before_is gs hs v w =
      let a = first_fit gs v (first_of gs) (here refl) in
      let b = first_fit hs w (first_of hs) (here refl) in
      ap₂ ltb (key_is gs v) (key_is hs w) ∙ code_before (first_of gs) (first_of hs) a.0 b.0 a.1 b.1

  pub row_owing : (gs : List GoalWords) → ((g : GoalWords) → g ∈ gs → Fine shapes g)
      → ((g : Goal Pos) → g ∈ state_meant shapes gs → (o : Pos) × (o ∈ g.obs))
      → (bs : List Bool) → bs ∈ rows_from 0 (closed (bare shapes) (state_meant shapes gs)) → Owing (picked_w bs gs)
  unfolding picked_w
  row_owing gs fine owing bs m =
      on_row (closed (bare shapes) (state_meant shapes gs)) 0 m λ k e l.
      let c : Class (bare shapes) (state_meant shapes gs) (picked bs (state_meant shapes gs)) =
      record { lead = k; row = bs; is_row = e; begins = rw zero-add at l; is = refl } in
      let g = class_some (bare shapes) (state_meant shapes gs) (picked bs (state_meant shapes gs)) c in
      let o = owing g.0 (picked_in bs (state_meant shapes gs) g.0 g.1) in
      record {
        fine = λ h i. fine h (picked_in bs gs h i);
        some_ob = o.0;
        owed = rw (picked_is shapes bs gs) (owes g.1 o.1);
      }

  -- each goal owes something: then the classes are those of the construction
  pub classes_is : (gs : List GoalWords) → ((g : GoalWords) → g ∈ gs → Fine shapes g)
      → ((g : Goal Pos) → g ∈ state_meant shapes gs → (o : Pos) × (o ∈ g.obs))
      → map (state_meant shapes) (classes_w tab gs) ≡ classes (bare shapes) (state_meant shapes gs)
  unfolding classes_w
  classes_is gs fine owing =
      ap (λ m. map (state_meant shapes) (sort (class_before_w tab) (map (λ bs. picked_w bs gs) (rows_from 0 m)))) (closed_words gs fine)
      ∙ sort_map_in (state_meant shapes) (class_before_w tab) (class_before (bare shapes)) (map (λ bs. picked_w bs gs) rows) ordered
      ∙ ap (sort (class_before (bare shapes)))
      (map_map (state_meant shapes) (λ bs. picked_w bs gs) rows
      ∙ map_same (λ bs. state_meant shapes (picked_w bs gs)) (λ bs. picked bs (state_meant shapes gs)) rows (λ bs i. picked_is shapes bs gs))
    where
      rows : Square
      rows = rows_from 0 (closed (bare shapes) (state_meant shapes gs))

      ordered : (x y : List GoalWords) → x ∈ map (λ bs. picked_w bs gs) rows → y ∈ map (λ bs. picked_w bs gs) rows
          → class_before_w tab x y ≡ class_before (bare shapes) (state_meant shapes x) (state_meant shapes y)
      ordered x y i j =
          on_map (λ bs. picked_w bs gs) rows i λ b p d.
          on_map (λ bs. picked_w bs gs) rows j λ c q e.
          rw (d, e) (before_is (picked_w b gs) (picked_w c gs) (row_owing gs fine owing b p) (row_owing gs fine owing c q))
