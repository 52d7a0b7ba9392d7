-- What is announced on words is what is announced, in the same order.
--   pad_same              small positions are the same exactly if their padded codes are
--   ann_before_lem        the order of keys is the order of announcements
--   mask_nil              nothing is owed exactly if the mask is 0
--   announced_is          the goals announced, in the state's order
--   outputs_within        they are goals of the state
--   shape_low             shape numbers of a good state are below 16
--   announces_small       its announcements are small positions
--   outputs_is            what a good state announces, in order
use mathlib.Core.Path.{◌≡◌, refl, ap, ap₂, sym, ◌∙◌}
use mathlib.Core.List.{List, [], ◌∷◌, ◌++◌, map}
use mathlib.Core.Bool.{Bool, true, false, cond, ◌&&◌, ◌||◌, false≢true}
use mathlib.Core.Logic.{◌⊎◌, inl, inr}
use Prim.Native.Nat.{ℕ, ◌^◌, ◌<◌}
use native.Mathlib.Omega.{arith}
use borrow.Author.Tests.{eq-eqb, ne_eqb}
use lib.Dec.{eqb, ltb}
use lib.ListN.{get_elem?}
use mathlib.Core.Option.{some}
use Rattle.kinds.specs.Lists.{filter, gather, sort, same, is_nil}
use Rattle.kinds.specs.Positions.{Pos, code, decode}
use Rattle.kinds.proofs.Bools.{eqb_is, ltb_irrefl, key_order}
use Rattle.kinds.proofs.Codes.{Small, code_decode}
use Rattle.kinds.proofs.ListLaws.{map_append, sort_map_in}
use Rattle.kinds.proofs.Members.{in_none, in_one, on_gather, map_in, in_sort, same_is, same_refl}
use Rattle.kinds.specs.Members.{◌∈◌, here, there, ◌⊆◌}
use Rattle.kinds.proofs.Ordered.{Before, before_total}
use Rattle.term.specs.Terms.{Term, span}
use Rattle.term.specs.Places.{dom}
use Rattle.term.proofs.Subterms.{length_dom}
use Rattle.automaton.specs.Bare.{bare}
use Rattle.automaton.specs.Goals.{Goal, announcement, ann_before, reduced, outputs, label}
use Rattle.automaton.proofs.Bounds.{ann_small}
use Rattle.goals.specs.GoalWords.{GoalWords, pad, label_code}
use Rattle.goals.specs.WordStages.{reduct, with_mask, announces, ann_key, outputs_w}
use Rattle.decoding.specs.WordMachine.{announcement_w}
use Rattle.decoding.specs.Decoding.{select, shape_at, goal_meant, state_meant, codes_end}
use Rattle.automaton.specs.Walking.{setting_of}
use Rattle.decoding.specs.GoodStates.{Ready}
use Rattle.decoding.proofs.PaddedCodes.{code_before}
use Rattle.decoding.proofs.Selecting.{select_zero, select_none}
use Rattle.decoding.proofs.ReductDecoded.{Reduct, missed, cut}
use Rattle.decoding.proofs.FineSound.{GoodFor, good_fine, reduct_for}

-- ---- the order
pub pad_same : (p q : Pos) → Small p → Small q → eqb (pad (code p)) (pad (code q)) ≡ same p q
pad_same p q sp sq = go (same p q) refl
  where
    not_both : pad (code p) ≡ pad (code q) → Before p q ⊎ ((p ≡ q) ⊎ Before q p) → p ≡ q
    not_both e (inl b) =
        absurd (false≢true (sym (ltb_irrefl (pad (code q))) ∙ ap (λ x. ltb x (pad (code q))) (sym e)
        ∙ code_before p q sp.digits sq.digits sp.short sq.short ∙ b))
    not_both e (inr (inl d)) = d
    not_both e (inr (inr b)) =
        absurd (false≢true (sym (ltb_irrefl (pad (code q))) ∙ ap (λ x. ltb (pad (code q)) x) (sym e)
        ∙ code_before q p sq.digits sp.digits sq.short sp.short ∙ b))

    go : (b : Bool) → same p q ≡ b → eqb (pad (code p)) (pad (code q)) ≡ b
    go true e = eq-eqb _ _ (ap (λ x. pad (code x)) (same_is p q e))
    go false e = ne_eqb _ _ (λ z. let d : p ≡ q = not_both z (before_total p q) in false≢true (sym e ∙ rw d (same_refl q)))

pub ann_before_lem : (g h : GoalWords) → g.sh < 16 → h.sh < 16 → g.an < codes_end → h.an < codes_end → Small (decode g.an)
    → Small (decode h.an)
    → ltb (ann_key g) (ann_key h) ≡ ann_before (announcement_w g) (announcement_w h)
ann_before_lem g h sg sh cg ch pg ph =
    let a : pad g.an ≡ pad (code (decode g.an)) = ap pad (sym (code_decode g.an cg)) in
    let b : pad h.an ≡ pad (code (decode h.an)) = ap pad (sym (code_decode h.an ch)) in
    key_order (pad g.an) (pad h.an) g.sh h.sh sg sh
    ∙ ap₂ (λ x y. ltb x y || (eqb x y && ltb g.sh h.sh)) a b
    ∙ ap₂ (λ x y. x || (y && ltb g.sh h.sh))
    (code_before (decode g.an) (decode h.an) pg.digits ph.digits pg.short ph.short)
    (pad_same (decode g.an) (decode h.an) pg ph)

-- ---- the goals
pub mask_nil : (shapes : List Term) (g : GoalWords) (x : ℕ) → x < 2 ^ span (shape_at shapes g.sh)
    → is_nil (goal_meant shapes (with_mask g x)).obs ≡ eqb x 0
mask_nil shapes g x l = go (eqb x 0) refl
  where
    full : (ys : List Pos) → (ys ≡ [] → ⊥) → is_nil (map (λ q. decode g.an ++ q) ys) ≡ false
    full [] n = absurd (n refl)
    full (y ∷ ys) n = refl

    go : (b : Bool) → eqb x 0 ≡ b → is_nil (goal_meant shapes (with_mask g x)).obs ≡ b
    go true e = rw (eqb_is x 0 e, select_zero (dom (shape_at shapes g.sh))) refl
    go false e =
        full (select x (dom (shape_at shapes g.sh)))
        (λ z. false≢true (sym e ∙ eq-eqb x 0 (select_none x (dom (shape_at shapes g.sh)) (rw (length_dom (shape_at shapes g.sh)) l) z)))

module _ (shapes : List Term) (tab : List ℕ) (c : ℕ) (P : Pos) (f k : ℕ) where
  abbrev ends : Goal Pos → Bool
  ends g = is_nil g.obs

  one_is : (g : GoalWords) (x : ℕ) → Reduct shapes g P f k x → (rest : List (Goal Pos))
      → map announcement_w (cond (eqb x 0) (g ∷ []) []) ++ map announcement (filter ends (map (reduced (bare shapes) P k) rest))
      ≡ map announcement (filter ends
      (map (reduced (bare shapes) P k) (cond ((bare shapes).expects f P (goal_meant shapes g)) (goal_meant shapes g ∷ rest) rest)))
  one_is g x (missed e n) rest = rw (e, n) refl
  one_is g x (cut l y is) rest =
      let e : is_nil (reduced (bare shapes) P k (goal_meant shapes g)).obs ≡ eqb x 0 = ap is_nil (sym is) ∙ mask_nil shapes g x l in
      rw (y, e) (go (eqb x 0))
    where
      go : (b : Bool)
          → map announcement_w (cond b (g ∷ []) []) ++ map announcement (filter ends (map (reduced (bare shapes) P k) rest))
          ≡ map announcement (cond b (reduced (bare shapes) P k (goal_meant shapes g) ∷ filter ends (map (reduced (bare shapes) P k) rest))
          (filter ends (map (reduced (bare shapes) P k) rest)))
      go true = refl
      go false = refl

  pub announced_is : (gs : List GoalWords) → ((g : GoalWords) → g ∈ gs → Reduct shapes g P f k (reduct tab c f g))
      → map announcement_w (gather (announces tab c f) gs) ≡ map announcement
      (filter ends (map (reduced (bare shapes) P k) (filter ((bare shapes).expects f P) (state_meant shapes gs))))
  announced_is [] h = refl
  announced_is (g ∷ gs) h =
      map_append announcement_w (announces tab c f g) (gather (announces tab c f) gs)
      ∙ ap (λ l. map announcement_w (announces tab c f g) ++ l) (announced_is gs (λ y m. h y (there m)))
      ∙ one_is g (reduct tab c f g) (h g (here refl)) (filter ((bare shapes).expects f P) (state_meant shapes gs))

announced_within : (tab : List ℕ) (c f : ℕ) (gs : List GoalWords) → gather (announces tab c f) gs ⊆ gs
announced_within tab c f gs g m = on_gather (announces tab c f) gs m λ h i j. go h i (eqb (reduct tab c f h) 0) j
  where
    go : (h : GoalWords) → h ∈ gs → (b : Bool) → g ∈ cond b (h ∷ []) [] → g ∈ gs
    go h i true j = rw (in_one j) i
    go h i false j = in_none j

pub outputs_within : (tab : List ℕ) (c f : ℕ) (gs : List GoalWords) → outputs_w tab c f gs ⊆ gs
unfolding outputs_w
outputs_within tab c f gs g m = announced_within tab c f gs g (in_sort (λ x y. ltb (ann_key x) (ann_key y)) (gather (announces tab c f) gs) m)

module _ {ar tab : List ℕ} {n : ℕ} (r : Ready ar tab n) (gs : List GoalWords) (good : GoodFor r gs) where
  pub shape_low : (g : GoalWords) → g ∈ gs → g.sh < 16
  shape_low g m = let a = (good_fine r gs good g m).shape in let b = r.count in let c = r.limits.few_shapes in omega arith

  pub announces_small : (g : GoalWords) → g ∈ gs → Small (decode g.an)
  announces_small g m =
      ann_small (setting_of r.limits) (state_meant r.shapes gs) good.sound.goals (goal_meant r.shapes g) (map_in (goal_meant r.shapes) m)

  pub outputs_is : (f k : ℕ) → get_elem? ar f ≡ some k
      → map announcement_w (outputs_w tab (label_code tab gs) f gs) ≡ outputs (bare r.shapes) (state_meant r.shapes gs) f k
  unfolding outputs_w
  outputs_is f k a =
      sort_map_in announcement_w (λ g h. ltb (ann_key g) (ann_key h)) ann_before (gather (announces tab c f) gs)
      (λ g h i j.
      let u = announced_within tab c f gs g i in
      let v = announced_within tab c f gs h j in
      ann_before_lem g h (shape_low g u) (shape_low h v) (good.bounded.code g u) (good.bounded.code h v) (announces_small g u)
      (announces_small h v))
      ∙ ap (sort ann_before)
      (announced_is r.shapes tab c (label (bare r.shapes) (state_meant r.shapes gs)) f k gs (λ g m. reduct_for r gs good f k a g m))
    where
      c : ℕ
      c = label_code tab gs
