-- The words of goals that decode to sound ones keep what the laws of the stages ask of them: those of a good state, of its derivatives and of their classes.
--   Bounded bounded_within      codes and masks within their bounds; a part of such goals
--   GoodFor good_for for_good   a good state, for tables that are given; a GoodState is one for its own
--   sound_fine good_fine        bounded words of sound goals are Fine; so are those of a good state
--   label_small label_code_lem label_low  its label is a small position, whose code the words find, at most 3,124
--   deriv_decoded               the derivative on words is the derivative
--   reduct_for                  what reducing at the label makes of a goal of it
--   FromWords deriv_from        a goal of the derivative stayed, moved on with its mask reduced, or is born
--   deriv_bounded deriv_goals_sound deriv_fine   so the derivative is bounded, sound and Fine
--   class_within      a class has goals of its list only
use mathlib.Core.Path.{◌≡◌, refl, ap₂, sym, ◌∙◌, subst}
use mathlib.Core.List.{List, [], ◌∷◌, ◌++◌, map, append-nil}
use mathlib.Core.Bool.{Bool, true, false, cond}
use mathlib.Core.Option.{some}
use mathlib.Core.Logic.{⊎_elim}
use Prim.Native.Nat.{ℕ, zero, suc, ◌+◌, ◌*◌, ◌^◌, ◌≤◌, ◌<◌}
use native.Mathlib.Omega.{arith}
use lib.Dec.{eqb, ltb}
use lib.ListN.{length, get_elem?}
use lib.Pow.{pow-lt}
use Rattle.kinds.specs.Lists.{gather, range}
use Rattle.kinds.specs.Positions.{Pos, code, decode}
use Rattle.kinds.proofs.Codes.{Small, small_snoc, small_code, code_snoc}
use Rattle.kinds.proofs.ListLaws.{append_same}
use Rattle.kinds.proofs.Members.{in_none, in_one, ∈_append, filter_in, gather_in, on_gather, map_in, on_map, in_range, in_sort}
use Rattle.kinds.specs.Members.{◌∈◌, ◌⊆◌, here, there}
use Rattle.kinds.proofs.Places.{at_in, at_below, get_d_at}
use Rattle.term.specs.Terms.{Term, blank, node, Terms, count, span, Fits}
use Rattle.term.specs.Places.{sub}
use Rattle.term.proofs.Subterms.{fits_sub}
use Rattle.term.proofs.Sizes.{span_pos}
use Rattle.term.specs.Admitted.{AreShapes}
use Rattle.automaton.specs.Bare.{bare}
use Rattle.automaton.specs.Goals.{State, is_root, label, deriv}
use Rattle.automaton.specs.Classes.{rows_from}
use Rattle.automaton.proofs.Derivative.{owes}
use Rattle.automaton.proofs.Sound.{Real, Sound, SoundState}
use Rattle.automaton.proofs.Apart.{label_owes}
use Rattle.automaton.proofs.Reachable.{deriv_sound}
use Rattle.automaton.proofs.Classes.{picked_in}
use Rattle.goals.specs.GoalWords.{GoalWords, node_at, label_code}
use Rattle.goals.specs.WordStages.{stays, moves, reduct, goes_on, with_mask, fresh_w, freshes_w, born_w, deriv_w, picked_w, closed_w, class_before_w, classes_w, unexpected}
use Rattle.decoding.specs.Decoding.{shape_at, goal_meant, state_meant, codes_end}
use Rattle.automaton.specs.Walking.{setting_of}
use Rattle.decoding.specs.GoodStates.{Ready, GoodState}
use Rattle.decoding.proofs.GoalDecoded.{Fine}
use Rattle.decoding.proofs.Goalwise.{goal_apart}
use Rattle.decoding.proofs.LabelDecoded.{root_obs, label_is}
use Rattle.decoding.proofs.DerivDecoded.{deriv_is}
use Rattle.decoding.proofs.ReductDecoded.{Reduct, missed, cut, reduct_is}
use Rattle.kinds.specs.Limits.{blank_word}

pub record Bounded (shapes : List Term) (gs : List GoalWords) : Type 0 where
  pub code : (g : GoalWords) → g ∈ gs → g.an < codes_end
  pub mask : (g : GoalWords) → g ∈ gs → g.mask < 2 ^ span (shape_at shapes g.sh)

pub bounded_within : (shapes : List Term) (gs hs : List GoalWords) → hs ⊆ gs → Bounded shapes gs → Bounded shapes hs
bounded_within shapes gs hs i b = record { code = λ g m. b.code g (i g m); mask = λ g m. b.mask g (i g m) }

pub record GoodFor {ar tab : List ℕ} {n : ℕ} (r : Ready ar tab n) (gs : List GoalWords) : Type 0 where
  pub sound : SoundState (setting_of r.limits) (state_meant r.shapes gs)
  pub few : length gs ≤ 32
  pub bounded : Bounded r.shapes gs

pub good_for : {ar tab : List ℕ} {n : ℕ} {gs : List GoalWords} (w : GoodState ar tab n gs) → GoodFor w.ready gs
good_for w = record { sound = w.sound; few = w.few; bounded = record { code = w.code; mask = w.mask } }

pub for_good : {ar tab : List ℕ} {n : ℕ} (r : Ready ar tab n) (gs : List GoalWords) → GoodFor r gs → GoodState ar tab n gs
for_good r gs w = record { ready = r; sound = w.sound; few = w.few; code = w.bounded.code; mask = w.bounded.mask }

-- ---- past the shapes stands a blank, which fits
shape_fits : (ar : List ℕ) (shapes : List Term) → AreShapes ar shapes → (s : ℕ) → Fits ar blank_word (shape_at shapes s)
shape_fits ar [] h s = omega arith
shape_fits ar (t ∷ ts) h zero = (h t (here refl)).fits
shape_fits ar (t ∷ ts) h (suc s) = shape_fits ar ts (λ u m. h u (there m)) s

module _ {ar tab : List ℕ} {n : ℕ} (r : Ready ar tab n) where
  pub sound_fine : (gs : List GoalWords) → Sound (setting_of r.limits) (state_meant r.shapes gs) → Bounded r.shapes gs → (g : GoalWords)
      → g ∈ gs → Fine r.shapes g
  sound_fine gs w b g m = record {
    shape = at_below r.shapes g.sh real.is_shape;
    small = b.code g m;
    bits = b.mask g m;
    low = rw (get_d_at r.shapes g.sh (blank blank_word) real.is_shape) (r.limits.are_shapes real.shape (at_in r.shapes g.sh real.is_shape)).small;
    fit = λ q i. let s = w.small (decode g.an ++ q) (owes inside (map_in (λ x. decode g.an ++ x) i)) in (s.digits, s.short);
    apart = goal_apart r.shapes g alone;
  }
    where
      inside : goal_meant r.shapes g ∈ state_meant r.shapes gs
      inside = map_in (goal_meant r.shapes) m

      real : Real (setting_of r.limits) (goal_meant r.shapes g) (w.owing (goal_meant r.shapes g) inside).0
      real = let o = w.owing (goal_meant r.shapes g) inside in w.real (goal_meant r.shapes g) inside o.0 o.1

      alone : (p c : Pos) → p ∈ (goal_meant r.shapes g).obs → (p ++ c) ∈ (goal_meant r.shapes g).obs → c ≡ []
      alone p c i j =
          append_same p c [] (w.apart (p ++ c) p (owes inside j) (owes inside i) (record { by = c; eq = refl }) ∙ sym (append-nil p))

  module _ (gs : List GoalWords) (good : GoodFor r gs) where
    abbrev S : State Pos
    S = state_meant r.shapes gs

    abbrev L : Pos
    L = label (bare r.shapes) S

    pub good_fine : (g : GoalWords) → g ∈ gs → Fine r.shapes g
    good_fine = sound_fine gs good.sound.goals good.bounded

    pub label_small : Small L
    label_small = good.sound.goals.small L (label_owes (setting_of r.limits) S good.sound)

    pub label_code_lem : label_code tab gs ≡ code L
    label_code_lem = label_is r.shapes tab r.tables gs good_fine some_owed
      where
        inside : L ∈ root_obs r.shapes tab r.tables gs
        inside =
            gather_in (λ g. g.obs) (filter_in (λ g. is_root g.ann) good.sound.root_in (rw good.sound.root_at))
            good.sound.label_owed

        some_owed : root_obs r.shapes tab r.tables gs ≡ [] → ⊥
        some_owed e = let i : L ∈ [] = subst (λ os. L ∈ os) e inside in in_none i

    pub label_low : label_code tab gs ≤ 3124
    label_low =
        let s = small_code (L ++ (4 ∷ [])) (small_snoc L 4 label_small good.sound.label_short (omega arith) (omega arith)) in
        let e = code_snoc L 4 in
        let c = label_code_lem in
        omega (arith, s, e, c)

    module _ (f k : ℕ) (a : get_elem? ar f ≡ some k) where
      abbrev D : List GoalWords
      D = deriv_w tab n (label_code tab gs) f k gs

      symbol : f < blank_word
      symbol = let h = at_below ar f a in let l = r.limits.symbols.few_symbols in omega arith

      arity : (s : ℕ) (p : Pos) (ts : Terms) → sub (shape_at r.shapes s) p ≡ some (node f ts) → count ts ≡ k
      arity s p ts e = let h = (fits_sub ar blank_word p (shape_at r.shapes s) (shape_fits ar r.shapes r.limits.are_shapes s) e).1 in cc

      blanks : (s : ℕ) (p : Pos) (w : ℕ) → sub (shape_at r.shapes s) p ≡ some (blank w) → blank_word ≤ w
      blanks s p w e = fits_sub ar blank_word p (shape_at r.shapes s) (shape_fits ar r.shapes r.limits.are_shapes s) e

      pub deriv_decoded : state_meant r.shapes D ≡ deriv (bare r.shapes) S f k
      deriv_decoded =
          ap₂ (λ m c. state_meant r.shapes (deriv_w tab m c f k gs)) (sym r.count) label_code_lem
          ∙ deriv_is r.shapes tab r.tables L label_small.digits label_small.short f k symbol (r.limits.symbols.children f k a) arity blanks gs
          good_fine refl

      pub reduct_for : (g : GoalWords) → g ∈ gs → Reduct r.shapes g L f k (reduct tab (label_code tab gs) f g)
      reduct_for g m =
          let s = label_small.short in
          rw label_code_lem
          (reduct_is r.shapes tab r.tables g (good_fine g m) L label_small.digits (omega arith) f k symbol (arity g.sh) (blanks g.sh))

      -- where a goal of the derivative comes from
      pub data FromWords (g : GoalWords) : Type 0 where
        stayed : g ∈ gs → FromWords g
        moved : (h : GoalWords) (x : ℕ) → h ∈ gs → x < 2 ^ span (shape_at r.shapes h.sh) → g ≡ with_mask h x → FromWords g
        born : (i j : ℕ) → 1 ≤ i → i ≤ k → j < n → g ≡ fresh_w (5 * label_code tab gs + i) j → FromWords g

      pub deriv_from : (g : GoalWords) → g ∈ D → FromWords g
      unfolding deriv_w
      deriv_from g m =
          ⊎_elim (λ i. old i) (λ i. ⊎_elim (λ j. on j) (λ j. fresh_one j) (∈_append (gather (moves tab c f) gs) i))
          (∈_append (gather (stays tab c) gs) m)
        where
          c : ℕ
          c = label_code tab gs

          old : g ∈ gather (stays tab c) gs → FromWords g
          old i = on_gather (stays tab c) gs i λ h j e. stay h j (eqb (node_at tab h.sh h.an h.mask c) 16) e
            where
              stay : (h : GoalWords) → h ∈ gs → (b : Bool) → g ∈ cond b (h ∷ []) [] → FromWords g
              stay h j true e = stayed (rw (in_one e) j)
              stay h j false e = in_none e

          on : g ∈ gather (moves tab c f) gs → FromWords g
          on i = on_gather (moves tab c f) gs i λ h j e. move h j (reduct tab c f h) (reduct_for h j) e
            where
              some_left : (h : GoalWords) (x : ℕ) → h ∈ gs → x < 2 ^ span (shape_at r.shapes h.sh) → (b d : Bool)
                  → g ∈ cond b [] (cond d (with_mask h x ∷ []) []) → FromWords g
              some_left h x j l true d e = in_none e
              some_left h x j l false true e = moved h x j l (in_one e)
              some_left h x j l false false e = in_none e

              move : (h : GoalWords) → h ∈ gs → (x : ℕ) → Reduct r.shapes h L f k x → g ∈ goes_on x h → FromWords g
              move h j x (missed z ne) e = let e' : g ∈ goes_on unexpected h = subst (λ y. g ∈ goes_on y h) z e in in_none e'
              move h j x (cut l ex is) e = some_left h x j l (eqb x 0) (ltb x unexpected) e

          fresh_one : g ∈ born_w n c k → FromWords g
          fresh_one i =
              on_gather (λ i. freshes_w n (5 * c + i)) (range 1 k) i λ y p q.
              on_map (fresh_w (5 * c + y)) (range 0 n) q λ j v e.
              let u = in_range k 1 y p in
              let w = in_range n 0 j v in
              born y j u.0 (omega arith) (omega arith) e

      pub deriv_bounded : Bounded r.shapes D
      deriv_bounded = record { code = λ g m. code_of_lem (deriv_from g m); mask = λ g m. mask_of (deriv_from g m) }
        where
          code_of_lem : {g : GoalWords} → FromWords g → g.an < codes_end
          code_of_lem {g} (stayed i) = good.bounded.code g i
          code_of_lem (moved h x i l e) = rw e (good.bounded.code h i)
          code_of_lem (born i j l u w e) = let c = label_low in let d = r.limits.symbols.children f k a in rw e (omega arith)

          mask_of : {g : GoalWords} → FromWords g → g.mask < 2 ^ span (shape_at r.shapes g.sh)
          mask_of {g} (stayed i) = good.bounded.mask g i
          mask_of (moved h x i l e) = rw e l
          mask_of (born i j l u w e) = rw e (pow-lt (span_pos (shape_at r.shapes j)))

      pub deriv_goals_sound : Sound (setting_of r.limits) (state_meant r.shapes D)
      deriv_goals_sound = subst (Sound (setting_of r.limits)) (sym deriv_decoded) (deriv_sound (setting_of r.limits) S good.sound f k a)

      pub deriv_fine : (g : GoalWords) → g ∈ D → Fine r.shapes g
      deriv_fine = sound_fine D deriv_goals_sound deriv_bounded

-- ---- classes
pub class_within : (tab : List ℕ) (gs c : List GoalWords) → c ∈ classes_w tab gs → c ⊆ gs
unfolding classes_w picked_w
class_within tab gs c m g i =
    on_map (λ bs. picked_w bs gs) (rows_from 0 (closed_w tab gs))
    (in_sort (class_before_w tab) (map (λ bs. picked_w bs gs) (rows_from 0 (closed_w tab gs))) m) λ bs j e.
    picked_in bs gs g (rw (← e) i)
