-- Good states: where building begins, where it goes on, and the bounds that hold on the way.
--   ready_few                  at most 16 shapes
--   start_decoded              the fresh goals on words are those of the initial state
--   start_good                 the initial state is good for tables that are given
--   good_start good_next       the initial state is good; so is a class of at most 32 goals of a good state's derivative, lifted
--   good_low deriv_low         shape numbers are below 16, in a good state and in its derivatives
--   deriv_room                 a derivative has at most 96 goals
--   good_label label_back      the label's code is at most 3,124, and the code of a position
--   least_small least_back     a class's displacement code is at most 15,624, and the code of a position
--   output_small output_back   so is the code of each announcement
use mathlib.Core.Path.{◌≡◌, refl, ap, sym, ◌∙◌, subst}
use mathlib.Core.List.{List, [], ◌∷◌, map}
use mathlib.Core.Option.{some}
use Prim.Native.Nat.{ℕ, ◌*◌, ◌≤◌}
use native.Mathlib.Omega.{arith}
use native.Mathlib.Nat.{mul-le-mul_right}
use lib.ListN.{length, get_elem?, length-map}
use lib.Pow.{pow-lt}
use Rattle.kinds.specs.Lists.{range}
use Rattle.kinds.specs.Positions.{code, decode}
use Rattle.kinds.proofs.Codes.{decode_nil, code_decode, small_code}
use Rattle.kinds.proofs.ListLaws.{map_map, map_same}
use Rattle.kinds.proofs.Members.{on_map, length_range}
use Rattle.kinds.specs.Members.{◌∈◌, here, there}
use Rattle.term.specs.Terms.{Term}
use Rattle.term.proofs.Sizes.{span_pos}
use Rattle.automaton.specs.Bare.{bare, fresh}
use Rattle.automaton.specs.Goals.{initial}
use Rattle.automaton.proofs.Sound.{SoundState}
use Rattle.automaton.proofs.Reachable.{initial_sound}
use Rattle.goals.specs.GoalWords.{GoalWords, Low, label_code}
use Rattle.goals.specs.WordStages.{fresh_w, freshes_w, deriv_w, lift_w, classes_w, outputs_w, displacement_w}
use Rattle.decoding.specs.Decoding.{shape_at, goal_meant, state_meant}
use Rattle.automaton.specs.Walking.{setting_of}
use Rattle.decoding.specs.GoodStates.{Ready, GoodState}
use Rattle.decoding.proofs.GoalDecoded.{Fine}
use Rattle.decoding.proofs.Room.{deriv_room as room_of}
use Rattle.decoding.proofs.FineSound.{GoodFor, good_for, for_good, good_fine, label_low, deriv_fine}
use Rattle.decoding.proofs.OutputsDecoded.{outputs_within, announces_small}
use Rattle.decoding.proofs.ClassLifted.{class_part, part_displaced, displaced_small, lifted_good}
use Rattle.decoding.proofs.DerivDecoded.{fresh_is}

-- ---- the beginning
pub start_decoded : (shapes : List Term) → state_meant shapes (freshes_w (length shapes) 0) ≡ initial (bare shapes)
start_decoded shapes =
    map_map (goal_meant shapes) (fresh_w 0) (range 0 (length shapes))
    ∙ map_same (λ j. goal_meant shapes (fresh_w 0 j)) (fresh []) (range 0 (length shapes))
    (λ j m. fresh_is shapes 0 j ∙ ap (λ p. fresh p j) (decode_nil 7))

module _ {ar tab : List ℕ} {n : ℕ} (r : Ready ar tab n) where
  pub ready_few : n ≤ 16
  ready_few = let c = r.count in let h = r.limits.few_shapes in omega arith

  pub start_good : GoodFor r (freshes_w n 0)
  start_good = record {
    sound = subst (SoundState (setting_of r.limits)) (sym (ap (λ m. state_meant r.shapes (freshes_w m 0)) (sym r.count) ∙ start_decoded r.shapes))
        (initial_sound (setting_of r.limits));
    few = let e = length-map (range 0 n) (fresh_w 0) in let d = length_range 0 n in let h = ready_few in omega arith;
    bounded = record {
      code = λ g m. on_map (fresh_w 0) (range 0 n) m λ j i e. rw e (omega arith);
      mask = λ g m. on_map (fresh_w 0) (range 0 n) m λ j i e. rw e (pow-lt (span_pos (shape_at r.shapes j)));
    };
  }

  low_of : (gs : List GoalWords) → ((g : GoalWords) → g ∈ gs → Fine r.shapes g) → Low gs
  low_of [] h = tt
  low_of (g ∷ gs) h =
      (let a = (h g (here refl)).shape in let b = r.count in let c = r.limits.few_shapes in omega arith, low_of gs (λ x m. h x (there m)))

pub good_start : {ar tab : List ℕ} {n : ℕ} → Ready ar tab n → GoodState ar tab n (freshes_w n 0)
good_start {n = n} r = for_good r (freshes_w n 0) (start_good r)

module _ {ar tab : List ℕ} {n : ℕ} {gs : List GoalWords} (w : GoodState ar tab n gs) where
  pub good_low : Low gs
  good_low = low_of w.ready gs (good_fine w.ready gs (good_for w))

  pub good_label : label_code tab gs ≤ 3124
  good_label = label_low w.ready gs (good_for w)

  pub label_back : code (decode (label_code tab gs)) ≡ label_code tab gs
  label_back = let l = good_label in code_decode (label_code tab gs) (omega arith)

  module _ (f k : ℕ) (a : get_elem? ar f ≡ some k) where
    pub good_next : (c : List GoalWords) → c ∈ classes_w tab (deriv_w tab n (label_code tab gs) f k gs) → length c ≤ 32
        → GoodState ar tab n (map (lift_w (displacement_w c)) c)
    good_next c m few =
        for_good w.ready (map (lift_w (displacement_w c)) c)
        (lifted_good w.ready c (class_part w.ready gs (good_for w) f k a c m) few)

    pub deriv_low : Low (deriv_w tab n (label_code tab gs) f k gs)
    deriv_low = low_of w.ready (deriv_w tab n (label_code tab gs) f k gs) (deriv_fine w.ready gs (good_for w) f k a)

    pub deriv_room : length (deriv_w tab n (label_code tab gs) f k gs) ≤ 96
    deriv_room =
        let h = room_of tab n (label_code tab gs) f k gs in
        let l = w.few in
        let s = ready_few w.ready in
        let p : k * n ≤ 4 * n = mul-le-mul_right n (w.ready.limits.symbols.children f k a) in
        omega (arith, h, l, s, p)

    pub least_small : (c : List GoalWords) → c ∈ classes_w tab (deriv_w tab n (label_code tab gs) f k gs) → displacement_w c ≤ 15624
    least_small c m =
        let p = class_part w.ready gs (good_for w) f k a c m in
        rw (part_displaced w.ready c p) (small_code _ (displaced_small w.ready c p))

    pub least_back : (c : List GoalWords) → c ∈ classes_w tab (deriv_w tab n (label_code tab gs) f k gs)
        → code (decode (displacement_w c)) ≡ displacement_w c
    least_back c m = let l = least_small c m in code_decode (displacement_w c) (omega arith)

  pub output_small : (f : ℕ) (g : GoalWords) → g ∈ outputs_w tab (label_code tab gs) f gs → g.an ≤ 15624
  output_small f g m =
      let i = outputs_within tab (label_code tab gs) f gs g m in
      let l = small_code (decode g.an) (announces_small w.ready gs (good_for w) g i) in
      let e = code_decode g.an (w.code g i) in
      omega (arith, l, e)

  pub output_back : (f : ℕ) (g : GoalWords) → g ∈ outputs_w tab (label_code tab gs) f gs → code (decode g.an) ≡ g.an
  output_back f g m = let l = output_small f g m in code_decode g.an (omega arith)
