-- A class lifted behind the states that scratch holds, and looked up among them.
--   place_in_lem                        its number is its successor's
--   class_…                             put behind the states, and lifted there
--   lifted_…                            what scratch then holds
--   met_big met_known met_full met_new  the ways to meet it
use Rattle.std.specs.Prelude.{Err, Ok}
use mathlib.Core.Path.{◌≡◌, refl, ap, ap₂, sym, ◌∙◌}
use mathlib.Core.List.{List, [], ◌∷◌, ◌++◌}
use Prim.Native.Nat.{ℕ, ◌+◌, ◌-◌, ◌/◌, ◌<◌, ◌≤◌}
use native.Mathlib.Omega.{arith}
use lib.ListN.{length, get_or, set, length-map}
use lib.Seq.{sets, length-sets}
use Rattle.kinds.specs.declared.Position.{Position}
use Rattle.kinds.specs.declared.Reason.TheVariants.{ManyGoals, ManyStates}
use Rattle.kinds.proofs.ListLaws.{sets_over}
use Rattle.automaton.specs.Exploring.{Succ, met, meet}
use Rattle.automaton.specs.FinalBlocks.{succ_of}
use Rattle.goals.specs.GoalWords.{GoalWords, goals_from, flat, GoalsIn}
use Rattle.goals.specs.WordStages.{lift_w, displacement_w, lifted_w}
use Rattle.decoding.specs.WordMachine.{words, place_in, states_in, Kept}
use Rattle.derivatives.specs.Orders.{class_at}
use Rattle.derivatives.specs.Passes.{Puts, Lifts}
use Rattle.automaton.specs.Classes.{Square}
use Rattle.states.specs.Meeting.{place_of, LiftsBehind, Behind, Spared, ClassMeetable, MetIs}
use Rattle.states.specs.Parting.{derived_words}
use Rattle.classes.specs.Squares.{Squared}
use Rattle.states.specs.declared.Class.{Class}
use Rattle.decoding.proofs.Room.{flat_length}
use Rattle.goals.proofs.GoalLaws.{goals_length}
use Rattle.states.proofs.WordArrays.{flat_back, flat_thirds, picked_few}
use Rattle.states.proofs.StateLaws.{states_length, spared_run, spared_states, spared_kept, states_more, kept_more, more_behind}
use Rattle.states.proofs.MeetLaws.{meet_big, meet_known, meet_full, meet_new}

pub place_in_lem : (tab : List ℕ) (n : ℕ) (ss : List (List GoalWords)) (K : List GoalWords)
    → place_of ss (lifted_w K) ≡ (succ_of (words tab n) ss K).to
unfolding place_of
place_in_lem tab n ss K = refl

-- ---- one class
module _ {goals : List ℕ} {n : ℕ} {dep : Square} (s : Squared goals n dep) (r : ℕ) where
  class_few : length (class_at dep goals n r) ≤ 96
  class_few = let a = picked_few (get_or dep r []) (goals_from goals 0 n) in let b = goals_length goals 0 n in omega (arith, s.few)

  class_words : length (flat (class_at dep goals n r)) ≤ derived_words
  class_words = let a = class_few in let b = flat_length (class_at dep goals n r) in omega arith

module _ {sc : List ℕ} {m : ℕ} {goals : List ℕ} {n : ℕ} {dep : Square} {r : ℕ} (c : ClassMeetable sc m goals n dep r) where
  abbrev K : List GoalWords
  K = class_at dep goals n r

  -- put at a place that is the one behind the states
  module _ {at : ℕ} (e : at ≡ place_in m) where
    pub class_room : at + length (flat K) ≤ length sc
    class_room = let a = class_words c.squared r in omega (arith, c.kept.few, c.kept.long)

    module _ {sc₁ : List ℕ} {end : ℕ} (p : Puts (flat K) at end sc sc₁) where
      class_count : (end - at) / 3 ≡ length K
      class_count = flat_thirds K (end - at) (omega (arith, p.0))

      class_there : goals_from sc₁ at ((end - at) / 3) ≡ K
      class_there =
          let w = flat_length K in
          let room = class_room in
          flat_back sc sc₁ at K ((end - at) / 3) p.1 class_count (omega arith)

      -- what lifting it there asks, and what it gives
      pub class_goals : GoalsIn 96 sc₁ at ((end - at) / 3)
      class_goals =
          let w = flat_length K in
          let room = class_room in
          record {
            few = omega (arith, class_count, class_few c.squared r);
            room = omega (arith, class_count, ap length p.1, length-sets sc at (flat K));
          }

      pub class_lifted : {sc₂ : List ℕ} {top : Position} → Lifts (goals_from sc₁ at ((end - at) / 3)) at top.0 sc₁ sc₂
          → LiftsBehind K m (record { goals = (end - at) / 3; top = top }) sc sc₂
      class_lifted {sc₂} {top} l =
          let w = flat_length K in
          let u = flat_length (lifted_w K) in
          let many = length-map K (lift_w (displacement_w K)) in
          let room = class_room in (
            class_count,
            (
              l.0 ∙ ap displacement_w class_there,
              l.1
                  ∙ ap₂ (λ a gs. sets a at (flat (lifted_w gs))) p.1 class_there
                  ∙ sets_over sc (flat K) (flat (lifted_w K)) at at (omega arith) (omega arith) (omega arith)
                  ∙ ap (λ a. sets sc a (flat (lifted_w K))) e,
            ),
          )

  -- the class lifted behind the states
  module _ {k : Class} {new : List ℕ} (l : LiftsBehind K m k sc new) where
    lifted_here : goals_from new (place_in m) k.goals ≡ lifted_w K
    lifted_here =
        let w = flat_length K in
        let many = length-map K (lift_w (displacement_w K)) in
        let room = class_room refl in
        flat_back sc new (place_in m) (lifted_w K) k.goals l.1.1 (l.0 ∙ sym many) (omega arith)

    pub lifted_spared : Spared m sc new
    lifted_spared =
        let w = flat_length (lifted_w K) in
        let many = length-map K (lift_w (displacement_w K)) in
        let few = class_few c.squared r in
        rw l.1.1 (spared_run m sc (flat (lifted_w K)) (omega (arith, c.kept.few)))

    pub lifted_kept : Kept new m
    lifted_kept = spared_kept lifted_spared c.kept

    -- a class of too many goals
    pub met_big : 32 < k.goals → MetIs (Err ManyGoals) new 0 (meet (words [] 0) (states_in sc m) K)
    met_big h = meet_big (words [] 0) (states_in sc m) K (omega (arith, l.0))

    module _ {x : ℕ} (p : x ≡ place_of (states_in new m) (goals_from new (place_in m) k.goals)) where
      pub lifted_place : x ≡ place_of (states_in sc m) (lifted_w K)
      lifted_place = p ∙ ap₂ place_of (spared_states lifted_spared c.kept) lifted_here

      module _ (few : k.goals ≤ 32) where
        small : length K ≤ 32
        small = omega (arith, l.0)

        place : x ≡ (succ_of (words [] 0) (states_in sc m) K).to
        place = lifted_place ∙ place_in_lem [] 0 (states_in sc m) K

        pub met_known : x < m → MetIs (Ok (m, 2)) new 0 (meet (words [] 0) (states_in sc m) K)
        met_known h =
            let z = states_length sc m in
            let one : List Succ = succ_of (words [] 0) (states_in sc m) K ∷ [] in
            record {
              kept = lifted_kept;
              succs = one;
              is = meet_known (words [] 0) (states_in sc m) K small (omega (arith, place))
                  ∙ ap (λ ss. met ss one) (sym (spared_states lifted_spared c.kept));
              sum = refl;
              few = omega arith;
            }

        pub met_full : m ≤ x → m ≡ 128 → MetIs (Err ManyStates) new 0 (meet (words [] 0) (states_in sc m) K)
        met_full h e = let z = states_length sc m in meet_full (words [] 0) (states_in sc m) K small (omega (arith, place)) (omega arith)

        pub met_new : m ≤ x → (m ≡ 128 → ⊥)
            → MetIs (Ok (m + 1, 2)) (set new m k.goals) 0 (meet (words [] 0) (states_in sc m) K) × (Behind sc (set new m k.goals))
        met_new h ne =
            let z = states_length sc m in
            let b = c.kept.few in
            let lt : m < 128 = omega (arith, ne) in
            let grown : states_in (set new m k.goals) (m + 1) ≡ states_in sc m ++ (lifted_w K ∷ []) =
            states_more lifted_kept lt k.goals
            ∙ ap₂ (λ ss g. ss ++ (g ∷ [])) (spared_states lifted_spared c.kept) lifted_here in
            let is = meet_new (words [] 0) (states_in sc m) K small (omega (arith, place)) (omega arith) in
            let one : List Succ = record { to = length (states_in sc m); by = (words [] 0).gcp K } ∷ [] in (
              record {
                kept = kept_more lifted_kept lt k.goals few;
                succs = one;
                is = is ∙ ap (λ ss. met ss one) (sym grown);
                sum = refl;
                few = omega arith;
              },
              more_behind lifted_kept lt k.goals ∙ lifted_spared.behind,
            )
