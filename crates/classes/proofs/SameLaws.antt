-- Equality of states along the words.
use Rattle.goals.specs.GoalKinds.{as_goal, as_words}
use Rattle.goals.specs.declared.Goal.{Goal}
use Prim.Native.Nat.{ℕ, zero, suc, ◌+◌, ◌*◌, ◌<◌}
use mathlib.Core.Path.{◌≡◌, refl, ap, sym, ◌∙◌}
use mathlib.Core.List.{List, [], ◌∷◌}
use mathlib.Core.Bool.{Bool, true, false, ◌||◌, ◌&&◌}
use Rattle.goals.specs.GoalWords.{GoalWords, goal_at, goals_from}
use Rattle.goals.specs.WordStages.{same_w, among_w, within_w}
use Rattle.std.specs.Bool.{MatchBool}
use Rattle.std.specs.List.{list_any, list_all, range_with_len, HoldsAt, AllWithin}
use Rattle.std.proofs.lemmas.List.Folds.{list_any_at, list_all_at}
use lib.ListN.{length}
use native.Mathlib.Omega.{arith}
use native.Mathlib.Nat.{add-zero}

-- what a search through a list answers
module _ (p : ℕ → Bool) where
  pub any_is : (r : Bool) (xs : List ℕ)
      → MatchBool r ((k : ℕ) × (k < length xs) × HoldsAt (λ x. p x ≡ true) xs k) (AllWithin (λ x. p x ≡ false) xs 0 (length xs)) → r ≡ list_any p xs
  any_is true xs h = sym (list_any_at p xs h.0 0 h.1 (h.2 0))
  any_is false [] h = refl
  any_is false (x ∷ xs) h =
      any_is false xs (λ k d a b. h (suc k) d (omega arith) (omega arith)) ∙ sym (ap (λ b. b || list_any p xs) (h 0 x (omega arith) (omega arith)))

  pub all_is : (r : Bool) (xs : List ℕ)
      → MatchBool r (AllWithin (λ x. p x ≡ true) xs 0 (length xs)) ((k : ℕ) × (k < length xs) × HoldsAt (λ x. p x ≡ false) xs k) → r ≡ list_all p xs
  all_is false xs h = sym (list_all_at p xs h.0 0 h.1 (h.2 0))
  all_is true [] h = refl
  all_is true (x ∷ xs) h =
      all_is true xs (λ k d a b. h (suc k) d (omega arith) (omega arith)) ∙ sym (ap (λ b. b && list_all p xs) (h 0 x (omega arith) (omega arith)))

-- over the numbers of the goals
module _ (vs : List ℕ) (at : ℕ) where
  next : (i : ℕ) → at + 3 * i + 3 ≡ at + 3 * (i + 1)
  next i = omega arith

  module _ (g : GoalWords) where
    among_from : (i k : ℕ) → list_any (λ j. same_w g (goal_at vs (at + 3 * j))) (range_with_len i k) ≡ among_w g (goals_from vs (at + 3 * i) k)
    unfolding among_w goals_from
    among_from i zero = refl
    among_from i (suc k) = rw (among_from (i + 1) k, next i)

    pub among_any : (k : ℕ) → list_any (λ j. same_w g (goal_at vs (at + 3 * j))) (range_with_len 0 k) ≡ among_w g (goals_from vs at k)
    among_any k = among_from 0 k ∙ rw (add-zero at)

  module _ (hs : List GoalWords) where
    within_from : (i k : ℕ) → list_all (λ j. among_w (goal_at vs (at + 3 * j)) hs) (range_with_len i k) ≡ within_w (goals_from vs (at + 3 * i) k) hs
    unfolding within_w goals_from
    within_from i zero = refl
    within_from i (suc k) = rw (within_from (i + 1) k, next i)

    pub within_all : (k : ℕ) → list_all (λ j. among_w (goal_at vs (at + 3 * j)) hs) (range_with_len 0 k) ≡ within_w (goals_from vs at k) hs
    within_all k = within_from 0 k ∙ rw (add-zero at)

-- the answer for a goal that was read
pub among_is : (hs : List GoalWords) (h : GoalWords) {r t : Bool} {g : Goal} → r ≡ among_w (as_words g) hs → g ≡ as_goal h → r ≡ t → among_w h hs ≡ t
among_is hs h a b c = ap (λ (x : Goal). among_w (as_words x) hs) (sym b) ∙ sym a ∙ c
