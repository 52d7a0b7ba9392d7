-- The goals that words hold, from the i-th on: along a loop's turn.
use Prim.Native.Nat.{ℕ, ◌+◌, ◌-◌, ◌*◌, ◌<◌, ◌≤◌}
use mathlib.Core.Path.{◌≡◌, refl, ◌∙◌}
use mathlib.Core.List.{List, [], ◌∷◌}
use native.Mathlib.Omega.{arith}
use Rattle.goals.specs.GoalWords.{GoalWords, goal_at, goals_from}
use Rattle.goals.proofs.GoalLaws.{goals_next, goals_end}

abbrev pub goals_past : List ℕ → ℕ → ℕ → ℕ → List GoalWords
goals_past ws at n i = goals_from ws (at + 3 * i) (n - i)

module _ (ws : List ℕ) (at n i : ℕ) where
  pub past_next : i < n → goals_past ws at n i ≡ goal_at ws (at + 3 * i) ∷ goals_past ws at n (i + 1)
  past_next h =
      let d : n - i - 1 ≡ n - (i + 1) = omega arith in
      let e : at + 3 * i + 3 ≡ at + 3 * (i + 1) = omega arith in
      goals_next ws (at + 3 * i) (n - i) (omega arith) ∙ rw (d, e) refl

  pub past_end : n ≤ i → goals_past ws at n i ≡ []
  past_end h = goals_end ws (at + 3 * i) (n - i) (omega arith)
