-- Choices one after the other: `run` and `accepted`, for any words.
--   Step step              a choice is taken, or refused and nothing changes
--   takes_… stops_…        choices of which the first is taken, or refused
--   run_one                one choice is a step
--   run_append accepted_append   choices behind choices
--   accepted_most          not more are accepted than there are
use mathlib.Core.Path.{◌≡◌, refl, ap, sym, ◌∙◌}
use mathlib.Core.Bool.{Bool, true, false}
use mathlib.Core.List.{List, [], ◌∷◌, ◌++◌}
use mathlib.Core.Option.{Option, none, some}
use Prim.Native.Nat.{ℕ, suc, ◌+◌, ◌≤◌}
use native.Mathlib.Omega.{arith}
use native.Mathlib.Nat.{zero-add}
use lib.Dec.{ltb}
use lib.ListN.{length}
use Rattle.kinds.specs.declared.Reason.{Reason}
use Rattle.kinds.specs.declared.Reason.TheVariants.{NoSuchItem, OutOfRange}
use Rattle.walk.specs.Starting.{Walk, WalkOutcome, refuse_walk, go_on}
use Rattle.walk.specs.Stepping.{tried, stepped, run, one, accepted}

module _ (plan score spans : List ℕ) where
  pub data Step (i : ℕ) (w : Walk) : Type 0 where
    takes : (v : Walk) → stepped plan score spans i w ≡ go_on v → Step i w
    stops : (r : Reason) → stepped plan score spans i w ≡ refuse_walk r w → Step i w

  pub step : (i : ℕ) (w : Walk) → Step i w
  unfolding stepped
  step i w = go (ltb i w.count.waiting) refl (tried plan score spans i w) refl
    where
      go : (b : Bool) → ltb i w.count.waiting ≡ b → (o : Option Walk) → tried plan score spans i w ≡ o → Step i w
      go false e o d = stops NoSuchItem (rw e refl)
      go true e none d = stops OutOfRange (rw (e, d) refl)
      go true e (some v) d = takes v (rw (e, d) refl)

  module _ (i : ℕ) (is : List ℕ) (w v : Walk) (e : stepped plan score spans i w ≡ go_on v) where
    pub takes_run : run plan score spans (i ∷ is) w ≡ run plan score spans is v
    unfolding run
    takes_run = ap (λ (o : WalkOutcome). run plan score spans is o.walk) e

    pub takes_accepted : accepted plan score spans (i ∷ is) w ≡ suc (accepted plan score spans is v)
    unfolding accepted
    takes_accepted =
        let n = accepted plan score spans is v in
        let z : 1 + n ≡ suc n = omega arith in
        ap (λ (o : WalkOutcome). one o.answer + accepted plan score spans is o.walk) e ∙ z

  module _ (i : ℕ) (is : List ℕ) (w : Walk) (r : Reason) (e : stepped plan score spans i w ≡ refuse_walk r w) where
    pub stops_accepted : accepted plan score spans (i ∷ is) w ≡ accepted plan score spans is w
    unfolding accepted
    stops_accepted = ap (λ (o : WalkOutcome). one o.answer + accepted plan score spans is o.walk) e ∙ zero-add (accepted plan score spans is w)

  pub run_one : (i : ℕ) (w : Walk) → run plan score spans (i ∷ []) w ≡ (stepped plan score spans i w).walk
  unfolding run
  run_one i w = refl

  pub run_append : (is js : List ℕ) (w : Walk) → run plan score spans (is ++ js) w ≡ run plan score spans js (run plan score spans is w)
  unfolding run
  run_append [] js w = refl
  run_append (i ∷ is) js w = run_append is js (stepped plan score spans i w).walk

  pub accepted_append : (is js : List ℕ) (w : Walk)
      → accepted plan score spans (is ++ js) w ≡ accepted plan score spans is w + accepted plan score spans js (run plan score spans is w)
  unfolding accepted run
  accepted_append [] js w = sym (zero-add (accepted plan score spans js w))
  accepted_append (i ∷ is) js w = let ih = accepted_append is js (stepped plan score spans i w).walk in omega arith

  pub accepted_most : (is : List ℕ) (w : Walk) → accepted plan score spans is w ≤ length is
  unfolding accepted
  accepted_most [] w = omega arith
  accepted_most (i ∷ is) w = go (step i w) (λ v. accepted_most is v)
    where
      go : Step i w → ((v : Walk) → accepted plan score spans is v ≤ length is) → accepted plan score spans (i ∷ is) w ≤ suc (length is)
      go (takes v e) ih = let a = takes_accepted i is w v e in let b = ih v in omega arith
      go (stops r e) ih = let a = stops_accepted i is w r e in let b = ih w in omega arith
