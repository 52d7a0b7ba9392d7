use Rattle.std.proofs.Common.{rules, ◌≡◌, ◌+◌, ◌*◌, ◌∙◌, refl, true, false, ℕ}
use native.Mathlib.Nat.{sub-zero}
use Rattle.std.specs.List.{range_with_len}
use Rattle.std.proofs.lemmas.Iterator.{cases_from_any, YieldsList-from_range}
use Rattle.goals.specs.GoalWords.{goal_at}
use Rattle.goals.specs.GoalKinds.{as_words}
use Rattle.goals.specs.WordStages.{same_w}
use Rattle.classes.proofs.SameLaws.{any_is, among_any}
use Rattle.classes.proofs.same.among.Goals as goal

pub returns : goal.returns
returns c =
    let g = as_words c.args.g in
    let is = λ (j : ℕ). same_w g (goal_at c.args.vs.now (c.args.at + 3 * j)) in
    any_is is c.any.result (range_with_len 0 c.args.k)
    (cases_from_any _ _ _ (λ j. is j ≡ true) (λ j. is j ≡ false) c.any.ensures.ran (YieldsList-from_range 0 c.args.k c.args.k refl (sub-zero _))
    (λ x q k. search rules) (λ x q k. search rules))
    ∙ among_any c.args.vs.now c.args.at g c.args.k
