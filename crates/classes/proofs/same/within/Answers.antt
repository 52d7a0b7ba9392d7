use Rattle.std.proofs.Common.{rules, ◌≡◌, ◌+◌, ◌*◌, ◌∙◌, refl, true, false, ℕ}
use native.Mathlib.Nat.{sub-zero}
use Rattle.std.specs.List.{range_with_len}
use Rattle.std.proofs.lemmas.Iterator.{cases_from_all, YieldsList-from_range}
use Rattle.goals.specs.GoalWords.{goal_at, goals_from}
use Rattle.goals.specs.WordStages.{among_w}
use Rattle.classes.proofs.SameLaws.{all_is, within_all}
use Rattle.classes.proofs.same.within.Goals as goal

pub returns : goal.returns
returns c =
    let hs = goals_from c.args.vs.now c.args.at c.args.k in
    let is = λ (j : ℕ). among_w (goal_at c.args.ws.now (c.args.from + 3 * j)) hs in
    all_is is c.all.result (range_with_len 0 c.args.n)
    (cases_from_all _ _ _ (λ j. is j ≡ true) (λ j. is j ≡ false) c.all.ensures.ran (YieldsList-from_range 0 c.args.n c.args.n refl (sub-zero _))
    (λ x q k. search rules) (λ x q k. search rules))
    ∙ within_all c.args.ws.now c.args.from hs c.args.n
