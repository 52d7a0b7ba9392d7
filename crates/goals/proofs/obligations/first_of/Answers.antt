use Rattle.std.proofs.lemmas.Bool.Decides.{nat_tests}
use Rattle.goals.proofs.GoalLaws.{first_fold}
use Rattle.std.proofs.Common.{rules, arith, ap, sym, ◌∙◌, ◌≡◌, fold, cond, ltb, ℕ}
use Rattle.goals.specs.GoalWords.{pad}
use Rattle.std.proofs.iter.runs.Made.{chains}
use Rattle.goals.proofs.obligations.first_of.Goals as goal

pub returns : goal.returns
returns c =
    let h = λ (b x : ℕ). cond (ltb (pad x) (pad b)) x b in
    let items : c.fold.ensures.runs.0.items ≡ c.args.cs.now = search (rules, chains) in
    c.fold.ensures.runs.3 h (λ x y r q k. grind (arith, nat_tests)) ∙ ap (fold h c.args.best) items ∙ sym (first_fold c.args.best c.args.cs.now)
