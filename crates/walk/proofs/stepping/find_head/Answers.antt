use mathlib.Core.Path.{sym, ◌∙◌}
use native.Mathlib.Omega.{arith}
use Rattle.std.proofs.lemmas.Grind.{common_steps}
use Rattle.following.proofs.LawsFollowing as aims
use Rattle.walk.specs.ByIndex.{look_head}
use Rattle.walk.proofs.LawsStep as law
use Rattle.walk.proofs.stepping.find_head.Goals as goal

pub bounds-score-node : goal.bounds-score-node
bounds-score-node c = omega (
  arith,
  (aims.target_in _ _ _ _ _
      (aims.reached_at _ _ (sym c.follow.ensures ∙ c.in_ok-node.was))).0,
)

pub returns-in_err-block : goal.returns-in_err-block
unfolding look_head
returns-in_err-block c = grind (
  arith,
  common_steps,
  law.symbol _ c.args.score.spans.now _ _ _
      (aims.reached_at _ _ (sym c.follow.ensures ∙ c.in_ok-node.was)),
)

pub returns : goal.returns
unfolding look_head
returns c = grind (
  arith,
  common_steps,
  law.symbol _ c.args.score.spans.now _ _ _
      (aims.reached_at _ _ (sym c.follow.ensures ∙ c.in_ok-node.was)),
)
