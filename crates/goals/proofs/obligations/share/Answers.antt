use Rattle.goals.proofs.GoalLaws.{front}
use Rattle.goals.specs.Sharing.{first_shared}
use mathlib.Core.Path.{ap₂, ◌∙◌}
use native.Mathlib.Omega.{arith}
use Rattle.goals.proofs.obligations.share.Goals as goal

pub returns : goal.returns
returns c =
    c.common.ensures ∙ ap₂ first_shared
    (front _ _ _ _ (omega arith) c.owed-j.ensures.count c.owed-j.ensures.wrote)
    (front _ _ _ _ (omega arith) c.owed-k.ensures.count c.owed-k.ensures.wrote)
