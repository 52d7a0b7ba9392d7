use Rattle.goals.specs.GoalKinds.{as_words}
use Rattle.goals.specs.GoalWords.{owed_by}
use Rattle.goals.proofs.GoalLaws.{shared_is}
use Rattle.goals.specs.Sharing.{is_at}
use mathlib.Core.Path.{ap, sym, ◌∙◌}
use Rattle.classes.proofs.square.depends.Goals as goal

pub returns-in-Some : goal.returns-in-Some
returns-in-Some c =
    sym (sym (shared_is (owed_by c.args.tab.now (as_words c.args.g)) (owed_by c.args.tab.now (as_words c.args.h)))
    ∙ ap is_at (sym c.share.ensures ∙ c.in-Some.is))

pub returns-in-None : goal.returns-in-None
returns-in-None c =
    sym (sym (shared_is (owed_by c.args.tab.now (as_words c.args.g)) (owed_by c.args.tab.now (as_words c.args.h)))
    ∙ ap is_at (sym c.share.ensures ∙ c.in-None.is))
