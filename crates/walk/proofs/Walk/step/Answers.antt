use mathlib.Core.Path.{ap, sym, ◌∙◌}
use Rattle.walk.specs.ByIndex.{sight_of}
use Rattle.walk.proofs.LawsStep as law
use Rattle.walk.proofs.Walk.step.Goals as goal

pub returns-in-None-clause-stepped : goal.returns-in-None-clause-stepped
returns-in-None-clause-stepped c =
    law.tells_34 c.args.plan.now c.args.score.words.now c.args.score.spans.now c.args.self.now.waiting.now c.args.self.now.log.now
    c.args.self.now.marks.now c.args.«record» c.args.choice c.if-record-choice.false
    (sym c.look.ensures ∙ ap sight_of c.in-None.is)
