use native.Mathlib.Omega.{arith}
use Rattle.walk.proofs.LawsStep as law
use Rattle.walk.proofs.Walk.advance.Goals as goal

pub middle-mid-requires : goal.middle-mid-requires
middle-mid-requires c = law.sight_fits (law.sighted_is c.requires.sighted)

pub mark_pairs-new-requires : goal.mark_pairs-new-requires
mark_pairs-new-requires c = (
  omega arith,
  law.sight_outs (law.sighted_is c.requires.sighted),
)

pub overflow_add-marked : goal.overflow_add-marked
overflow_add-marked c =
    omega (arith, c.mark_pairs-new.ensures.0, law.sight_new (law.sighted_is c.requires.sighted) c.args.self.now.marks.now)

pub returns-clause-stepped : goal.returns-clause-stepped
returns-clause-stepped c =
    rw c.middle-mid.ensures.place
    (law.tells_on c.args.plan.now c.args.score.words.now c.args.score.spans.now c.args.self.now.waiting.now c.args.self.now.log.now
    c.args.self.now.marks.now c.args.«record» c.args.choice c.requires.waits c.requires.sighted c.close_up.ensures
    (rw c.middle-mid.ensures.place at c.append_pairs.ensures) c.mark_pairs-new.ensures.0 c.mark_pairs-new.ensures.1)
