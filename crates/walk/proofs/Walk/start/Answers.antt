use lib.ListN.{length-set}
use mathlib.Core.Path.{sym, ◌∙◌}
use native.Mathlib.Omega.{arith}
use Rattle.walk.proofs.LawsStart as law
use Rattle.walk.proofs.Walk.start.Goals as goal

pub bounds-self-0 : goal.bounds-self-0
bounds-self-0 c =
    omega (
      arith,
      law.score_some c.args.symbols.now c.args.score.words.now c.args.score.spans.now
          (sym c.score_good-good.ensures ∙ c.if-not-good.false),
    )

pub bounds-self-1 : goal.bounds-self-1
bounds-self-1 c =
    simp length-set (omega (
      arith,
      law.score_some c.args.symbols.now c.args.score.words.now c.args.score.spans.now
          (sym c.score_good-good.ensures ∙ c.if-not-good.false),
    ))

pub returns-clause-started : goal.returns-clause-started
returns-clause-started c =
    law.tells_on c.args.symbols.now c.args.score.words.now c.args.score.spans.now c.args.self.now.waiting.now
    c.args.self.now.log.now c.args.self.now.marks.now
    (sym c.score_good-good.ensures ∙ c.if-not-good.false) (omega arith)
    c.if-self-n-2.false c.if-self-n-3.false c.clear.ensures
