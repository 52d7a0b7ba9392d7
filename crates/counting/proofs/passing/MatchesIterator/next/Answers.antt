use mathlib.Core.Path.{ap}
use lib.ListN.{length}
use Rattle.std.proofs.Common.{rules}
use Rattle.counting.proofs.PassLaws.{first_next, first_end}
use Rattle.counting.proofs.passing.MatchesIterator.next.Goals as goal

pub returns-then-self-k-clause-steps : goal.returns-then-self-k-clause-steps
returns-then-self-k-clause-steps c =
    let e = first_end c.args.self.now.marks.now c.args.self.now.from _ c.args.self.now.inside c.next_match-k.ensures c.if-self-k.true in (e, e)

pub returns-clause-steps : goal.returns-clause-steps
returns-clause-steps c = first_next _ _ _ c.args.self.now.inside c.next_match-k.ensures c.if-self-k.false

pub returns-clause-goes : goal.returns-clause-goes
returns-clause-goes c =
    let e = ap length (first_next _ _ _ c.args.self.now.inside c.next_match-k.ensures c.if-self-k.false) in search rules
