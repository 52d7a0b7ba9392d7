use mathlib.Core.Path.{sym, ◌∙◌}
use native.Mathlib.Omega.{arith}
use Rattle.kinds.proofs.KindLaws.{zero_next, zero_stop, zero_end}
use Rattle.kinds.proofs.Position.is_good.Goals as goal

pub returns-then-rest-eq0 : goal.returns-then-rest-eq0
returns-then-rest-eq0 c =
    sym (c.loop-rest.invariant.1 ∙ zero_stop c.loop-rest.rest c.loop-rest-test.true (omega arith) c.if-rest-eq0.true)

pub loop-rest-preserved : goal.loop-rest-preserved
loop-rest-preserved c =
    (omega arith, c.loop-rest.invariant.1 ∙ zero_next c.loop-rest.rest c.loop-rest-test.true (omega arith) c.if-rest-eq0.false)

pub returns : goal.returns
returns c = sym (c.loop-rest.invariant.1 ∙ zero_end c.loop-rest.rest c.loop-rest-test.false)
