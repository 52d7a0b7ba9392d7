use native.Mathlib.Omega.{arith}
use Rattle.kinds.proofs.Codes.{decode_short}
use Rattle.kinds.proofs.KindLaws.{digits_next, digits_end}
use Rattle.kinds.proofs.Position.length.Goals as goal

pub overflow_add-n : goal.overflow_add-n
overflow_add-n c = omega (arith, decode_short 7 c.args.self.0)

pub loop-rest-preserved : goal.loop-rest-preserved
loop-rest-preserved c = omega (arith, digits_next c.loop-rest.rest c.loop-rest-test.true c.loop-rest.invariant.0)

pub returns : goal.returns
returns c = omega (arith, digits_end c.loop-rest.rest c.loop-rest-test.false)
