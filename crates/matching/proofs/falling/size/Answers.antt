use native.Mathlib.Omega.{arith}
use Rattle.std.proofs.lemmas.Grind.{common_steps}
use Rattle.std.proofs.lemmas.Option.{gets}
use Rattle.std.proofs.lemmas.Bool.Decides.{nat_tests}
use Rattle.matching.specs.Falling.{size}
use Rattle.matching.proofs.falling.size.Goals as goal

pub returns-then-word-blank-clause-is : goal.returns-then-word-blank-clause-is
unfolding size
returns-then-word-blank-clause-is c = grind (arith, nat_tests, common_steps, gets)

pub returns-clause-is : goal.returns-clause-is
unfolding size
returns-clause-is c = grind (arith, nat_tests, common_steps, gets)
