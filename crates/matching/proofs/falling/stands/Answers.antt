use native.Mathlib.Omega.{arith}
use Rattle.std.proofs.lemmas.Grind.{common_steps}
use Rattle.std.proofs.lemmas.Option.{gets}
use Rattle.std.proofs.lemmas.Bool.Decides.{nat_tests}
use Rattle.matching.specs.Falling.{stands}
use Rattle.matching.proofs.falling.stands.Goals as goal

pub returns-then-blank-word : goal.returns-then-blank-word
unfolding stands
returns-then-blank-word c = grind (arith, nat_tests, common_steps, gets)

pub returns-then-x-score : goal.returns-then-x-score
unfolding stands
returns-then-x-score c = grind (arith, nat_tests, common_steps, gets)

pub returns-else-x-score : goal.returns-else-x-score
unfolding stands
returns-else-x-score c = grind (arith, nat_tests, common_steps, gets)
