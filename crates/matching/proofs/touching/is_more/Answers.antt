use native.Mathlib.Omega.{arith}
use Rattle.std.proofs.lemmas.Grind.{common_steps}
use Rattle.std.proofs.lemmas.Option.{gets}
use Rattle.std.proofs.lemmas.Bool.Decides.{nat_tests}
use Rattle.matching.specs.Falling.{falling}
use Rattle.matching.specs.Counts.{is_shared}
use Rattle.matching.proofs.touching.is_more.Goals as goal

pub returns-then-x-counts : goal.returns-then-x-counts
unfolding falling is_shared
returns-then-x-counts c = grind (arith, nat_tests, common_steps, gets)

pub returns-else-x-counts : goal.returns-else-x-counts
unfolding falling is_shared
returns-else-x-counts c = grind (arith, nat_tests, common_steps, gets)
