use native.Mathlib.Omega.{arith}
use Rattle.std.proofs.lemmas.Grind.{common_steps}
use Rattle.std.proofs.lemmas.Bool.Decides.{nat_tests}
use Rattle.replacing.specs.Putting.{is_known}
use Rattle.replacing.proofs.linking.is_known.Goals as goal

pub returns-then-w-symbols : goal.returns-then-w-symbols
unfolding is_known
returns-then-w-symbols c = grind (arith, nat_tests, common_steps)

pub returns-then-w-ge-FIRST_NAME : goal.returns-then-w-ge-FIRST_NAME
unfolding is_known
returns-then-w-ge-FIRST_NAME c = grind (arith, nat_tests, common_steps)

pub returns-else-w-ge-FIRST_NAME : goal.returns-else-w-ge-FIRST_NAME
unfolding is_known
returns-else-w-ge-FIRST_NAME c = grind (arith, nat_tests, common_steps)
