use Rattle.matching.specs.Shapes.{shape_at}
use native.Mathlib.Omega.{arith}
use Rattle.std.proofs.lemmas.Grind.{common_steps}
use Rattle.std.proofs.lemmas.Option.{gets}
use Rattle.std.proofs.lemmas.Bool.Decides.{nat_tests}
use Rattle.matching.proofs.shapes.words_of.Goals as goal

pub returns-in-None : goal.returns-in-None
unfolding shape_at
returns-in-None c = grind (arith, nat_tests, common_steps, gets)

pub returns-in-Some : goal.returns-in-Some
unfolding shape_at
returns-in-Some c = grind (arith, nat_tests, common_steps, gets)
