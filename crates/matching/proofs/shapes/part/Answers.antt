use native.Mathlib.Omega.{arith}
use Rattle.std.proofs.lemmas.Grind.{common_steps}
use Rattle.std.proofs.lemmas.Option.{gets}
use Rattle.std.proofs.lemmas.Bool.Decides.{nat_tests}
use Rattle.matching.specs.Shapes.{part}
use Rattle.matching.proofs.shapes.part.Goals as goal

pub returns : goal.returns
unfolding part
returns c = grind (arith, nat_tests, common_steps, gets)
