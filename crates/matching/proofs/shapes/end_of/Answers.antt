use native.Mathlib.Omega.{arith}
use Rattle.std.proofs.lemmas.Grind.{common_steps}
use Rattle.std.proofs.lemmas.Option.{gets}
use Rattle.std.proofs.lemmas.Bool.Decides.{nat_tests}
use Rattle.matching.specs.Shapes.{end_of}
use Rattle.matching.proofs.shapes.end_of.Goals as goal

pub returns : goal.returns
unfolding end_of
returns c = grind (arith, nat_tests, common_steps, gets)
