use native.Mathlib.Omega.{arith}
use Rattle.std.proofs.lemmas.Bool.Decides.{nat_tests}
use Rattle.std.proofs.lemmas.Grind.{common_steps}
use Rattle.replacing.proofs.LawsAdding.{under_out, under_is}
use Rattle.replacing.proofs.making.under.Goals as goal

pub returns-in-None : goal.returns-in-None
returns-in-None c = under_out _ _ _ (grind (arith, nat_tests, common_steps))

pub returns-in-Some : goal.returns-in-Some
returns-in-Some c = under_is _ _ _ (grind (arith, nat_tests, common_steps)) c.part.ensures
