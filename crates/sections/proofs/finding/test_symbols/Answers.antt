use native.Mathlib.Omega.{arith}
use mathlib.Core.Path.{sym, ◌∙◌}
use Rattle.std.proofs.Common.{rules}
use Rattle.sections.proofs.LawsSections.{symbols_over}
use Rattle.sections.proofs.finding.test_symbols.Goals as goal

pub returns-in-Some : goal.returns-in-Some
returns-in-Some c = sym (symbols_over _ (search rules) (omega arith) (sym c.first_over.ensures ∙ c.in-Some.is))

pub returns-in-None : goal.returns-in-None
returns-in-None c = sym (symbols_over _ (search rules) (omega arith) (sym c.first_over.ensures ∙ c.in-None.is))
