use mathlib.Core.Path.{ap, sym, ◌∙◌}
use Rattle.readers.specs.PlanParts.{announcement_of, to_announcement}
use Rattle.readers.specs.BlockWords.{pair_of}
use Rattle.readers.proofs.reading.announcement_of.Goals as goal

pub returns-in-None : goal.returns-in-None
unfolding announcement_of
returns-in-None c = ap to_announcement (sym (ap pair_of c.in-None.is) ∙ c.find_pair.ensures)

pub returns-in-Some : goal.returns-in-Some
unfolding announcement_of
returns-in-Some c = ap to_announcement (sym (ap pair_of c.in-Some.is) ∙ c.find_pair.ensures)
