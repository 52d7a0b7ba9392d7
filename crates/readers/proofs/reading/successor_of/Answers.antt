use mathlib.Core.Path.{ap, sym, ◌∙◌}
use Rattle.readers.specs.PlanParts.{successor_of, to_successor}
use Rattle.readers.specs.BlockWords.{pair_of}
use Rattle.readers.proofs.reading.successor_of.Goals as goal

pub returns-in-None : goal.returns-in-None
unfolding successor_of
returns-in-None c = ap to_successor (sym (ap pair_of c.in-None.is) ∙ c.find_pair.ensures)

pub returns-in-Some : goal.returns-in-Some
unfolding successor_of
returns-in-Some c = ap to_successor (sym (ap pair_of c.in-Some.is) ∙ c.find_pair.ensures)
