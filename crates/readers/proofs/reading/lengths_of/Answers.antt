use mathlib.Core.Path.{ap, sym, ◌∙◌}
use Rattle.readers.specs.BlockWords.{begins}
use Rattle.readers.proofs.LawsParts as law
use Rattle.readers.proofs.reading.lengths_of.Goals as goal

pub returns-then-not-good : goal.returns-then-not-good
returns-then-not-good c = sym (law.lengths_view _ _ _ _ _ (sym c.view_good-good.ensures ∙ c.if-not-good.true))

pub middle-mid-requires : goal.middle-mid-requires
middle-mid-requires c = law.start_fits _ _ _ _ _ (sym c.block_start.ensures ∙ ap begins c.in-Some.is)

pub returns-in-None : goal.returns-in-None
returns-in-None c = sym (law.lengths_none _ _ _
    (sym c.view_good-good.ensures ∙ c.if-not-good.false) _ _
    (sym c.block_start.ensures ∙ ap begins c.in-None.is))

pub returns-in-Some : goal.returns-in-Some
returns-in-Some c =
    rw c.middle-mid.ensures.place (sym (law.lengths_some _ _ _ (sym c.view_good-good.ensures ∙ c.if-not-good.false) _ _ _
    (sym c.block_start.ensures ∙ ap begins c.in-Some.is)))
