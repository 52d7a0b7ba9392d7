use mathlib.Core.Path.{sym, ◌∙◌}
use Rattle.readers.proofs.LawsParts as law
use Rattle.readers.proofs.reading.label_of.Goals as goal

pub returns-then-not-good : goal.returns-then-not-good
returns-then-not-good c = sym (law.label_view _ _ _ _ (sym c.view_good-good.ensures ∙ c.if-not-good.true))

pub returns-then-not-used : goal.returns-then-not-used
returns-then-not-used c =
    sym (law.label_bad _ _ _ (sym c.view_good-good.ensures ∙ c.if-not-good.false) _ c.in-Ok.p.0
    (sym c.state_label.ensures ∙ c.in-Ok.is)
    (sym c.is_good-used.ensures ∙ c.if-not-used.true))

pub returns-in-Err : goal.returns-in-Err
returns-in-Err c = sym (law.label_none _ _ _ (sym c.view_good-good.ensures
    ∙ c.if-not-good.false) _
    (sym c.state_label.ensures ∙ c.in-Err.is))

pub returns-else-not-used : goal.returns-else-not-used
returns-else-not-used c =
    sym (law.label_good _ _ _ (sym c.view_good-good.ensures ∙ c.if-not-good.false) _ c.in-Ok.p.0
    (sym c.state_label.ensures ∙ c.in-Ok.is)
    (sym c.is_good-used.ensures ∙ c.if-not-used.false))
