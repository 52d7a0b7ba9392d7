use mathlib.Core.Bool.{not}
use Rattle.std.specs.Prelude.{is_ok}
use Rattle.replacing.proofs.LawsPutting.{past, handed_short, handed_written, stored}
use mathlib.Core.Path.{ap, sym, ◌∙◌}
use Rattle.replacing.proofs.putting.hand_over.Goals as goal

pub returns-then-new-n : goal.returns-then-new-n
returns-then-new-n c = handed_short _ _ _ (ap is_ok (sym c.read_score.ensures) ∙ c.is_err.ensures.negation ∙ ap not c.if-is_err.false) c.if-new-n.true

pub returns-then-is_err : goal.returns-then-is_err
returns-then-is_err c = past _ _ _ (ap is_ok (sym c.read_score.ensures) ∙ c.is_err.ensures.negation ∙ ap not c.if-is_err.true)

pub returns : goal.returns
returns c =
    handed_written _ _ _ (ap is_ok (sym c.read_score.ensures) ∙ c.is_err.ensures.negation ∙ ap not c.if-is_err.false) c.if-new-n.false
    (stored _ _ c.if-new-n.false c.copy_from_slice.ensures.after)
