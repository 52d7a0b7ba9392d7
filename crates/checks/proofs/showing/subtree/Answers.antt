use mathlib.Core.Path.{sym, ◌∙◌}
use Rattle.checks.proofs.LawsAgain.{subtree_none, subtree_some}
use Rattle.checks.proofs.showing.subtree.Goals as goal

pub returns-in-Err : goal.returns-in-Err
returns-in-Err c =
    sym (subtree_none _ _ _ c.args.score.now
    (sym c.test_symbols.ensures ∙ c.in-Err.is))

pub returns-in-Shapes : goal.returns-in-Shapes
returns-in-Shapes c =
    c.piece.ensures ∙ sym (subtree_some c.args.asked c.args.symbols.now c.args.shapes.now c.args.score.now
    (sym c.test_symbols.ensures ∙ c.in-Ok.is) c.in-Shapes.is)

pub returns-in-Score : goal.returns-in-Score
returns-in-Score c =
    c.piece-in-Score.ensures ∙ sym (subtree_some c.args.asked c.args.symbols.now c.args.shapes.now c.args.score.now
    (sym c.test_symbols.ensures ∙ c.in-Ok.is)
    c.in-Score.is)
