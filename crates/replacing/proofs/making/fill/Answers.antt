use mathlib.Core.Path.{sym}
use Rattle.replacing.proofs.LawsAdding.{added_as, fill_begin, fill_next, fill_stop, fill_end}
use Rattle.replacing.proofs.making.fill.Goals as goal

pub loop-word-init : goal.loop-word-init
loop-word-init c = fill_begin _ _ _ _ c.requires

pub add_piece-requires : goal.add_piece-requires
add_piece-requires c = c.loop-word.invariant.room

pub returns-in_err-at : goal.returns-in_err-at
returns-in_err-at c =
    added_as (sym c.from_residual.ensures) (fill_stop c.loop-word.invariant c.loop-word-test.true (added_as c.in_err-at.was c.add_piece.ensures))

pub loop-word-preserved : goal.loop-word-preserved
loop-word-preserved c =
    fill_next c.loop-word.invariant c.loop-word-test.true (added_as c.in_ok-at.was c.add_piece.ensures)

pub returns : goal.returns
returns c = fill_end c.loop-word.invariant c.loop-word-test.false
