use mathlib.Core.Path.{sym, ◌∙◌}
use native.Mathlib.Omega.{arith}
use Rattle.term.proofs.LawsReading.{whole_in}
use Rattle.checks.proofs.LawsAgain.{piece_out, piece_none, piece_some}
use Rattle.checks.proofs.showing.piece.Goals as goal

pub returns-then-words-at : goal.returns-then-words-at
returns-then-words-at c = sym (piece_out _ _ _ _ _ c.if-words-at.true)

pub slice_bounds-result-count-in-Ok : goal.slice_bounds-result-count-in-Ok
slice_bounds-result-count-in-Ok c = let w = whole_in _ _ _ _ _ _ (sym c.read_term.ensures ∙ c.in-Ok.is) in
    omega (arith, w.some, w.inside)

pub slice_bounds-result-start-in-Ok : goal.slice_bounds-result-start-in-Ok
slice_bounds-result-start-in-Ok c = let w = whole_in _ _ _ _ _ _ (sym c.read_term.ensures ∙ c.in-Ok.is) in
    omega (arith, w.some, w.inside)

pub slice_bounds-result-end-in-Ok : goal.slice_bounds-result-end-in-Ok
slice_bounds-result-end-in-Ok c = let w = whole_in _ _ _ _ _ _ (sym c.read_term.ensures ∙ c.in-Ok.is) in
    omega (arith, w.some, w.inside)

pub returns-in-Err : goal.returns-in-Err
returns-in-Err c = sym (piece_none _ _ _ _ _ (sym c.read_term.ensures ∙ c.in-Err.is))

pub returns-in-Ok : goal.returns-in-Ok
returns-in-Ok c = sym (piece_some _ _ _ _ _ (sym c.read_term.ensures ∙ c.in-Ok.is))
