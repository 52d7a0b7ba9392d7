use mathlib.Core.Path.{sym, ◌∙◌}
use Rattle.readers.proofs.LawsParts as law
use Rattle.readers.proofs.parts.block_start.Goals as goal

pub returns-then-states-state : goal.returns-then-states-state
returns-then-states-state c = sym (law.start_state _ _ _ _ _ c.if-states-state.true)

pub returns-then-beyond : goal.returns-then-beyond
returns-then-beyond c = sym (law.start_symbol _ _ _ _ _ c.if-states-state.false c.if-beyond.true)

pub returns-then-plan-place : goal.returns-then-plan-place
returns-then-plan-place c = sym (law.start_out _ _ _ _ _ c.if-states-state.false c.if-beyond.false
    c.if-plan-place.true)

pub returns-then-not-whole : goal.returns-then-not-whole
returns-then-not-whole c =
    sym (law.start_cut _ _ _ _ _ c.if-states-state.false c.if-beyond.false c.if-plan-place.false
    (sym c.block_fits-whole.ensures ∙ c.if-not-whole.true))

pub returns : goal.returns
returns c =
    sym (law.start_at _ _ _ _ _ c.if-states-state.false c.if-beyond.false c.if-plan-place.false
    (sym c.block_fits-whole.ensures ∙ c.if-not-whole.false))
