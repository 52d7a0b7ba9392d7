use mathlib.Core.Path.{ap, sym}
use Rattle.readers.specs.PlanParts.{to_label}
use Rattle.readers.proofs.LawsParts as law
use Rattle.readers.proofs.parts.state_label.Goals as goal

pub returns-then-states-state : goal.returns-then-states-state
returns-then-states-state c = sym (ap to_label (law.label_state _ _ _ c.if-states-state.true))

pub returns-then-plan-at : goal.returns-then-plan-at
returns-then-plan-at c = sym (ap to_label (law.label_out _ _ _ c.if-states-state.false c.if-plan-at.true))

pub returns : goal.returns
returns c = sym (ap to_label (law.label_at _ _ _ c.if-states-state.false c.if-plan-at.false))
