-- The references of a walk's buffers, kept from call to call.
use mathlib.Core.Path.{refl, ◌∙◌}
use Rattle.walk.specs.declared.Walk.{Walk}
use Rattle.walk.specs.Lent.{SameBuffers}

pub same_self : {w : Walk} → SameBuffers w w
same_self = record { waiting = refl; log = refl; marks = refl; waiting_length = refl; log_length = refl; marks_length = refl }

pub same_on : {u v w : Walk} → SameBuffers u v → SameBuffers v w → SameBuffers u w
same_on a b = record {
  waiting = a.waiting ∙ b.waiting;
  log = a.log ∙ b.log;
  marks = a.marks ∙ b.marks;
  waiting_length = a.waiting_length ∙ b.waiting_length;
  log_length = a.log_length ∙ b.log_length;
  marks_length = a.marks_length ∙ b.marks_length;
}
