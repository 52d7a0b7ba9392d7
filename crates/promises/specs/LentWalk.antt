-- What stands in the three buffers that a walk is lent, behind a call.
--   Stands  the words w, with the record r: what is read through the references `left`, which the call leaves, if each of them is the one that was lent
use Rattle.std.specs.Prelude.{◌≡◌}
use Rattle.walk.specs.declared.Record.{Record}
use Rattle.walk.specs.declared.Walk.{Walk}
use Rattle.walk.specs.Lent.{walk_in}
use Rattle.walk.specs.Starting as words

abbrev pub Stands : Walk → Walk → Record → words.Walk → Type 0
Stands lent left r w =
    left.waiting.ghost_name ≡ lent.waiting.ghost_name → left.log.ghost_name ≡ lent.log.ghost_name → left.marks.ghost_name ≡ lent.marks.ghost_name
    → w ≡ walk_in left r
