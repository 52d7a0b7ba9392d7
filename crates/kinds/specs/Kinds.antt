-- The position kind: "The root position and the largest code in use, 15,624, belong to the kind itself."
--   position      the kind of a code
--   root          the root position
--   child_of      a position followed by a child number: none for a code that is no position, a number that is not 1 to 4, or past the largest code
--   child_says    its answer in document 01's numbers
--   is_good       is it the code of a position in use
--   length_of     how many numbers it has
--   comes_before  document order
use Rattle.std.specs.Prelude.{ℕ, ◌+◌, ◌*◌, [], ◌∷◌, Bool, leb, length, None, Option, Some}
use Rattle.kinds.specs.Limits.{most_children}
use Rattle.kinds.specs.Lists.{unless}
use Rattle.kinds.specs.Positions.{before, decode, largest, code_good}
use Rattle.kinds.specs.Reasons.{Says, gives, refuses}
use Rattle.kinds.specs.declared.Reason.TheVariants.{OutOfRange}
use Rattle.kinds.specs.declared.Position.{Position}

abbrev pub position : ℕ → Position
position c = record { 0 = c }

abbrev pub root : Position
root = position 0

abbrev pub child_of : Position → ℕ → Option Position
child_of p i =
    unless (code_good p.0) None
    (unless (leb 1 i) None
    (unless (leb i most_children) None
    (unless (leb (5 * p.0 + i) largest) None
    (Some (position (5 * p.0 + i))))))

abbrev pub child_says : Option Position → Says
child_says (Some p) = gives (p.0 ∷ [])
child_says None = refuses OutOfRange 0

abbrev pub is_good : Position → Bool
is_good p = code_good p.0

abbrev pub length_of : Position → ℕ
length_of p = length (decode p.0)

abbrev pub comes_before : Position → Position → Bool
comes_before p q = before (decode p.0) (decode q.0)
