use Prim.Native.Nat.{◌-◌}
use mathlib.Core.Path.{◌≡◌}
use Rattle.term.specs.Reading.{reading, kids_of, met}
use Rattle.term.proofs.reader.+read_term.Given as goal

abbrev pub decreases-read_term : goal.decreases-read_term
decreases-read_term l = l.left

abbrev pub invariant-loop : goal.invariant-loop
invariant-loop l = reading l.symbols l.words l.limits l.left l.at ≡ kids_of (reading l.symbols l.words l.limits (l.left - 1)) (l.n - l.counter) (met l.here l.depth)
