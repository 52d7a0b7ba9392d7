use Prim.Native.Nat.{◌+◌, ◌-◌}
use mathlib.Core.Path.{◌≡◌}
use lib.ListN.{drop}
use Rattle.term.specs.Spans.{over}
use Rattle.term.proofs.spans.skip.Given as goal

abbrev pub invariant-loop : goal.invariant-loop
invariant-loop l = l.at + over l.k (drop l.at l.spans) ≡ l.here + over (l.k - l.counter) (drop l.here l.spans)
