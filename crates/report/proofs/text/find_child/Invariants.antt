use Prim.Native.Nat.{◌-◌}
use mathlib.Core.Path.{◌≡◌}
use Rattle.report.specs.Paths.{child_on, child_of}
use Rattle.report.proofs.text.find_child.Given as goal

abbrev pub invariant-loop-k : goal.invariant-loop-k
invariant-loop-k l = child_of l.spans l.x l.at ≡ child_on l.spans l.end l.x (5 - l.k) l.here l.k
