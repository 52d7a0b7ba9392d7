use Prim.Native.Nat.{◌≤◌}
use mathlib.Core.Path.{◌≡◌}
use Rattle.kinds.specs.Positions.{largest, code_good}
use Rattle.kinds.proofs.KindLaws.{no_zero}
use Rattle.kinds.proofs.Position.is_good.Given as goal

abbrev pub invariant-loop-rest : goal.invariant-loop-rest
invariant-loop-rest l = (l.rest ≤ largest) × (code_good l.initial.rest ≡ no_zero l.rest)

abbrev pub decreases-loop-rest : goal.decreases-loop-rest
decreases-loop-rest l = l.rest
