use Rattle.derivatives.proofs.DeriveLaws.{born_from}
use Rattle.goals.specs.GoalWords.{flat}
use Rattle.goals.specs.WordStages.{born_w}
use Prim.Native.Nat.{◌+◌}
use lib.Seq.{sets}
use lib.ListN.{length}
use mathlib.Core.Path.{◌≡◌}
use Rattle.derivatives.proofs.derivative.put_born.Given as goal

abbrev pub invariant-loop-i : goal.invariant-loop-i
invariant-loop-i l = (l.next + length (born_from l.n l.root.0 l.k l.i) ≡ l.to + length (flat (born_w l.n l.root.0 l.k)))
    × (sets l.initial.out l.to (flat (born_w l.n l.root.0 l.k)) ≡ sets l.out l.next (born_from l.n l.root.0 l.k l.i))
