use Rattle.derivatives.proofs.DeriveLaws.{fresh_from}
use Rattle.goals.specs.GoalWords.{flat}
use Rattle.goals.specs.WordStages.{freshes_w}
use Prim.Native.Nat.{◌+◌}
use lib.Seq.{sets}
use lib.ListN.{length}
use mathlib.Core.Path.{◌≡◌}
use Rattle.derivatives.proofs.derivative.put_fresh.Given as goal

abbrev pub invariant-loop-j : goal.invariant-loop-j
invariant-loop-j l = (l.next + length (fresh_from l.n l.at.0 l.j) ≡ l.to + length (flat (freshes_w l.n l.at.0)))
    × (sets l.initial.out l.to (flat (freshes_w l.n l.at.0)) ≡ sets l.out l.next (fresh_from l.n l.at.0 l.j))
