use Prim.Native.Nat.{◌≤◌, ◌-◌, ◌*◌}
use Rattle.contents.specs.Tables.{shapes_met, shapes_of, shapes_from}
use Rattle.contents.proofs.LawsTables.{Left}
use Rattle.contents.proofs.reading.read_shapes.Given as goal

abbrev pub invariant-loop-at : goal.invariant-loop-at
invariant-loop-at l = (l.n ≤ 16) × (l.at ≤ 16 * l.n) × Left (shapes_of l.symbols l.blanks l.words) (shapes_from l.symbols l.blanks l.words (16 - l.n) (shapes_met l.n l.depth) l.at) l.initial.starts l.starts l.n

abbrev pub decreases-loop-at : goal.decreases-loop-at
decreases-loop-at l = 16 - l.n
