use mathlib.Core.Path.{◌≡◌}
use Prim.Native.Nat.{◌≤◌, ◌+◌, ◌-◌, ◌*◌}
use Rattle.tables.specs.ShapeTables.{span_at, span_from}
use Rattle.tables.proofs.filling.span_at.Given as goal

abbrev pub invariant-loop-i : goal.invariant-loop-i
invariant-loop-i l = (l.need + 255 * (16 - l.i) ≤ 255 * 16 + 1) × (span_at l.symbols l.words l.at ≡ l.i + span_from l.symbols l.words (16 - l.i) (l.at + l.i) l.need)
