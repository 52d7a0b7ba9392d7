use Rattle.tables.specs.ShapeTables.{seek_from}
use mathlib.Core.Path.{◌≡◌}
use Prim.Native.Nat.{◌≤◌, ◌+◌, ◌-◌, ◌*◌}
use Rattle.tables.proofs.filling.seek.Given as goal

abbrev pub invariant-loop : goal.invariant-loop
invariant-loop l = (l.c + 16 * (16 - l.counter) ≤ 256) × (l.here ≤ 65535) × (seek_from l.symbols l.words l.st l.r l.one 16 0 l.v ≡ seek_from l.symbols l.words l.st l.r l.one (16 - l.counter) l.c l.here)
