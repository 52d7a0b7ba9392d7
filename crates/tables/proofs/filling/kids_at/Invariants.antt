use Rattle.tables.specs.ShapeTables.{kids_from, kids_at}
use mathlib.Core.Path.{◌≡◌}
use Prim.Native.Nat.{◌≤◌, ◌+◌, ◌-◌, ◌*◌}
use Rattle.tables.proofs.filling.kids_at.Given as goal

abbrev pub invariant-loop : goal.invariant-loop
invariant-loop l = (l.c + 16 * (16 - l.counter) ≤ 300) × (l.mask ≤ 65535) × (kids_at l.symbols l.words l.st l.r ≡ kids_from l.symbols l.words l.st l.end (16 - l.counter) l.c l.mask) × (l.end ≤ 31)
