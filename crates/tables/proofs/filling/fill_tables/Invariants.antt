use mathlib.Core.Path.{◌≡◌}
use Prim.Native.Nat.{◌-◌}
use lib.Seq.{sets}
use Rattle.tables.specs.ShapeTables.{entries_from, table_words}
use Rattle.tables.proofs.filling.fill_tables.Given as goal

abbrev pub invariant-loop-k : goal.invariant-loop-k
invariant-loop-k l = sets l.initial.word-items 0 (entries_from l.symbols l.words l.starts 0 table_words) ≡ sets l.word-items l.k (entries_from l.symbols l.words l.starts l.k (table_words - l.k))
