use Prim.Native.Nat.{◌+◌, ◌*◌}
use mathlib.Core.Path.{◌≡◌}
use lib.Seq.{sets}
use lib.ListN.{drop}
use Rattle.folio.specs.Files.{bytes_of}
use Rattle.binding.proofs.storing.put_words.Given as goal

abbrev pub invariant-loop-word : goal.invariant-loop-word
invariant-loop-word l = (sets l.initial.file l.at (bytes_of l.words) ≡ sets l.file l.here (bytes_of (drop l.word-index l.words))) × (l.here ≡ l.at + 2 * l.word-index)
