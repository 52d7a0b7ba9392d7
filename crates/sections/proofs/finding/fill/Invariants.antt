use mathlib.Core.Path.{◌≡◌}
use lib.Seq.{sets}
use Rattle.sections.specs.Bytes.{words_of}
use Rattle.sections.proofs.finding.fill.Given as goal

abbrev pub invariant-loop-k : goal.invariant-loop-k
invariant-loop-k l = (l.k-iterator.iter.size ≡ 2) × (sets l.initial.words 0 (words_of l.bytes) ≡ sets l.words l.k-iterator.count (words_of l.k-iterator.iter.rest.now))
