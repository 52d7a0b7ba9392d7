use mathlib.Core.Path.{◌≡◌}
use lib.Seq.{sets}
use lib.ListN.{length, drop}
use Rattle.term.specs.Spans.{spans_of}
use Rattle.folio.proofs.storing.put_spans.Given as goal

abbrev pub invariant-loop-i : goal.invariant-loop-i
invariant-loop-i l = (l.spans ≡ sets l.initial.spans l.i (spans_of l.symbols (drop l.i l.words))) × (length l.spans ≡ length l.initial.spans)
