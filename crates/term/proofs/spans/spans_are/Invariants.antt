use mathlib.Core.Path.{◌≡◌}
use lib.ListN.{drop}
use Rattle.term.specs.Spans.{spans_of}
use Rattle.term.proofs.spans.spans_are.Given as goal

abbrev pub invariant-loop-i : goal.invariant-loop-i
invariant-loop-i l = drop l.i l.spans ≡ spans_of l.symbols (drop l.i l.words)
