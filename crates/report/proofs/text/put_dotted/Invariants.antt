use Rattle.report.proofs.TextLaws.{Dots}
use Rattle.report.proofs.text.put_dotted.Given as goal

abbrev pub invariant-loop-number : goal.invariant-loop-number
invariant-loop-number l = Dots l.rest l.initial.out l.initial.here l.out l.here l.number-index
