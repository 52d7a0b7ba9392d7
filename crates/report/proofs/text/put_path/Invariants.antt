use Rattle.report.proofs.PathLaws.{Written}
use Rattle.report.proofs.text.put_path.Given as goal

abbrev pub invariant-loop-d : goal.invariant-loop-d
invariant-loop-d l = Written l.spans l.x l.out l.d l.at
