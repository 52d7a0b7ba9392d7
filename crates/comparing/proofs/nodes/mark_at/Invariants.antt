use Rattle.comparing.proofs.LawsComparing.{MarkFrom}
use Rattle.comparing.proofs.nodes.mark_at.Given as goal

abbrev pub invariant-loop-j : goal.invariant-loop-j
invariant-loop-j l = MarkFrom l.shapes.words.now l.shapes.starts.now l.score.words.now l.score.spans.now l.fn.node.0 l.mark l.j l.end
