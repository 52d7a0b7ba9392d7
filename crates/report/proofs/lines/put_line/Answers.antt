use Rattle.report.proofs.TextLaws.{match_short}
use Rattle.report.proofs.lines.put_line.Goals as goal

pub returns-then-out-lt-LINE_BYTES : goal.returns-then-out-lt-LINE_BYTES
returns-then-out-lt-LINE_BYTES c =
    match_short c.args.spans.now c.args.node.0 c.args.shape.0 c.args.out.now c.if-out-lt-LINE_BYTES.true
