use Rattle.report.proofs.TextLaws.{match_is}
use Rattle.report.proofs.lines.put_match.Goals as goal

pub returns : goal.returns
returns c =
    match_is c.args.node.0 c.args.shape.0 c.args.path.now _ c.args.out.now c.requires.1
    (c.put_digits-a.ensures.count, (c.put_digits-a.ensures.buffer, c.put_digits-a.ensures.few)) (c.put_field-b.ensures.count, (c.put_field-b.ensures.buffer, c.put_field-b.ensures.few)) (c.put_text-c.ensures.count, c.put_text-c.ensures.buffer) (c.put_dotted-d.ensures.count, (c.put_dotted-d.ensures.buffer, c.put_dotted-d.ensures.few)) (c.put_text-end.ensures.count, c.put_text-end.ensures.buffer)
