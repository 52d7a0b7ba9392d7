use Rattle.report.proofs.TextLaws.{line_short, refusal_is}
use Rattle.report.proofs.lines.put_refusal.Goals as goal

pub returns-then-out-lt-LINE_BYTES : goal.returns-then-out-lt-LINE_BYTES
returns-then-out-lt-LINE_BYTES c = line_short _ _ c.if-out-lt-LINE_BYTES.true

pub returns : goal.returns
returns c =
    refusal_is c.args.reason c.args.place c.args.out.now c.if-out-lt-LINE_BYTES.false c.number.ensures (c.put_field-a.ensures.count, (c.put_field-a.ensures.buffer, c.put_field-a.ensures.few))
    (c.put_field-b.ensures.count, (c.put_field-b.ensures.buffer, c.put_field-b.ensures.few)) (c.put_text-end.ensures.count, c.put_text-end.ensures.buffer)
