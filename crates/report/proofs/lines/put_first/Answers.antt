use Rattle.report.proofs.TextLaws.{line_short, first_is}
use Rattle.report.proofs.lines.put_first.Goals as goal

pub returns-then-out-lt-LINE_BYTES : goal.returns-then-out-lt-LINE_BYTES
returns-then-out-lt-LINE_BYTES c = line_short _ _ c.if-out-lt-LINE_BYTES.true

pub returns : goal.returns
returns c =
    first_is c.args.totals c.args.out.now c.if-out-lt-LINE_BYTES.false (c.put_field-a.ensures.count, (c.put_field-a.ensures.buffer, c.put_field-a.ensures.few)) (c.put_states-b.ensures.count, (c.put_states-b.ensures.buffer, c.put_states-b.ensures.few))
    (c.put_field-c.ensures.count, (c.put_field-c.ensures.buffer, c.put_field-c.ensures.few)) (c.put_field-d.ensures.count, (c.put_field-d.ensures.buffer, c.put_field-d.ensures.few)) (c.put_field-e.ensures.count, (c.put_field-e.ensures.buffer, c.put_field-e.ensures.few)) (c.put_text-end.ensures.count, c.put_text-end.ensures.buffer)
