use Rattle.report.proofs.TextLaws.{field_is}
use Rattle.report.proofs.text.put_field.Goals as goal

pub returns : goal.returns
returns c = let made =
    field_is _ _ c.args.text.now c.args.n (c.put_text-here.ensures.count, c.put_text-here.ensures.buffer) (c.put_digits.ensures.count, (c.put_digits.ensures.buffer, c.put_digits.ensures.few)) in record { count = made.0; buffer = made.1.0; few = made.1.1 }
