use Rattle.report.proofs.DigitLaws.{digits_none, digits_single, digits_more}
use Rattle.report.proofs.text.+put_digits.Goals as goal

pub returns-then-left-eq0 : goal.returns-then-left-eq0
returns-then-left-eq0 t c = let made =
    digits_none c.args.n c.args.left c.args.out.now c.args.at c.if-left-eq0.true in record { count = made.0; buffer = made.1.0; few = made.1.1 }

pub returns-then-n-lt10 : goal.returns-then-n-lt10
returns-then-n-lt10 t c = let made =
    digits_single c.args.n c.args.left c.args.out.now c.args.at c.if-left-eq0.false c.if-n-lt10.true in record { count = made.0; buffer = made.1.0; few = made.1.1 }

pub returns : goal.returns
returns t c = let made =
    digits_more c.args.n c.args.left c.args.out.now c.args.at _ _
    c.if-left-eq0.false c.if-n-lt10.false (c.put_digits-e.ensures.count, (c.put_digits-e.ensures.buffer, c.put_digits-e.ensures.few)) in record { count = made.0; buffer = made.1.0; few = made.1.1 }
