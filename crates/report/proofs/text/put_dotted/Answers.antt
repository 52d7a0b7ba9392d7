use Rattle.report.proofs.TextLaws.{dots_next, dots_end, path_root}
use Rattle.report.proofs.text.put_dotted.Goals as goal

pub returns-in_default : goal.returns-in_default
returns-in_default c = let made =
    path_root c.args.path.now _ _ _ _ c.in_default.ensures.cases (c.put_text.ensures.count, c.put_text.ensures.buffer) in record { count = made.0; buffer = made.1.0; few = made.1.1 }

pub loop-number-preserved : goal.loop-number-preserved
loop-number-preserved c =
    dots_next _ _ c.loop-number.invariant c.loop-number-test.true c.put_digits-here-in-loop-number.ensures.count
    c.put_digits-here-in-loop-number.ensures.buffer

pub returns : goal.returns
returns c = let made =
    dots_end c.args.path.now _ _ c.loop-number.invariant c.loop-number-test.false c.in-Some.ensures.cases.0 c.put_digits-here.ensures.count c.put_digits-here.ensures.buffer
    in record { count = made.0; buffer = made.1.0; few = made.1.1 }
