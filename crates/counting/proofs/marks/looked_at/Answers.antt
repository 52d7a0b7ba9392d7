use Rattle.counting.proofs.CountLaws.{count_bad, count_short, long_is}
use mathlib.Core.Path.{sym, ◌∙◌}
use Rattle.counting.proofs.marks.looked_at.Goals as goal

pub returns-then-marks-n : goal.returns-then-marks-n
returns-then-marks-n c = sym (count_short _ _ _ _ _ (sym c.score_good.ensures ∙ c.if-score_good.true) c.if-marks-n.true)

pub returns-then-score_good : goal.returns-then-score_good
returns-then-score_good c = sym (long_is _ _ _ _ (sym c.score_good.ensures ∙ c.if-score_good.true) c.if-marks-n.false)

pub returns : goal.returns
returns c = sym (count_bad _ _ _ _ _ (sym c.score_good.ensures ∙ c.if-score_good.false))
