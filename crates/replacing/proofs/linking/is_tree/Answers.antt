use mathlib.Core.Path.{sym, ◌∙◌}
use Rattle.replacing.proofs.LawsLinks.{want_none, want_many, want_unknown, want_next, want_end}
use Rattle.replacing.proofs.linking.is_tree.Goals.{then-wanted-eq0-via-then-wanted-eq0, then-wanted-eq0-via-else-wanted-eq0+then-link-i, then-wanted-eq0-via-else-wanted-eq0+else-link-i+then-not-is_known}
use Rattle.replacing.proofs.linking.is_tree.Goals as goal

pub returns-then-wanted-eq0 : goal.returns-then-wanted-eq0
returns-then-wanted-eq0 c = elim c.then-wanted-eq0.branch [
  | then-wanted-eq0-via-then-wanted-eq0 w ↦ want_none c.loop-i.invariant c.loop-i-test.true w.if-wanted-eq0.true
  | then-wanted-eq0-via-else-wanted-eq0+then-link-i w ↦ want_many c.loop-i.invariant c.loop-i-test.true w.if-link-i.true
  | then-wanted-eq0-via-else-wanted-eq0+else-link-i+then-not-is_known w ↦
      want_unknown c.loop-i.invariant c.loop-i-test.true w.if-wanted-eq0.false (sym w.is_known.ensures ∙ w.if-not-is_known.true)
]

pub loop-i-preserved : goal.loop-i-preserved
loop-i-preserved c = want_next c.loop-i.invariant c.loop-i-test.true c.if-wanted-eq0.false (sym c.is_known.ensures ∙ c.if-not-is_known.false)
    c.count.ensures

pub returns : goal.returns
returns c = want_end c.loop-i.invariant c.loop-i-test.false
