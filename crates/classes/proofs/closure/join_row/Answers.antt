use Rattle.classes.proofs.ClosureLaws.{row_none, row_skip, row_put, grown_refl, no_both}
use Rattle.classes.proofs.closure.join_row.Goals as goal
use Rattle.classes.proofs.closure.join_row.Goals.{else-dep-k, then-dep-k}

pub loop-j-init : goal.loop-j-init
loop-j-init c =
    row_none _ _ _ c.requires.few c.requires.through c.requires.row _ c.requires.square

pub loop-j-preserved : goal.loop-j-preserved
loop-j-preserved c =
    elim c.if-dep-k.branch [
      | then-dep-k w ↦ rw w.dep-is (row_put _ _ _ c.requires.few c.requires.through c.requires.row _ c.loop-j-test.true c.loop-j.invariant
          c.if-dep-i.true w.if-dep-k.true)
      | else-dep-k w ↦ rw w.dep-is (row_skip _ _ _ c.requires.few c.requires.through c.requires.row _ c.loop-j-test.true c.loop-j.invariant w.if-dep-k.false)
    ]

pub returns-else-dep-i : goal.returns-else-dep-i
returns-else-dep-i c = record { square = c.requires.square; grown = grown_refl _ _; joined = λ b h ik kb. absurd (no_both _ c.if-dep-i.false ik) }
