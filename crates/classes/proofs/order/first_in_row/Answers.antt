use Rattle.goals.proofs.GoalLaws.{stored_first}
use Rattle.goals.specs.GoalWords.{no_code}
use Rattle.derivatives.proofs.OrderLaws.{first_on, first_off, first_end, first_all}
use Rattle.classes.proofs.ClassLaws.{entry, entry_is, entry_end}
use lib.ListN.{get_or}
use mathlib.Core.List.{[]}
use mathlib.Core.Path.{sym, ◌∙◌}
use native.Mathlib.Omega.{arith}
use Rattle.classes.proofs.order.first_in_row.Goals as goal
use Rattle.classes.proofs.order.first_in_row.Goals.{else-yes, then-yes}

pub first_owed-best-requires : goal.first_owed-best-requires
first_owed-best-requires c =
    rw c.goal_at.ensures
    (c.requires.stored.tabled, stored_first c.requires.stored c.loop-j.j (entry (get_or c.args.dep.now c.args.i []) _ _ c.loop-j-test.true).0)

pub loop-j-preserved : goal.loop-j-preserved
loop-j-preserved c =
    let row = get_or c.args.dep.now c.args.i [] in
    let here = c.loop-j-test.true in
    let inside = entry row _ _ here in
    elim c.if-yes.branch [
      | then-yes w ↦ rw (w.best-is, w.first_owed-best.ensures, w.goal_at.ensures)
          (c.loop-j.invariant ∙ first_on _ row _ _ _ _ inside.0 inside.1 (entry_is row _ _ here w.if-yes.true))
      | else-yes w ↦ rw w.best-is
          (c.loop-j.invariant ∙ first_off _ row _ _ _ _ inside.0 inside.1 (entry_is row _ _ here w.if-yes.false))
    ]

pub returns : goal.returns
returns c =
    let row = get_or c.args.dep.now c.args.i [] in
    let past = entry_end row _ _ (omega (arith, c.requires.stored.few, c.requires.square.cols c.args.i c.requires.row)) c.loop-j-test.false in
    sym (first_all _ row _ _ no_code ∙ c.loop-j.invariant
    ∙ first_end _ row _ _ _ _ past)
