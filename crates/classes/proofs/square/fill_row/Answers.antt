use Rattle.goals.specs.GoalKinds.{as_words}
use Rattle.goals.specs.declared.Goal.{Goal}
use mathlib.Core.Path.{ap₂}
use Rattle.classes.proofs.SquareLaws.{row_more}
use Rattle.classes.specs.Squares.{shares}
use Rattle.goals.proofs.GoalLaws.{stored_first}
use Rattle.goals.specs.WordStages.{dep_w}
use mathlib.Core.Path.{◌∙◌}
use native.Mathlib.Omega.{arith}
use Rattle.classes.proofs.square.fill_row.Goals as goal

pub depends-requires : goal.depends-requires
depends-requires c =
    rw (c.goal_at-g.ensures, c.goal_at.ensures) record {
      tabled = c.requires.stored.tabled;
      one = stored_first c.requires.stored c.args.i c.requires.row;
      other = stored_first c.requires.stored c.loop-j.j c.loop-j-test.true;
    }

pub loop-j-preserved : goal.loop-j-preserved
loop-j-preserved c =
    let is =
    c.depends.ensures
    ∙ ap₂ (λ (x y : Goal). dep_w c.args.tab.now (as_words x) (as_words y)) c.goal_at-g.ensures
    c.goal_at.ensures in
    row_more c.args.i (shares c.args.tab.now c.args.ws.now c.args.i) _ _ c.loop-j.j _
    (omega (arith, c.requires.row)) (omega (arith, c.loop-j-test.true)) c.loop-j.invariant is
