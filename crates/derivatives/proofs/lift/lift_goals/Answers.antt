use Rattle.derivatives.proofs.LiftLaws.{lifting_next, lifting_end}
use Prim.Native.Nat.{◌+◌, ◌*◌}
use lib.ListN.{set}
use mathlib.Core.Path.{ap, sym, ◌∙◌}
use Rattle.derivatives.proofs.lift.lift_goals.Goals as goal

pub loop-i-preserved : goal.loop-i-preserved
loop-i-preserved c =
    c.loop-i.invariant ∙ lifting_next c.args.top.0 c.loop-i.ws c.args.at c.args.n c.loop-i.i c.loop-i-test.true _
    (ap (set c.loop-i.ws (c.args.at + 3 * c.loop-i.i + 1)) c.under.ensures)

pub returns : goal.returns
returns c = sym (c.loop-i.invariant ∙ lifting_end c.args.top.0 c.loop-i.ws c.args.at c.args.n c.loop-i.i c.loop-i-test.false)
