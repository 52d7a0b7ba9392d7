use Rattle.goals.specs.GoalKinds.{as_words}
use Rattle.derivatives.proofs.DeriveLaws.{goes, goes_out_lem, goes_not, flat_none, flat_one}
use Rattle.goals.specs.WordStages.{goes_on, with_mask}
use lib.Seq.{sets}
use lib.ListN.{length}
use mathlib.Core.Path.{ap, sym, ◌∙◌}
use native.Mathlib.Omega.{arith}
use Rattle.derivatives.proofs.derivative.put_moved.Goals as goal

pub returns-then-x-eq0 : goal.returns-then-x-eq0
returns-then-x-eq0 c = let g = as_words c.args.g in
    let e = flat_none (goes_on c.args.x g) (goes_out_lem c.args.x g c.if-x-eq0.true) in
    (omega (arith, ap length e), sym (ap (sets c.args.out.now c.args.to) e))

pub returns-then-x-ge-UNEXPECTED : goal.returns-then-x-ge-UNEXPECTED
returns-then-x-ge-UNEXPECTED c = let g = as_words c.args.g in
    let e = flat_none (goes_on c.args.x g) (goes_not c.args.x g c.if-x-eq0.false c.if-x-ge-UNEXPECTED.true) in
    (omega (arith, ap length e), sym (ap (sets c.args.out.now c.args.to) e))

pub put_goal-requires : goal.put_goal-requires
put_goal-requires c = let g = as_words c.args.g in
    let e = flat_one (goes_on c.args.x g) (with_mask g c.args.x) (goes c.args.x g c.if-x-eq0.false c.if-x-ge-UNEXPECTED.false) in
    omega (arith, ap length e)

pub returns : goal.returns
returns c =
    let g = as_words c.args.g in
    let e =
    flat_one (goes_on c.args.x g) (with_mask g c.args.x)
    (goes c.args.x g c.if-x-eq0.false c.if-x-ge-UNEXPECTED.false) in
    (omega (arith, ap length e), c.put_goal.ensures ∙ sym (ap (sets c.args.out.now c.args.to) e))
