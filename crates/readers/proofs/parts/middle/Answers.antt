use native.Mathlib.Omega.{arith}
use Rattle.readers.proofs.LawsPairs.{fits_in}
use Rattle.readers.proofs.parts.middle.Goals as goal

pub overflow_add-result : goal.overflow_add-result
overflow_add-result c = omega (arith, fits_in c.args.plan.now c.args.b c.requires)

pub offset_bounds-plan-b : goal.offset_bounds-plan-b
offset_bounds-plan-b c = omega (arith, fits_in c.args.plan.now c.args.b c.requires)

pub bounds-plan-b : goal.bounds-plan-b
bounds-plan-b c = omega (arith, fits_in c.args.plan.now c.args.b c.requires)

pub overflow_add-result-2 : goal.overflow_add-result-2
overflow_add-result-2 c = omega (arith, fits_in c.args.plan.now c.args.b c.requires)

pub returns-clause-whole : goal.returns-clause-whole
returns-clause-whole c = fits_in c.args.plan.now c.args.b c.requires
