use Rattle.plan.proofs.BuildLaws.{ended_is, made_counts, made_stopped, made_long, made_plan, plan_writable}
use mathlib.Core.Logic.{inl, inr}
use native.Mathlib.Omega.{arith}
use Rattle.plan.proofs.building.make.Goals as goal

pub explore-requires : goal.explore-requires
explore-requires c =
    (c.requires.0, omega (arith, c.requires.1))

pub overflow_add-total : goal.overflow_add-total
overflow_add-total c =
    let s = made_counts _ _ _ c.explore.result _ _ _ c.in-Ok.is c.explore.ensures.is c.requires.0.limits.symbols.few_symbols in
    omega (arith, s.states, s.starts, s.blocks)

pub overflow_mul-total : goal.overflow_mul-total
overflow_mul-total c =
    let s = made_counts _ _ _ c.explore.result _ _ _ c.in-Ok.is c.explore.ensures.is c.requires.0.limits.symbols.few_symbols in
    omega (arith, s.states, s.starts, s.blocks)

pub overflow_add-total-in-Ok : goal.overflow_add-total-in-Ok
overflow_add-total-in-Ok c =
    let s = made_counts _ _ _ c.explore.result _ _ _ c.in-Ok.is c.explore.ensures.is c.requires.0.limits.symbols.few_symbols in
    omega (arith, s.states, s.starts, s.blocks)

pub overflow_add-total-in-Ok-2 : goal.overflow_add-total-in-Ok-2
overflow_add-total-in-Ok-2 c =
    let s = made_counts _ _ _ c.explore.result _ _ _ c.in-Ok.is c.explore.ensures.is c.requires.0.limits.symbols.few_symbols in
    omega (arith, s.states, s.starts, s.blocks)

pub returns-then-plan-total : goal.returns-then-plan-total
returns-then-plan-total c =
    let e =
    ended_is c.args.symbols.now c.args.tab.now c.args.shapes c.explore.result _ _ _
    c.in-Ok.is c.explore.ensures.is in
    made_long _ _ _ c.args.plan.now c.args.scratch.now e c.explore.ensures.behind (inl c.if-plan-total.true)

pub returns-then-total-gt65535 : goal.returns-then-total-gt65535
returns-then-total-gt65535 c =
    let e =
    ended_is c.args.symbols.now c.args.tab.now c.args.shapes c.explore.result _ _ _
    c.in-Ok.is c.explore.ensures.is in
    made_long _ _ _ c.args.plan.now c.args.scratch.now e c.explore.ensures.behind (inr c.if-total-gt65535.true)

pub write_plan-requires : goal.write_plan-requires
write_plan-requires c =
    let e =
    ended_is c.args.symbols.now c.args.tab.now c.args.shapes c.explore.result _ _ _
    c.in-Ok.is c.explore.ensures.is in
    plan_writable _ _ _ c.args.plan.now c.args.scratch.now e c.explore.ensures.behind c.requires.0
    c.if-plan-total.false c.if-total-gt65535.false

pub returns-in-Err : goal.returns-in-Err
returns-in-Err c =
    made_stopped c.args.symbols.now c.args.tab.now c.args.shapes c.args.plan.now
    c.args.scratch.now c.explore.result _ _ _ c.in-Err.is c.explore.ensures.is c.explore.ensures.behind

pub returns-else-total-gt65535 : goal.returns-else-total-gt65535
returns-else-total-gt65535 c =
    let e =
    ended_is c.args.symbols.now c.args.tab.now c.args.shapes c.explore.result _ _ _ c.in-Ok.is
    c.explore.ensures.is in
    made_plan _ _ _ c.args.plan.now c.args.scratch.now e c.explore.ensures.behind c.if-plan-total.false
    c.if-total-gt65535.false _ _ c.write_plan.ensures.is c.write_plan.ensures.spared.behind
