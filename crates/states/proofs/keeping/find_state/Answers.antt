use Rattle.states.proofs.StateLaws.{same_there, place_all, place_here, place_next, place_end}
use Rattle.decoding.specs.WordMachine.{place_in}
use Rattle.goals.specs.GoalWords.{goals_from}
use mathlib.Core.Path.{sym, ◌∙◌}
use Rattle.states.proofs.keeping.find_state.Goals as goal

pub returns-then-same_state : goal.returns-then-same_state
returns-then-same_state c =
    let k = goals_from c.args.scratch.now (place_in c.args.m) c.args.k in
    let test =
    same_there c.args.scratch.now (place_in c.args.m) (place_in c.loop-i.i) _ _ c.args.k _ c.place_in-class.ensures c.place_in.ensures _
    c.same_state.ensures in
    sym (place_all k c.args.scratch.now c.args.m ∙ c.loop-i.invariant ∙ place_here k c.args.scratch.now c.args.m c.loop-i.i c.loop-i-test.true
    (sym test ∙ c.if-same_state.true))

pub loop-i-preserved : goal.loop-i-preserved
loop-i-preserved c =
    let k = goals_from c.args.scratch.now (place_in c.args.m) c.args.k in
    let test =
    same_there c.args.scratch.now (place_in c.args.m) (place_in c.loop-i.i) _ _ c.args.k _ c.place_in-class.ensures c.place_in.ensures _
    c.same_state.ensures in
    c.loop-i.invariant ∙ place_next k c.args.scratch.now c.args.m c.loop-i.i c.loop-i-test.true (sym test ∙ c.if-same_state.false)

pub returns : goal.returns
returns c =
    let k = goals_from c.args.scratch.now (place_in c.args.m) c.args.k in
    sym (place_all k c.args.scratch.now c.args.m ∙ c.loop-i.invariant ∙ place_end k c.args.scratch.now c.args.m c.loop-i.i c.loop-i-test.false)
