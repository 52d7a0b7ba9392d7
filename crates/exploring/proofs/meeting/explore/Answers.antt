use Rattle.states.proofs.ExploreLaws.{running_begin, running_on, running_stop, running_end, fresh_room}
use Rattle.decoding.proofs.GoodLaws.{ready_few}
use mathlib.Core.Path.{◌∙◌}
use native.Mathlib.Omega.{arith}
use Rattle.exploring.proofs.meeting.explore.Goals as goal

pub put_fresh-requires : goal.put_fresh-requires
put_fresh-requires c = (
  ready_few c.requires.0,
  fresh_room c.args.scratch.now c.args.setting.shapes c.requires.1 (ready_few c.requires.0)
      c.place_in.ensures,
)

pub overflow_cast-scratch : goal.overflow_cast-scratch
overflow_cast-scratch c =
    omega (arith, ready_few c.requires.0)

pub loop-i-init : goal.loop-i-init
loop-i-init c =
    (running_begin c.args.scratch.now c.requires.0 c.requires.1 c.place_in.ensures _
    c.put_fresh.ensures.1).0

pub explore_state-requires : goal.explore_state-requires
explore_state-requires c = (c.loop-i.invariant.held, c.loop-i-test.true)

pub overflow_add-words : goal.overflow_add-words
overflow_add-words c =
    let s =
    (running_on c.loop-i.invariant c.loop-i-test.true _ c.explore_state.result _ _ c.in-Ok.is c.explore_state.ensures.is
    c.explore_state.ensures.behind) in
    omega (arith, s.sum, s.below, s.held.kept.few)

pub returns-in-Err : goal.returns-in-Err
returns-in-Err c =
    record {
      is = running_stop c.loop-i.invariant c.loop-i-test.true _ c.explore_state.result _ c.in-Err.is
          c.explore_state.ensures.is;
      behind = c.explore_state.ensures.behind
          ∙ c.loop-i.invariant.behind
          ∙ (running_begin c.args.scratch.now c.requires.0 c.requires.1 c.place_in.ensures _ c.put_fresh.ensures.1).1;
    }

pub loop-i-preserved : goal.loop-i-preserved
loop-i-preserved c =
    (running_on c.loop-i.invariant c.loop-i-test.true _ c.explore_state.result _ _ c.in-Ok.is c.explore_state.ensures.is
    c.explore_state.ensures.behind)

pub returns : goal.returns
returns c = record {
  is = running_end c.loop-i.invariant c.loop-i-test.false;
  behind = c.loop-i.invariant.behind
      ∙ (running_begin c.args.scratch.now c.requires.0 c.requires.1
      c.place_in.ensures _ c.put_fresh.ensures.1).1;
}
