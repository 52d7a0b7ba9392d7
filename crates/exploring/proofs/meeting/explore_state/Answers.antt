use Rattle.states.proofs.ExploreLaws.{rowing_symbol, rowing_on, rowing_end}
use Rattle.states.proofs.PartLaws.{held_good, held_stored, label_there}
use Rattle.decoding.proofs.GoodLaws.{good_label}
use native.Mathlib.Omega.{arith}
use Rattle.exploring.proofs.meeting.explore_state.Goals as goal

pub label-c-requires : goal.label-c-requires
label-c-requires c =
    held_stored c.requires.0 c.requires.1 c.place_in.ensures

pub overflow_cast-c : goal.overflow_cast-c
overflow_cast-c c =
    omega (
      arith,
      label_there c.args.setting.tab.now c.args.scratch.now c.args.state.0 c.place_in.ensures
          c.label-c.ensures,
      good_label (held_good c.requires.0 c.requires.1),
    )

pub overflow_cast-transition : goal.overflow_cast-transition
overflow_cast-transition c =
    omega (arith, c.loop-f-test.true, (held_good c.requires.0 c.requires.1).ready.limits.symbols.few_symbols)

pub explore_symbol-requires : goal.explore_symbol-requires
explore_symbol-requires c = (
  c.loop-f.invariant.held.kept,
  rowing_symbol c.loop-f.invariant c.loop-f-test.true _
      (label_there c.args.setting.tab.now c.args.scratch.now c.args.state.0
      c.place_in.ensures c.label-c.ensures),
)

pub overflow_add-words : goal.overflow_add-words
overflow_add-words c =
    let s =
    rowing_on c.loop-f.invariant c.loop-f-test.true _ c.explore_symbol.result _ _ c.in_ok-all.was
    c.explore_symbol.ensures.is c.explore_symbol.ensures.behind in
    omega (arith, s.sum, s.below, (held_good c.requires.0 c.requires.1).ready.limits.symbols.few_symbols)

pub loop-f-preserved : goal.loop-f-preserved
loop-f-preserved c =
    rowing_on c.loop-f.invariant c.loop-f-test.true _ c.explore_symbol.result _ _ c.in_ok-all.was
    c.explore_symbol.ensures.is c.explore_symbol.ensures.behind

pub returns : goal.returns
returns c = record { is = rowing_end c.loop-f.invariant c.loop-f-test.false (held_good c.requires.0 c.requires.1).ready.limits.symbols.few_symbols; behind = c.loop-f.invariant.behind }
