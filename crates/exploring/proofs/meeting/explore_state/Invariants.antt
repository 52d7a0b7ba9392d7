use Rattle.states.proofs.ExploreLaws.{Rowing}
use Rattle.exploring.proofs.meeting.explore_state.Given as goal

abbrev pub invariant-loop-f : goal.invariant-loop-f
invariant-loop-f l = Rowing l.setting.symbols.now l.setting.tab.now l.setting.shapes l.initial.scratch l.m l.state.0 l.scratch l.states l.words l.f
