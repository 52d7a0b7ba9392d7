use Rattle.writing.proofs.WriteLaws.{Rowed}
use Rattle.states.specs.Meeting.{Spared}
use Rattle.writing.proofs.blocks.write_row.Given as goal

abbrev pub invariant-loop-f : goal.invariant-loop-f
invariant-loop-f l = Rowed l.setting.tab.now l.setting.shapes l.initial.scratch l.m l.state.0 l.setting.symbols.now l.starts l.at l.initial.plan l.plan l.here l.f × Spared l.m l.initial.scratch l.scratch
