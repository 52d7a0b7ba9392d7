use Rattle.writing.proofs.WriteLaws.{Planned}
use Rattle.states.specs.Meeting.{Spared}
use Rattle.writing.proofs.blocks.write_plan.Given as goal

abbrev pub invariant-loop-i : goal.invariant-loop-i
invariant-loop-i l = Planned l.setting.symbols.now l.setting.tab.now l.setting.shapes l.initial.scratch l.m l.initial.plan l.plan l.at l.i × Spared l.m l.initial.scratch l.scratch
