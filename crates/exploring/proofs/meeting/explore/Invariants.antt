use Rattle.states.proofs.ExploreLaws.{Running}
use Prim.Native.Nat.{◌-◌}
use Rattle.exploring.proofs.meeting.explore.Given as goal

abbrev pub invariant-loop-i : goal.invariant-loop-i
invariant-loop-i l = Running l.setting.symbols.now l.setting.tab.now l.setting.shapes l.initial.scratch l.scratch l.m l.words l.i

abbrev pub decreases-loop-i : goal.decreases-loop-i
decreases-loop-i l = 128 - l.i
