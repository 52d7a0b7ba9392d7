use Rattle.states.proofs.ExploreLaws.{Meeting}
use Rattle.exploring.proofs.meeting.meet_all.Given as goal

abbrev pub invariant-loop-item : goal.invariant-loop-item
invariant-loop-item l = Meeting l.derived.dep.now l.derived.goals.now l.derived.count l.order l.base l.initial.scratch l.m l.scratch l.states l.words l.item-index
