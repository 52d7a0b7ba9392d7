use Rattle.states.proofs.ExploreLaws.{meeting_on}
use Rattle.exploring.proofs.meeting.meet_all.Goals as goal

pub loop-item-preserved : goal.loop-item-preserved
loop-item-preserved c =
    meeting_on c.loop-item.invariant c.loop-item-test.true _ c.meet.result _ _ c.in_ok-all.was c.meet.ensures.is
    c.meet.ensures.behind
