use Rattle.states.proofs.BehindLaws.{lifted_spared, lifted_kept, met_big, met_known, met_full, met_new}
use native.Mathlib.Omega.{arith}
use Rattle.exploring.proofs.meeting.meet.Goals as goal

pub lift_behind-class-requires : goal.lift_behind-class-requires
lift_behind-class-requires c = c.requires

pub returns-then-k-gt32 : goal.returns-then-k-gt32
returns-then-k-gt32 c =
    record { is = met_big c.requires c.lift_behind-class.ensures c.if-k-gt32.true; behind = (lifted_spared c.requires c.lift_behind-class.ensures).behind }

pub find_state-requires : goal.find_state-requires
find_state-requires c =
    (lifted_kept c.requires c.lift_behind-class.ensures, (omega arith))

pub returns-then-find_state-m : goal.returns-then-find_state-m
returns-then-find_state-m c =
    record { is = met_known c.requires c.lift_behind-class.ensures c.find_state.ensures (omega arith) c.if-find_state-m.true; behind = (lifted_spared c.requires c.lift_behind-class.ensures).behind }

pub returns-then-m-eq-STATES : goal.returns-then-m-eq-STATES
returns-then-m-eq-STATES c =
    record {
      is = met_full c.requires c.lift_behind-class.ensures c.find_state.ensures (omega arith)
          c.if-find_state-m.false c.if-m-eq-STATES.true;
      behind = (lifted_spared c.requires c.lift_behind-class.ensures).behind;
    }

pub bounds-scratch-m : goal.bounds-scratch-m
bounds-scratch-m c =
    let k = lifted_kept c.requires c.lift_behind-class.ensures in omega (arith, k.long, k.few)

pub returns : goal.returns
returns c = let made =
    met_new c.requires c.lift_behind-class.ensures c.find_state.ensures (omega arith)
    c.if-find_state-m.false c.if-m-eq-STATES.false in record { is = made.0; behind = made.1 }
