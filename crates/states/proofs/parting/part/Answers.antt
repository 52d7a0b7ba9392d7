use Rattle.states.proofs.PartLaws.{state_stored, derivable, derived, parted}
use native.Mathlib.Omega.{arith}
use Rattle.states.proofs.parting.part.Goals as goal

pub outputs-announced-requires : goal.outputs-announced-requires
outputs-announced-requires c =
    (state_stored c.requires.0 c.place_in-at.ensures, omega (arith, c.requires.0.count, c.requires.1.outs))

pub derive-d-requires : goal.derive-d-requires
derive-d-requires c = (
  state_stored c.requires.0 c.place_in-at.ensures,
  derivable c.requires.0 c.place_in-at.ensures c.args.goals.now
      c.requires.1.room,
)

pub dependency-requires : goal.dependency-requires
dependency-requires c = (
  (derived c.requires.0 c.place_in-at.ensures _ _ _ c.derive-d.ensures c.requires.1.room).stored,
  c.requires.1.square,
)

pub class_order-classes-requires : goal.class_order-classes-requires
class_order-classes-requires c =
    let s = (derived c.requires.0 c.place_in-at.ensures _ _ _ c.derive-d.ensures c.requires.1.room).stored in
    record { stored = s; square = c.dependency.ensures.square; room = omega (arith, s.few, c.requires.1.rows) }

pub returns : goal.returns
returns c =
    parted c.requires.0 c.place_in-at.ensures c.requires.1 _ _ _ _ _ _ _ c.outputs-announced.ensures c.derive-d.ensures c.dependency.ensures
    c.class_order-classes.ensures
