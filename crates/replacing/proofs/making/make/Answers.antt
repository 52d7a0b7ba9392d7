use mathlib.Core.Path.{sym}
use Rattle.replacing.proofs.LawsAdding.{added_as, added_room, made_is, made_full_1, made_full_2}
use native.Mathlib.Omega.{arith}
use Rattle.replacing.proofs.making.make.Goals as goal

pub slice_bounds-add-end : goal.slice_bounds-add-end
slice_bounds-add-end c =
    omega (arith, c.requires.0)

pub fill-requires : goal.fill-requires
fill-requires c =
    added_room (added_as c.in_ok-a.was c.add.ensures)

pub bounds-change-x : goal.bounds-change-x
bounds-change-x c = omega (arith, c.requires.1)

pub add-requires-2 : goal.add-requires-2
add-requires-2 c = added_room (added_as c.in_ok-b.was c.fill.ensures)

pub returns-in_err-a : goal.returns-in_err-a
returns-in_err-a c = added_as (sym c.from_residual.ensures) (made_full_1 _ _ _ _ _ _ (added_as c.in_err-a.was c.add.ensures))

pub returns-in_err-b : goal.returns-in_err-b
returns-in_err-b c =
    added_as (sym c.from_residual-in_err-b.ensures) (made_full_2 _ _ _ _ _ _ (added_as c.in_ok-a.was c.add.ensures)
    (added_as c.in_err-b.was c.fill.ensures))

pub returns : goal.returns
returns c =
    made_is _ _ _ _ _ _ (added_as c.in_ok-a.was c.add.ensures) (added_as c.in_ok-b.was c.fill.ensures)
    c.part.ensures c.add-2.ensures
