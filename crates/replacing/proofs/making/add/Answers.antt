use Rattle.replacing.proofs.LawsAdding.{add_full, add_room}
use Rattle.replacing.proofs.making.add.Goals as goal

pub returns-then-made-at : goal.returns-then-made-at
returns-then-made-at c = add_full _ _ _ c.requires c.if-made-at.true

pub returns : goal.returns
returns c = add_room _ _ _ c.requires c.if-made-at.false c.copy_from_slice.ensures.after
