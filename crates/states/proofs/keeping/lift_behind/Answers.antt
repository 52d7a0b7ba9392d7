use Rattle.states.proofs.BehindLaws.{class_room, class_goals, class_lifted}
use Rattle.states.proofs.keeping.lift_behind.Goals as goal

pub put_class-requires : goal.put_class-requires
put_class-requires c =
    record { squared = c.requires.squared; row = c.requires.row; room = class_room c.requires c.place_in-at.ensures }

pub lift_class-top-requires : goal.lift_class-top-requires
lift_class-top-requires c =
    class_goals c.requires c.place_in-at.ensures c.put_class.ensures

pub returns : goal.returns
returns c =
    class_lifted c.requires c.place_in-at.ensures c.put_class.ensures c.lift_class-top.ensures
