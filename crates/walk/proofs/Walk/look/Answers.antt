use mathlib.Core.Path.{ap, sym, ◌∙◌}
use native.Mathlib.Omega.{arith}
use Rattle.walk.specs.ByIndex.{head_of}
use Rattle.walk.proofs.LawsStep as law
use Rattle.walk.proofs.Walk.look.Goals as goal

pub leads_fine-good-requires : goal.leads_fine-good-requires
leads_fine-good-requires c = (
  law.head_good _ _ _ _ _ _ (sym c.find_head.ensures ∙ ap head_of c.in_ok-node.was),
  law.head_fits _ _ _ _ _ _ (sym c.find_head.ensures ∙ ap head_of c.in_ok-node.was),
)

pub room_left-room-requires : goal.room_left-room-requires
room_left-room-requires c =
    record {
      fits = law.head_fits _ _ _ _ _ _
          (sym c.find_head.ensures ∙ ap head_of c.in_ok-node.was);
      waits = omega arith;
      lent = omega arith;
    }
