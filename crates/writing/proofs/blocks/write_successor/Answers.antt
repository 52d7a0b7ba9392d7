use Rattle.states.proofs.BehindLaws.{lifted_spared, lifted_kept, lifted_place}
use Rattle.writing.proofs.WriteLaws.{two_stores, place_small}
use lib.Seq.{sets}
use mathlib.Core.List.{[], ◌∷◌}
use mathlib.Core.Path.{ap₂, ◌∙◌}
use native.Mathlib.Omega.{arith}
use Rattle.writing.proofs.blocks.write_successor.Goals as goal

pub lift_behind-class-requires : goal.lift_behind-class-requires
lift_behind-class-requires c = c.requires.class

pub find_state-requires : goal.find_state-requires
find_state-requires c =
    (lifted_kept c.requires.class c.lift_behind-class.ensures, omega (arith, c.lift_behind-class.ensures.0, c.requires.small))

pub overflow_cast-plan : goal.overflow_cast-plan
overflow_cast-plan c =
    omega (
      arith,
      place_small (lifted_kept c.requires.class c.lift_behind-class.ensures) _ _
          c.find_state.ensures,
    )

pub returns : goal.returns
returns c =
    record {
      is = two_stores c.args.plan.now c.args.at _ _
          ∙ ap₂ (λ x y. sets c.args.plan.now c.args.at (x ∷ y ∷ []))
          (lifted_place c.requires.class c.lift_behind-class.ensures c.find_state.ensures)
          c.lift_behind-class.ensures.1.0;
      spared = lifted_spared c.requires.class c.lift_behind-class.ensures;
    }
