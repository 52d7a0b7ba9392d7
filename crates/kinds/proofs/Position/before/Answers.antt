use mathlib.Core.Path.{ap₂, sym, ◌∙◌}
use native.Mathlib.Omega.{arith}
use borrow.Author.Tests.{ne_eqb, lt-ltb}
use lib.Dec.{ltb}
use Rattle.kinds.proofs.KindLaws.{pads_less, pads_more, pads_same}
use Rattle.kinds.proofs.Position.before.Goals as goal

pub returns-then-mine-others : goal.returns-then-mine-others
returns-then-mine-others c =
    lt-ltb _ _ c.if-mine-others.true
    ∙ sym (pads_less c.args.self.0 c.args.other.0
    (omega (arith, c.padded-mine.ensures, c.padded-others.ensures, c.if-mine-others.true)))

pub returns-then-mine-others-2 : goal.returns-then-mine-others-2
returns-then-mine-others-2 c =
    ap₂ ltb c.length.ensures c.length-then-mine-others-2.ensures
    ∙ sym (pads_same c.args.self.0 c.args.other.0
    (omega (arith, c.padded-mine.ensures, c.padded-others.ensures, c.if-mine-others-2.true)))

pub returns-else-mine-others-2 : goal.returns-else-mine-others-2
returns-else-mine-others-2 c =
    ne_eqb _ _ c.if-mine-others-2.false
    ∙ sym (pads_more c.args.self.0 c.args.other.0
    (omega (
      arith,
      c.padded-mine.ensures,
      c.padded-others.ensures,
      c.if-mine-others.false,
      c.if-mine-others-2.false,
    )))
