use mathlib.Core.Path.{◌∙◌}
use native.Mathlib.Omega.{arith}
use lib.Count.{ones}
use Rattle.std.proofs.Common.{rules}
use Rattle.std.proofs.lemmas.Iterator.{YieldsList-from_slice, YieldsList-from_map}
use Rattle.std.proofs.lemmas.Iterator.Consumers.{sum_by_from_yields_List}
use Rattle.counting.proofs.CountLaws.{total_ones}
use Rattle.counting.proofs.marks.ones_of.Goals as goal

pub returns : goal.returns
returns c = omega (
  arith,
  sum_by_from_yields_List ones c.args.marks.now c.map.result _ c.sum.ensures.ran
      (YieldsList-from_map _ ones (YieldsList-from_slice c.args.marks.now cc) c.map.ensures.closure (λ x r q k. search rules))
      ∙ total_ones c.args.marks.now (λ i. (c.type_inv.marks i).fits),
)
