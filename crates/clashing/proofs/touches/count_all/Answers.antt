use mathlib.Core.Logic.{inl}
use native.Mathlib.Omega.{arith}
use Prim.Native.Nat.{◌-◌, ◌*◌}
use lib.ListN.{length}
use mathlib.Core.Path.{◌∙◌}
use Rattle.std.proofs.Common.{rules}
use Rattle.std.proofs.lemmas.Iterator.Consumers.{YieldsList-at, YieldsList-from_first, YieldsList-from_filter, count_from_yields_List}
use Rattle.counting.specs.Counting.{match_at}
use Rattle.counting.proofs.PassLaws.{left, found_few}
use Rattle.matching.specs.Counts.{is_shared}
use Rattle.clashing.specs.Clashes.{nodes_of}
use Rattle.clashing.proofs.PassTurns.{share_count}
use Rattle.clashing.proofs.touches.count_all.Goals as goal

pub count-requires-clause-fits : goal.count-requires-clause-fits
count-requires-clause-fits c =
    let s = c.new.result in
    inl (rw c.filter.ensures.source (omega (arith, found_few s.marks.now s.from (16 * length s.marks.now - s.from), s.few)))

pub returns : goal.returns
returns c = omega (
  arith,
  count_from_yields_List c.filter.result _ c.count.ensures.ran
      (YieldsList-from_filter _ (λ m. is_shared c.args.counts.now (nodes_of c.args.shapes.words.now c.args.shapes.starts.now c.args.spans.now m))
      (YieldsList-at c.filter.ensures.source (YieldsList-from_first (λ p. match_at p.0.0 p.1.0) left {s = c.new.result} _ c.new.ensures))
      c.filter.ensures.closure (λ x r q k. search rules))
      ∙ share_count _ _ _,
)
