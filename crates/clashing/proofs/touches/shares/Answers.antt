use mathlib.Core.Path.{ap, ◌∙◌}
use Rattle.counting.specs.Counting.{match_at}
use Rattle.matching.specs.Counts.{is_shared}
use Rattle.clashing.proofs.PassTurns.{nodes_are}
use Rattle.clashing.proofs.touches.shares.Goals as goal

pub returns : goal.returns
returns c =
    c.is_shared.ensures
    ∙ ap (is_shared c.args.counts.now) (nodes_are _ _ c.args.spans.now (match_at c.args.node.0 c.args.shape.0) _ c.words_of.ensures)
