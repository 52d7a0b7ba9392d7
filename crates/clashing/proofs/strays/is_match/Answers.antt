use mathlib.Core.Path.{◌∙◌}
use Rattle.std.proofs.lemmas.Bool.Decides.{nat_tests}
use native.Mathlib.Omega.{arith}
use Rattle.clashing.proofs.PassTurns.{match_none, match_is}
use Rattle.counting.specs.Counting.{match_at}
use Rattle.clashing.proofs.strays.is_match.Goals as goal

pub returns-then-known : goal.returns-then-known
returns-then-known c = c.matches_at.ensures ∙ match_is _ _ _ _ (match_at c.args.node.0 c.args.shape.0) _ c.words_of.ensures c.if-known.true

pub returns-else-known : goal.returns-else-known
returns-else-known c = grind (arith, nat_tests, match_none c.args.shapes.words.now c.args.shapes.starts.now c.args.score.words.now c.args.score.spans.now (match_at c.args.node.0 c.args.shape.0))
