use mathlib.Core.Bool.{not}
use mathlib.Core.Path.{◌∙◌}
use Rattle.std.proofs.Common.{rules}
use Rattle.std.proofs.lemmas.Iterator.Consumers.{YieldsList-from_first}
use Rattle.std.proofs.lemmas.Iterator.Search.{any_from_yields_List}
use Rattle.counting.specs.Counting.{match_at}
use Rattle.counting.proofs.PassLaws.{left}
use Rattle.clashing.specs.Strays.{matched}
use Rattle.clashing.proofs.PassTurns.{stray_any}
use Rattle.clashing.proofs.strays.has_stray.Goals as goal

pub returns : goal.returns
returns c =
    any_from_yields_List (λ m. not (matched c.args.shapes.words.now c.args.shapes.starts.now c.args.score.words.now c.args.score.spans.now m)) c.any.new.self _ _ c.any.ensures.ran
    (YieldsList-from_first (λ p. match_at p.0.0 p.1.0) left {s = c.new.result} _ c.new.ensures) (λ p b q k. search rules)
    ∙ stray_any _ _ _ _ _
