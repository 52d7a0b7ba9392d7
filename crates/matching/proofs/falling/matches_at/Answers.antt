use mathlib.Core.Path.{◌∙◌}
use Rattle.std.proofs.Common.{rules}
use Rattle.std.proofs.lemmas.Iterator.Consumers.{YieldsList-from_first}
use Rattle.std.proofs.lemmas.Iterator.Search.{all_from_yields_List}
use Rattle.matching.specs.Falling.{stands}
use Rattle.matching.proofs.LawsLaying.{left, falls_laid}
use Rattle.matching.proofs.falling.matches_at.Goals as goal

pub returns : goal.returns
returns c =
    all_from_yields_List (λ p. stands c.args.blank c.args.score.words.now p.0 p.1) c.all.new.self _ _ c.all.ensures.ran
    (YieldsList-from_first (λ p. p) left {s = c.new.result} _ c.new.ensures) (λ p b q k. search rules)
    ∙ falls_laid _ _ _ _ _
