use mathlib.Core.Path.{◌∙◌}
use Rattle.std.proofs.Common.{rules}
use Rattle.std.proofs.lemmas.Iterator.Consumers.{YieldsList-from_first}
use Rattle.std.proofs.lemmas.Iterator.Search.{any_from_yields_List}
use Rattle.matching.specs.Falling.{falling}
use Rattle.matching.specs.Counts.{is_shared}
use Rattle.matching.proofs.LawsLaying.{left, shared_laid}
use Rattle.matching.proofs.touching.is_shared.Goals as goal

pub returns : goal.returns
returns c =
    any_from_yields_List (λ p. is_shared c.args.counts.now (falling c.args.blank p.0 p.1)) c.any.new.self _ _ c.any.ensures.ran
    (YieldsList-from_first (λ p. p) left {s = c.new.result} _ c.new.ensures) (λ p b q k. search rules)
    ∙ shared_laid _ _ _ _ _
