use mathlib.Core.Path.{refl, ◌∙◌}
use native.Mathlib.Nat.{sub-zero}
use Prim.Native.Nat.{◌+◌}
use Rattle.std.proofs.Common.{rules}
use Rattle.std.proofs.lemmas.Iterator.{YieldsList-from_range}
use Rattle.std.proofs.lemmas.Iterator.Search.{any_from_yields_List}
use Rattle.replacing.specs.Putting.{bears}
use Rattle.replacing.proofs.LawsLinks.{finished_any}
use Rattle.replacing.proofs.finished.is_finished.Goals as goal

pub returns : goal.returns
returns c =
    any_from_yields_List (bears c.args.score.words.now c.args.score.spans.now c.args.node.0 c.args.finished.0) c.any.new.self _ _ c.any.ensures.ran
    (YieldsList-from_range 0 (c.args.node.0 + 1) (c.args.node.0 + 1) refl (sub-zero (c.args.node.0 + 1))) (λ y b q k. search rules)
    ∙ finished_any _ _ _ _
