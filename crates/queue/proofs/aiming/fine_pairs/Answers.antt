use Rattle.std.proofs.Common.{◌∙◌, rules}
use Rattle.std.proofs.lemmas.Iterator.{YieldsList-from_slice}
use Rattle.std.proofs.lemmas.Iterator.Search.{all_from_yields_List}
use Rattle.following.specs.Following.{target}
use Rattle.queue.specs.Targets.{fine}
use Rattle.queue.proofs.LawsTargets as law
use Rattle.queue.proofs.aiming.fine_pairs.Goals as goal

pub returns : goal.returns
returns c =
    let ok = fine c.args.limit c.args.room (target c.args.nodes c.args.spans.now c.args.from.0) in
    all_from_yields_List (λ x. ok (law.couple x)) _ _ _ c.all.ensures.ran (YieldsList-from_slice c.as_chunks.result.0.now cc) (λ x b q k. search rules)
    ∙ law.all_pairs _ _ _ c.as_chunks.ensures.front c.requires ok
