use Rattle.std.proofs.Common.{rules, true, false, ◌≡◌, ◌∙◌, [], get_or}
use Rattle.std.proofs.lemmas.Iterator.{IsFirst-from_position, YieldsList-from_slice}
use Rattle.classes.proofs.ClassLaws.{leads_is}
use Rattle.classes.proofs.members.leader.Goals as goal

pub returns : goal.returns
returns c =
    let row = get_or c.args.dep.now c.args.i [] in
    c.eq.ensures ∙ leads_is row c.args.i c.position.result
    (IsFirst-from_position _ _ _ (λ b. b ≡ true) (λ b. b ≡ false) c.position.ensures.ran (YieldsList-from_slice row cc)
    (λ x q k. search rules) (λ x q k. search rules))
