use mathlib.Core.Path.{sym, ◌∙◌}
use Prim.Native.Nat.{◌+◌, ◌*◌}
use native.Mathlib.Omega.{arith}
use Rattle.queue.proofs.LawsTargets as law
use Rattle.queue.proofs.queueing.append_pairs.Goals as goal

pub loop-i-preserved : goal.loop-i-preserved
loop-i-preserved c =
    let next = law.next_pair _ _ _ c.as_chunks.ensures.front c.requires.0 c.loop-i-test.true in
    c.loop-i.invariant ∙ law.items_next _ next _ (c.args.end + 2 * c.loop-i.i) _ _ c.aim.ensures (omega arith)

pub returns : goal.returns
returns c =
    let none_left = law.last_pair _ _ _ c.as_chunks.ensures.front c.requires.0 c.loop-i-test.false in
    sym (c.loop-i.invariant ∙ law.items_end _ none_left _ _)
