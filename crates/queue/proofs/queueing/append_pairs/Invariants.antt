use mathlib.Core.Path.{◌≡◌}
use Prim.Native.Nat.{◌+◌, ◌*◌}
use lib.ListN.{drop}
use lib.Seq.{sets}
use Rattle.following.specs.Following.{target}
use Rattle.readers.specs.PlanParts.{pair_words}
use Rattle.queue.specs.Targets.{landed}
use Rattle.readers.specs.BlockWords.{pair_list}
use Rattle.queue.proofs.queueing.append_pairs.Given as goal

abbrev pub invariant-loop-i : goal.invariant-loop-i
invariant-loop-i l =
    let to = target l.nodes l.spans l.from.0 in
    let pairs = pair_list l.plan l.at l.count in
    sets l.initial.items l.end (pair_words (landed to pairs)) ≡ sets l.items (l.end + 2 * l.i) (pair_words (landed to (drop l.i pairs)))
