use mathlib.Core.Path.{◌≡◌}
use mathlib.Core.Bool.{true}
use Prim.Native.Nat.{◌+◌, ◌≤◌}
use lib.ListN.{length, drop}
use Rattle.kinds.specs.Lists.{all}
use Rattle.following.specs.Following.{target}
use Rattle.queue.specs.Targets.{marked, newly, fine, landed}
use Rattle.readers.specs.BlockWords.{pair_list}
use Rattle.queue.proofs.queueing.mark_pairs.Given as goal

abbrev pub invariant-loop-shape : goal.invariant-loop-shape
invariant-loop-shape l =
    let to = target l.nodes l.spans l.from.0 in
    let pairs = pair_list l.plan l.at l.count in
    let left = drop l.shape-index pairs in
    record {
      fine_left : all (fine 16 (length l.marks) to) left ≡ true;
      marks_left : marked (landed to pairs) l.initial.marks ≡ marked (landed to left) l.marks;
      new_left : newly (landed to pairs) l.initial.marks ≡ l.new + newly (landed to left) l.marks;
      few : l.new ≤ l.shape-index;
    }
