use Rattle.clashing.specs.Clashes.{nodes_of}
use Rattle.counting.specs.Counting.{found_in}
use Rattle.counting.proofs.PassLaws.{left}
use Rattle.kinds.specs.Lists.{gather}
use Rattle.matching.specs.Counts.{raises}
use mathlib.Core.Path.{◌≡◌}
use Rattle.clashing.proofs.touches.touch_all.Given as goal

abbrev pub invariant-loop-node : goal.invariant-loop-node
invariant-loop-node l =
    raises (gather (nodes_of l.shapes.words.now l.shapes.starts.now l.spans) (found_in l.marks)) l.initial.counts
    ≡ raises (gather (nodes_of l.shapes.words.now l.shapes.starts.now l.spans) (left l.node-iterator)) l.counts
