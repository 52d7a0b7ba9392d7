use Rattle.matching.specs.Falling.{covered}
use Rattle.matching.proofs.LawsCovering.{Covering}
use Rattle.matching.proofs.LawsLaying.{left}
use lib.ListN.{length}
use Rattle.matching.proofs.covering.cover.Given as goal

abbrev pub invariant-loop-word : goal.invariant-loop-word
invariant-loop-word l = Covering l.blank (length l.shape) (covered l.blank l.spans l.shape l.fn.node.0) (left l.word-iterator) l.nodes l.n
