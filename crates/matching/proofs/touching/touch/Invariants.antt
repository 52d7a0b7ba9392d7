use Rattle.matching.specs.Falling.{touched}
use Rattle.matching.specs.Counts.{raises}
use Rattle.matching.proofs.LawsLaying.{left, fallen}
use mathlib.Core.Path.{◌≡◌}
use Rattle.matching.proofs.touching.touch.Given as goal

abbrev pub invariant-loop-word : goal.invariant-loop-word
invariant-loop-word l = raises (touched l.blank l.spans l.shape l.fn.node.0) l.initial.counts ≡ raises (fallen l.blank (left l.word-iterator)) l.counts
