use Rattle.replacing.proofs.LawsAdding.{Filling}
use Rattle.replacing.specs.Putting.{piece_of}
use Rattle.replacing.proofs.making.fill.Given as goal

abbrev pub invariant-loop-word : goal.invariant-loop-word
invariant-loop-word l = Filling (piece_of l.change.score.words.now l.change.score.spans.now l.change.nodes.now) l.change.link.now l.initial.made l.from l.word-index l.at l.made
