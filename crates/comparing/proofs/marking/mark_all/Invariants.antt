use mathlib.Core.Path.{◌≡◌}
use lib.ListN.{length}
use Rattle.comparing.proofs.MarkLaws.{MarksFrom}
use Rattle.comparing.specs.Comparing.{mark_at}
use Rattle.comparing.proofs.marking.mark_all.Given as goal

abbrev pub invariant-loop-x : goal.invariant-loop-x
invariant-loop-x l =
    MarksFrom (mark_at l.shapes.words.now l.shapes.starts.now l.score.words.now l.score.spans.now) l.n l.initial.marks l.marks l.sum l.x
    × (length l.marks ≡ length l.initial.marks)
