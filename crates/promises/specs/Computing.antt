-- Inside: every definition that is shut elsewhere, opened for computing: who says `unfolding computing` has all of them.
use Rattle.std.specs.Prelude.{ℕ}
use Rattle.kinds.specs.Positions.{decode_to}
use Rattle.term.specs.Reading.{children_of, head_of, reading}
use Rattle.term.specs.Spans.{over, spans_of}
use Rattle.following.specs.Following.{sibling, child_at, follow, target}
use Rattle.sections.specs.Bytes.{words_of}
use Rattle.sections.specs.Sections.{distances_of, trailer_of, over_at, symbols_of, sections_of}
use Rattle.contents.specs.Tables.{shapes_from, shapes_of, score_of}
use Rattle.folio.specs.Opening.{stored, held, opened}
use Rattle.checks.specs.Again.{symbols_good, shapes_good, score_good, piece_at, subtree_at}
use Rattle.plan.specs.Building.{cleared, build_of}
use Rattle.readers.specs.PlanParts.{pairs, counted_pairs, block_at, label_word, block_of, pair_at, pair_in, label_of, lengths_of, announcement_of, successor_of}
use Rattle.walk.specs.Starting.{started}
use Rattle.walk.specs.Stepping.{look, tried, stepped, run, run_by}
use Rattle.listing.specs.Listing.{listed}
use Rattle.queue.specs.Targets.{targets, marked, newly}
use Rattle.counting.specs.Counting.{found_from, total, counted}
use Rattle.matching.specs.Shapes.{end_of, part, shape_at}
use Rattle.matching.specs.Falling.{size, stands, falls, falling, touched, picked}
use Rattle.clashing.specs.Clashes.{clash_number, nodes_of}
use Rattle.clashing.specs.Strays.{matched, strays}
use Rattle.clashing.specs.Clashing.{clashes_in, clashes_of}
use Rattle.comparing.specs.Comparing.{mark_at, answer_of}
use Rattle.replacing.specs.Putting.{is_known, trees_in, bears, finished_at, under, piece_of, result_of, handed, put_in, put_of}
use Rattle.report.specs.Lines.{written}
use Rattle.report.specs.Paths.{child_on, path_to, path_of}
use Rattle.report.specs.Text.{digits_to, digits, dotted, path_text, lines, report}

unfoldable pub computing : ℕ
unfolding decode_to children_of head_of reading over spans_of sibling child_at follow target words_of distances_of trailer_of over_at symbols_of sections_of
    shapes_from shapes_of score_of stored held opened symbols_good shapes_good score_good piece_at subtree_at cleared build_of pairs counted_pairs block_at
    label_word block_of pair_at pair_in label_of lengths_of announcement_of successor_of started targets look marked newly tried stepped run run_by listed found_from
    total counted end_of part shape_at size stands falls falling touched picked clash_number nodes_of matched strays clashes_in clashes_of mark_at
    answer_of is_known trees_in bears finished_at under piece_of result_of handed put_in put_of child_on path_to path_of digits_to
    digits dotted path_text lines report written
computing = 0
