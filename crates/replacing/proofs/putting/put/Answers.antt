use Rattle.replacing.proofs.LawsPutting.{put_shapes, put_score, put_out_lem, put_not, put_finished, put_goes, short_shape, as_long}
use mathlib.Core.Path.{ap, sym, ◌∙◌}
use lib.ListN.{length}
use native.Mathlib.Omega.{arith}
use Rattle.replacing.proofs.putting.put.Goals as goal

pub returns-then-not-shapes_good : goal.returns-then-not-shapes_good
returns-then-not-shapes_good c = put_shapes _ _ _ _ _ _ _ _ _ _ (sym c.shapes_good.ensures ∙ c.if-not-shapes_good.true)

pub returns-then-not-score_good : goal.returns-then-not-score_good
returns-then-not-score_good c = put_score _ _ _ _ _ _ _ _ _ _ (sym c.shapes_good.ensures
    ∙ c.if-not-shapes_good.false) (sym c.score_good.ensures ∙ c.if-not-score_good.true)

pub returns-then-score-node : goal.returns-then-score-node
returns-then-score-node c = put_out_lem _ _ _ _ _ _ _ _ _ _ (sym c.shapes_good.ensures
    ∙ c.if-not-shapes_good.false) (sym c.score_good.ensures
    ∙ c.if-not-score_good.false) c.if-score-node.true

pub returns-then-not-is_match : goal.returns-then-not-is_match
returns-then-not-is_match c =
    put_not _ _ _ _ _ _ _ _ _ _ (sym c.shapes_good.ensures ∙ c.if-not-shapes_good.false) (sym
    c.score_good.ensures ∙ c.if-not-score_good.false)
    c.if-score-node.false (sym c.is_match.ensures ∙ c.if-not-is_match.true)

pub is_finished-requires : goal.is_finished-requires
is_finished-requires c = (
  c.if-score-node.false,
  omega (
    arith,
    c.if-score-node.false,
    as_long _ _ _ (sym c.score_good.ensures
        ∙ c.if-not-score_good.false),
  ),
)

pub returns-then-is_finished : goal.returns-then-is_finished
returns-then-is_finished c =
    put_finished _ _ _ _ _ _ _ _ _ _ (sym c.shapes_good.ensures ∙ c.if-not-shapes_good.false) (sym c.score_good.ensures
    ∙ c.if-not-score_good.false) c.if-score-node.false (sym c.is_match.ensures
    ∙ c.if-not-is_match.false) (sym c.is_finished.ensures ∙ c.if-is_finished.true)

pub put_in-requires : goal.put_in-requires
put_in-requires c = (
  omega (
    arith,
    ap length c.words_of.ensures,
    short_shape _ _ _ c.args.shape.0 (sym c.shapes_good.ensures
        ∙ c.if-not-shapes_good.false),
  ),
  c.if-score-node.false,
  omega (
    arith,
    c.if-score-node.false,
    as_long _ _ _ (sym c.score_good.ensures
        ∙ c.if-not-score_good.false),
  ),
)

pub returns : goal.returns
returns c =
    put_goes _ _ _ _ _ _ _ _ _ _ (sym c.shapes_good.ensures ∙ c.if-not-shapes_good.false) (sym c.score_good.ensures
    ∙ c.if-not-score_good.false) c.if-score-node.false (sym c.is_match.ensures ∙ c.if-not-is_match.false) (sym c.is_finished.ensures
    ∙ c.if-is_finished.false) c.words_of.ensures c.put_in.ensures
