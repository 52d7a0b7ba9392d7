use Rattle.kinds.specs.Reasons.{refused_at}
use Rattle.std.specs.Prelude.{Err}
use native.Mathlib.Omega.{arith}
use Rattle.std.proofs.Common.{rules}
use mathlib.Core.Path.{ap, sym, ◌∙◌}
use lib.Seq.{sets}
use Rattle.kinds.specs.declared.Reason.{Reason}
use Rattle.contents.specs.Tables.{ShapesRead}
use Rattle.term.proofs.LawsReading.{whole_in}
use Rattle.contents.proofs.LawsTables.{shapes_full, shapes_refused, shapes_lone, shapes_next, shapes_done, shapes_none, shapes_some, left_first, left_end, left_next}
use Rattle.contents.proofs.reading.read_shapes.Goals as goal

pub returns-then-is_empty : goal.returns-then-is_empty
returns-then-is_empty c =
    let e = shapes_none _ c.args.blanks _ (search rules) in
    record { answer = sym (ap (λ (r : ShapesRead). r.answer) e); buffer = sym (ap (λ (r : ShapesRead). sets c.args.starts.now 0 r.starts) e) }

pub loop-at-init : goal.loop-at-init
loop-at-init c = (omega arith, omega arith, left_first _ (shapes_some _ _ _ (search rules)))

pub returns-then-n-eq-MOST_SHAPES : goal.returns-then-n-eq-MOST_SHAPES
returns-then-n-eq-MOST_SHAPES c = let made = left_end c.loop-at.invariant.2 (shapes_full _ _ _ _ _ _ c.loop-at-test.true c.if-n-eq-MOST_SHAPES.true) in record { answer = made.0; buffer = made.1 }

pub returns-in-Err : goal.returns-in-Err
returns-in-Err c =
    let w = left_end c.loop-at.invariant.2 (shapes_refused _ _ _ _ _ _ c.loop-at-test.true c.loop-at.invariant.0
    c.if-n-eq-MOST_SHAPES.false (sym c.read_term.ensures ∙ c.in-Err.is)) in
    record { answer = ap (λ (r : Reason). Err (refused_at r c.in-Err.p)) c.shape_reason.ensures ∙ w.0; buffer = w.1 }

pub returns-then-blanks-words : goal.returns-then-blanks-words
returns-then-blanks-words c = let made =
    left_end c.loop-at.invariant.2 (shapes_lone _ _ _ _ _ _ c.loop-at-test.true c.loop-at.invariant.0 c.if-n-eq-MOST_SHAPES.false
    (sym c.read_term.ensures ∙ c.in-Ok.is) c.if-blanks-words.true) in record { answer = made.0; buffer = made.1 }

pub loop-at-preserved : goal.loop-at-preserved
loop-at-preserved c =
    let e = sym c.read_term.ensures ∙ c.in-Ok.is in
    let w = whole_in _ _ _ _ _ _ e in (
      omega arith,
      omega (arith, w.few),
      left_next c.loop-at.invariant.2
          (shapes_next _ _ _ _ c.loop-at.depth _ c.loop-at-test.true c.loop-at.invariant.0 c.if-n-eq-MOST_SHAPES.false e c.if-blanks-words.false c.max-depth.ensures),
    )

pub returns : goal.returns
returns c = let made = left_end c.loop-at.invariant.2 (shapes_done _ _ _ _ _ _ _ c.loop-at-test.false) in record { answer = made.0; buffer = made.1 }
