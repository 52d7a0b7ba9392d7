use native.Mathlib.Omega.{arith}
use mathlib.Core.Path.{sym, ◌∙◌}
use Rattle.term.specs.Reading.{met}
use Rattle.term.proofs.WholeTerm.{whole_term}
use Rattle.term.proofs.LawsReading.{reading_bad, reading_deep, reading_into, kids_stop, kids_next, kids_done, head_in}
use Rattle.term.proofs.reader.+read_term.Goals as goal

pub returns-in-Err : goal.returns-in-Err
returns-in-Err t c = sym (reading_bad _ _ _ _ _ (sym c.head.ensures ∙ c.in-Err.is))

pub returns-then-left-eq0 : goal.returns-then-left-eq0
returns-then-left-eq0 t c = sym (reading_deep _ _ _ _ _ (sym c.head.ensures ∙ c.in-Ok.is)
    c.if-left-eq0.true)

pub overflow_add-here : goal.overflow_add-here
overflow_add-here t c = omega (arith, head_in _ _ _ _ _ (sym c.head.ensures ∙ c.in-Ok.is))

pub loop-init : goal.loop-init
loop-init t c = reading_into _ _ _ _ _ (sym c.head.ensures ∙ c.in-Ok.is) c.if-left-eq0.false

pub returns-in-Err-read_term : goal.returns-in-Err-read_term
returns-in-Err-read_term t c =
    sym (c.loop.invariant ∙ kids_stop _ _ _ (met c.loop.here c.loop.depth) c.loop-test.true
    (sym c.read_term.ensures ∙ c.in-Err-read_term.is))

pub overflow_add-child : goal.overflow_add-child
overflow_add-child t c = let a = whole_term _ _ _ _ _ _ (sym c.read_term.ensures ∙ c.in-Ok-read_term.is) in
    omega (arith, a.flat, a.deep)

pub loop-preserved : goal.loop-preserved
loop-preserved t c =
    c.loop.invariant ∙ kids_next _ _ _ (met c.loop.here c.loop.depth) c.loop-test.true
    (sym c.read_term.ensures ∙ c.in-Ok-read_term.is) c.max-depth.ensures

pub returns : goal.returns
returns t c = sym (c.loop.invariant ∙ kids_done _ _ _ (met c.loop.here c.loop.depth) c.loop-test.false)
