use mathlib.Core.Path.{◌≡◌, ap, sym, ◌∙◌}
use mathlib.Core.Option.{some}
use native.Mathlib.Omega.{arith}
use lib.ListN.{take}
use Rattle.report.specs.Text.{step_of}
use Rattle.report.proofs.PathLaws.{place_here, place_none, place_next, place_end, place_over, path_out}
use Rattle.report.proofs.PathLaws.{written_none_yet, written_done, written_nowhere, written_next}
use Rattle.report.proofs.text.put_path.Goals as goal

pub returns-then-spans-x-clause-path : goal.returns-then-spans-x-clause-path
returns-then-spans-x-clause-path c = sym (path_out _ _ c.if-spans-x.true)

pub loop-d-init : goal.loop-d-init
loop-d-init c = written_none_yet _ _ _ c.if-spans-x.false

pub returns-then-at-x-clause-path : goal.returns-then-at-x-clause-path
returns-then-at-x-clause-path c = written_done c.loop-d.invariant (place_here _ _ _ _ c.loop-d-test.true c.if-at-x.true)

pub returns-in-None-clause-path : goal.returns-in-None-clause-path
returns-in-None-clause-path c =
    let none_is = sym c.find_child.ensures ∙ ap step_of c.in-None.is in
    written_nowhere c.loop-d.invariant (place_none _ _ _ _ c.loop-d-test.true c.if-at-x.false none_is)

pub loop-d-preserved : goal.loop-d-preserved
loop-d-preserved c =
    let child_is = sym c.find_child.ensures ∙ ap step_of c.in-Some.is in
    let rest = place_next _ _ _ _ _ _ c.loop-d-test.true c.if-at-x.false child_is in
    written_next c.loop-d.invariant _ _ (omega arith) rest

pub returns-then-at-x-2-clause-path : goal.returns-then-at-x-2-clause-path
returns-then-at-x-2-clause-path c =
    let full : 64 ≡ c.loop-d.d = omega arith in
    ap (λ n. some (take n c.loop-d.out)) full ∙ written_done c.loop-d.invariant (place_end _ _ _ _ c.loop-d-test.false c.if-at-x-2.true)

pub returns-clause-path : goal.returns-clause-path
returns-clause-path c = written_nowhere c.loop-d.invariant (place_over _ _ _ _ c.loop-d-test.false c.if-at-x-2.false)
