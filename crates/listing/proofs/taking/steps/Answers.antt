use Rattle.std.specs.Prelude.{Err, Ok, Result}
use Rattle.std.specs.Result.{MatchResult, IsErrAnd}
use Rattle.std.proofs.Common.{rules}
use Rattle.std.proofs.lemmas.Result.{err_from_is_err_and}
use mathlib.Core.Path.{◌≡◌, sym, ap, ◌∙◌}
use native.Mathlib.Omega.{arith}
use Rattle.walk.proofs.LawsLent.{same_self, same_on}
use Rattle.listing.specs.Listing.{list_outcome_in, taken}
use Rattle.listing.proofs.Turns as law
use Rattle.listing.proofs.taking.steps.Goals as goal

was_ok : {A E F : Type 0} (Q : E → F → Type 0) (r : Result A E) (q : Result A F) {x : A}
    → MatchResult r (λ y. q ≡ Ok y) (λ e. IsErrAnd q (Q e)) → q ≡ Ok x → r ≡ Ok x
was_ok Q (Ok y) q h e = cc
was_ok Q (Err f) q h e = let p = err_from_is_err_and q h in cc (p.1)

was_err : {A E F : Type 0} (Q : E → F → Type 0) (r : Result A E) (q : Result A F) {z : F} (to : E → F)
    → MatchResult r (λ y. q ≡ Ok y) (λ e. IsErrAnd q (Q e)) → q ≡ Err z → ((e : E) (x : F) → Q e x → x ≡ to e) → (e : E) × (r ≡ Err e) × (z ≡ to e)
was_err Q (Ok y) q to h e g = cc
was_err Q (Err f) q to h e g =
    let p = err_from_is_err_and q h in
    let t = g f p.0 p.2 in
    (f, λ i. Err f, cc (p.1, e, t))

pub loop-i-init : goal.loop-i-init
loop-i-init c = (sym (law.after_none _), omega arith, same_self)

pub overflow_cast-choice : goal.overflow_cast-choice
overflow_cast-choice c = omega (arith, c.type_inv.choices c.loop-i.i-counter)

pub returns-in_err-last-clause-listed : goal.returns-in_err-last-clause-listed
returns-in_err-last-clause-listed c =
    let p = err_from_is_err_and c.from_residual.result c.from_residual.ensures.1 in
    let w = was_err _ c.step.result c.map_err.result (λ e. (e, taken c.loop-i.i-counter c.loop-i.last)) c.map_err.ensures.cases c.in_err-last.was (λ e z k. search rules) in
    ap (λ a. list_outcome_in a c.step.new.self) (p.1 ∙ ap Err (p.2 ∙ w.2))
    ∙ sym (c.loop-i.invariant.0 ∙ law.stops _ _ _ _ _ _ c.loop-i-test.true _ _ _ _ _ c.step.ensures.stepped w.1)

pub loop-i-preserved : goal.loop-i-preserved
loop-i-preserved c = (
  c.loop-i.invariant.0
      ∙ law.next _ _ _ _ _ _ c.loop-i-test.true _ _ _ _ _ c.step.ensures.stepped
      (was_ok _ _ _ c.map_err.ensures.cases c.in_ok-last.was),
  omega arith,
  same_on c.step.ensures.same_buffers c.loop-i.invariant.2,
)

pub returns-clause-listed : goal.returns-clause-listed
returns-clause-listed c = sym (c.loop-i.invariant.0 ∙ law.none_left _ _ _ _ _ _ c.loop-i.invariant.1 c.loop-i-test.false)
