use Rattle.kinds.specs.Limits.{blank_word}
use Rattle.std.specs.Prelude.{is_ok}
use Prim.Native.Nat.{ℕ}
use mathlib.Core.Path.{ap, sym, ◌∙◌}
use native.Mathlib.Omega.{arith}
use lib.ListN.{replicate, length-replicate}
use Rattle.contents.proofs.LawsTables.{found_count}
use Rattle.checks.proofs.LawsAgain.{again_symbols, again_refused, again_found}
use Rattle.checks.proofs.checking.shapes_good.Goals as goal

pub returns-then-not-known : goal.returns-then-not-known
returns-then-not-known c =
    sym (again_symbols _ _ _ (ap is_ok (sym c.test_symbols.ensures) ∙ sym c.is_ok-known.ensures.value ∙ c.if-not-known.true))

pub returns-in-Err : goal.returns-in-Err
returns-in-Err c =
    sym (again_refused _ _ _ (ap is_ok (sym c.test_symbols.ensures) ∙ sym c.is_ok-known.ensures.value ∙ c.if-not-known.false)
    (sym c.read_shapes.ensures.answer ∙ c.in-Err.is))

pub slice_bounds-equal-end : goal.slice_bounds-equal-end
slice_bounds-equal-end c =
    omega (
      arith,
      found_count c.args.symbols.now blank_word c.args.shapes.words.now _
          (sym c.read_shapes.ensures.answer ∙ c.in-Ok.is),
    )

pub returns-in-Ok : goal.returns-in-Ok
returns-in-Ok c =
    c.equal.ensures ∙ sym (again_found c.args.symbols.now c.args.shapes.words.now c.args.shapes.starts.now _ (replicate {A = ℕ} 16 0) _
    (ap is_ok (sym c.test_symbols.ensures) ∙ sym c.is_ok-known.ensures.value ∙ c.if-not-known.false)
    (sym c.read_shapes.ensures.answer ∙ c.in-Ok.is) (length-replicate {A = ℕ} 16 0) c.read_shapes.ensures.buffer)
