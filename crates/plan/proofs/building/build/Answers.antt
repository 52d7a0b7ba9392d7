use Rattle.plan.proofs.BuildLaws.{built_bad, built_short, built_made}
use Rattle.plan.proofs.ReadyTables.{ready, plan_of_tables}
use Rattle.tables.specs.ShapeTables.{table_words}
use lib.ListN.{length, replicate}
use Prim.Native.Nat.{ℕ}
use mathlib.Core.Path.{sym, ◌∙◌}
use native.Mathlib.Omega.{arith}
use Rattle.plan.proofs.building.build.Goals as goal

pub returns-then-scratch-lt-SCRATCH_WORDS : goal.returns-then-scratch-lt-SCRATCH_WORDS
returns-then-scratch-lt-SCRATCH_WORDS c =
    sym (built_short c.args.symbols.now c.args.shapes.words.now c.args.shapes.starts.now c.args.plan.now
    c.args.scratch.now (sym c.shapes_good.ensures ∙ c.if-shapes_good.true) c.if-scratch-lt-SCRATCH_WORDS.true)

pub make-answer-requires : goal.make-answer-requires
make-answer-requires c = (
  ready c.args.symbols.now c.args.shapes.words.now c.args.shapes.starts.now (replicate {A = ℕ} table_words 0)
      c.fill_tables.new.tab (sym c.shapes_good.ensures ∙ c.if-shapes_good.true) (omega arith) c.fill_tables.ensures,
  c.if-scratch-lt-SCRATCH_WORDS.false,
)

pub returns-then-shapes_good : goal.returns-then-shapes_good
returns-then-shapes_good c =
    let good = sym c.shapes_good.ensures ∙ c.if-shapes_good.true in
    let plan_is =
    plan_of_tables c.args.symbols.now c.args.shapes.words.now c.args.shapes.starts.now (replicate {A = ℕ} table_words 0)
    c.fill_tables.new.tab (length c.args.plan.now) good (omega arith) c.fill_tables.ensures in
    built_made c.args.symbols.now c.args.shapes.words.now c.args.shapes.starts.now c.args.plan.now
    c.args.scratch.now good c.if-scratch-lt-SCRATCH_WORDS.false _ plan_is _ _ _ _ c.make-answer.ensures c.clear.ensures

pub returns : goal.returns
returns c =
    sym (built_bad c.args.symbols.now c.args.shapes.words.now c.args.shapes.starts.now c.args.plan.now
    c.args.scratch.now (sym c.shapes_good.ensures ∙ c.if-shapes_good.false))
