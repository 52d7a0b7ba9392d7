use mathlib.Core.Path.{ap, sym, ◌∙◌}
use mathlib.Core.Bool.{cond}
use native.Mathlib.Omega.{arith}
use Rattle.readers.specs.BlockWords.{begins, outs_at, nexts_at, pair_of}
use Rattle.readers.specs.PlanParts.{pair_at}
use Rattle.readers.proofs.LawsParts as law
use lib.ListN.{get_or}
use Rattle.readers.proofs.reading.find_pair.Goals as goal

pub returns-then-not-good : goal.returns-then-not-good
returns-then-not-good c = sym (law.pair_view _ _ _ c.args.nexts _ _ _
    (sym c.view_good-good.ensures ∙ c.if-not-good.true))

pub middle-requires : goal.middle-requires
middle-requires c = law.start_fits _ _ _ _ _ (sym c.block_start.ensures ∙ ap begins c.in_ok-b.was)

pub returns-then-nexts : goal.returns-then-nexts
returns-then-nexts c =
    let side = ap (λ t. cond t (pair_at c.args.states (nexts_at c.args.words.now c.in_ok-b.b) c.args.i)
    (pair_at (get_or c.args.words.now 2 0) (outs_at c.args.words.now c.in_ok-b.b) c.args.i))
    c.if-nexts.true in
    rw c.middle.ensures.place at c.pair_at.ensures ∙ sym (law.pair_in_lem _ _ _ (sym c.view_good-good.ensures ∙ c.if-not-good.false) _ _ _
    (sym c.block_start.ensures ∙ ap begins c.in_ok-b.was) c.args.nexts _ ∙ side)

pub pair_at-requires-2 : goal.pair_at-requires-2
pair_at-requires-2 c =
    omega (arith, law.start_in _ _ _ _ _ c.in_ok-b.b c.block_start.ensures c.in_ok-b.was)

pub returns-in_err-b : goal.returns-in_err-b
returns-in_err-b c =
    ap pair_of c.from_residual.ensures
    ∙ sym (law.pair_start _ _ _ (sym c.view_good-good.ensures ∙ c.if-not-good.false) _ _
    c.args.nexts _ (sym c.block_start.ensures ∙ ap begins c.in_err-b.was))

pub returns : goal.returns
returns c =
    let side = ap (λ t. cond t (pair_at c.args.states (nexts_at c.args.words.now c.in_ok-b.b) c.args.i)
    (pair_at (get_or c.args.words.now 2 0) (outs_at c.args.words.now c.in_ok-b.b) c.args.i))
    c.if-nexts.false in
    c.pair_at-2.ensures ∙ sym (law.pair_in_lem _ _ _ (sym c.view_good-good.ensures ∙ c.if-not-good.false) _ _ _
    (sym c.block_start.ensures ∙ ap begins c.in_ok-b.was) c.args.nexts _ ∙ side)
