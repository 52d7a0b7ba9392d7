use mathlib.Core.Path.{refl, ap, sym, ◌∙◌}
use Prim.Native.Nat.{ℕ, ◌+◌}
use lib.ListN.{get_or}
use Rattle.readers.proofs.LawsParts as law
use Rattle.readers.proofs.pairs.pair_at.Goals as goal

pub returns-then-n-i : goal.returns-then-n-i
returns-then-n-i c = sym (law.pair_none _ _ _ _ _ c.if-n-i.true)

pub returns-then-limit-number : goal.returns-then-limit-number
returns-then-limit-number c =
    sym (law.pair_number c.args.plan.now (c.args.at + 1) c.args.limit (get_or c.args.plan.now c.args.at 0)
    c.args.i _ _ c.if-n-i.false refl
    (ap (λ (k : ℕ). get_or c.args.plan.now k 0) (law.second c.args.at c.args.i)) c.if-limit-number.true)

pub returns-then-not-good : goal.returns-then-not-good
returns-then-not-good c =
    sym (law.pair_code c.args.plan.now (c.args.at + 1) c.args.limit (get_or c.args.plan.now c.args.at 0)
    c.args.i _ _ c.if-n-i.false refl
    (ap (λ (k : ℕ). get_or c.args.plan.now k 0) (law.second c.args.at c.args.i)) c.if-limit-number.false
    (sym c.is_good-good.ensures ∙ c.if-not-good.true))

pub returns : goal.returns
returns c =
    sym (law.pair_some c.args.plan.now (c.args.at + 1) c.args.limit (get_or c.args.plan.now c.args.at 0)
    c.args.i _ _ c.if-n-i.false refl
    (ap (λ (k : ℕ). get_or c.args.plan.now k 0) (law.second c.args.at c.args.i)) c.if-limit-number.false
    (sym c.is_good-good.ensures ∙ c.if-not-good.false))
