use native.Mathlib.Omega.{arith}
use Rattle.std.proofs.Common.{rules}
use Prim.Native.Nat.{◌^◌}
use Rattle.matching.proofs.LawsLaying.{laid_next, laid_end, laid_length, near_next}
use Rattle.matching.proofs.laying.LayingIterator.next.Goals as goal

pub returns-in_err-first-clause-steps : goal.returns-in_err-first-clause-steps
returns-in_err-first-clause-steps c = rw c.from_residual.ensures (laid_end _ _ _ _ c.in_err-first.ensures.cases, laid_end _ _ _ _ c.in_err-first.ensures.cases)

pub invariant_of-self : goal.invariant_of-self
invariant_of-self c = record {
  room = omega (arith, c.in_ok-first.ensures.cases.1, c.args.self.now.room);
  near = near_next _ _ _ (2 ^ 63) c.in_ok-first.ensures.cases.0 c.args.self.now.room c.args.self.now.near c.size.ensures.is c.size.ensures.small;
}

pub returns-clause-steps : goal.returns-clause-steps
returns-clause-steps c = laid_next _ _ _ c.in_ok-first.ensures.cases.0 c.size.ensures.is

pub returns-clause-goes : goal.returns-clause-goes
returns-clause-goes c = search (rules, laid_length)
