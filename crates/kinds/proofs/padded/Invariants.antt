use Prim.Native.Nat.{◌*◌, ◌-◌, ◌^◌}
use mathlib.Core.Path.{◌≡◌}
use Rattle.kinds.specs.Positions.{decode, pad_to}
use Rattle.kinds.proofs.padded.Given as goal

abbrev pub invariant-loop : goal.invariant-loop
invariant-loop l = l.code * 5 ^ (7 - l.counter) ≡ pad_to 7 (decode l.fn.p.0)
