use Rattle.std.proofs.Common.{arith, min, ◌^◌, ◌-◌, ◌<◌, ◌+◌, ◌≡◌, length}
use Rattle.running.proofs.Inputs.{read_more, read_all}
use Rattle.running.proofs.reading.read_whole.Goals as goal

pub loop-turn-preserved : goal.loop-turn-preserved
loop-turn-preserved g c =
    let small : length c.loop-turn.file < 2 ^ 64 = omega (arith, c.loop-turn.auto.file, c.well_formed.1.0.0) in
    read_more _ _ _ _ _ _ _ _ c.read_on.auto.file small c.saturating_add-length.ensures c.loop-turn.invariant c.in_ok-n.ensures

pub returns-then-n-eq0 : goal.returns-then-n-eq0
returns-then-n-eq0 g c =
    let none = c.if-n-eq0.true in
    let small : length c.loop-turn.file < 2 ^ 64 = omega (arith, c.loop-turn.auto.file, c.well_formed.1.0.0) in
    let sum : c.loop-turn.length ≡ min (c.loop-turn.length + c.in_ok-n.n) (2 ^ 64 - 1) = omega (arith, c.loop-turn.invariant.1, none) in
    read_all _ _ _ _ (read_more _ _ _ _ _ _ _ _ c.read_on.auto.file small sum c.loop-turn.invariant c.in_ok-n.ensures) (c.in_ok-n.ensures.3 none)
