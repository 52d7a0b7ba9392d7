use Rattle.running.specs.Input.{HoldsRead}
use Rattle.running.proofs.reading.read_whole.Given as goal

abbrev pub invariant-loop-turn : goal.invariant-loop-turn
invariant-loop-turn g l = HoldsRead (g.R.Read.remaining l.initial.input) (g.R.Read.remaining l.input) l.file l.length
