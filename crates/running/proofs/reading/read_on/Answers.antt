use Rattle.running.proofs.Inputs.{read_behind}
use Rattle.running.proofs.reading.read_on.Goals as goal

pub returns-then-length-file : goal.returns-then-length-file
returns-then-length-file g c = read_behind _ _ _ _ _ _ c.if-length-file.true c.read.auto.buf c.read.ensures.bound c.read.ensures.bytes
