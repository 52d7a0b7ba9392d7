use Rattle.matching.proofs.LawsCovering.{keep_symbol, keep_blank}
use native.Mathlib.Omega.{arith}
use Rattle.matching.proofs.covering.keep.Goals as goal

pub returns-then-word-blank : goal.returns-then-word-blank
returns-then-word-blank c = record { nodes = keep_symbol _ _ c.args.x c.args.n c.args.nodes.now c.if-word-blank.true; most = omega arith }

pub returns : goal.returns
returns c = record { nodes = keep_blank _ _ _ _ _ c.if-word-blank.false c.requires; most = omega arith }
