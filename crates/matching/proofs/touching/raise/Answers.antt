use native.Mathlib.Omega.{arith}
use mathlib.Core.Logic.{inl, inr}
use Rattle.matching.proofs.LawsFalling.{raises_one, raises_none}
use Rattle.matching.proofs.touching.raise.Goals.{else-word-blank-via-then-word-blank+else-x-counts, else-word-blank-via-else-word-blank}
use Rattle.matching.proofs.touching.raise.Goals as goal

pub returns-then-x-counts : goal.returns-then-x-counts
returns-then-x-counts c = raises_one _ _ _ _ c.if-word-blank.true (omega arith) c.saturating_add.ensures

pub returns-else-word-blank : goal.returns-else-word-blank
returns-else-word-blank c = raises_none _ _ _ _ (elim c.else-word-blank.branch [
  | else-word-blank-via-then-word-blank+else-x-counts w ↦ inr w.if-x-counts.false
  | else-word-blank-via-else-word-blank w ↦ inl w.if-word-blank.false
])
