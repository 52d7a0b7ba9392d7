use mathlib.Core.Path.{sym, ◌∙◌}
use native.Mathlib.Omega.{arith}
use Rattle.binding.proofs.LawsBinding.{words_next, words_end}
use Rattle.binding.proofs.storing.put_words.Goals as goal

pub loop-word-preserved : goal.loop-word-preserved
loop-word-preserved c = (
  c.loop-word.invariant.0 ∙ words_next _ _ _ _ c.loop-word-test.true c.put_word-here.ensures.file_after c.put_word-here.ensures.value,
  omega arith,
)

pub returns-clause-file_after : goal.returns-clause-file_after
returns-clause-file_after c = sym (c.loop-word.invariant.0 ∙ words_end _ _ _ _ c.loop-word-test.false)
