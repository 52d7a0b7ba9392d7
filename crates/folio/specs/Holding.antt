-- Inside: what opening knows of the words between symbols and trailer.
--   section_words  as many words as shapes and score have in the longest file: (8,744 − 8) / 2
--   Sectioned      shapes and score back to back: m words of shapes, the first at byte `at`
use Rattle.std.specs.Prelude.{List, ℕ, ◌≤◌, length}

abbrev pub section_words : ℕ
section_words = 4368

pub record Sectioned (both : List ℕ) (m at : ℕ) : Type 0 where
  pub begins : at ≤ 65535
  pub parted : m ≤ length both
  pub short : length both ≤ section_words
