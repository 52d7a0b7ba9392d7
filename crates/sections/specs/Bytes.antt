-- "Words are 16 bits, low byte first."
--   word_at    the word at a byte offset
--   words_of   the words of bytes; a last single byte is no word
use Rattle.std.specs.Prelude.{ℕ, ◌+◌, ◌*◌, List, [], ◌∷◌, get_or}

abbrev pub word_at : List ℕ → ℕ → ℕ
word_at s at = get_or s at 0 + 256 * get_or s (at + 1) 0

unfoldable pub words_of : List ℕ → List ℕ
words_of [] = []
words_of (x ∷ []) = []
words_of (x ∷ y ∷ r) = (x + 256 * y) ∷ words_of r
