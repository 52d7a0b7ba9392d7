-- A folio's file, from its tables: document 01, "The folio". "Words are 16 bits, low byte first."
--   bytes_of  the bytes of words
--   trailer   "three words a, b, c, the distances from the trailer's first byte back to the start of symbols, shapes and score; then the bytes 83, 67"
--   bound     symbols, shape words, score words and the trailer
--   file_of   the same of a folio's terms
use Rattle.std.specs.Prelude.{List, [], ◌∷◌, ◌++◌, ℕ, ◌+◌, ◌*◌, ◌/◌, ◌%◌, length}
use Rattle.kinds.specs.Lists.{gather}
use Rattle.term.specs.Terms.{Term, flatten}

abbrev pub bytes_of : List ℕ → List ℕ
bytes_of [] = []
bytes_of (w ∷ ws) = w % 256 ∷ w / 256 ∷ bytes_of ws

abbrev pub trailer : ℕ → ℕ → ℕ → List ℕ
trailer a b c = bytes_of (a ∷ b ∷ c ∷ []) ++ (83 ∷ 67 ∷ [])

abbrev pub body : List ℕ → List ℕ → List ℕ → List ℕ
body ar ws sc = ar ++ (bytes_of ws ++ bytes_of sc)

abbrev pub bound : List ℕ → List ℕ → List ℕ → List ℕ
bound ar ws sc = body ar ws sc ++ trailer (length (body ar ws sc)) (2 * length ws + 2 * length sc) (2 * length sc)

abbrev pub file_of : List ℕ → List Term → Term → List ℕ
file_of ar ss t = bound ar (gather flatten ss) (flatten t)
