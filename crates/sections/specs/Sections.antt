-- Refusals 1 to 6: "trailer, the last 8 bytes, pointing back: three words a, b, c, the distances from the trailer's first byte back to
-- the start of symbols, shapes and score; then the bytes 83, 67." "symbols: one byte each, the number of children, 0 to 4; 1 to 32 of them."
--   granted        what a test answers that refuses nothing
--   distances_of  4, where the trailer begins at e
--   trailer_of    1 to 4
--   over_at       6: the first count above 4
--   symbols_of    5 and 6
--   sections_of   1 to 6
--   symbols_at shapes_at score_at  the three sections of a file whose places are known
use Rattle.kinds.specs.declared.Refusal.{Refusal}
use Rattle.kinds.specs.Reasons.{refused_at}
use Rattle.std.specs.Prelude.{ℕ, ◌+◌, ◌-◌, ◌%◌, List, [], ◌∷◌, leb, eqb, length, get_or, take, drop, Err, Ok, Result}
use Rattle.kinds.specs.Limits.{file_bytes, trailer_bytes, most_symbols, most_children}
use Rattle.kinds.specs.Lists.{unless}
use Rattle.kinds.specs.declared.Reason.TheVariants.{Short, Long, EndBytes, Trailer, Symbols, Children}
use Rattle.sections.specs.Bytes.{word_at, words_of}
use Rattle.sections.specs.declared.Places.{Places}

abbrev pub granted : Result Unit Refusal
granted = Ok tt

abbrev pub places : ℕ → ℕ → ℕ → Places
places s t e = record { shapes = s; score = t; end = e }

unfoldable pub distances_of : ℕ → ℕ → ℕ → ℕ → Result Places Refusal
distances_of e a b c =
    unless (eqb a e) (Err (refused_at Trailer e))
    (unless (leb b a) (Err (refused_at Trailer e))
    (unless (leb c b) (Err (refused_at Trailer e))
    (unless (eqb (b % 2) 0) (Err (refused_at Trailer e))
    (unless (eqb (c % 2) 0) (Err (refused_at Trailer e))
    (Ok (places (e - b) (e - c) e))))))

unfoldable pub trailer_of : List ℕ → Result Places Refusal
trailer_of s =
    unless (leb trailer_bytes (length s)) (Err (refused_at Short (length s)))
    (unless (leb (length s) file_bytes) (Err (refused_at Long (length s)))
    (unless (eqb (get_or s (length s - 2) 0) 83) (Err (refused_at EndBytes (length s - 2)))
    (unless (eqb (get_or s (length s - 1) 0) 67) (Err (refused_at EndBytes (length s - 2)))
    (distances_of (length s - 8) (word_at s (length s - 8)) (word_at s (length s - 6)) (word_at s (length s - 4))))))

-- i counts stand before these
unfoldable pub over_at : ℕ → List ℕ → Result Unit Refusal
over_at i [] = granted
over_at i (x ∷ xs) = unless (leb x most_children) (Err (refused_at Children i)) (over_at (i + 1) xs)

unfoldable pub symbols_of : List ℕ → Result Unit Refusal
symbols_of ar =
    unless (leb 1 (length ar)) (Err (refused_at Symbols 0))
    (unless (leb (length ar) most_symbols) (Err (refused_at Symbols 0))
    (over_at 0 ar))

module _ (file : List ℕ) (p : Places) where
  abbrev pub symbols_at : List ℕ
  symbols_at = take p.shapes file

  abbrev pub shapes_at : List ℕ
  shapes_at = words_of (take (p.score - p.shapes) (drop p.shapes file))

  abbrev pub score_at : List ℕ
  score_at = words_of (take (p.end - p.score) (drop p.score file))

abbrev pub judged : Result Unit Refusal → Result Places Refusal → Result Places Refusal
judged (Ok _) s = s
judged (Err why) s = Err why

abbrev pub with_symbols : List ℕ → Result Places Refusal → Result Places Refusal
with_symbols file (Err why) = Err why
with_symbols file (Ok p) = judged (symbols_of (symbols_at file p)) (Ok p)

unfoldable pub sections_of : List ℕ → Result Places Refusal
sections_of file = with_symbols file (trailer_of file)
