-- "A position is a list of child numbers from 1. Its code is 0 for the root, and five times the code of p plus i for p followed by i."
--   Pos        a list of child numbers
--   before     "Document order: a position before those under it, and children from left to right."
--   prefix        one position stands above another, or is it
--   common_prefix  the greatest common prefix of two
--   strip      what is left of a position below a prefix of it
--   code       the code of a position
--   decode     the base-five digits of a code, the first one first
--   pad_to     the number of k base-five digits that a position begins, the missing ones 0
--   largest    "the largest code in use, 15,624"
--   code_good  "each code met is 0, or at most 15,624 with no 0 among its base-five digits"
use Rattle.std.specs.Prelude.{List, [], ◌∷◌, ◌++◌, Bool, true, false, cond, ◌&&◌, ◌||◌, ℕ, zero, suc, ◌+◌, ◌*◌, ◌/◌, ◌%◌, ◌^◌, eqb, ltb, leb}
use Rattle.kinds.specs.Lists.{all}

abbrev pub Pos : Type 0
Pos = List ℕ

abbrev pub before : Pos → Pos → Bool
before [] [] = false
before [] (j ∷ q) = true
before (i ∷ p) [] = false
before (i ∷ p) (j ∷ q) = ltb i j || (eqb i j && before p q)

abbrev pub prefix : Pos → Pos → Bool
prefix [] q = true
prefix (i ∷ r) [] = false
prefix (i ∷ r) (j ∷ q) = eqb i j && prefix r q

abbrev pub common_prefix : Pos → Pos → Pos
common_prefix [] q = []
common_prefix (i ∷ p) [] = []
common_prefix (i ∷ p) (j ∷ q) = cond (eqb i j) (i ∷ common_prefix p q) []

-- p' with p = g.p'; nothing is asked of a p that g is no prefix of
abbrev pub strip : Pos → Pos → Pos
strip [] p = p
strip (i ∷ g) [] = []
strip (i ∷ g) (j ∷ p) = strip g p

abbrev pub code_from : ℕ → Pos → ℕ
code_from c [] = c
code_from c (i ∷ p) = code_from (5 * c + i) p

abbrev pub code : Pos → ℕ
code p = code_from 0 p

unfoldable pub decode_to : ℕ → ℕ → Pos
decode_to zero c = []
decode_to (suc k) c = let up = decode_to k (c / 5) in cond (eqb c 0) [] (up ++ (c % 5 ∷ []))

-- seven digits hold any word
abbrev pub decode : ℕ → Pos
decode c = decode_to 7 c

abbrev pub pad_to : ℕ → Pos → ℕ
pad_to zero p = 0
pad_to (suc k) [] = 0
pad_to (suc k) (i ∷ p) = i * 5 ^ k + pad_to k p

abbrev pub largest : ℕ
largest = 15624

abbrev pub code_good : ℕ → Bool
code_good c = leb c largest && all (λ d. ltb 0 d) (decode c)
