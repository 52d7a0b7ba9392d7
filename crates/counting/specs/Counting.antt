-- Counting in the marks: "Start and counting: 31 before 30." "Only the first n mark words are looked at."
--   Match match_at  a shape at a node
--   match_of        match number k: "by node, then shape"
--   found           its bit is set
--   found_from      the matches that marks hold, among n numbers from k on
--   found_in        all of them
--   total           "matches (ones in all marks)"
--   counted         what f says of the first n marks, or 31, or 30
--   counted_says    the answer in document 01's numbers
use Rattle.kinds.specs.declared.Reason.{Reason}
use Rattle.std.specs.Prelude.{ℕ, ◌+◌, ◌*◌, ◌/◌, ◌%◌, List, [], ◌∷◌, map, Bool, eqb, leb, length, get_or, take, Err, Ok, Result}
use Rattle.kinds.specs.Lists.{unless, filter, range}
use Rattle.kinds.specs.Bits.{bit, sum_to}
use Rattle.kinds.specs.Reasons.{Says, gives, refuses}
use Rattle.kinds.specs.declared.Reason.TheVariants.{ShortBuffers, BadScore}
use Rattle.checks.specs.Again.{score_good}

pub record Match : Type 0 where
  pub node : ℕ
  pub shape : ℕ

abbrev pub match_at : ℕ → ℕ → Match
match_at x j = record { node = x; shape = j }

abbrev pub match_of : ℕ → Match
match_of k = match_at (k / 16) (k % 16)

abbrev pub found : List ℕ → Match → Bool
found ms m = eqb (bit (get_or ms m.node 0) m.shape) 1

unfoldable pub found_from : List ℕ → ℕ → ℕ → List Match
found_from ms k n = map match_of (filter (λ i. found ms (match_of i)) (range k n))

abbrev pub found_in : List ℕ → List Match
found_in ms = found_from ms 0 (16 * length ms)

unfoldable pub total : List ℕ → ℕ
total [] = 0
total (m ∷ ms) = sum_to 16 (bit m) + total ms

unfoldable pub counted : (List ℕ → Result ℕ Reason) → List ℕ → List ℕ → List ℕ → List ℕ → Result ℕ Reason
counted f ar score spans marks =
    unless (score_good ar score spans) (Err BadScore)
    (unless (leb (length score) (length marks)) (Err ShortBuffers)
    (f (take (length score) marks)))

abbrev pub matches_of : List ℕ → List ℕ → List ℕ → List ℕ → Result ℕ Reason
matches_of ar score spans marks = counted (λ ms. Ok (total ms)) ar score spans marks

abbrev pub counted_says : Result ℕ Reason → Says
counted_says (Ok k) = gives (k ∷ [])
counted_says (Err r) = refuses r 0
