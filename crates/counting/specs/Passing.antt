-- Inside: going from match to match.
--   next_of  the number of the first match that marks hold from number k on, or k + n if none of the n numbers is one
--   long_of  how many marks are looked at, or 31, or 30
use Rattle.kinds.specs.declared.Reason.{Reason}
use Rattle.std.specs.Prelude.{ℕ, zero, suc, List, cond, length, Ok, Result}
use Rattle.counting.specs.Counting.{match_of, found, counted}

unfoldable pub next_of : List ℕ → ℕ → ℕ → ℕ
next_of ms k zero = k
next_of ms k (suc n) = cond (found ms (match_of k)) k (next_of ms (suc k) n)

abbrev pub long_of : List ℕ → List ℕ → List ℕ → List ℕ → Result ℕ Reason
long_of ar score spans marks = counted (λ ms. Ok (length ms)) ar score spans marks
