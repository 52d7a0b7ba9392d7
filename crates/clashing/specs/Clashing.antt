-- "Counting clashes is now lent the shapes too. Refusals: 19, then 31 and 30 as before, then 35 if a bit is set where no such shape matches."
--   clashes_in  of marks for the score's nodes: 35, or the clash number
--   clashes_of  19, 31, 30, or that
use Rattle.kinds.specs.declared.Reason.{Reason}
use Rattle.std.specs.Prelude.{List, not, ℕ, Err, Ok, Result}
use Rattle.kinds.specs.Lists.{unless}
use Rattle.kinds.specs.declared.Reason.TheVariants.{BadShapes, NoSuchMatch}
use Rattle.checks.specs.Again.{shapes_good}
use Rattle.counting.specs.Counting.{found_in, counted}
use Rattle.clashing.specs.Clashes.{clash_number, nodes_of}
use Rattle.clashing.specs.Strays.{strays}

unfoldable pub clashes_in : List ℕ → List ℕ → List ℕ → List ℕ → List ℕ → Result ℕ Reason
clashes_in ws st score spans ms =
    unless (not (strays ws st score spans (found_in ms))) (Err NoSuchMatch)
    (Ok (clash_number (nodes_of ws st spans) (found_in ms)))

unfoldable pub clashes_of : List ℕ → List ℕ → List ℕ → List ℕ → List ℕ → List ℕ → Result ℕ Reason
clashes_of ar ws st score spans marks =
    unless (shapes_good ar ws st) (Err BadShapes) (counted (clashes_in ws st score spans) ar score spans marks)
