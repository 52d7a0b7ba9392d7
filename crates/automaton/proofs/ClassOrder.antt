-- "each class in the document order of its first obligation position".
--   classes_in_order   no class begins before one that stands earlier
use mathlib.Core.Path.{◌≡◌}
use mathlib.Core.Bool.{false}
use mathlib.Core.List.{map}
use Rattle.kinds.specs.Positions.{before}
use Rattle.kinds.proofs.Ordered.{before_asym, before_pass}
use Rattle.kinds.proofs.Pairwise.{pairwise_sort}
use Rattle.kinds.specs.Members.{Pairwise}
use Rattle.automaton.specs.Goals.{State, Calculus, first, all_obs}
use Rattle.automaton.specs.Classes.{closed, picked, rows_from, class_before, classes}

pub classes_in_order : {O : Type 0} (K : Calculus O) (s : State O)
    → Pairwise (λ a b. before (first K (all_obs b)) (first K (all_obs a)) ≡ false) (classes K s)
classes_in_order K s =
    pairwise_sort (class_before K) (λ a b. before_asym (first K (all_obs a)) (first K (all_obs b)))
    (λ a b c. before_pass (first K (all_obs a)) (first K (all_obs b)) (first K (all_obs c)))
    (map (λ r. picked r s) (rows_from 0 (closed K s)))
