-- What an unfinished list means, over every file that opens and whose build is accepted.
--   run_keeps   on any words: what is marked stays marked
use mathlib.Core.Path.{sym, ◌∙◌, subst}
use mathlib.Core.List.{List, [], ◌∷◌}
use Prim.Native.Nat.{ℕ}
use lib.ListN.{get_or}
use Rattle.kinds.specs.Bits.{bit}
use Rattle.kinds.proofs.Bools.{eqb_is, is_eqb}
use Rattle.walk.specs.Starting.{Walk}
use Rattle.walk.specs.Stepping.{run}
use Rattle.walk.proofs.LawsRun.{run_one, run_append}
use Rattle.listing.specs.Listing.{run_lists, singly}
use Rattle.listing.proofs.Singly.{lists_run, lists_one, lists_append}
use Rattle.walking.proofs.Keeps.{run_marks}
use Rattle.promises.specs.OneFile.{OpenFile, OneFile, nodes_in, spans_in, shapes_in, score_in, lent_in, begun_in, after, after_lists, singly_in}
use Rattle.promises.specs.SoFar.{SoFar, Keeps}
use Rattle.promises.specs.Unfinished.{Unfinished}
use Rattle.promises.proofs.OpenFile.{score_spans}
use Rattle.promises.proofs.OpenReport.{tables}
use Rattle.promises.proofs.SoFar.{so_far}
use Rattle.promises.proofs.AnyLists.{lists}

module _ (plan score spans : List ℕ) where
  pub run_keeps : (is : List ℕ) (w : Walk) → Keeps w (run plan score spans is w)
  run_keeps is w m b = is_eqb (bit (get_or (run plan score spans is w).marks m.node 0) m.shape) 1
      (run_marks plan score spans is w (m.shape, m.node) (eqb_is (bit (get_or w.marks m.node 0) m.shape) 1 b))

  lists_keep : (ls : List (List ℕ)) (w : Walk) → Keeps w (run_lists plan score spans ls w)
  lists_keep ls w = subst (Keeps w) (sym (lists_run plan score spans ls w)) (run_keeps (singly plan score spans ls w) w)

pub unfinished : {file : List ℕ} {O : OpenFile file} (S : OneFile O) → Unfinished S
unfinished {O = O} S = record {
  so_far = so_far S;
  kept = λ choices more. subst (Keeps (after S choices)) (sym (run_append (lent_in S) (nodes_in O) (spans_in O) choices more (begun_in S)))
      (run_keeps (lent_in S) (nodes_in O) (spans_in O) more (after S choices));
  one_step = λ choices i. sym (run_append (lent_in S) (nodes_in O) (spans_in O) choices (i ∷ []) (begun_in S)
      ∙ run_one (lent_in S) (nodes_in O) (spans_in O) i (after S choices));
  lists_so_far = λ ls. subst (SoFar (shapes_in O) (score_in O)) (sym (lists S ls)) (so_far S (singly_in S ls));
  lists_kept = λ ls more. subst (Keeps (after_lists S ls)) (sym (lists_append (lent_in S) (nodes_in O) (spans_in O) ls more (begun_in S)))
      (lists_keep (lent_in S) (nodes_in O) (spans_in O) more (after_lists S ls));
  one_list = λ ls choices. sym (lists_append (lent_in S) (nodes_in O) (spans_in O) ls (choices ∷ []) (begun_in S)
      ∙ lists_one (lent_in S) (nodes_in O) (spans_in O) choices (after_lists S ls));
  by_tables = λ m is x. rw (score_spans O) ((tables O).same_nodes m is x);
}
