-- Demand 3 by lists of choices: what any lists say, one after the other, is what their accepted choices say singly.
use mathlib.Core.Path.{◌≡◌, ap, sym, ◌∙◌}
use mathlib.Core.List.{List, ◌∷◌, ◌++◌}
use mathlib.Core.Option.{some}
use Prim.Native.Nat.{ℕ, ◌+◌, ◌≤◌}
use native.Mathlib.Omega.{arith}
use lib.ListN.{length, get_elem?, take}
use Rattle.kinds.specs.Reasons.{gives, refusal_with}
use Rattle.kinds.specs.declared.Reason.TheVariants.{NoSuchItem}
use Rattle.walk.specs.Starting.{WalkOutcome, walked_says}
use Rattle.walk.specs.Stepping.{stepped, run, accepted}
use Rattle.listing.specs.Listing.{ListOutcome, all_of, stop_of, listed_says}
use Rattle.walk.proofs.LawsRun.{run_append, accepted_append}
use Rattle.listing.proofs.Singly.{Ends, all, stop, ends, all_taken, stopped, lists_run, lists_number, lists_length}
use Rattle.promises.specs.Told.{told}
use Rattle.promises.specs.Demand1.{list_told, recorded}
use Rattle.promises.specs.OneFile.{OpenFile, OneFile, nodes_in, spans_in, lent_in, begun_in, after, step_after, accepted_in, after_lists, list_after, singly_in, accepted_by_lists}
use Rattle.promises.proofs.StepRows.{step_32}

module _ {file : List ℕ} {O : OpenFile file} (S : OneFile O) where
  pub lists : (ls : List (List ℕ)) → after_lists S ls ≡ after S (singly_in S ls)
  lists ls = lists_run (lent_in S) (nodes_in O) (spans_in O) ls (begun_in S)

  pub lists_accepted : (ls : List (List ℕ)) → (accepted_by_lists S ls ≡ accepted_in S (singly_in S ls)) × (accepted_by_lists S ls ≡ length (singly_in S ls))
  lists_accepted ls = (lists_number (lent_in S) (nodes_in O) (spans_in O) ls (begun_in S), lists_length (lent_in S) (nodes_in O) (spans_in O) ls (begun_in S))

  module _ (ls : List (List ℕ)) where
    -- choices behind lists, taken singly
    singly_after : (is : List ℕ) → run (lent_in S) (nodes_in O) (spans_in O) is (after_lists S ls) ≡ after S (singly_in S ls ++ is)
    singly_after is = ap (run (lent_in S) (nodes_in O) (spans_in O) is) (lists ls)
        ∙ sym (run_append (lent_in S) (nodes_in O) (spans_in O) (singly_in S ls) is (begun_in S))

    singly_accepted : (is : List ℕ) (n : ℕ) → accepted_in S (singly_in S ls ++ is) ≡ accepted_by_lists S ls + n
        → accepted (lent_in S) (nodes_in O) (spans_in O) is (after_lists S ls) ≡ n
    singly_accepted is n e =
        let a = accepted_append (lent_in S) (nodes_in O) (spans_in O) (singly_in S ls) is (begun_in S) in
        let b = (lists_accepted ls).0 in
        ap (accepted (lent_in S) (nodes_in O) (spans_in O) is) (lists ls) ∙ omega (arith, a, b, e)

    pub list_taken : (choices : List ℕ) → accepted_in S (singly_in S ls ++ choices) ≡ accepted_by_lists S ls + length choices
        → list_told (list_after S ls choices)
        ≡ told (gives (length choices ∷ recorded (after S (singly_in S ls ++ choices)))) (after S (singly_in S ls ++ choices))
    list_taken choices e =
        ap list_told
        (all_taken (lent_in S) (nodes_in O) (spans_in O) choices (after_lists S ls) (singly_accepted choices (length choices) e)
        ∙ ap (all_of (length choices)) (singly_after choices))

    pub list_refused : (choices : List ℕ) (k i : ℕ) → get_elem? choices k ≡ some i
        → accepted_in S (singly_in S ls ++ take k choices) ≡ accepted_by_lists S ls + k → (after S (singly_in S ls ++ take k choices)).count.waiting ≤ i
        → list_told (list_after S ls choices)
        ≡ told (refusal_with 32 k (k ∷ recorded (after S (singly_in S ls ++ take k choices)))) (after S (singly_in S ls ++ take k choices))
    list_refused choices k i there e h =
        ap list_told
        (stopped (lent_in S) (nodes_in O) (spans_in O) choices (after_lists S ls) k NoSuchItem (record {
          choice = i;
          there = there;
          taken = singly_accepted (take k choices) k e;
          refused = step_32 (lent_in S) (nodes_in O) (spans_in O) i _ (rw (singly_after (take k choices)) h);
        })
        ∙ ap (stop_of NoSuchItem k) (singly_after (take k choices)))

    pub list_never_34 : ((choices : List ℕ) (i : ℕ) → (walked_says (step_after S choices i).answer).number ≡ 34 → ⊥) → (choices : List ℕ)
        → (listed_says (list_after S ls choices).answer).number ≡ 34 → ⊥
    list_never_34 never choices e = go (ends (lent_in S) (nodes_in O) (spans_in O) choices (after_lists S ls))
      where
        number : ListOutcome → ℕ
        number o = (listed_says o.answer).number

        go : Ends (lent_in S) (nodes_in O) (spans_in O) choices (after_lists S ls) → ⊥
        go (all d) =
            let z : ◌≡◌ {A = ℕ} 0 34 = sym (ap number (all_taken (lent_in S) (nodes_in O) (spans_in O) choices (after_lists S ls) d)) ∙ e in
            omega arith
        go (stop k r s) =
            never (singly_in S ls ++ take k choices) s.choice
            (ap (λ v. (walked_says (stepped (lent_in S) (nodes_in O) (spans_in O) s.choice v).answer).number) (sym (singly_after (take k choices)))
            ∙ ap (λ (o : WalkOutcome). (walked_says o.answer).number) s.refused
            ∙ sym (ap number (stopped (lent_in S) (nodes_in O) (spans_in O) choices (after_lists S ls) k r s)) ∙ e)
