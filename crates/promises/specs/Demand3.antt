-- Demand 3: "whoever chooses the order of steps, n symbols take n accepted steps, each symbol is read once, the waiting never outnumber the unread, and the
-- report is the same, bit for bit." For any choices, refused ones among them, and for any words lent behind the plan:
-- so for the plan alone, and for the plan as it lies in its buffer.
--   in_buffer       the plan with the rest of its buffer behind it is the buffer that building wrote into
--   never_34        "In demand 3's setting, where plan and score come from one folio, 34 is never given."
--   refused         a choice that is not below the number waiting is refused 32 and changes nothing
--   taken           any other is accepted, and reads one symbol more
--   steps           the accepted steps are at most n, and n exactly if none waits
--   log_…           the log holds nodes of the score, none twice, and each when none waits
--   waits           the waiting and the read are at most n together
--   number          the stored number is the ones in the marks of the n nodes, after any choices (document 02, wish 5; for any plan words: `RunningNumber`)
--   same_…          two finished walks over the file, by any choices and with any buffers, have the same marks, the same number and the same text
-- The same by lists of choices (document 02, wish 4), any lists one after the other, with a refused choice in any of them at any place:
--   lists           record and buffers are those after the accepted choices taken singly: all that this demand says of a walk, it says of lists
--   lists_accepted  the answers say as many accepted choices as are accepted singly: each of them
--   list_taken      of one list more: if all its choices are accepted singly, it says so
--   list_refused    if the k-th is the first that is not below the number waiting, it says 32 at k, and the walk is the one after the k before it
--   list_never_34   no list is refused 34
use Rattle.std.specs.Prelude.{◌≡◌, List, ◌∷◌, ◌++◌, ◌↔◌, ℕ, suc, ◌+◌, ◌<◌, ◌≤◌, length, get_or, take, drop}
use Rattle.std.proofs.Math.Option.{some}
use Rattle.std.proofs.Math.ListN.{get_elem?}
use Rattle.kinds.specs.Reasons.{gives, refusal, refusal_with}
use Rattle.term.specs.Terms.{span}
use Rattle.walk.specs.Starting.{walked_says}
use Rattle.listing.specs.Listing.{listed_says}
use Rattle.counting.specs.Counting.{total}
use Rattle.promises.specs.Told.{told}
use Rattle.promises.specs.Demand1.{walk_told, list_told, recorded}
use Rattle.promises.specs.OneFile.{OpenFile, OneFile, score_in, buffer_in, plan_in, after, step_after, accepted_in, after_lists, list_after, singly_in, accepted_by_lists, reported}

pub record Demand3 {file : List ℕ} {O : OpenFile file} (S : OneFile O) : Type 0 where
  pub in_buffer : plan_in S ++ drop S.size.words (buffer_in S) ≡ buffer_in S
  pub never_34 : (choices : List ℕ) (i : ℕ) → (walked_says (step_after S choices i).answer).number ≡ 34 → ⊥
  pub refused : (choices : List ℕ) (i : ℕ) → (after S choices).count.waiting ≤ i
      → walk_told (step_after S choices i) ≡ told (refusal 32 0) (after S choices)
  pub taken : (choices : List ℕ) (i : ℕ) → i < (after S choices).count.waiting
      → (walked_says (step_after S choices i).answer ≡ gives (recorded (step_after S choices i).walk))
      × ((step_after S choices i).walk.count.logged ≡ suc (after S choices).count.logged)
  pub steps : (choices : List ℕ)
      → (accepted_in S choices ≡ (after S choices).count.logged) × (accepted_in S choices ≤ span (score_in O))
      × (((after S choices).count.waiting ≡ 0) ↔ (accepted_in S choices ≡ span (score_in O)))
  pub log_nodes : (choices : List ℕ) (i : ℕ) → i < (after S choices).count.logged → get_or (after S choices).log i 0 < span (score_in O)
  pub log_once : (choices : List ℕ) (i k : ℕ) → i < (after S choices).count.logged → k < (after S choices).count.logged
      → get_or (after S choices).log i 0 ≡ get_or (after S choices).log k 0 → i ≡ k
  pub log_all : (choices : List ℕ) → (after S choices).count.waiting ≡ 0 → (n : ℕ) → n < span (score_in O) → (i : ℕ)
      × (i < (after S choices).count.logged) × (get_or (after S choices).log i 0 ≡ n)
  pub waits : (choices : List ℕ) → (after S choices).count.waiting + (after S choices).count.logged ≤ span (score_in O)
  pub number : (choices : List ℕ) → (after S choices).count.matches ≡ total (take (span (score_in O)) (after S choices).marks)
  pub same_marks : {P : OpenFile file} (T : OneFile P) (choices choices' : List ℕ) → (after S choices).count.waiting ≡ 0 → (after T choices').count.waiting ≡ 0
      → take (span (score_in O)) (after S choices).marks ≡ take (span (score_in O)) (after T choices').marks
  pub same_number : {P : OpenFile file} (T : OneFile P) (choices choices' : List ℕ) → (after S choices).count.waiting ≡ 0 → (after T choices').count.waiting ≡ 0
      → (after S choices).count.matches ≡ (after T choices').count.matches
  pub same_text : {P : OpenFile file} (T : OneFile P) (choices choices' : List ℕ) → (after S choices).count.waiting ≡ 0 → (after T choices').count.waiting ≡ 0
      → reported S choices ≡ reported T choices'
  pub lists : (ls : List (List ℕ)) → after_lists S ls ≡ after S (singly_in S ls)
  pub lists_accepted : (ls : List (List ℕ))
      → (accepted_by_lists S ls ≡ accepted_in S (singly_in S ls)) × (accepted_by_lists S ls ≡ length (singly_in S ls))
  pub list_taken : (ls : List (List ℕ)) (choices : List ℕ) → accepted_in S (singly_in S ls ++ choices) ≡ accepted_by_lists S ls + length choices
      → list_told (list_after S ls choices)
      ≡ told (gives (length choices ∷ recorded (after S (singly_in S ls ++ choices)))) (after S (singly_in S ls ++ choices))
  pub list_refused : (ls : List (List ℕ)) (choices : List ℕ) (k i : ℕ) → get_elem? choices k ≡ some i
      → accepted_in S (singly_in S ls ++ take k choices) ≡ accepted_by_lists S ls + k → (after S (singly_in S ls ++ take k choices)).count.waiting ≤ i
      → list_told (list_after S ls choices)
      ≡ told (refusal_with 32 k (k ∷ recorded (after S (singly_in S ls ++ take k choices)))) (after S (singly_in S ls ++ take k choices))
  pub list_never_34 : (ls : List (List ℕ)) (choices : List ℕ) → (listed_says (list_after S ls choices).answer).number ≡ 34 → ⊥
