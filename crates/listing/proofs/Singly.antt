-- A list is its accepted choices, taken singly.
--   takes_listed stops_listed   a list whose first choice is taken, or refused
--   all_taken              what a list comes to whose choices are all accepted singly
--   StopsAt stopped        and one whose choices are accepted up to one that is refused
--   Ends ends              each list is one of the two
--   Singly one_list        its accepted choices are all accepted singly, and leave the same walk
--   lists_run lists_number lists_length   the same of any lists, one after the other
--   lists_one lists_append   one list is a call; lists behind lists
use mathlib.Core.Path.{◌≡◌, refl, ap, ap₂, sym, ◌∙◌, subst}
use mathlib.Core.List.{List, [], ◌∷◌, ◌++◌}
use mathlib.Core.Option.{some}
use Prim.Native.Nat.{ℕ, zero, suc, ◌+◌, ◌≤◌}
use native.Mathlib.Omega.{arith}
use lib.ListN.{length, get_elem?, take, length-append}
use lib.Seq.{take-length, length-take-le}
use Rattle.kinds.specs.declared.Reason.{Reason}
use Rattle.kinds.proofs.Options.{none_not}
use Rattle.kinds.proofs.Places.{at_below}
use Rattle.walk.specs.Starting.{Walk, WalkOutcome, refuse_walk, go_on}
use Rattle.walk.specs.Stepping.{stepped, run, accepted}
use Rattle.walk.proofs.LawsRun.{Step, takes, stops, step, takes_run, takes_accepted, stops_accepted, run_append, accepted_append, accepted_most}
use Rattle.listing.specs.Listing.{ListOutcome, accepted_in, all_of, stop_of, further, followed, listed, run_lists, singly, accepted_by}

module _ (plan score spans : List ℕ) where
  -- ---- a list whose first choice is taken, or refused
  module _ (i : ℕ) (is : List ℕ) (w v : Walk) (e : stepped plan score spans i w ≡ go_on v) where
    takes_listed : listed plan score spans (i ∷ is) w ≡ further (listed plan score spans is v)
    unfolding listed
    takes_listed = ap (λ (o : WalkOutcome). followed o.answer o.walk (listed plan score spans is o.walk)) e

  module _ (i : ℕ) (is : List ℕ) (w : Walk) (r : Reason) (e : stepped plan score spans i w ≡ refuse_walk r w) where
    stops_listed : listed plan score spans (i ∷ is) w ≡ stop_of r 0 w
    unfolding listed
    stops_listed = ap (λ (o : WalkOutcome). followed o.answer o.walk (listed plan score spans is o.walk)) e

  -- ---- what a list comes to
  pub all_taken : (is : List ℕ) (w : Walk) → accepted plan score spans is w ≡ length is
      → listed plan score spans is w ≡ all_of (length is) (run plan score spans is w)
  unfolding listed run
  all_taken [] w e = refl
  all_taken (i ∷ is) w e = go (step plan score spans i w) (λ v. all_taken is v)
    where
      go : Step plan score spans i w
          → ((v : Walk) → accepted plan score spans is v ≡ length is → listed plan score spans is v ≡ all_of (length is) (run plan score spans is v))
          → listed plan score spans (i ∷ is) w ≡ all_of (suc (length is)) (run plan score spans (i ∷ is) w)
      go (takes v d) ih =
          let a = takes_accepted plan score spans i is w v d in
          takes_listed i is w v d ∙ ap further (ih v (omega arith)) ∙ ap (all_of (suc (length is))) (sym (takes_run plan score spans i is w v d))
      go (stops r d) ih = let a = stops_accepted plan score spans i is w r d in let b = accepted_most plan score spans is w in absurd (omega arith)

  -- the k-th choice is refused, and the k before it are accepted
  pub record StopsAt (is : List ℕ) (w : Walk) (k : ℕ) (r : Reason) : Type 0 where
    pub choice : ℕ
    pub there : get_elem? is k ≡ some choice
    pub taken : accepted plan score spans (take k is) w ≡ k
    pub refused : stepped plan score spans choice (run plan score spans (take k is) w) ≡ refuse_walk r (run plan score spans (take k is) w)

  pub stopped : (is : List ℕ) (w : Walk) (k : ℕ) (r : Reason) → StopsAt is w k r
      → listed plan score spans is w ≡ stop_of r k (run plan score spans (take k is) w)
  unfolding run
  stopped [] w k r s = none_not s.there
  stopped (j ∷ is) w zero r s =
      let z : s.choice ≡ j = cc in
      stops_listed j is w r (subst (λ i. stepped plan score spans i w ≡ refuse_walk r w) z s.refused)
  stopped (j ∷ is) w (suc k) r s = go (step plan score spans j w) (λ v. stopped is v k r)
    where
      go : Step plan score spans j w → ((v : Walk) → StopsAt is v k r → listed plan score spans is v ≡ stop_of r k (run plan score spans (take k is) v))
          → listed plan score spans (j ∷ is) w ≡ stop_of r (suc k) (run plan score spans (j ∷ take k is) w)
      go (takes v d) ih =
          let a = takes_accepted plan score spans j (take k is) w v d in
          let b = takes_run plan score spans j (take k is) w v d in
          takes_listed j is w v d
          ∙ ap further (ih v (record {
            choice = s.choice;
            there = s.there;
            taken = omega (arith, a, s.taken);
            refused = subst (λ u. stepped plan score spans s.choice u ≡ refuse_walk r u) b s.refused;
          }))
          ∙ ap (stop_of r (suc k)) (sym b)
      go (stops q d) ih =
          let a = stops_accepted plan score spans j (take k is) w q d in
          let b = accepted_most plan score spans (take k is) w in
          let h = at_below is k s.there in
          let l = length-take-le k is (omega arith) in
          absurd (omega (arith, a, b, l, s.taken))

  pub data Ends (is : List ℕ) (w : Walk) : Type 0 where
    all : accepted plan score spans is w ≡ length is → Ends is w
    stop : (k : ℕ) (r : Reason) → StopsAt is w k r → Ends is w

  pub ends : (is : List ℕ) (w : Walk) → Ends is w
  unfolding accepted run
  ends [] w = all refl
  ends (i ∷ is) w = go (step plan score spans i w) (λ v. ends is v)
    where
      on : (v : Walk) → stepped plan score spans i w ≡ go_on v → Ends is v → Ends (i ∷ is) w
      on v d (all e) = let a = takes_accepted plan score spans i is w v d in all (omega arith)
      on v d (stop k r s) =
          let a = takes_accepted plan score spans i (take k is) w v d in
          stop (suc k) r (record {
            choice = s.choice;
            there = s.there;
            taken = omega (arith, a, s.taken);
            refused = subst (λ u. stepped plan score spans s.choice u ≡ refuse_walk r u) (sym (takes_run plan score spans i (take k is) w v d)) s.refused;
          })

      go : Step plan score spans i w → ((v : Walk) → Ends is v) → Ends (i ∷ is) w
      go (takes v d) ih = on v d (ih v)
      go (stops r d) ih = stop 0 r (record { choice = i; there = refl; taken = refl; refused = d })

  -- ---- the accepted ones, singly
  pub record Singly (is : List ℕ) (w : Walk) (o : ListOutcome) : Type 0 where
    pub within : accepted_in o.answer ≤ length is
    pub each : accepted plan score spans (take (accepted_in o.answer) is) w ≡ accepted_in o.answer
    pub walk_is : o.walk ≡ run plan score spans (take (accepted_in o.answer) is) w

  pub one_list : (is : List ℕ) (w : Walk) → Singly is w (listed plan score spans is w)
  one_list is w = go (ends is w)
    where
      go : Ends is w → Singly is w (listed plan score spans is w)
      go (all e) = rw (all_taken is w e) (record { within = omega arith; each = rw (take-length is) e; walk_is = rw (take-length is) refl })
      go (stop k r s) =
          let h = at_below is k s.there in
          rw (stopped is w k r s) (record { within = omega arith; each = s.taken; walk_is = refl })

  pub lists_run : (ls : List (List ℕ)) (w : Walk) → run_lists plan score spans ls w ≡ run plan score spans (singly plan score spans ls w) w
  unfolding run_lists singly run
  lists_run [] w = refl
  lists_run (is ∷ ls) w =
      let o : ListOutcome = listed plan score spans is w in
      let rest = singly plan score spans ls o.walk in
      lists_run ls o.walk ∙ ap (run plan score spans rest) (one_list is w).walk_is
      ∙ sym (run_append plan score spans (take (accepted_in o.answer) is) rest w)

  pub lists_one : (is : List ℕ) (w : Walk) → run_lists plan score spans (is ∷ []) w ≡ (listed plan score spans is w).walk
  unfolding run_lists
  lists_one is w = refl

  pub lists_append : (ls ms : List (List ℕ)) (w : Walk)
      → run_lists plan score spans (ls ++ ms) w ≡ run_lists plan score spans ms (run_lists plan score spans ls w)
  unfolding run_lists
  lists_append [] ms w = refl
  lists_append (is ∷ ls) ms w = lists_append ls ms (listed plan score spans is w).walk

  pub lists_number : (ls : List (List ℕ)) (w : Walk) → accepted_by plan score spans ls w ≡ accepted plan score spans (singly plan score spans ls w) w
  unfolding accepted_by singly accepted
  lists_number [] w = refl
  lists_number (is ∷ ls) w =
      let o : ListOutcome = listed plan score spans is w in
      let rest = singly plan score spans ls o.walk in
      ap₂ (λ a b. a + b) (sym (one_list is w).each) (lists_number ls o.walk ∙ ap (accepted plan score spans rest) (one_list is w).walk_is)
      ∙ sym (accepted_append plan score spans (take (accepted_in o.answer) is) rest w)

  pub lists_length : (ls : List (List ℕ)) (w : Walk) → accepted_by plan score spans ls w ≡ length (singly plan score spans ls w)
  unfolding accepted_by singly
  lists_length [] w = refl
  lists_length (is ∷ ls) w =
      let o : ListOutcome = listed plan score spans is w in
      let k = accepted_in o.answer in
      let l = length-take-le k is (one_list is w).within in
      let a = length-append (take k is) (singly plan score spans ls o.walk) in
      let ih = lists_length ls o.walk in
      omega arith
