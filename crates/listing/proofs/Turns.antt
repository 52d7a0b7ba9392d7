-- A list from its k-th choice on, where the k before it were accepted: what `steps` does in a turn.
--   past after              an answer, and an outcome, where n more were accepted before; after_none: where none were
--   next stops none_left    the k-th choice is accepted, is refused, is not there
use Rattle.listing.specs.declared.Taken.{Taken}
use Rattle.std.specs.Prelude.{Err, Ok, Result}
use mathlib.Core.Path.{◌≡◌, ap, sym, ◌∙◌}
use mathlib.Core.List.{List}
use Prim.Native.Nat.{ℕ, suc, ◌+◌, ◌<◌, ◌≤◌}
use native.Mathlib.Omega.{arith}
use native.Mathlib.Nat.{add-zero, zero-add}
use lib.ListN.{length, get_or, drop}
use Rattle.kinds.specs.declared.Reason.{Reason}
use Rattle.kinds.proofs.ListLaws.{from, from_end}
use Rattle.walk.specs.Starting.{Walk, WalkOutcome, walk_of, outcome}
use Rattle.walk.specs.Stepping.{stepped}
use Rattle.walk.specs.declared.Record.{Record}
use Rattle.listing.specs.Listing.{ListOutcome, list_outcome, one_more, followed, listed, taken}

abbrev pub past : ℕ → Result Taken (Reason × Taken) → Result Taken (Reason × Taken)
past n (Ok took) = Ok (taken (n + took.0) took.1)
past n (Err (r, took)) = Err (r, taken (n + took.0) took.1)

abbrev pub after : ℕ → ListOutcome → ListOutcome
after n o = record { answer = past n o.answer; walk = o.walk }

past_none : (a : Result Taken (Reason × Taken)) → past 0 a ≡ a
past_none (Ok took) = ap (λ n. Ok (taken n took.1)) (zero-add took.0)
past_none (Err (r, took)) = ap (λ n. Err (r, taken n took.1)) (zero-add took.0)

pub after_none : (o : ListOutcome) → after 0 o ≡ o
after_none o = ap (λ a. record { answer = a; walk = o.walk }) (past_none o.answer)

past_more : (n : ℕ) (a : Result Taken (Reason × Taken)) → past n (one_more a) ≡ past (n + 1) a
past_more n (Ok took) = let z : n + suc took.0 ≡ n + 1 + took.0 = omega arith in ap (λ m. Ok (taken m took.1)) z
past_more n (Err (r, took)) = let z : n + suc took.0 ≡ n + 1 + took.0 = omega arith in ap (λ m. Err (r, taken m took.1)) z

module _ (plan score spans is : List ℕ) (k : ℕ) (w : Walk) where
  pub none_left : k ≤ length is → length is ≤ k
      → after k (listed plan score spans (drop k is) w) ≡ list_outcome (Ok (taken (length is) w.count)) w.items w.log w.marks
  unfolding listed
  none_left l h =
      let z : k + 0 ≡ length is = omega arith in
      rw (from_end is k h) (ap (λ n. list_outcome (Ok (taken n w.count)) w.items w.log w.marks) z)

  module _ (there : k < length is) (a : Result Record Reason) (before : Record) (items log marks : List ℕ)
      (took : outcome a before items log marks ≡ stepped plan score spans (get_or is k 0) w) where
    abbrev others : WalkOutcome → ListOutcome
    others o = followed o.answer o.walk (listed plan score spans (drop (k + 1) is) o.walk)

    -- the list from the k-th choice on begins with that choice
    begins : {b : (Result Record Reason)} → a ≡ b → listed plan score spans (drop k is) w ≡ others (outcome b before items log marks)
    unfolding listed
    begins e = rw (from is k there) (sym (ap others (sym (ap (λ x. outcome x before items log marks) e) ∙ took)))

    pub next : {c : Record} → a ≡ Ok c
        → after k (listed plan score spans (drop k is) w) ≡ after (k + 1) (listed plan score spans (drop (k + 1) is) (walk_of items log marks c))
    next {c} e =
        let rest = listed plan score spans (drop (k + 1) is) (walk_of items log marks c) in
        ap (after k) (begins e) ∙ ap (λ x. record { answer = x; walk = rest.walk }) (past_more k rest.answer)

    pub stops : {r : Reason} → a ≡ Err r → after k (listed plan score spans (drop k is) w) ≡ list_outcome (Err (r, taken k before)) items log marks
    stops {r} e = ap (after k) (begins e) ∙ ap (λ n. list_outcome (Err (r, taken n before)) items log marks) (add-zero k)
