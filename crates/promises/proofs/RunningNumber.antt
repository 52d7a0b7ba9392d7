-- The stored number is what document 02 says of it.
use Rattle.std.specs.Prelude.{Ok}
use mathlib.Core.Path.{◌≡◌, refl, ap, sym, subst}
use mathlib.Core.List.{List}
use Prim.Native.Nat.{ℕ, ◌+◌, ◌*◌, ◌^◌, ◌≤◌}
use native.Mathlib.Omega.{arith}
use lib.ListN.{length, get_or, take}
use Rattle.readers.specs.BlockWords.{pair_list}
use Rattle.walk.specs.Starting.{Walk, begun, started}
use Rattle.walk.specs.Stepping.{onward, stepped}
use Rattle.walk.specs.declared.Record.{Record}
use Rattle.kinds.proofs.Places.{on_in}
use Rattle.listing.specs.Listing.{listed, accepted_in}
use Rattle.listing.proofs.Singly.{one_list}
use Rattle.counting.specs.Counting.{total}
use Rattle.counting.proofs.CountLaws.{few_nodes}
use Rattle.walking.proofs.Numbers.{Grows, grows_on, moved_grows, step_grows, run_grows, begun_number, number_kept, number_in}
use Rattle.promises.specs.StepFound.{StepFound}
use Rattle.promises.specs.RunningNumber.{HandedOn, as_left, by_step, by_list, RunningNumber}
use Rattle.promises.proofs.Answers.{started_as}
use Rattle.promises.proofs.StepRows.{item_look}

module _ (score spans : List ℕ) where
  list_grows : (plan choices : List ℕ) (w : Walk) → Grows (length score) w (listed plan score spans choices w).walk
  list_grows plan choices w = subst (Grows (length score) w) (sym (one_list plan score spans choices w).walk_is)
      (run_grows plan score spans (take (accepted_in (listed plan score spans choices w).answer) choices) w)

  handed_grows : {w v : Walk} → HandedOn score spans w v → Grows (length score) w v
  handed_grows as_left = refl
  handed_grows (by_step {w} {v} plan i more) = grows_on (length score) w (stepped plan score spans i w).walk v (step_grows plan score spans i w)
      (handed_grows more)
  handed_grows (by_list {w} {v} plan choices more) = grows_on (length score) w (listed plan score spans choices w).walk v (list_grows plan choices w)
      (handed_grows more)

  module _ (ar : List ℕ) (w : Walk) (first : Record) (e : (started ar score spans w).answer ≡ Ok first) (v : Walk)
      (h : HandedOn score spans (started ar score spans w).walk v) where
    kept : v.count.matches ≡ total (take (length score) v.marks)
    kept =
        let s = (started_as ar score spans w first e).1 in
        number_kept (length score) (begun (length score) w) v (begun_number (length score) w) (subst (λ u. Grows (length score) u v) s (handed_grows h))

    in_range : (v.count.matches ≤ 16 * length score) × (v.count.matches ≤ 2 ^ 63)
    in_range =
        let m = number_in (length score) v kept in
        let n = few_nodes ar score spans (started_as ar score spans w first e).2 in
        (m, omega (arith, m, n))

more_ones : (plan score spans : List ℕ) (i : ℕ) (w v : Walk) → StepFound plan score spans i w v → Grows (length score) w v
more_ones plan score spans i w v s =
    let state = get_or w.items (2 * i) 0 in
    let node = get_or w.items (2 * i + 1) 0 in
    subst (Grows (length score) w) (sym s.after)
    (moved_grows plan score spans (state, node) s.found w (onward i (pair_list w.items 0 w.count.waiting) s.found.nexts)
    (item_look plan score spans state node s.found s.item) (λ x m. on_in m (λ j e. s.marks_there j x e)))

pub running_number : RunningNumber
running_number = record {
  announced = λ plan score spans i w v s. ap (λ (u : Walk). u.count.matches) s.after;
  more_ones = more_ones;
  kept = λ ar score spans w first e v h. kept score spans ar w first e v h;
  in_range = λ ar score spans w first e v h. in_range score spans ar w first e v h;
}
