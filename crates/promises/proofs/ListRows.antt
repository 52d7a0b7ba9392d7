-- A list's outcome is the one that its rows give.
--   taken_accepted accepted_taken   choices that are all taken are those that are accepted singly
--   by_list                         the rows
use mathlib.Core.Path.{◌≡◌, refl, ap, sym, ◌∙◌}
use mathlib.Core.List.{List, [], ◌∷◌}
use mathlib.Core.Option.{some}
use Prim.Native.Nat.{ℕ}
use native.Mathlib.Omega.{arith}
use lib.ListN.{length, get_elem?, take}
use lib.Seq.{length-take-le}
use Rattle.kinds.proofs.Places.{at_below}
use Rattle.kinds.specs.declared.Reason.{Reason}
use Rattle.kinds.specs.declared.Reason.TheVariants.{NoSuchItem, OutOfRange}
use Rattle.walk.specs.Starting.{Walk, WalkOutcome, refuse_walk}
use Rattle.walk.specs.Stepping.{stepped, run, one, accepted}
use Rattle.listing.specs.Listing.{listed, all_of, stop_of}
use Rattle.walk.proofs.LawsRun.{takes_run, takes_accepted, stops_accepted, accepted_most}
use Rattle.listing.proofs.Singly.{Ends, all, stop, ends, all_taken, stopped}
use Rattle.promises.specs.Demand1 as rows
use Rattle.promises.specs.Demand1.{AllTaken, ListRow, list_told}
use Rattle.promises.specs.Told.{By, Told}
use Rattle.promises.proofs.StepRows.{StepIs, is_32, is_34, is_taken, step_is, step_32, step_34, step_takes}

module _ (plan score spans : List ℕ) where
  taken_accepted : {is : List ℕ} {w v : Walk} → AllTaken plan score spans is w v
      → (accepted plan score spans is w ≡ length is) × (run plan score spans is w ≡ v)
  unfolding accepted run
  taken_accepted rows.none = (refl, refl)
  taken_accepted (rows.then {i = i} {is = is} {w = w} {u = u} h s more) =
      let e = step_takes plan score spans i w h u s in
      let ih = taken_accepted more in
      let a = takes_accepted plan score spans i is w u e in
      (omega arith, takes_run plan score spans i is w u e ∙ ih.1)

  accepted_taken : (is : List ℕ) (w : Walk) → accepted plan score spans is w ≡ length is → AllTaken plan score spans is w (run plan score spans is w)
  unfolding run
  accepted_taken [] w e = rows.none
  accepted_taken (i ∷ is) w e = go (step_is plan score spans i w) (accepted_taken is)
    where
      refused : (r : Reason) → stepped plan score spans i w ≡ refuse_walk r w → ⊥
      refused r d = let a = stops_accepted plan score spans i is w r d in let b = accepted_most plan score spans is w in omega arith

      go : StepIs plan score spans i w
          → ((u : Walk) → accepted plan score spans is u ≡ length is → AllTaken plan score spans is u (run plan score spans is u))
          → AllTaken plan score spans (i ∷ is) w (run plan score spans (i ∷ is) w)
      go (is_32 h) ih = absurd (refused NoSuchItem (step_32 plan score spans i w h))
      go (is_34 h n) ih = absurd (refused OutOfRange (step_34 plan score spans i w h n))
      go (is_taken h u s) ih =
          let d = step_takes plan score spans i w h u s in
          let a = takes_accepted plan score spans i is w u d in
          rows.then {is = is} {v = run plan score spans (i ∷ is) w} h s (rw (takes_run plan score spans i is w u d) (ih u (omega arith)))

  module _ (choices : List ℕ) (w : Walk) where
    -- the k-th choice is refused, and those before it are taken
    stops_at : (r : Reason) (k i : ℕ) → get_elem? choices k ≡ some i → (v : Walk) → AllTaken plan score spans (take k choices) w v
        → stepped plan score spans i v ≡ refuse_walk r v → listed plan score spans choices w ≡ stop_of r k v
    stops_at r k i there v t e =
        let a = taken_accepted t in
        let h = at_below choices k there in
        let l = length-take-le k choices (omega arith) in
        stopped plan score spans choices w k r (record { choice = i; there = there; taken = a.0 ∙ l; refused = rw a.1 e }) ∙ ap (stop_of r k) a.1

    takes_each : (v : Walk) → AllTaken plan score spans choices w v → listed plan score spans choices w ≡ all_of (length choices) v
    takes_each v t = let a = taken_accepted t in all_taken plan score spans choices w a.0 ∙ ap (all_of (length choices)) a.1

    stop_row : (r : Reason) (k i : ℕ) → get_elem? choices k ≡ some i → (v : Walk) → AllTaken plan score spans (take k choices) w v
        → stepped plan score spans i v ≡ refuse_walk r v → ListRow plan score spans choices w (list_told (listed plan score spans choices w))
    stop_row r k i there v t e = go (step_is plan score spans i v)
      where
        go : StepIs plan score spans i v → ListRow plan score spans choices w (list_told (listed plan score spans choices w))
        go (is_32 h) = rw (stops_at NoSuchItem k i there v t (step_32 plan score spans i v h)) (rows.list_32 k i there v t h)
        go (is_34 h n) = rw (stops_at OutOfRange k i there v t (step_34 plan score spans i v h n)) (rows.list_34 k i there v t h n)
        go (is_taken h u s) =
            let z : ◌≡◌ {A = ℕ} 1 0 = ap (λ (o : WalkOutcome). one o.answer) (sym (step_takes plan score spans i v h u s) ∙ e) in
            absurd (omega arith)

    list_row : ListRow plan score spans choices w (list_told (listed plan score spans choices w))
    list_row = go (ends plan score spans choices w)
      where
        go : Ends plan score spans choices w → ListRow plan score spans choices w (list_told (listed plan score spans choices w))
        go (all e) = let v = run plan score spans choices w in let t = accepted_taken choices w e in rw (takes_each v t) (rows.takes_all v t)
        go (stop k r s) =
            let h = at_below choices k s.there in
            let l = length-take-le k choices (omega arith) in
            stop_row r k s.choice s.there (run plan score spans (take k choices) w) (accepted_taken (take k choices) w (s.taken ∙ sym l))
            s.refused

    list_only : (o : Told Walk) → ListRow plan score spans choices w o → list_told (listed plan score spans choices w) ≡ o
    list_only _ (rows.list_32 k i there v t h) = ap list_told (stops_at NoSuchItem k i there v t (step_32 plan score spans i v h))
    list_only _ (rows.list_34 k i there v t h n) = ap list_told (stops_at OutOfRange k i there v t (step_34 plan score spans i v h n))
    list_only _ (rows.takes_all v t) = ap list_told (takes_each v t)

    pub by_list : By (ListRow plan score spans choices w) (list_told (listed plan score spans choices w))
    by_list = (list_row, list_only)
