-- Document 02, wish 5: "Keep the count in the walk's record. Start sets it to 0, and single steps and lists keep it equal to the ones in the marks, on any
-- buffers handed back as the last call left them." n is the number of score words lent.
--   HandedOn     from one walk to another by steps and lists, each lent buffers and record as the call before left them; the plan words are any, in each call
--   announced    "Where a caller altered the marks, the number means what the steps announced on bits that were clear": one step, on any buffers
--   more_ones    so it adds to the number as many as to the ones in the first n marks
--   kept         after starting, and any such steps and lists, the number is the ones in the first n marks
--   in_range     and is never such that a step is refused 34 for it
use Rattle.std.specs.Prelude.{◌≡◌, List, ℕ, ◌+◌, ◌*◌, ◌^◌, ◌≤◌, length, take, Ok}
use Rattle.queue.specs.Targets.{newly}
use Rattle.walk.specs.Starting.{Walk, started}
use Rattle.walk.specs.Stepping.{stepped}
use Rattle.walk.specs.declared.Record.{Record}
use Rattle.listing.specs.Listing.{listed}
use Rattle.counting.specs.Counting.{total}
use Rattle.promises.specs.StepFound.{StepFound}

module _ (score spans : List ℕ) where
  pub data HandedOn : Walk → Walk → Type 0 where
    as_left : {w : Walk} → HandedOn w w
    by_step : {w v : Walk} (plan : List ℕ) (i : ℕ) → HandedOn (stepped plan score spans i w).walk v → HandedOn w v
    by_list : {w v : Walk} (plan choices : List ℕ) → HandedOn (listed plan score spans choices w).walk v → HandedOn w v

pub record RunningNumber : Type 0 where
  pub announced : (plan score spans : List ℕ) (i : ℕ) (w v : Walk) (s : StepFound plan score spans i w v)
      → v.count.matches ≡ w.count.matches + newly s.found.outs w.marks
  pub more_ones : (plan score spans : List ℕ) (i : ℕ) (w v : Walk) → StepFound plan score spans i w v
      → v.count.matches + total (take (length score) w.marks) ≡ w.count.matches + total (take (length score) v.marks)
  pub kept : (ar score spans : List ℕ) (w : Walk) (first : Record) → (started ar score spans w).answer ≡ Ok first → (v : Walk)
      → HandedOn score spans (started ar score spans w).walk v → v.count.matches ≡ total (take (length score) v.marks)
  pub in_range : (ar score spans : List ℕ) (w : Walk) (first : Record) → (started ar score spans w).answer ≡ Ok first → (v : Walk)
      → HandedOn score spans (started ar score spans w).walk v → (v.count.matches ≤ 16 * length score) × (v.count.matches ≤ 2 ^ 63)
