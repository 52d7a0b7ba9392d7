-- The stored number on any buffers, whatever plan words: a step adds to it as many as it adds to the ones in the first n marks, n the score words lent.
--   ones                        the ones in the first n marks
--   Grows grows_on              from one walk to another; and on to a third
--   marked_ones                 announcements add the bits newly set
--   look_outs                   what is announced: a shape below 16, at one of the n nodes
--   moved_grows step_grows run_grows
--   begun_number number_kept    the number is the ones where a walk begins; and stays so
--   number_in numbered_in       then it is never refused
use mathlib.Core.Path.{◌≡◌, refl, ap, sym}
use mathlib.Core.Bool.{true}
use mathlib.Core.List.{List, [], ◌∷◌}
use mathlib.Core.Option.{Option, some}
use Prim.Native.Nat.{ℕ, ◌+◌, ◌*◌, ◌^◌, ◌<◌, ◌≤◌}
use native.Mathlib.Omega.{arith}
use lib.Dec.{ltb}
use lib.ListN.{length, get_or, get_elem?, take, drop, replicate, length-set}
use Rattle.kinds.specs.Bits.{clear_bit, with_bit}
use Rattle.kinds.specs.Members.{◌∈◌, here, there}
use Rattle.kinds.proofs.BitLaws.{ones_with}
use Rattle.kinds.proofs.Bools.{both, is_leb, ltb_is}
use Rattle.kinds.proofs.Options.{on_bind, on_need}
use Rattle.following.specs.Following.{target}
use Rattle.following.proofs.LawsFollowing.{target_in}
use Rattle.readers.specs.PlanParts.{counts_good, label_word, block_of}
use Rattle.readers.proofs.LawsParts.{counts_of_lem}
use Rattle.queue.specs.Targets.{targets, put, marked, newly}
use Rattle.counting.specs.Counting.{total}
use Rattle.counting.proofs.CountLaws.{total_set, total_most, total_zeros}
use Rattle.walk.specs.Starting.{Walk, begun}
use Rattle.walk.specs.Stepping.{Finding, look, onward, numbered, moved, tried, stepped, run}
use Rattle.walking.proofs.Keeps.{marks_there, on_tried, Cases, is_taken, is_34, is_32, cases}

abbrev pub ones : ℕ → Walk → ℕ
ones n w = total (take n w.marks)

abbrev pub Grows : ℕ → Walk → Walk → Type 0
Grows n w v = v.count.matches + ones n w ≡ w.count.matches + ones n v

pub grows_on : (n : ℕ) (w v u : Walk) → Grows n w v → Grows n v u → Grows n w u
grows_on n w v u a b = omega (arith, a, b)

-- ---- what announcements do to the marks
module _ (n : ℕ) where
  put_ones : (x : ℕ × ℕ) (ms : List ℕ) → x.0 < 16 → x.1 < n → x.1 < length ms
      → total (take n (put x ms)) ≡ total (take n ms) + clear_bit (get_or ms x.1 0) x.0
  put_ones x ms j h l = less _ _ _ _ _ (total_set ms n x.1 (with_bit (get_or ms x.1 0) x.0) h l) (ones_with 16 (get_or ms x.1 0) x.0 j)
    where
      less : (s a t b c : ℕ) → s + a ≡ t + b → b ≡ a + c → s ≡ t + c
      less s a t b c e d = omega arith

  marked_ones : (xs : List (ℕ × ℕ)) (ms : List ℕ) → ((x : ℕ × ℕ) → x ∈ xs → (x.0 < 16) × (x.1 < n) × (x.1 < length ms))
      → total (take n (marked xs ms)) ≡ total (take n ms) + newly xs ms
  unfolding marked newly
  marked_ones [] ms h = omega arith
  marked_ones (x ∷ xs) ms h =
      let f = h x (here refl) in
      let a = put_ones x ms f.0 f.1 f.2 in
      let ih = marked_ones xs (put x ms) (λ y m. rw (length-set ms x.1 (with_bit (get_or ms x.1 0) x.0)) (h y (there m))) in
      sum _ _ _ _ _ a ih
    where
      sum : (u v t c k : ℕ) → v ≡ t + c → u ≡ v + k → u ≡ t + (c + k)
      sum u v t c k e d = omega arith

-- ---- what a step announces
targets_in : (limit n : ℕ) (to : ℕ → Option ℕ) → ((c y : ℕ) → to c ≡ some y → y < n) → (ps ys : List (ℕ × ℕ)) → targets limit to ps ≡ some ys
    → (x : ℕ × ℕ) → x ∈ ys → (x.0 < limit) × (x.1 < n)
unfolding targets
targets_in limit n to h [] ys e x m = let z : ◌≡◌ {A = List (ℕ × ℕ)} [] ys = cc in elim (rw (← z) at m) [ ]
targets_in limit n to h (p ∷ ps) ys e x m =
    on_need (ltb p.0 limit) _ e λ t d.
    on_bind (to p.1) _ d λ y ey d₁.
    on_bind (targets limit to ps) _ d₁ λ zs ez d₂.
    let z : (p.0, y) ∷ zs ≡ ys = cc in
    first y zs t ey (targets_in limit n to h ps zs ez x) (rw (← z) at m)
  where
    first : (y : ℕ) (zs : List (ℕ × ℕ)) → ltb p.0 limit ≡ true → to p.1 ≡ some y → (x ∈ zs → (x.0 < limit) × (x.1 < n))
        → x ∈ ((p.0, y) ∷ zs) → (x.0 < limit) × (x.1 < n)
    first y zs t ey ih (here d) = rw d (ltb_is _ _ t, h p.1 y ey)
    first y zs t ey ih (there k) = ih k

module _ (plan score spans : List ℕ) where
  look_outs : (it : ℕ × ℕ) (found : Finding) → look plan score spans it ≡ some found → (x : ℕ × ℕ) → x ∈ found.outs
      → (x.0 < 16) × (x.1 < length score)
  unfolding look
  look_outs it found e x m =
      on_need (counts_good plan) _ e λ t d.
      on_bind (label_word plan (get_or plan 0 0) it.0) _ d λ c ec d₁.
      on_bind (target (length score) spans it.1 c) _ d₁ λ y ey d₂.
      on_bind (get_elem? score y) _ d₂ λ f ef d₃.
      on_bind (block_of plan (get_or plan 0 0) (get_or plan 1 0) it.0 f) _ d₃ λ b eb d₄.
      on_bind (targets (get_or plan 2 0) (target (length score) spans it.1) b.0) _ d₄ λ os eo d₅.
      on_bind (targets (get_or plan 0 0) (target (length score) spans it.1) b.1) _ d₅ λ ns en d₆.
      let z : record { node = y; outs = os; nexts = ns } ≡ found = cc in
      let o : os ≡ found.outs = ap (λ g. g.outs) z in
      let r = targets_in (get_or plan 2 0) (length score) (target (length score) spans it.1)
      (λ k v g. (target_in (length score) spans it.1 k v g).0) b.0 os eo x (rw o m) in
      let few = (counts_of_lem plan t).3 in
      (omega arith, r.1)

  pub moved_grows : (it : ℕ × ℕ) (found : Finding) (w : Walk) (its : List (ℕ × ℕ)) → look plan score spans it ≡ some found
      → ((x : ℕ × ℕ) → x ∈ found.outs → x.1 < length w.marks) → Grows (length score) w (moved w found its)
  moved_grows it found w its e inside =
      let m = marked_ones (length score) found.outs w.marks (λ x i. let o = look_outs it found e x i in (o.0, o.1, inside x i)) in
      omega (arith, m)

  tried_grows : (i : ℕ) (w v : Walk) → tried plan score spans i w ≡ some v → Grows (length score) w v
  tried_grows i w v e = on_tried plan score spans i w v e λ its it found l t z. rw z (moved_grows it found w (onward i its found.nexts) l
      (marks_there w found (onward i its found.nexts) t))

  pub step_grows : (i : ℕ) (w : Walk) → Grows (length score) w (stepped plan score spans i w).walk
  step_grows i w = go (cases plan score spans i w)
    where
      go : Cases plan score spans i w → Grows (length score) w (stepped plan score spans i w).walk
      go (is_taken v d h) = rw h (tried_grows i w v d)
      go (is_34 d h) = rw h refl
      go (is_32 l h) = rw h refl

  pub run_grows : (is : List ℕ) (w : Walk) → Grows (length score) w (run plan score spans is w)
  unfolding run
  run_grows [] w = refl
  run_grows (i ∷ is) w = grows_on (length score) w (stepped plan score spans i w).walk (run plan score spans is (stepped plan score spans i w).walk)
      (step_grows i w) (run_grows is (stepped plan score spans i w).walk)

-- ---- where the number is the ones
pub begun_number : (n : ℕ) (w : Walk) → (begun n w).count.matches ≡ ones n (begun n w)
begun_number n w = sym (total_zeros n (drop (length (replicate {A = ℕ} n 0)) w.marks))

module _ (n : ℕ) (w : Walk) where
  pub number_kept : (v : Walk) → w.count.matches ≡ ones n w → Grows n w v → v.count.matches ≡ ones n v
  number_kept v e g = omega (arith, e, g)

  module _ (e : w.count.matches ≡ ones n w) where
    pub number_in : w.count.matches ≤ 16 * n
    number_in = let t = total_most n w.marks in omega (arith, e, t)

    pub numbered_in : n ≤ 65536 → numbered n w.count ≡ true
    numbered_in h =
        let m = number_in in
        both (is_leb w.count.matches (16 * n) m) (is_leb w.count.matches (2 ^ 63) (omega arith))
