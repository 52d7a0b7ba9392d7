-- A match clashes with another exactly if it touches a node that all matches together touch more than once.
--   Other found_others      the matches that marks hold differ from each other
--   same_share              what two matches share depends on their nodes alone
--   clash_number_lem        the second pass counts the clashing matches
--   strays_none on_stray matched_all   no bit strays exactly if each set bit is a match
--   clashes_are             the number that the passes find, where no bit strays
use Prim.Native.Nat.{ℕ, zero, suc, ◌+◌, ◌*◌, ◌/◌, ◌%◌, ◌<◌, ◌≤◌}
use mathlib.Core.Path.{◌≡◌, refl, ap, sym, ◌∙◌}
use mathlib.Core.List.{List, ◌∷◌, ◌++◌}
use mathlib.Core.Bool.{true, false, not, ◌&&◌}
use mathlib.Core.Logic.{◌⊎◌, inl, inr}
use native.Mathlib.Omega.{arith}
use native.Mathlib.Nat.{zero-add}
use native.Mathlib.Decide.{ℕ_discrete, dec_lt}
use lib.Dec.{eqb, ltb}
use lib.ListN.{length, get_or, replicate, length-replicate}
use borrow.Author.Tests.{eq-eqb, ne_eqb}
use Rattle.kinds.specs.Lists.{any, filter, gather, range}
use Rattle.kinds.specs.Members.{◌∈◌, here, there, Pairwise}
use Rattle.kinds.proofs.Bools.{and_l, and_r, both, bool_ext, ltb_is, is_ltb, test, false_true, of_not}
use Rattle.kinds.proofs.ListLaws.{filter_same}
use Rattle.kinds.proofs.Members.{on_any, any_of, any_none, eqb_in, in_eqb, gather_in, on_gather}
use Rattle.kinds.proofs.Pairwise.{pairwise_filter, pairwise_map, pairwise_range}
use Rattle.counting.specs.Counting.{Match, match_of, found, found_from, found_in}
use Rattle.matching.specs.Shapes.{shape_at}
use Rattle.matching.specs.Counts.{raises, is_shared}
use Rattle.clashing.specs.Clashes.{meet, other, clash, clashing, clash_number, nodes_of}
use Rattle.clashing.specs.Strays.{matched, strays}
use Rattle.clashing.specs.Passes.{sharing}
use Rattle.clashing.proofs.Times.{times, times_append, in_times, times_in, more_is, touched_once, falls_inside}

-- ---- matches that differ
abbrev Other : Match → Match → Type 0
Other m o = other m o ≡ true

same_other : (m o : Match) → m ≡ o → Other m o → ⊥
same_other m o e h =
    let a : other m m ≡ true = rw (← e) at h in
    false_true (sym (rw (eq-eqb m.node m.node refl, eq-eqb m.shape m.shape refl)) ∙ a)

other_back : (m o : Match) → Other m o → Other o m
other_back m o h = go (ℕ_discrete o.node m.node) (ℕ_discrete o.shape m.shape)
  where
    go : Dec (o.node ≡ m.node) → Dec (o.shape ≡ m.shape) → Other o m
    go (yes e) (yes d) = absurd (same_other m o (λ i. record { node = sym e i; shape = sym d i }) h)
    go (yes e) (no d) = rw (eq-eqb o.node m.node e, ne_eqb o.shape m.shape d)
    go (no e) d = rw (ne_eqb o.node m.node e)

numbers_other : (i j : ℕ) → i < j → Other (match_of i) (match_of j)
numbers_other i j h = go (ℕ_discrete (i / 16) (j / 16)) (ℕ_discrete (i % 16) (j % 16))
  where
    go : Dec (i / 16 ≡ j / 16) → Dec (i % 16 ≡ j % 16) → Other (match_of i) (match_of j)
    go (yes e) (yes d) = absurd (omega arith)
    go (yes e) (no d) = rw (eq-eqb (i / 16) (j / 16) e, ne_eqb (i % 16) (j % 16) d)
    go (no e) d = rw (ne_eqb (i / 16) (j / 16) e)

found_others : (ms : List ℕ) → Pairwise Other (found_in ms)
unfolding found_from
found_others ms =
    let all = range 0 (16 * length ms) in
    pairwise_map ◌<◌ Other match_of (filter (λ i. found ms (match_of i)) all) (λ i j a b h. numbers_other i j h)
    (pairwise_filter ◌<◌ (λ i. found ms (match_of i)) all (pairwise_range 0 (16 * length ms)))

-- ---- a node in common
share_of : (xs ys : List ℕ) (y : ℕ) → y ∈ xs → y ∈ ys → meet xs ys ≡ true
share_of xs ys y i j = any_of (λ x. any (eqb x) ys) i (in_eqb j)

on_share {κ} : {C : Type κ} (xs ys : List ℕ) → meet xs ys ≡ true → ((y : ℕ) → y ∈ xs → y ∈ ys → C) → C
on_share xs ys e c = on_any (λ x. any (eqb x) ys) xs e λ y i f. c y i (eqb_in y ys f)

-- two lists of nodes that have the same nodes share with the same
pub same_share : (xs ys vs ws : List ℕ) → ((y : ℕ) → y ∈ xs → y ∈ vs) → ((y : ℕ) → y ∈ vs → y ∈ xs) → ((y : ℕ) → y ∈ ys → y ∈ ws)
    → ((y : ℕ) → y ∈ ws → y ∈ ys) → meet xs ys ≡ meet vs ws
same_share xs ys vs ws a b c d = bool_ext (meet xs ys) (meet vs ws)
    (λ e. on_share xs ys e λ y i j. share_of vs ws y (a y i) (c y j))
    (λ e. on_share vs ws e λ y i j. share_of xs ys y (b y i) (d y j))

get_d_zeros : (n y : ℕ) → ◌≡◌ {A = ℕ} (get_or (replicate n 0) y 0) 0
get_d_zeros zero y = refl
get_d_zeros (suc n) zero = refl
get_d_zeros (suc n) (suc y) = get_d_zeros n y

-- ---- the nodes of each match; no match has one twice
module _ (N : Match → List ℕ) (y : ℕ) where
  two_touch : (all : List Match) (m o : Match) → m ∈ all → o ∈ all → Other m o → y ∈ N m → y ∈ N o → 1 < times y (gather N all)
  two_touch mathlib.Core.List.[] m o x5 _ h i j = elim x5 [ ]
  two_touch (a ∷ all) m o (here e) (here d) h i j = absurd (same_other m o (e ∙ sym d) h)
  two_touch (a ∷ all) m o (here e) (there q) h i j =
      let own = in_times y (N a) (rw e at i) in
      let rest = in_times y (gather N all) (gather_in N q j) in
      rw (times_append y (N a) (gather N all)) (omega arith)
  two_touch (a ∷ all) m o (there p) (here d) h i j =
      let own = in_times y (N a) (rw d at j) in
      let rest = in_times y (gather N all) (gather_in N p i) in
      rw (times_append y (N a) (gather N all)) (omega arith)
  two_touch (a ∷ all) m o (there p) (there q) h i j =
      let ih = two_touch all m o p q h i j in
      rw (times_append y (N a) (gather N all)) (omega arith)

  on_two {κ} : {C : Type κ} → ((m : Match) → times y (N m) ≤ 1) → (all : List Match) → Pairwise Other all → (m : Match) → m ∈ all
      → 1 < times y (gather N all) → ((o : Match) → o ∈ all → Other m o → y ∈ N o → C) → C
  on_two {C = C} once mathlib.Core.List.[] p m x4 h c = elim x4 [ ]
  on_two once (a ∷ all) p m (here e) h c =
      let l = once a in
      let s = times_append y (N a) (gather N all) in
      on_gather N all (times_in y (gather N all) (omega (arith, h))) λ o i j. c o (there i) (rw e (p.0 o i)) j
  on_two {C = C} once (a ∷ all) p m (there i) h c = go (dec_lt 0 (times y (N a))) (λ l. on_two once all p.1 m i l (λ o k. c o (there k)))
    where
      s : times y (N a ++ gather N all) ≡ times y (N a) + times y (gather N all)
      s = times_append y (N a) (gather N all)

      go : Dec (0 < times y (N a)) → (1 < times y (gather N all) → C) → C
      go (yes l) ih = c a (here refl) (other_back a m (p.0 m i)) (times_in y (N a) (omega (arith, l)))
      go (no l) ih = ih (omega (arith, h, s))

module _ (N : Match → List ℕ) (all : List Match) (n : ℕ) (once : (m : Match) (y : ℕ) → times y (N m) ≤ 1)
    (inside : (m : Match) (y : ℕ) → m ∈ all → y ∈ N m → y < n) (differ : Pairwise Other all) where
  abbrev counts : List ℕ
  counts = raises (gather N all) (replicate n 0)

  more : (y : ℕ) → y < n → ltb 1 (get_or counts y 0) ≡ ltb 1 (times y (gather N all))
  more y h = more_is (gather N all) (replicate n 0) y (rw length-replicate h) ∙ rw (get_d_zeros n y, zero-add)

  module _ (m : Match) (i : m ∈ all) where
    clash_shared : clashing N all m ≡ true → is_shared counts (N m) ≡ true
    unfolding is_shared
    clash_shared e = on_any (λ o. other m o && clash N m o) all e λ o k q.
        on_share (N m) (N o) (and_r (other m o) q) λ y a b.
        any_of (λ z. ltb 1 (get_or counts z 0)) a
        (more y (inside m y i a) ∙ is_ltb 1 (times y (gather N all)) (two_touch N y all m o i k (and_l (clash N m o) q) a b))

    shared_clash : is_shared counts (N m) ≡ true → clashing N all m ≡ true
    unfolding is_shared
    shared_clash e = on_any (λ z. ltb 1 (get_or counts z 0)) (N m) e λ y a f.
        on_two N y (λ o. once o y) all differ m i (ltb_is 1 (times y (gather N all)) (sym (more y (inside m y i a)) ∙ f)) λ o k d b.
        any_of (λ o. other m o && clash N m o) k (both {a = other m o} d (share_of (N m) (N o) y a b))

  clash_number_lem : clash_number N all ≡ sharing N counts all
  unfolding clash_number sharing
  clash_number_lem = ap length (filter_same (clashing N all) (λ m. is_shared counts (N m)) all (λ m i. bool_ext _ _ (clash_shared m i) (shared_clash m i)))

-- ---- where every bit is a match
module _ (ws st score spans : List ℕ) (all : List Match) where
  pub strays_none : ((m : Match) → m ∈ all → matched ws st score spans m ≡ true) → strays ws st score spans all ≡ false
  unfolding strays
  strays_none h = any_none (λ m. not (matched ws st score spans m)) all (λ m i. rw (h m i))

  pub on_stray {κ} : {C : Type κ} → strays ws st score spans all ≡ true → ((m : Match) → m ∈ all → matched ws st score spans m ≡ false → C) → C
  unfolding strays
  on_stray e c = on_any (λ m. not (matched ws st score spans m)) all e λ m i f. c m i (of_not (matched ws st score spans m) f)

  pub matched_all : strays ws st score spans all ≡ false → (m : Match) → m ∈ all → matched ws st score spans m ≡ true
  unfolding strays
  matched_all good m i = go (test (matched ws st score spans m))
    where
      go : (matched ws st score spans m ≡ true) ⊎ (matched ws st score spans m ≡ false) → matched ws st score spans m ≡ true
      go (inl e) = e
      go (inr e) = false_true (sym good ∙ any_of (λ m. not (matched ws st score spans m)) i (rw e))

pub clashes_are : (ws st score spans ms : List ℕ) → strays ws st score spans (found_in ms) ≡ false → length score ≤ 4096
    → sharing (nodes_of ws st spans) (raises (gather (nodes_of ws st spans) (found_in ms)) (replicate 4096 0)) (found_in ms)
    ≡ clash_number (nodes_of ws st spans) (found_in ms)
unfolding nodes_of matched
clashes_are ws st score spans ms good few =
    sym (clash_number_lem (nodes_of ws st spans) (found_in ms) 4096 (λ m y. touched_once 65535 spans (shape_at ws st m.shape) m.node y)
    (λ m y i j. let z = falls_inside 65535 spans score (shape_at ws st m.shape) m.node y
    (and_r (ltb m.shape (length st)) (matched_all ws st score spans (found_in ms) good m i)) j in omega arith)
    (found_others ms))
