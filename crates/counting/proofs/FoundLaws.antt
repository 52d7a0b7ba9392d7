-- The matches that marks hold, node by node.
--   found_one found_at  a shape's match at a node, if there is one; the matches of a node
--   found_nodes         all are those of each node
--   in_found            what is known of one of them
--   total_found         how many there are
use mathlib.Core.Path.{◌≡◌, refl, ap, ap₂, sym, ◌∙◌}
use mathlib.Core.List.{List, [], ◌∷◌, ◌++◌, map, append-nil}
use mathlib.Core.Bool.{Bool, true, false, cond}
use Prim.Native.Nat.{ℕ, zero, suc, ◌+◌, ◌*◌, ◌/◌, ◌%◌, ◌<◌}
use native.Mathlib.Omega.{arith}
use native.Mathlib.Nat.{add-zero, zero-add}
use lib.Dec.{eqb}
use lib.ListN.{length, get_or, length-append}
use Rattle.kinds.specs.Lists.{filter, gather, range}
use Rattle.kinds.specs.Bits.{bit, sum_to}
use Rattle.kinds.proofs.Bools.{eqb_is, is_eqb, false_true}
use Rattle.kinds.proofs.BitLaws.{clear_or_set}
use Rattle.kinds.proofs.ListLaws.{filter_append, map_append, gather_append, gather_same, range_append, range_next}
use Rattle.kinds.specs.Members.{◌∈◌}
use Rattle.kinds.proofs.Members.{in_filter, in_range, on_map}
use Rattle.counting.specs.Counting.{Match, match_at, match_of, found, found_from, found_in, total}

abbrev pub one : Bool → Match → List Match
one b m = cond b (m ∷ []) []

abbrev pub found_one : List ℕ → ℕ → ℕ → List Match
found_one ms x j = one (found ms (match_at x j)) (match_at x j)

abbrev pub found_at : List ℕ → ℕ → List Match
found_at ms x = gather (found_one ms x) (range 0 16)

module _ (ms : List ℕ) where
  -- numbers from c on, one by one
  each_one : (xs : List ℕ) → map match_of (filter (λ i. found ms (match_of i)) xs) ≡ gather (λ i. one (found ms (match_of i)) (match_of i)) xs
  each_one [] = refl
  each_one (x ∷ xs) = go (found ms (match_of x)) (each_one xs)
    where
      go : (b : Bool) → map match_of (filter (λ i. found ms (match_of i)) xs) ≡ gather (λ i. one (found ms (match_of i)) (match_of i)) xs
          → map match_of (cond b (x ∷ filter (λ i. found ms (match_of i)) xs) (filter (λ i. found ms (match_of i)) xs))
          ≡ one b (match_of x) ++ gather (λ i. one (found ms (match_of i)) (match_of i)) xs
      go true ih = ap (λ l. match_of x ∷ l) ih
      go false ih = ih

  shifted : (g : ℕ → List Match) (c a n : ℕ) → gather g (range (c + a) n) ≡ gather (λ j. g (c + j)) (range a n)
  shifted g c a zero = refl
  shifted g c a (suc n) = let z : suc (c + a) ≡ c + suc a = omega arith in rw z (ap (λ l. g (c + a) ++ l) (shifted g c (suc a) n))

  -- the sixteen numbers of a node
  node_found : (x : ℕ) → found_from ms (16 * x) 16 ≡ found_at ms x
  unfolding found_from
  node_found x =
      each_one (range (16 * x) 16)
      ∙ ap (λ c. gather (λ i. one (found ms (match_of i)) (match_of i)) (range c 16)) (sym (add-zero (16 * x)))
      ∙ shifted (λ i. one (found ms (match_of i)) (match_of i)) (16 * x) 0 16
      ∙ gather_same (λ j. one (found ms (match_of (16 * x + j))) (match_of (16 * x + j))) (found_one ms x) (range 0 16)
      (λ j m. let b = in_range 16 0 j m in
      let q : (16 * x + j) / 16 ≡ x = omega (arith, b.1) in
      let r : (16 * x + j) % 16 ≡ j = omega (arith, b.1) in
      λ i. one (found ms (match_at (q i) (r i))) (match_at (q i) (r i)))

  from_append : (k m n : ℕ) → found_from ms k (m + n) ≡ found_from ms k m ++ found_from ms (k + m) n
  unfolding found_from
  from_append k m n =
      ap (λ l. map match_of (filter (λ i. found ms (match_of i)) l)) (range_append k m n)
      ∙ ap (map match_of) (filter_append (λ i. found ms (match_of i)) (range k m) (range (k + m) n))
      ∙ map_append match_of (filter (λ i. found ms (match_of i)) (range k m)) (filter (λ i. found ms (match_of i)) (range (k + m) n))

  nodes_found : (n : ℕ) → found_from ms 0 (16 * n) ≡ gather (found_at ms) (range 0 n)
  unfolding found_from
  nodes_found zero = refl
  nodes_found (suc n) =
      let z : 16 * suc n ≡ 16 * n + 16 = omega arith in
      ap (found_from ms 0) z ∙ from_append 0 (16 * n) 16
      ∙ ap₂ ◌++◌ (nodes_found n) (ap (λ k. found_from ms k 16) (zero-add (16 * n)) ∙ node_found n ∙ sym (append-nil (found_at ms n)))
      ∙ sym (gather_append (found_at ms) (range 0 n) (n ∷ []))
      ∙ ap (gather (found_at ms)) (sym (range_next 0 n ∙ ap (λ k. range 0 n ++ (k ∷ [])) (zero-add n)))

  pub found_nodes : found_in ms ≡ gather (found_at ms) (range 0 (length ms))
  found_nodes = nodes_found (length ms)

-- ---- one of them
pub in_found : (ms : List ℕ) (m : Match) → m ∈ found_in ms → (m.node < length ms) × (m.shape < 16) × (found ms m ≡ true)
unfolding found_from
in_found ms m i =
    on_map match_of (filter (λ k. found ms (match_of k)) (range 0 (16 * length ms))) i λ k j e.
    let f = in_filter (λ k. found ms (match_of k)) (range 0 (16 * length ms)) j in
    let b = in_range (16 * length ms) 0 k f.0 in
    rw e (omega (arith, b.1), omega arith, f.1)

-- ---- all
length_to : {A : Type 0} (k c : ℕ) (f : ℕ → ℕ) (g : ℕ → List A) → ((i : ℕ) → f i ≡ length (g (c + i))) → sum_to k f ≡ length (gather g (range c k))
length_to zero c f g e = refl
length_to (suc k) c f g e =
    let z = e 0 ∙ ap (λ i. length (g i)) (add-zero c) in
    let r = length_to k (suc c) (λ i. f (suc i)) g (λ i. e (suc i) ∙ ap (λ n. length (g n)) (shift i)) in
    ap₂ ◌+◌ z r ∙ sym (length-append (g c) (gather g (range (suc c) k)))
  where
    shift : (i : ℕ) → c + suc i ≡ suc c + i
    shift i = omega arith

bit_one : (m j : ℕ) (y : Match) → bit m j ≡ length (one (eqb (bit m j) 1) y)
bit_one m j y = go (eqb (bit m j) 1) refl
  where
    go : (b : Bool) → eqb (bit m j) 1 ≡ b → bit m j ≡ length (one b y)
    go true e = eqb_is (bit m j) 1 e
    go false e = clear_or_set m j (λ h. false_true (sym e ∙ is_eqb (bit m j) 1 h))

total_from : (ms : List ℕ) (ns : List ℕ) (c : ℕ) → ((i : ℕ) → get_or ns i 0 ≡ get_or ms (c + i) 0)
    → total ns ≡ length (gather (found_at ms) (range c (length ns)))
unfolding total
total_from ms [] c e = refl
total_from ms (n ∷ ns) c e =
    ap₂ ◌+◌ (here) (total_from ms ns (suc c) (λ i. e (suc i) ∙ ap (λ k. get_or ms k 0) (shift i)))
    ∙ sym (length-append (found_at ms c) (gather (found_at ms) (range (suc c) (length ns))))
  where
    shift : (i : ℕ) → c + suc i ≡ suc c + i
    shift i = omega arith

    same : n ≡ get_or ms c 0
    same = e 0 ∙ ap (λ k. get_or ms k 0) (add-zero c)

    here : sum_to 16 (bit n) ≡ length (found_at ms c)
    here =
        ap (λ k. sum_to 16 (bit k)) same
        ∙ length_to 16 0 (bit (get_or ms c 0)) (found_one ms c)
        (λ j. bit_one (get_or ms c 0) j (match_at c j) ∙ ap (λ n. length (found_one ms c n)) (sym (zero-add j)))

pub total_found : (ms : List ℕ) → total ms ≡ length (found_in ms)
total_found ms = total_from ms ms 0 (λ i. ap (λ k. get_or ms k 0) (sym (zero-add i))) ∙ ap length (sym (found_nodes ms))
