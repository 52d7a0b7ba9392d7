-- Over one folio's tables: words say of matches and of the nodes that they touch what the terms say.
--   match_of_lem matched_is is_matched  a match by the tables is one by the terms
--   nodes_at nodes_in_lem in_nodes      the nodes that it touches are the same by both
--   clashes_same                        and so is the clash number
--   SaysOf says_of                      all together, for tables that are those of terms
use Prim.Native.Nat.{ℕ, ◌<◌}
use mathlib.Core.Path.{◌≡◌, ap}
use mathlib.Core.List.{List, [], ◌++◌}
use mathlib.Core.Bool.{true, ◌&&◌}
use mathlib.Core.Option.{some}
use mathlib.Core.Logic.{⊎_elim, ◌↔◌}
use native.Mathlib.Omega.{arith}
use lib.Dec.{ltb}
use lib.ListN.{length, get_elem?}
use Rattle.kinds.specs.Lists.{gather}
use Rattle.kinds.specs.Members.{◌∈◌}
use Rattle.kinds.specs.Positions.{Pos}
use Rattle.kinds.proofs.Bools.{and_l, and_r, both, is_ltb, ltb_is}
use Rattle.kinds.proofs.ListLaws.{any_same, filter_same}
use Rattle.kinds.proofs.Members.{∈_left, ∈_append, in_none}
use Rattle.kinds.proofs.Places.{at_in, at_below, at_some}
use Rattle.term.specs.Terms.{Term, span, flatten, sizes, Fits}
use Rattle.term.specs.Places.{number, Matches}
use Rattle.term.proofs.Numbers.{node_at_lem, number_place}
use Rattle.term.proofs.Sizes.{length_flatten}
use Rattle.term.specs.Admitted.{AreShapes, IsScore}
use Rattle.folio.specs.Folio.{starts_at}
use Rattle.folio.proofs.ShapesFound.{length_starts}
use Rattle.counting.specs.Counting.{Match}
use Rattle.matching.specs.Shapes.{shape_at}
use Rattle.matching.proofs.ShapeWords.{shape_words_lem}
use Rattle.matching.proofs.FallsTree.{falls_matches, matches_falls}
use Rattle.matching.proofs.TouchesTree.{Touches, touches_at, at_touches, touched_touches, touches_touched}
use Rattle.clashing.specs.Clashes.{other, clash, clashing, clash_number, nodes_in, nodes_of}
use Rattle.clashing.specs.Strays.{IsMatch, matched}
use Rattle.clashing.proofs.ClashLaws.{same_share}

-- a shape and a node that exist are a match if the shape matches there
pub match_of_lem : (ss : List Term) (t : Term) (m : Match) → m.shape < length ss → m.node < span t
    → ((ℓ : Term) (p : Pos) → get_elem? ss m.shape ≡ some ℓ → number t p ≡ some m.node → Matches ℓ t p) → IsMatch ss t m
match_of_lem ss t m a b c =
    let s = at_some ss m.shape a in
    let p = node_at_lem t m.node b in
    record { shape = s.0; place = p.0; has_shape = s.1; has_node = p.1; matches = c s.0 p.0 s.1 p.1 }

-- the nodes that it touches, where shape and position are known
pub nodes_at : {ss : List Term} {t : Term} {m : Match} (is : IsMatch ss t m) (y : ℕ) → (y ∈ nodes_in ss t m) ↔ Touches is.shape t is.place y
nodes_at {ss} {t} {m} is y = rw (is.has_shape, number_place is.place t m.node is.has_node) (
  λ i. at_touches is.shape t is.place y (first (first i)),
  λ h. ∈_left [] (∈_left [] (touches_at is.shape t is.place y h)),
)
  where
    first : {xs : List ℕ} → y ∈ (xs ++ []) → y ∈ xs
    first {xs} k = ⊎_elim (λ a. a) (λ a. in_none a) (∈_append xs k)

-- ---- over a folio
module _ (ar : List ℕ) (ss : List Term) (t : Term) (are : AreShapes ar ss) (score : IsScore ar t) where
  abbrev W : List ℕ
  W = gather flatten ss

  abbrev A : List ℕ
  A = starts_at 0 ss

  abbrev F : List ℕ
  F = flatten t

  abbrev S : List ℕ
  S = sizes t

  shape_fits : (j : ℕ) {ℓ : Term} → get_elem? ss j ≡ some ℓ → Fits ar 65535 ℓ
  shape_fits j {ℓ} e = (are ℓ (at_in ss j e)).fits

  matched_is : (m : Match) → m.node < span t → matched W A F S m ≡ true → IsMatch ss t m
  unfolding matched
  matched_is m h e =
      let l = length_starts 0 ss in
      let b = ltb_is m.shape (length A) (and_l _ e) in
      match_of_lem ss t m (omega arith) h λ ℓ p s n.
      falls_matches ar 65535 65536 ℓ t (shape_fits m.shape s) score.fits score.whole p m.node n
      (rw (shape_words_lem ss m.shape ℓ s) at (and_r (ltb m.shape (length A)) e))

  module _ (m : Match) (is : IsMatch ss t m) where
    words : shape_at W A m.shape ≡ flatten is.shape
    words = shape_words_lem ss m.shape is.shape is.has_shape

    is_matched : matched W A F S m ≡ true
    unfolding matched
    is_matched = let b = at_below ss m.shape is.has_shape in let l = length_starts 0 ss in
        both {a = ltb m.shape (length A)} (is_ltb m.shape (length A) (omega arith))
        (rw words (matches_falls ar 65535 65536 is.shape t (shape_fits m.shape is.has_shape) score.fits
        score.whole is.place m.node is.has_node is.matches))

    nodes_in_lem : (y : ℕ) → y ∈ nodes_of W A S m → y ∈ nodes_in ss t m
    unfolding nodes_of
    nodes_in_lem y i =
        (nodes_at is y).1 (touched_touches ar 65535 65536 is.shape t (shape_fits m.shape is.has_shape)
        score.fits is.place m.node is.has_node is.matches y (rw words at i))

    in_nodes : (y : ℕ) → y ∈ nodes_in ss t m → y ∈ nodes_of W A S m
    unfolding nodes_of
    in_nodes y i =
        rw words (touches_touched ar 65535 65536 is.shape t (shape_fits m.shape is.has_shape)
        score.fits is.place m.node is.has_node is.matches y ((nodes_at is y).0 i))

  clashes_same : (all : List Match) → ((m : Match) → m ∈ all → IsMatch ss t m) → clash_number (nodes_of W A S) all ≡ clash_number (nodes_in ss t) all
  unfolding clash_number
  clashes_same all is = ap length (filter_same (clashing (nodes_of W A S) all) (clashing (nodes_in ss t) all) all λ m i.
      any_same (λ o. other m o && clash (nodes_of W A S) m o) (λ o. other m o && clash (nodes_in ss t) m o) all λ o k.
      ap (λ b. other m o && b) (same_share (nodes_of W A S m) (nodes_of W A S o) (nodes_in ss t m) (nodes_in ss t o)
      (nodes_in_lem m (is m i)) (in_nodes m (is m i)) (nodes_in_lem o (is o k)) (in_nodes o (is o k))))

-- ---- tables that are those of terms
pub record SaysOf (ws st score spans : List ℕ) (ss : List Term) (t : Term) : Type 0 where
  pub is_match : (m : Match) → m.node < length score → matched ws st score spans m ≡ true → IsMatch ss t m
  pub is_matched : (m : Match) → IsMatch ss t m → matched ws st score spans m ≡ true
  pub same_nodes : (m : Match) → IsMatch ss t m → (y : ℕ) → (y ∈ nodes_of ws st spans m) ↔ (y ∈ nodes_in ss t m)
  pub same_number : (all : List Match) → ((m : Match) → m ∈ all → IsMatch ss t m) → clash_number (nodes_of ws st spans) all ≡ clash_number (nodes_in ss t) all

pub says_of : (ar ws st score spans : List ℕ) (ss : List Term) (t : Term) → AreShapes ar ss → IsScore ar t → ws ≡ gather flatten ss → st ≡ starts_at 0 ss
    → score ≡ flatten t → spans ≡ sizes t → SaysOf ws st score spans ss t
says_of ar ws st score spans ss t are is a b c d = rw (a, b, c, d) (record {
  is_match = λ m h e. matched_is ar ss t are is m (rw (length_flatten t) at h) e;
  is_matched = is_matched ar ss t are is;
  same_nodes = λ m h y. (nodes_in_lem ar ss t are is m h y, in_nodes ar ss t are is m h y);
  same_number = clashes_same ar ss t are is;
})
