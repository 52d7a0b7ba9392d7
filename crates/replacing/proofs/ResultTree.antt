-- The new score's words are those of the tree with the replacement in it.
--   Match            a shape that matches at a node of a score
--   binding-is       what a name stands for is what its blank covers
--   result_words     the words
--   result_fits result_whole   what fits, and has no blank
--   result-is is-result        it is a score exactly if it has at most 4,096 nodes, and is at most 64 deep
use Rattle.kinds.specs.declared.Refusal.{Refusal}
use Rattle.term.specs.declared.Met.{Met}
use Rattle.std.specs.Prelude.{Err, Ok, Result, is_ok}
use Prim.Native.Nat.{ℕ, ◌+◌, ◌-◌, ◌<◌, ◌≤◌}
use mathlib.Core.Path.{◌≡◌, refl, ap, ap₂, sym, ◌∙◌}
use mathlib.Core.List.{List, [], ◌∷◌, ◌++◌, append-nil}
use mathlib.Core.Bool.{true}
use mathlib.Core.Option.{some}
use native.Mathlib.Omega.{arith}
use borrow.Author.Tests.{lt-ltb, le-ltb}
use lib.ListN.{length, get_elem?, take, drop, length-append}
use lib.Seq.{drop_at, take_at}
use Rattle.kinds.specs.Limits.{blank_word, first_name, no_blank, score_levels}
use Rattle.kinds.specs.Lists.{gather}
use Rattle.kinds.specs.Positions.{Pos}
use Rattle.kinds.proofs.Along.{Along, along_at, along_length}
use Rattle.kinds.proofs.Places.{at_some, get_d_at}
use Rattle.term.specs.Terms.{Term, span, depth, flatten, sizes, Fits, Whole}
use Rattle.term.specs.Places.{sub, edges, number, Matches}
use Rattle.term.specs.Admitted.{IsScore}
use Rattle.term.specs.Replacing.{fill}
use Rattle.term.proofs.Numbers.{sub_number}
use Rattle.term.proofs.OneTerm.{once}
use Rattle.term.proofs.Replacing.{put_words, put_fits, put_whole, fill_words, fill_fits, fill_whole}
use Rattle.term.proofs.Sizes.{length_flatten}
use Rattle.term.proofs.Subterms.{fits_sub, whole_sub}
use Rattle.term.proofs.LawsReading.{whole_in}
use Rattle.term.proofs.WholeTerm.{whole_term}
use Rattle.contents.specs.Tables.{score_limits, score_of}
use Rattle.contents.proofs.LawsTables.{score_read}
use Rattle.folio.proofs.ScoreWhole.{score_of_lem}
use Rattle.following.proofs.FollowTree.{words_stand, span_at_lem}
use Rattle.matching.specs.Falling.{covered}
use Rattle.matching.specs.Shapes.{part}
use Rattle.matching.proofs.LawsShapes.{part_is}
use Rattle.matching.proofs.CoversTree.{covers}
use Rattle.kinds.proofs.Bools.{false_true}
use Rattle.replacing.specs.Links.{IsLink, binding, replaced}
use Rattle.replacing.specs.Putting.{under, piece_of, result_of}

-- the words of the subtree at a position's node
under_is : (t : Term) (p : Pos) (u : Term) (y : ℕ) → sub t p ≡ some u → number t p ≡ some y → under (flatten t) (sizes t) y ≡ flatten u
unfolding under
under_is t p u y e n =
    let s = words_stand t p u y e n in
    let k = span_at_lem t p u y e n in
    let z : y + span u - y ≡ span u = omega arith in
    let l : length (flatten t) ≡ length s.front + (length (flatten u) + length s.back) =
    ap length s.whole ∙ length-append s.front (flatten u ++ s.back) ∙ ap (λ m. length s.front + m) (length-append (flatten u) s.back) in
    ap (λ m. part (flatten t) y (y + m)) k
    ∙ part_is (flatten t) y (y + span u) (omega arith) (omega (arith, l, s.place, length_flatten u))
    ∙ ap₂ (λ m w. take m (drop y w)) z s.whole
    ∙ ap (take (span u)) (drop_at s.front (flatten u ++ s.back) y s.place)
    ∙ take_at (flatten u) s.back (span u) (length_flatten u)

module _ (ar : List ℕ) (ℓ t : Term) (fits : Fits ar blank_word ℓ) (is : IsScore ar t) (p : Pos) (x : ℕ) (n : number t p ≡ some x) (m : Matches ℓ t p) where
  abbrev F : List ℕ
  F = flatten t

  abbrev S : List ℕ
  S = sizes t

  abbrev nodes : List ℕ
  nodes = covered blank_word S (flatten ℓ) x

  along : Along (λ q y. number t (p ++ q) ≡ some y) (edges ℓ) nodes
  along = covers ar blank_word no_blank ℓ t fits is.fits p x n m

  pub as_many : length nodes ≡ length (edges ℓ)
  as_many = sym (along_length along)

  -- what a name stands for
  pub record Covers (w : ℕ) : Type 0 where
    pub q : Pos
    pub y : ℕ
    pub v : Term
    pub edge : get_elem? (edges ℓ) (w - first_name) ≡ some q
    pub node : get_elem? nodes (w - first_name) ≡ some y
    pub at : number t (p ++ q) ≡ some y
    pub covered : sub t (p ++ q) ≡ some v
    pub bound : binding ℓ t p w ≡ v

  pub covers_name : (w : ℕ) → first_name ≤ w → w < first_name + length (edges ℓ) → Covers w
  covers_name w h g =
      let q = at_some (edges ℓ) (w - first_name) (omega arith) in
      let y = along_at along (w - first_name) q.1 in
      let v = sub_number (p ++ q.0) t y.0 y.2 in
      record { q = q.0; y = y.0; v = v.0; edge = q.1; node = y.1; at = y.2; covered = v.1; bound = rw (q.1, v.1) }

  piece_symbol : (w : ℕ) → w < first_name → piece_of F S nodes w ≡ w ∷ []
  unfolding piece_of
  piece_symbol w h = rw (lt-ltb w first_name h)

  piece_name : (w : ℕ) → first_name ≤ w → w < first_name + length (edges ℓ) → flatten (binding ℓ t p w) ≡ piece_of F S nodes w
  unfolding piece_of
  piece_name w h g =
      let c = covers_name w h g in
      rw (le-ltb w first_name h, get_d_at nodes (w - first_name) 0 c.node) (ap flatten c.bound
      ∙ sym (under_is t (p ++ c.q) c.v c.y c.covered c.at))

  module _ (link : List ℕ) (r : Term) (k : IsLink ar ℓ link r) where
    abbrev R : Term
    R = replaced ℓ t p r

    filled_words : gather (piece_of F S nodes) link ≡ flatten (fill (binding ℓ t p) r)
    filled_words =
        ap (gather (piece_of F S nodes)) k.words
        ∙ sym (fill_words ar first_name (first_name + length (edges ℓ)) (binding ℓ t p) (piece_of F S nodes) piece_symbol r k.fits k.names piece_name)

    pub result_words : result_of F S x nodes link ≡ flatten R
    unfolding result_of
    result_words =
        let s = sub_number p t x n in
        ap₂ (λ w c. take x F ++ (w ++ drop (x + c) F)) filled_words (span_at_lem t p s.0 x s.1 n)
        ∙ sym (put_words p t s.0 x s.1 n (fill (binding ℓ t p) r))

    bound_fits : (w : ℕ) → first_name ≤ w → w < first_name + length (edges ℓ) → Fits ar no_blank (binding ℓ t p w)
    bound_fits w h g = let c = covers_name w h g in rw c.bound (fits_sub ar no_blank (p ++ c.q) t is.fits c.covered)

    bound_whole : (w : ℕ) → first_name ≤ w → w < first_name + length (edges ℓ) → Whole (binding ℓ t p w)
    bound_whole w h g = let c = covers_name w h g in rw c.bound (whole_sub (p ++ c.q) t is.whole c.covered)

    pub result_fits : Fits ar no_blank R
    result_fits = put_fits ar no_blank p t (fill (binding ℓ t p) r) is.fits
        (fill_fits ar first_name no_blank (first_name + length (edges ℓ)) (binding ℓ t p) (omega arith) r k.fits k.names bound_fits)

    pub result_whole : Whole R
    result_whole = put_whole p t (fill (binding ℓ t p) r) is.whole
        (fill_whole ar first_name (first_name + length (edges ℓ)) (binding ℓ t p) r k.fits k.names bound_whole)

-- ---- a tree that fits and has no blank is a score exactly if it is one within the limits
module _ (ar : List ℕ) (u : Term) (fits : Fits ar no_blank u) (whole : Whole u) where
  pub within : span u ≤ 4096 → depth u ≤ 64 → IsScore ar u
  within a b = record { fits = fits; whole = whole; flat = b; small = a }

  pub passes : span u ≤ 4096 → depth u ≤ 64 → is_ok (score_of ar (flatten u)) ≡ true
  passes a b = ap is_ok (score_of_lem ar u (within a b))

  pub passed : is_ok (score_of ar (flatten u)) ≡ true → (span u ≤ 4096) × (depth u ≤ 64)
  passed e = go (score_of ar (flatten u)) refl e
    where
      go : (s : Result Met Refusal) → score_of ar (flatten u) ≡ s → is_ok s ≡ true → (span u ≤ 4096) × (depth u ≤ 64)
      go (Err why) d h = false_true h
      go (Ok m) d h =
          let r = score_read ar (flatten u) m d in
          let a = whole_term ar (flatten u) (score_limits 0) score_levels 0 m r.0 in
          let w = whole_in ar (flatten u) (score_limits 0) score_levels 0 m r.0 in
          let o = once ar no_blank u a.tree [] (drop m.end (flatten u)) fits a.fits (append-nil (flatten u) ∙ a.words) in
          (omega (arith, w.few, r.1, length_flatten u), omega (arith, a.flat, ap depth o.0))
