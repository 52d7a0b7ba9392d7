-- The words of one subtree: those of the term that stands there, or none.
use mathlib.Core.Path.{◌≡◌, refl, ◌∙◌}
use mathlib.Core.Bool.{true, false}
use mathlib.Core.List.{List, [], ◌++◌}
use mathlib.Core.Logic.{◌⊎◌, inl, inr}
use Prim.Native.Nat.{ℕ, ◌<◌}
use native.Mathlib.Omega.{arith}
use lib.ListN.{drop}
use Rattle.kinds.specs.declared.Node.{Node}
use Rattle.kinds.proofs.Bools.{test}
use Rattle.kinds.proofs.Members.{∈_left, in_drop}
use Rattle.kinds.specs.Members.{◌∈◌, Below}
use Rattle.term.specs.Terms.{Term, blank, node, flatten}
use Rattle.contents.specs.Tables.{shape_limits, score_limits}
use Rattle.kinds.specs.Limits.{blank_word, shape_levels, score_levels}
use Rattle.checks.specs.Again.{symbols_good, piece_at, subtree_at}
use Rattle.term.specs.Admitted.{GoodSymbols, IsScore}
use Rattle.checks.specs.declared.Asked.{Asked}
use Rattle.checks.specs.declared.Asked.TheVariants as asked
use Rattle.checks.proofs.LawsAgain.{symbols_good_is}
use Rattle.folio.proofs.ScoreWhole.{whole_of}
use Rattle.folio.proofs.Subtrees.{Piece, piece_term, piece_or_none, subtree_shape, subtree_score}
use Rattle.folio.proofs.Symbols.{symbols_is}
use Rattle.promises.specs.Found.{FoundRow, part_says, InShape, Standing, in_shapes, in_score}
use Rattle.promises.specs.Told.{By}
use Rattle.promises.proofs.FoundRows.{by_found}
use Rattle.kinds.specs.Reasons.{gives}

module _ (ar shapes score : List ℕ) (small : Below 65536 score) where
  standing_is : (w : Asked) (t : Term) → Standing ar shapes score w t → subtree_at w ar shapes score ≡ flatten t
  standing_is _ _ (in_shapes at t g s b) =
      let flat = s.flat in
      let few = s.small in
      subtree_shape ar shapes score g at ∙ piece_term ar shapes (shape_limits blank_word at) shape_levels at t b.0 s.fits (omega arith)
      (omega arith) b.1
  standing_is _ _ (in_score x t g s b) =
      let flat = s.flat in
      let few = s.small in
      subtree_score ar shapes score g x ∙ piece_term ar score (score_limits x.0) score_levels x.0 t b.0 s.fits (omega arith) (omega arith)
      b.1

  -- words of a slice have no word from 65,536 on, so a term of them has no blank
  words_small : (at e : ℕ) (t : Term) → drop at score ≡ flatten t ++ drop e score → (w : ℕ) → w ∈ flatten t → w < 65536
  words_small at e t q w m = small w (in_drop at score (rw q (∈_left (drop e score) m)))

  module _ (g : GoodSymbols ar) where
    shape_either : (at : ℕ) → ((t : Term) × Standing ar shapes score (asked.Shapes at) t) ⊎ (subtree_at (asked.Shapes at) ar shapes score ≡ [])
    shape_either at = go (piece_or_none ar shapes (shape_limits blank_word at) shape_levels at)
      where
        go : Piece ar shapes (shape_limits blank_word at) shape_levels at ⊎ (piece_at ar shapes (shape_limits blank_word at) shape_levels at ≡ [])
            → ((t : Term) × Standing ar shapes score (asked.Shapes at) t) ⊎ (subtree_at (asked.Shapes at) ar shapes score ≡ [])
        go (inr e) = inr (subtree_shape ar shapes score g at ∙ e)
        go (inl p) =
            let t = p.term in
            let limits : InShape ar t.tree = record { fits = t.fits; flat = omega (arith, t.flat); small = omega (arith, p.inside, t.size) } in
            inl (t.tree, in_shapes at t.tree g limits (drop p.met.end shapes, t.words))

    score_either : (x : Node) → ((t : Term) × Standing ar shapes score (asked.Score x) t) ⊎ (subtree_at (asked.Score x) ar shapes score ≡ [])
    score_either x = go (piece_or_none ar score (score_limits x.0) score_levels x.0)
      where
        go : Piece ar score (score_limits x.0) score_levels x.0 ⊎ (piece_at ar score (score_limits x.0) score_levels x.0 ≡ [])
            → ((t : Term) × Standing ar shapes score (asked.Score x) t) ⊎ (subtree_at (asked.Score x) ar shapes score ≡ [])
        go (inr e) = inr (subtree_score ar shapes score g x ∙ e)
        go (inl p) =
            let t = p.term in
            let whole = whole_of ar t.tree t.fits (words_small x.0 p.met.end t.tree t.words) in
            let is : IsScore ar t.tree =
            record { fits = t.fits; whole = whole; flat = omega (arith, t.flat); small = omega (arith, p.inside, t.size) } in
            inl (t.tree, in_score x t.tree g is (drop p.met.end score, t.words))

  subtree_bad : (w : Asked) → symbols_good ar ≡ false → subtree_at w ar shapes score ≡ []
  unfolding subtree_at
  subtree_bad w e = rw e refl

  either : (w : Asked) → (symbols_good ar ≡ true) ⊎ (symbols_good ar ≡ false) → ((t : Term) × Standing ar shapes score w t)
      ⊎ (subtree_at w ar shapes score ≡ [])
  either w (inr e) = inr (subtree_bad w e)
  either (asked.Shapes at) (inl e) = shape_either (symbols_is ar (symbols_good_is ar e)) at
  either (asked.Score x) (inl e) = score_either (symbols_is ar (symbols_good_is ar e)) x

  -- the words of a term are no empty part
  words_say : (t : Term) → part_says (flatten t) ≡ gives (flatten t)
  words_say (blank w) = refl
  words_say (node f ts) = refl

  pub by_subtree : (w : Asked) → By (FoundRow (Standing ar shapes score w) flatten) (part_says (subtree_at w ar shapes score))
  by_subtree w = by_found (Standing ar shapes score w) flatten part_says [] flatten (subtree_at w ar shapes score) refl words_say (standing_is w)
      (either w (test (symbols_good ar)))
