-- The words of one subtree: a term's that stands there within the limits, and none where none does.
--   piece_term                   of any words
--   Piece piece_or_none          and the way back
--   subtree_shape subtree_score  of the table asked for
use Rattle.term.specs.declared.Fault.{Fault}
use Rattle.std.specs.Prelude.{Err, Ok, Result}
use mathlib.Core.Path.{◌≡◌, refl, ap, ◌∙◌}
use mathlib.Core.List.{List, [], ◌++◌}
use mathlib.Core.Logic.{◌⊎◌, inl, inr}
use Prim.Native.Nat.{ℕ, ◌+◌, ◌-◌, ◌<◌, ◌≤◌}
use native.Mathlib.Omega.{arith}
use lib.ListN.{take, drop}
use lib.Seq.{take_at}
use Rattle.kinds.specs.declared.Node.{Node}
use Rattle.term.specs.Terms.{Term, span, depth, flatten, Fits}
use Rattle.term.specs.Reading.{reading}
use Rattle.term.specs.declared.Limits.{Limits}
use Rattle.term.specs.declared.Met.{Met}
use Rattle.term.proofs.LawsReading.{whole_in}
use Rattle.term.proofs.WholeTerm.{TermAt, whole_term}
use Rattle.term.proofs.TermWhole.{read_back}
use Rattle.term.proofs.Sizes.{length_flatten}
use Rattle.contents.specs.Tables.{shape_limits, score_limits}
use Rattle.kinds.specs.Limits.{blank_word, shape_levels, score_levels}
use Rattle.checks.specs.Again.{piece_at, subtree_at}
use Rattle.checks.specs.declared.Asked.TheVariants as asked
use Rattle.term.specs.Admitted.{GoodSymbols}
use Rattle.folio.proofs.Symbols.{symbols_of_lem}
use Rattle.checks.proofs.LawsAgain.{piece_none, piece_some, subtree_some}

module _ (ar ws : List ℕ) (l : Limits) (levels at : ℕ) where
  pub piece_term : (u : Term) (r : List ℕ) → Fits ar l.blanks u → depth u < levels → at + span u ≤ l.stop → drop at ws ≡ flatten u ++ r
      → piece_at ar ws l levels at ≡ flatten u
  piece_term u r f d s e =
      let n : at + span u - at ≡ span u = omega arith in
      piece_some ar ws l levels at (read_back ar ws l u levels at r f d s e).0
      ∙ ap (λ (k : ℕ). take k (drop at ws)) n
      ∙ ap (take (span u)) e
      ∙ take_at (flatten u) r (span u) (length_flatten u)

  -- the way back: a term stands there within the limits and the words are its words, or there are none
  pub record Piece : Type 0 where
    pub met : Met
    pub term : TermAt ar ws l.blanks levels at met
    pub inside : met.end ≤ l.stop
    pub is : piece_at ar ws l levels at ≡ flatten term.tree

  pub piece_or_none : Piece ⊎ (piece_at ar ws l levels at ≡ [])
  piece_or_none = go (reading ar ws l levels at) refl
    where
      go : (r : Result Met (Fault × ℕ)) → reading ar ws l levels at ≡ r → Piece ⊎ (piece_at ar ws l levels at ≡ [])
      go (Err (f, p)) e = inr (piece_none ar ws l levels at e)
      go (Ok m) e =
          let t = whole_term ar ws l levels at m e in
          let few = (whole_in ar ws l levels at m e).few in
          inl (record {
            met = m;
            term = t;
            inside = few;
            is =
                piece_term t.tree (drop m.end ws) t.fits t.flat (omega (arith, t.size, few)) t.words;
          })

module _ (ar sh sc : List ℕ) (g : GoodSymbols ar) where
  pub subtree_shape : (at : ℕ) → subtree_at (asked.Shapes at) ar sh sc ≡ piece_at ar sh (shape_limits blank_word at) shape_levels at
  subtree_shape at = subtree_some (asked.Shapes at) ar sh sc (symbols_of_lem ar g) refl

  pub subtree_score : (x : Node) → subtree_at (asked.Score x) ar sh sc ≡ piece_at ar sc (score_limits x.0) score_levels x.0
  subtree_score x = subtree_some (asked.Score x) ar sh sc (symbols_of_lem ar g) refl
