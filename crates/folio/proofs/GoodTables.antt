-- The checks that later calls repeat pass exactly where the tables lent are those of shapes, or of a score.
--   shapes_good_shaped shaped_good         not 19
--   GoodScore score_good_scored scored_good   not 31
--   opened_shapes_good opened_score_good   what opening writes passes: neither 19 nor 31 is given for it
use mathlib.Core.Path.{◌≡◌, refl, ap, sym, ◌∙◌}
use mathlib.Core.Bool.{true}
use mathlib.Core.List.{List}
use Prim.Native.Nat.{ℕ}
use native.Mathlib.Omega.{arith}
use Rattle.kinds.specs.Lists.{gather}
use Rattle.term.specs.Terms.{Term, flatten, sizes}
use Rattle.term.specs.Spans.{spans_of}
use Rattle.term.proofs.Sizes.{spans_are}
use Rattle.term.proofs.TermWhole.{met_with}
use Rattle.contents.specs.Tables.{ShapesRead, shapes_of, score_of}
use Rattle.kinds.specs.Limits.{blank_word, no_blank}
use Rattle.checks.specs.Again.{shapes_good, score_good}
use Rattle.folio.specs.Folio.{Folio, starts_at, Shaped, GoodScore}
use Rattle.term.specs.Admitted.{GoodSymbols, IsScore}
use Rattle.folio.proofs.Symbols.{symbols_is, symbols_of_lem}
use Rattle.folio.proofs.ShapesFound.{met_in, found_shapes, shapes_found}
use Rattle.folio.proofs.ScoreWhole.{score_is, score_of_lem}
use Rattle.kinds.specs.Members.{Below}
use Rattle.checks.proofs.LawsAgain.{shapes_good_is, shapes_good_of, score_good_is, score_good_of}

-- ---- 19
pub shapes_good_shaped : (ar ws st : List ℕ) → shapes_good ar ws st ≡ true → GoodSymbols ar × Shaped ar ws st
shapes_good_shaped ar ws st e =
    let t = shapes_good_is ar ws st e in
    let f = found_shapes ar ws t.met t.found in (
      symbols_is ar t.symbols,
      record {
        trees = f.trees;
        each = f.each;
        some_shape = f.some_shape;
        few_shapes = f.few_shapes;
        words =
            f.words;
        begins = t.starts ∙ f.begins;
      },
    )

pub shaped_good : (ar ws st : List ℕ) → GoodSymbols ar → Shaped ar ws st → shapes_good ar ws st ≡ true
shaped_good ar ws st g s =
    let r : shapes_of ar blank_word ws ≡ _ =
    ap (shapes_of ar blank_word) s.words ∙ shapes_found ar s.trees s.each s.some_shape s.few_shapes in
    shapes_good_of ar ws st (record {
      symbols = symbols_of_lem ar g;
      met = met_in s.trees;
      found =
          ap (λ (x : ShapesRead). x.answer) r;
      starts = s.begins ∙ sym (ap (λ (x : ShapesRead). x.starts) r);
    })

-- ---- 31
sizes_are : (ar : List ℕ) (t : Term) → GoodSymbols ar → IsScore ar t → spans_of ar (flatten t) ≡ sizes t
sizes_are ar t g s = let few = g.few_symbols in spans_are ar no_blank t (omega arith) s.fits

pub score_good_scored : (ar ws sp : List ℕ) → Below 65536 ws → score_good ar ws sp ≡ true → GoodSymbols ar × GoodScore ar ws sp
score_good_scored ar ws sp small e =
    let t = score_good_is ar ws sp e in
    let g = symbols_is ar t.symbols in
    let s = score_is ar ws t.met small t.whole in
    (g, record { tree = s.tree; is = s.is; words = s.words; spans = t.spans ∙ ap (spans_of ar) s.words ∙ sizes_are ar s.tree g s.is })

pub scored_good : (ar ws sp : List ℕ) → GoodSymbols ar → GoodScore ar ws sp → score_good ar ws sp ≡ true
scored_good ar ws sp g s =
    score_good_of ar ws sp (record {
      symbols = symbols_of_lem ar g;
      met = met_with 0 s.tree;
      whole = ap (score_of ar) s.words ∙ score_of_lem ar s.tree s.is;
      spans = s.spans ∙ sym (ap (spans_of ar) s.words ∙ sizes_are ar s.tree g s.is);
    })

-- ---- what opening writes for a folio
module _ (ar : List ℕ) (ss : List Term) (t : Term) (f : Folio ar ss t) where
  pub opened_shapes_good : shapes_good ar (gather flatten ss) (starts_at 0 ss) ≡ true
  opened_shapes_good =
      let l = f.limits in
      shaped_good ar (gather flatten ss) (starts_at 0 ss) l.symbols
      (record { trees = ss; each = l.are_shapes; some_shape = l.some_shape; few_shapes = l.few_shapes; words = refl; begins = refl })

  pub opened_score_good : score_good ar (flatten t) (sizes t) ≡ true
  opened_score_good = scored_good ar (flatten t) (sizes t) f.limits.symbols (record { tree = t; is = f.is_score; words = refl; spans = refl })
