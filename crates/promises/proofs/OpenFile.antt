-- What opening wrote, over a file that opens, is what the file means.
--   symbols_are …     the tables, as the terms that the file holds
--   is_folio          the terms that opening read, within the limits
--   shape_words_lem …  the tables, as the terms that opening read
--   shapes_good_lem score_good_lem  they are good; symbols_below …: and of bytes and words
--   same_…            two openings of one file have the same symbols, shapes with their words and starts, score, spans and depth
use Rattle.std.specs.Prelude.{Ok}
use mathlib.Core.Path.{◌≡◌, ap, ap₂, sym, ◌∙◌, subst}
use mathlib.Core.List.{List, map}
use Prim.Native.Nat.{ℕ, ◌-◌}
use lib.ListN.{take, drop}
use Rattle.kinds.specs.Lists.{gather, greatest}
use Rattle.kinds.specs.Members.{Below}
use Rattle.kinds.proofs.ListLaws.{stored_back, take_again}
use Rattle.kinds.proofs.Members.{in_take, in_drop}
use Rattle.term.specs.Terms.{Term, span, depth, flatten, sizes}
use Rattle.term.proofs.Sizes.{length_flatten, length_sizes}
use Rattle.sections.specs.Bytes as file-words
use Rattle.sections.specs.declared.Places.{Places}
use Rattle.folio.specs.declared.Counts.{Counts}
use Rattle.folio.specs.Opening.{OpenOutcome}
use Rattle.folio.specs.Folio.{Folio, starts_at, counts_in, answered, shape_terms, score_term}
use Rattle.folio.proofs.ShapesFound.{length_starts}
use Rattle.folio.proofs.ScoreWhole as scores
use Rattle.folio.proofs.ScoreWhole.{below_of}
use Rattle.folio.proofs.Accepted.{Accepted, accepted, shape_terms_lem, score_term_lem}
use Rattle.promises.specs.Demand1.{GoodShapes, Good}
use Rattle.promises.specs.OneFile.{OpenFile, symbols_in, words_in, starts_in, nodes_in, spans_in, shapes_in, score_in}

module _ {file : List ℕ} (O : OpenFile file) where
  acc : Accepted file O.tables
  acc = accepted file O.tables O.counts O.bytes O.opens

  abbrev ss : List Term
  ss = acc.meaning.shapes

  abbrev t : Term
  t = acc.meaning.score

  abbrev p : Places
  p = acc.places

  counted : O.counts ≡ counts_in (take p.shapes file) ss t
  counted =
      let z : Ok O.counts ≡ Ok (counts_in (take p.shapes file) ss t) =
      sym O.opens ∙ ap (λ (o : OpenOutcome). o.answer) acc.is in
      cc

  symbols_are : symbols_in O ≡ take p.shapes file
  symbols_are = ap (λ (c : Counts). take c.symbols file) counted ∙ take_again p.shapes file

  words_are : words_in O ≡ gather flatten ss
  words_are =
      ap₂ (λ (c : Counts) (o : OpenOutcome). take c.words o.tables.words) counted acc.is
      ∙ stored_back (gather flatten ss) O.tables.words acc.room.words

  starts_are : starts_in O ≡ starts_at 0 ss
  starts_are =
      ap₂ (λ (c : Counts) (o : OpenOutcome). take c.shapes o.tables.starts) counted acc.is
      ∙ ap (λ n. take n (answered (take p.shapes file) ss t O.tables).tables.starts) (sym (length_starts 0 ss))
      ∙ stored_back (starts_at 0 ss) O.tables.starts (rw (length_starts 0 ss) acc.room.starts)

  nodes_are : nodes_in O ≡ flatten t
  nodes_are =
      ap₂ (λ (c : Counts) (o : OpenOutcome). take c.nodes o.tables.score) counted acc.is
      ∙ ap (λ n. take n (answered (take p.shapes file) ss t O.tables).tables.score) (sym (length_flatten t))
      ∙ stored_back (flatten t) O.tables.score (rw (length_flatten t) acc.room.score)

  spans_are : spans_in O ≡ sizes t
  spans_are =
      ap₂ (λ (c : Counts) (o : OpenOutcome). take c.nodes o.tables.spans) counted acc.is
      ∙ ap (λ n. take n (answered (take p.shapes file) ss t O.tables).tables.spans) (sym (length_sizes t))
      ∙ stored_back (sizes t) O.tables.spans (rw (length_sizes t) acc.room.spans)

  shapes_are : shapes_in O ≡ ss
  shapes_are = ap₂ shape_terms symbols_are words_are
      ∙ shape_terms_lem (take p.shapes file) ss acc.meaning.folio.limits.are_shapes acc.meaning.folio.limits.few_shapes

  score_is : score_in O ≡ t
  score_is = ap₂ score_term symbols_are nodes_are ∙ score_term_lem (take p.shapes file) t acc.meaning.folio.is_score

  pub is_folio : Folio (symbols_in O) (shapes_in O) (score_in O)
  is_folio =
      subst (λ a. Folio a (shapes_in O) (score_in O)) (sym symbols_are)
      (subst (λ xs. Folio (take p.shapes file) xs (score_in O)) (sym shapes_are)
      (subst (λ u. Folio (take p.shapes file) ss u) (sym score_is) acc.meaning.folio))

  pub shape_words_lem : words_in O ≡ gather flatten (shapes_in O)
  shape_words_lem = words_are ∙ ap (gather flatten) (sym shapes_are)

  pub shape_starts : starts_in O ≡ starts_at 0 (shapes_in O)
  shape_starts = starts_are ∙ ap (starts_at 0) (sym shapes_are)

  pub score_words : nodes_in O ≡ flatten (score_in O)
  score_words = nodes_are ∙ ap flatten (sym score_is)

  pub score_spans : spans_in O ≡ sizes (score_in O)
  score_spans = spans_are ∙ ap sizes (sym score_is)

  pub nodes_counted : O.counts.nodes ≡ span (score_in O)
  nodes_counted = ap (λ (c : Counts). c.nodes) counted ∙ ap span (sym score_is)

  pub score_depth : O.counts.depth ≡ depth (score_in O)
  score_depth = ap (λ (c : Counts). c.depth) counted ∙ ap depth (sym score_is)

  pub shapes_depth : O.counts.deepest ≡ greatest (map depth (shapes_in O))
  shapes_depth = ap (λ (c : Counts). c.deepest) counted ∙ ap (λ xs. greatest (map depth xs)) (sym shapes_are)

  pub shapes_good_lem : GoodShapes (symbols_in O) (words_in O) (starts_in O)
  shapes_good_lem = let l = is_folio.limits in (
    l.symbols,
    record {
      trees = shapes_in O;
      each = l.are_shapes;
      some_shape = l.some_shape;
      few_shapes = l.few_shapes;
      words = shape_words_lem;
      begins = shape_starts;
    },
  )

  pub score_good_lem : Good (symbols_in O) (nodes_in O) (spans_in O)
  score_good_lem = (is_folio.limits.symbols, record { tree = score_in O; is = is_folio.is_score; words = score_words; spans = score_spans })

  pub symbols_below : Below 256 (symbols_in O)
  symbols_below w m = O.bytes w (in_take O.counts.symbols file m)

  pub words_below : Below 65536 (words_in O)
  words_below = subst (Below 65536) (sym (words_are ∙ sym acc.meaning.shape_words_lem)) (scores.words_below _ (λ w m.
      O.bytes w (in_drop p.shapes file (in_take (p.score - p.shapes) (drop p.shapes file) m))))

  pub nodes_below : Below 65536 (nodes_in O)
  nodes_below = subst (Below 65536) (sym score_words) (below_of (symbols_in O) (score_in O) is_folio.is_score.fits is_folio.is_score.whole)

-- ---- two openings of one file
module _ {file : List ℕ} (O P : OpenFile file) where
  same_places : (acc O).places ≡ (acc P).places
  same_places =
      let z : Ok (acc O).places ≡ Ok (acc P).places = sym (acc O).placed ∙ (acc P).placed in
      cc

  abbrev shape_part : Places → List ℕ
  shape_part q = file-words.words_of (take (q.score - q.shapes) (drop q.shapes file))

  abbrev score_part : Places → List ℕ
  score_part q = file-words.words_of (take (q.end - q.score) (drop q.score file))

  pub same_symbols : symbols_in O ≡ symbols_in P
  same_symbols = symbols_are O ∙ ap (λ (q : Places). take q.shapes file) same_places ∙ sym (symbols_are P)

  pub same_shapes : shapes_in O ≡ shapes_in P
  same_shapes = ap₂ shape_terms same_symbols
      (words_are O ∙ sym (acc O).meaning.shape_words_lem ∙ ap shape_part same_places ∙ (acc P).meaning.shape_words_lem ∙ sym (words_are P))

  pub same_score : score_in O ≡ score_in P
  same_score = ap₂ score_term same_symbols
      (nodes_are O ∙ sym (acc O).meaning.score_words ∙ ap score_part same_places ∙ (acc P).meaning.score_words ∙ sym (nodes_are P))

  pub same_spans : spans_in O ≡ spans_in P
  same_spans = score_spans O ∙ ap sizes same_score ∙ sym (score_spans P)

  pub same_words : words_in O ≡ words_in P
  same_words = shape_words_lem O ∙ ap (gather flatten) same_shapes ∙ sym (shape_words_lem P)

  pub same_starts : starts_in O ≡ starts_in P
  same_starts = shape_starts O ∙ ap (starts_at 0) same_shapes ∙ sym (shape_starts P)

  pub same_depth : O.counts.depth ≡ P.counts.depth
  same_depth = score_depth O ∙ ap depth same_score ∙ sym (score_depth P)
