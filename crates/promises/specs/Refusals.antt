-- The table of refusals for opening, row by row: its number, "Given exactly when", and the place, in bytes.
--   TrailerRow    1 to 4
--   SymbolRow     5, 6
--   ShapeRow      7 to 12: "12 where a shape begins; else at each node 8, 7, 10, 11; then 9 when the shape is complete"
--   ScoreRow      13 to 17: "at each node: 14, 13, 17, 15; then 16"
--   Framed        what holds where 1 to 4 are not given; where 5 to 17 are not it is `GoodSymbols`, `Shaped` and `Scored` of folio/specs
--   Given         "Order: 1 to 6, then shapes, then score, then 18": a row counts where the sections before it pass
use Rattle.std.specs.Prelude.{◌≡◌, List, ◌++◌, ℕ, ◌+◌, ◌-◌, ◌*◌, ◌%◌, ◌<◌, ◌≤◌, length, get_or, drop}
use Rattle.kinds.specs.Lists.{gather}
use Rattle.term.specs.Terms.{Term, span, depth, flatten, Fits}
use Rattle.term.specs.Faults.{FaultIn}
use Rattle.term.specs.declared.Fault.{Fault}
use Rattle.term.specs.declared.Fault.TheVariants.{Ends, NoSymbol, Many, Deep}
use Rattle.sections.specs.Bytes.{word_at}
use Rattle.sections.specs.Sections.{places, symbols_at, shapes_at, score_at}
use Rattle.term.specs.Reading.{limits}
use Rattle.folio.specs.Opening.{Lent, Room}
use Rattle.folio.specs.Folio.{Shaped, Scored}
use Rattle.term.specs.Admitted.{AreShapes, GoodSymbols}
use Rattle.sections.specs.declared.Places.{Places}

-- ---- 1 to 4
module _ (file : List ℕ) where
  abbrev pub trailer_at : ℕ
  trailer_at = length file - 8

  -- the distances a, b and c
  abbrev pub to_symbols : ℕ
  to_symbols = word_at file (length file - 8)

  abbrev pub to_shapes : ℕ
  to_shapes = word_at file (length file - 6)

  abbrev pub to_score : ℕ
  to_score = word_at file (length file - 4)

  abbrev pub Sized : Type 0
  Sized = (8 ≤ length file) × (length file ≤ 8744)

  abbrev pub Signed : Type 0
  Signed = (get_or file (length file - 2) 0 ≡ 83) × (get_or file (length file - 1) 0 ≡ 67)

  abbrev pub Distanced : Type 0
  Distanced = (to_symbols ≡ trailer_at) × (to_shapes ≤ to_symbols) × (to_score ≤ to_shapes) × (to_shapes % 2 ≡ 0) × (to_score % 2 ≡ 0)

  pub data TrailerRow : ℕ → ℕ → Type 0 where
    row_1 : length file < 8 → TrailerRow 1 (length file)
    row_2 : 8744 < length file → TrailerRow 2 (length file)
    row_3 : Sized → (Signed → ⊥) → TrailerRow 3 (length file - 2)
    row_4 : Sized → Signed → (Distanced → ⊥) → TrailerRow 4 trailer_at

  pub record Framed (q : Places) : Type 0 where
    pub sized : Sized
    pub signed : Signed
    pub distanced : Distanced
    pub at : q ≡ places (trailer_at - to_shapes) (trailer_at - to_score) trailer_at

-- ---- 5, 6
module _ (ar : List ℕ) where
  pub data SymbolRow : ℕ → ℕ → Type 0 where
    row_5 : ((1 ≤ length ar) × (length ar ≤ 32) → ⊥) → SymbolRow 5 0
    row_6 : 1 ≤ length ar → length ar ≤ 32 → (p : ℕ) → p < length ar → 4 < get_or ar p 0 → ((i : ℕ) → i < p → get_or ar i 0 ≤ 4) → SymbolRow 6 p

-- ---- 7 to 12
module _ (ar ws : List ℕ) where
  -- the words before one are those of k shapes
  pub record ShapesTo (at k : ℕ) : Type 0 where
    pub shapes : List Term
    pub many : length shapes ≡ k
    pub each : AreShapes ar shapes
    pub words : ws ≡ gather flatten shapes ++ drop at ws
    pub size : at ≡ length (gather flatten shapes)

  -- the shape that begins at a word has this fault at that one
  pub record ShapeFault (at : ℕ) (f : Fault) (i : ℕ) : Type 0 where
    pub number : ℕ
    pub one_of_16 : number < 16
    pub begins : at < length ws
    pub before : ShapesTo at number
    pub fault : FaultIn ar ws (limits 65535 (at + 16)) 6 at f i

  -- the section has these first byte and end
  module _ (first end : ℕ) where
    abbrev word : ℕ → ℕ
    word i = first + 2 * i

    pub data ShapeRow : ℕ → ℕ → Type 0 where
      row_7 : (at i : ℕ) → ShapeFault at NoSymbol i → ShapeRow 7 (word i)
      row_8 : (at : ℕ) → ShapeFault at Ends (length ws) → ShapeRow 8 end
      row_9 : (i number : ℕ) → number < 16 → i < length ws → ShapesTo i number → 65535 ≤ get_or ws i 0 → ShapeRow 9 (word i)
      row_10 : (at : ℕ) → ShapeFault at Many (at + 16) → ShapeRow 10 (word (at + 16))
      row_11 : (at i : ℕ) → ShapeFault at Deep i → ShapeRow 11 (word i)
      row_12_none : length ws ≡ 0 → ShapeRow 12 first
      row_12_more : (i : ℕ) → i < length ws → ShapesTo i 16 → ShapeRow 12 (word i)

-- ---- 13 to 17
module _ (ar sc : List ℕ) where
  abbrev pub ScoreFault : Fault → ℕ → Type 0
  ScoreFault f i = FaultIn ar sc (limits 65536 4096) 65 0 f i

  module _ (first end : ℕ) where
    abbrev node : ℕ → ℕ
    node i = first + 2 * i

    pub data ScoreRow : ℕ → ℕ → Type 0 where
      row_13 : (i : ℕ) → ScoreFault NoSymbol i → ScoreRow 13 (node i)
      row_14 : ScoreFault Ends (length sc) → ScoreRow 14 end
      row_15 : (i : ℕ) → ScoreFault Deep i → ScoreRow 15 (node i)
      row_16 : (t : Term) → Fits ar 65536 t → depth t ≤ 64 → span t ≤ 4096 → sc ≡ flatten t ++ drop (span t) sc → span t < length sc
          → ScoreRow 16 (node (span t))
      row_17 : ScoreFault Many 4096 → ScoreRow 17 (node 4096)

-- ---- the sections
module _ (file : List ℕ) (l : Lent) where
  pub data Given : ℕ → ℕ → Type 0 where
    in_trailer : {n p : ℕ} → TrailerRow file n p → Given n p
    in_symbols : {n p : ℕ} (q : Places) → Framed file q → SymbolRow (symbols_at file q) n p → Given n p
    in_shapes : {n p : ℕ} (q : Places) → Framed file q → GoodSymbols (symbols_at file q)
        → ShapeRow (symbols_at file q) (shapes_at file q) q.shapes q.score n p → Given n p
    in_score : {n p : ℕ} (q : Places) → Framed file q → GoodSymbols (symbols_at file q) → (starts : List ℕ)
        → Shaped (symbols_at file q) (shapes_at file q) starts
        → ScoreRow (symbols_at file q) (score_at file q) q.score q.end n p → Given n p
    row_18 : (q : Places) → Framed file q → GoodSymbols (symbols_at file q)
        → (starts : List ℕ) (s : Shaped (symbols_at file q) (shapes_at file q) starts) → (t : Scored (symbols_at file q) (score_at file q))
        → (Room l (length (shapes_at file q)) (length s.trees) (span t.tree) → ⊥) → Given 18 0
