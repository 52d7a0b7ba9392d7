-- Document 02, wish 8: what stands in the buffer after the call. Of every file that opens, and of any shape, node, replacement, finished symbol and buffer
-- for which the call answers a number:
--   put_here     the call, lent what opening wrote
--   Placed       the match, and the replacement as a tree; the match is not finished
--   new_score    document 002's t[r^σ]_p
--   answers      the number is the new score's nodes; its preorder words are in the buffer's front, and the words behind them are as they were
--   is_folio     with the same symbols and shapes it is a folio: it is a score within the limits
--   Opens opens  the file with it, which is what binding the tables with the new words makes, opens into any tables that have room: same symbols, same shapes,
--                the new score; and "Demands 2 and 3 read of the new score
--                after it is opened"
--   before behind outside   "Every node outside that subtree keeps its symbol and relative order": the words before the node and behind its subtree, and the
--                head at every position that is neither the node's nor under it
--   inside       the replacement's symbols stand under the node
--   copies       "with each named blank's subtree copied in": blanks are "counted left to right from 0" (`edges`)
-- Of every match that is not finished:
--   Unchanged    a shape put in for itself, its blanks named in order, changes nothing
use Rattle.std.specs.Prelude.{◌≡◌, List, [], ◌∷◌, ◌++◌, ℕ, ◌+◌, length, get_or, take, drop}
use Rattle.std.proofs.Math.Option.{some}
use Rattle.std.proofs.Math.ListN.{get_elem?}
use Rattle.kinds.specs.Lists.{gather, onto}
use Rattle.kinds.specs.Positions.{Pos}
use Rattle.kinds.specs.Reasons.{gives}
use Rattle.term.specs.Terms.{Term, blank, span, flatten}
use Rattle.term.specs.Places.{sub, head_at, edges}
use Rattle.term.specs.Replacing.{fill, named}
use Rattle.folio.specs.Files.{bound, file_of}
use Rattle.folio.specs.Folio.{Folio}
use Rattle.folio.specs.Opening.{Lent, Room}
use Rattle.counting.specs.Counting.{match_at}
use Rattle.clashing.specs.Strays.{IsMatch}
use Rattle.replacing.specs.Links.{IsLink, binding, replaced, Finished}
use Rattle.replacing.specs.Putting.{PutOutcome, put_of}
use Rattle.promises.specs.Demand1.{put_told}
use Rattle.promises.specs.Demand2.{Demand2}
use Rattle.promises.specs.Demand3.{Demand3}
use Rattle.promises.specs.OneFile.{OpenFile, OneFile, symbols_in, words_in, starts_in, nodes_in, spans_in, shapes_in, score_in}
use Rattle.promises.specs.Told.{told}

-- a file that opens as this folio does, but for its score
pub record Opens {file : List ℕ} (O : OpenFile file) (score : Term) (l : Lent) : Type 0 where
  pub folio : OpenFile (file_of (symbols_in O) (shapes_in O) score)
  pub bytes : file_of (symbols_in O) (shapes_in O) score ≡ bound (symbols_in O) (words_in O) (flatten score)
  pub tables : folio.tables ≡ l
  pub same_symbols : symbols_in folio ≡ symbols_in O
  pub same_shapes : shapes_in folio ≡ shapes_in O
  pub new_score_lem : score_in folio ≡ score
  pub demands : (S : OneFile folio) → Demand2 S × Demand3 S

module _ {file : List ℕ} (O : OpenFile file) (j x : ℕ) (link : List ℕ) (f : ℕ) (new : List ℕ) where
  abbrev pub put_here : PutOutcome
  put_here = put_of (symbols_in O) (words_in O) (starts_in O) (nodes_in O) (spans_in O) j x link f new

  pub record Placed : Type 0 where
    pub there : IsMatch (shapes_in O) (score_in O) (match_at x j)
    pub unfinished : Finished (score_in O) there.place f → ⊥
    pub tree : Term
    pub is_link : IsLink (symbols_in O) there.shape link tree

  abbrev pub new_score : Placed → Term
  new_score P = replaced P.there.shape (score_in O) P.there.place P.tree

  -- how many words are written for the replacement
  abbrev pub filled_span : Placed → ℕ
  filled_span P = span (fill (binding P.there.shape (score_in O) P.there.place) P.tree)

  pub record Put (P : Placed) : Type 0 where
    pub answers : put_told put_here ≡ told (gives (span (new_score P) ∷ [])) (onto (flatten (new_score P)) new)
    pub is_folio : Folio (symbols_in O) (shapes_in O) (new_score P)
    pub opens : (l : Lent) → Room l (length (gather flatten (shapes_in O))) (length (shapes_in O)) (span (new_score P)) → Opens O (new_score P) l
    pub before : take x (flatten (new_score P)) ≡ take x (nodes_in O)
    pub behind : drop (x + filled_span P) (flatten (new_score P)) ≡ drop (x + get_or (spans_in O) x 0) (nodes_in O)
    pub outside : (q : Pos) → ((r : Pos) → q ≡ P.there.place ++ r → ⊥) → head_at (new_score P) q ≡ head_at (score_in O) q
    pub inside : (q : Pos) (g : ℕ) → head_at P.tree q ≡ some g → head_at (new_score P) (P.there.place ++ q) ≡ some g
    pub copies : (q : Pos) (i : ℕ) → sub P.tree q ≡ some (blank (65504 + i)) → (e : Pos) × (v : Term) × (get_elem? (edges P.there.shape) i ≡ some e)
        × (sub (score_in O) (P.there.place ++ e) ≡ some v) × (sub (new_score P) (P.there.place ++ q) ≡ some v)

module _ {file : List ℕ} (O : OpenFile file) (j x f : ℕ) (new : List ℕ) where
  abbrev pub Unchanged : IsMatch (shapes_in O) (score_in O) (match_at x j) → Type 0
  Unchanged m = put_told (put_here O j x (flatten (named 65504 m.shape)) f new) ≡ told (gives (span (score_in O) ∷ [])) (onto (nodes_in O) new)
