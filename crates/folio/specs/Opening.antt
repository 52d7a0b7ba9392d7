-- Opening a folio: "Order: 1 to 6, then shapes, then score, then 18." "A refusal writes nothing. Words past those an answer writes keep their values."
-- "It answers the counts of symbols, shapes, shape words and nodes" and "hands on the score's depth and the deepest shape's".
--   Lent OpenOutcome      the four tables lent; an answer and the tables as they are then
--   Room          each table holds what it must
--   refuse_opening       a refusal writes nothing
--   counts_of     what is answered, from what shapes and score were met with
--   stored        18; then each table begins with what it must hold and keeps the words past it
--   held          7 to 18: the shapes' first word is at byte `at`, the score's behind their last
--   opened        1 to 18
--   opened_says   the answer in document 01's numbers
use Rattle.kinds.specs.declared.Refusal.{Refusal}
use Rattle.sections.specs.declared.Places.{Places}
use Rattle.std.specs.Prelude.{ℕ, ◌+◌, ◌*◌, ◌≤◌, List, [], ◌∷◌, leb, length, Err, Ok, Result}
use Rattle.std.proofs.lemmas.List.Edits.{sets}
use Rattle.kinds.specs.Lists.{unless}
use Rattle.kinds.specs.Reasons.{Says, gives, refuses, refused_at}
use Rattle.kinds.specs.declared.Reason.{Reason}
use Rattle.kinds.specs.declared.Reason.TheVariants as reason
use Rattle.term.specs.Spans.{spans_of}
use Rattle.sections.specs.Sections.{sections_of, symbols_at, shapes_at, score_at}
use Rattle.term.specs.declared.Met.{Met}
use Rattle.contents.specs.Tables.{shapes_of, score_of}
use Rattle.kinds.specs.Limits.{blank_word}
use Rattle.contents.specs.declared.ShapesMet.{ShapesMet}
use Rattle.folio.specs.declared.Counts.{Counts}

pub record Lent : Type 0 where
  pub words : List ℕ
  pub starts : List ℕ
  pub score : List ℕ
  pub spans : List ℕ

pub record OpenOutcome : Type 0 where
  pub answer : Result Counts Refusal
  pub tables : Lent

-- "shorter than the shape words, shapes, n or n it must hold": not so
pub record Room (l : Lent) (w s n : ℕ) : Type 0 where
  pub words : w ≤ length l.words
  pub starts : s ≤ length l.starts
  pub score : n ≤ length l.score
  pub spans : n ≤ length l.spans

abbrev pub lent : List ℕ → List ℕ → List ℕ → List ℕ → Lent
lent w st sc sp = record { words = w; starts = st; score = sc; spans = sp }

abbrev pub out : Result Counts Refusal → Lent → OpenOutcome
out a l = record { answer = a; tables = l }

abbrev pub refuse_opening : Reason → ℕ → Lent → OpenOutcome
refuse_opening r p l = out (Err (refused_at r p)) l

abbrev pub counts_of : List ℕ → List ℕ → ShapesMet → List ℕ → Met → Counts
counts_of ar ws k sc m =
    record { symbols = length ar; shapes = k.number; words = length ws; nodes = length sc; depth = m.depth; deepest = k.depth }

unfoldable pub stored : List ℕ → List ℕ → List ℕ → List ℕ → Counts → Lent → OpenOutcome
stored ar ws st sc counts l =
    unless (leb (length ws) (length l.words)) (refuse_opening reason.Tables 0 l)
    (unless (leb (length st) (length l.starts)) (refuse_opening reason.Tables 0 l)
    (unless (leb (length sc) (length l.score)) (refuse_opening reason.Tables 0 l)
    (unless (leb (length sc) (length l.spans)) (refuse_opening reason.Tables 0 l)
    (out (Ok counts)
    (lent (sets l.words 0 ws) (sets l.starts 0 st) (sets l.score 0 sc) (sets l.spans 0 (spans_of ar sc)))))))

abbrev pub on_score : Result Met Refusal → ℕ → Lent → (Met → OpenOutcome) → OpenOutcome
on_score (Err why) at l on = refuse_opening why.0 (at + 2 * why.1) l
on_score (Ok m) at l on = on m

abbrev pub on_shapes : Result ShapesMet Refusal → ℕ → Lent → (ShapesMet → OpenOutcome) → OpenOutcome
on_shapes (Err why) at l on = refuse_opening why.0 (at + 2 * why.1) l
on_shapes (Ok k) at l on = on k

unfoldable pub held : List ℕ → List ℕ → List ℕ → ℕ → Lent → OpenOutcome
held ar ws sc at l =
    on_shapes (shapes_of ar blank_word ws).answer at l (λ k.
    on_score (score_of ar sc) (at + 2 * length ws) l (λ m.
    stored ar ws (shapes_of ar blank_word ws).starts sc (counts_of ar ws k sc m) l))

abbrev pub on_sections : Result Places Refusal → List ℕ → Lent → OpenOutcome
on_sections (Err why) file l = refuse_opening why.0 why.1 l
on_sections (Ok p) file l =
    held (symbols_at file p) (shapes_at file p) (score_at file p) p.shapes l

unfoldable pub opened : List ℕ → Lent → OpenOutcome
opened file l = on_sections (sections_of file) file l

abbrev pub opened_says : Result Counts Refusal → Says
opened_says (Ok c) = gives (c.symbols ∷ c.shapes ∷ c.words ∷ c.nodes ∷ c.depth ∷ c.deepest ∷ [])
opened_says (Err why) = refuses why.0 why.1
