-- What a folio is, on terms: the limits of document 01, "The folio".
--   Scored       words that are a score's
--   Folio        "1 to 32 symbols, each 0 to 4 children; 1 to 16 shapes; a score"
--   Meaning      what the sections of a file mean
--   Shaped GoodScore   tables such as opening writes; starts_at: where shapes begin
--   counts_in    how many symbols, shapes, shape words and nodes a folio has, its score's depth and the greatest of its shapes' depths
--   answered     what opening answers and writes for a folio
--   shape_terms  the shapes that shape words hold; score_term the score that score words hold, a blank where they hold none
use Rattle.std.specs.Prelude.{◌≡◌, List, [], ◌∷◌, map, ℕ, ◌+◌, ◌≤◌, length, Ok}
use Rattle.std.proofs.Math.Option.{none, some}
use Rattle.std.proofs.lemmas.List.Edits.{sets}
use Rattle.kinds.specs.Limits.{most_shapes, blank_word, no_blank, shape_levels, score_levels}
use Rattle.kinds.specs.Lists.{gather, greatest}
use Rattle.term.specs.Terms.{Term, blank, span, depth, flatten, sizes, Read, parse, parse_all}
use Rattle.term.specs.Admitted.{AreShapes, Limits, IsScore}
use Rattle.folio.specs.Opening.{Lent, OpenOutcome, lent, out}
use Rattle.folio.specs.declared.Counts.{Counts}
use Rattle.sections.specs.Sections.{symbols_at, shapes_at, score_at}
use Rattle.sections.specs.declared.Places.{Places}

-- words that are those of a score
pub record Scored (ar ws : List ℕ) : Type 0 where
  pub tree : Term
  pub is : IsScore ar tree
  pub words : ws ≡ flatten tree

pub record Folio (ar : List ℕ) (shapes : List Term) (score : Term) : Type 0 where
  pub limits : Limits ar shapes
  pub is_score : IsScore ar score

-- what the sections of a file mean
pub record Meaning (file : List ℕ) (p : Places) : Type 0 where
  pub shapes : List Term
  pub score : Term
  pub folio : Folio (symbols_at file p) shapes score
  pub shape_words_lem : shapes_at file p ≡ gather flatten shapes
  pub score_words : score_at file p ≡ flatten score

abbrev pub shape_terms : List ℕ → List ℕ → List Term
shape_terms ar ws = parse_all ar blank_word shape_levels most_shapes ws

abbrev pub or_blank : Read Term → Term
or_blank none = blank blank_word
or_blank (some a) = a.0

abbrev pub score_term : List ℕ → List ℕ → Term
score_term ar ws = or_blank (parse ar no_blank score_levels ws)

-- where each of shapes back to back begins
abbrev pub starts_at : ℕ → List Term → List ℕ
starts_at at [] = []
starts_at at (t ∷ ts) = at ∷ starts_at (at + span t) ts

-- shape words and starts such as opening writes
pub record Shaped (ar ws st : List ℕ) : Type 0 where
  pub trees : List Term
  pub each : AreShapes ar trees
  pub some_shape : 1 ≤ length trees
  pub few_shapes : length trees ≤ most_shapes
  pub words : ws ≡ gather flatten trees
  pub begins : st ≡ starts_at 0 trees

-- score words and spans such as opening writes
pub record GoodScore (ar ws sp : List ℕ) : Type 0 where
  pub tree : Term
  pub is : IsScore ar tree
  pub words : ws ≡ flatten tree
  pub spans : sp ≡ sizes tree

abbrev pub counts_in : List ℕ → List Term → Term → Counts
counts_in ar ss t = record {
  symbols = length ar;
  shapes = length ss;
  words = length (gather flatten ss);
  nodes = span t;
  depth = depth t;
  deepest = greatest (map depth ss);
}

-- what opening answers and writes for a folio
abbrev pub answered : List ℕ → List Term → Term → Lent → OpenOutcome
answered ar ss t l =
    out (Ok (counts_in ar ss t))
    (lent (sets l.words 0 (gather flatten ss)) (sets l.starts 0 (starts_at 0 ss)) (sets l.score 0 (flatten t)) (sets l.spans 0 (sizes t)))
