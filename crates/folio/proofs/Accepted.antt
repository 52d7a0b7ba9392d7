-- An accepted file is one list of shapes and one score within the limits of a folio, and the tables hold their words, starts and spans.
--   Meaning one_meaning             what the sections of a file mean, and only that
--   Accepted accepted               an accepted file has a meaning, which the tables hold
--   made                            and a file that has one is accepted
--   shape_terms_lem score_term_lem  the terms that the tables' words hold
use Rattle.kinds.specs.declared.Refusal.{Refusal}
use Rattle.kinds.specs.Reasons.{refused_at}
use Rattle.std.specs.Prelude.{Err, Ok, Result}
use mathlib.Core.Path.{◌≡◌, refl, ap, ap₂, sym, ◌∙◌}
use mathlib.Core.List.{List, [], map, append-nil}
use mathlib.Core.Bool.{Bool, true, false}
use Prim.Native.Nat.{ℕ, ◌+◌, ◌*◌, ◌-◌, ◌≤◌}
use native.Mathlib.Omega.{arith}
use borrow.Author.Tests.{leb-true}
use lib.Dec.{leb}
use lib.ListN.{length, take, drop}
use lib.Seq.{sets}
use Rattle.kinds.specs.Lists.{unless, gather, greatest}
use Rattle.kinds.specs.declared.Reason.{Reason}
use Rattle.kinds.specs.declared.Reason.TheVariants as reason
use Rattle.kinds.proofs.Members.{in_take, in_drop}
use Rattle.term.specs.Terms.{Term, span, depth, flatten}
use Rattle.term.specs.Spans.{spans_of}
use Rattle.term.proofs.OneTerm.{once}
use Rattle.term.proofs.Sizes.{length_flatten, spans_are}
use Rattle.term.proofs.TermWhole.{met_with, parse_flatten, parse_all_lem}
use Rattle.sections.specs.Bytes.{words_of}
use Rattle.sections.specs.Sections.{trailer_of, sections_of}
use Rattle.contents.specs.Tables.{ShapesRead, shapes_of, score_of}
use Rattle.kinds.specs.Limits.{blank_word, no_blank, shape_levels, score_levels}
use Rattle.folio.specs.Opening.{Lent, Room, OpenOutcome, lent, out, refuse_opening, counts_of, stored, on_score, on_shapes, held, on_sections, opened}
use Rattle.folio.specs.Folio as folio
use Rattle.folio.specs.Folio.{starts_at, counts_in, answered, shape_terms, or_blank, score_term, Meaning}
use Rattle.term.specs.Admitted.{GoodSymbols, IsScore, AreShapes}
use Rattle.sections.specs.declared.Places.{Places}
use Rattle.term.specs.declared.Met.{Met}
use Rattle.contents.specs.declared.ShapesMet.{ShapesMet}
use Rattle.folio.specs.declared.Counts.{Counts}
use Rattle.sections.proofs.LawsSections.{sections_in, sections_good}
use Rattle.folio.proofs.LawsOpening.{stored_all, held_on, opened_at}
use Rattle.folio.proofs.Symbols.{symbols_is, symbols_of_lem}
use Rattle.folio.proofs.ShapesFound.{length_starts, met_in, found_shapes, shapes_found, all_once}
use Rattle.folio.proofs.ScoreWhole.{words_below, score_is, score_of_lem}
use Rattle.kinds.specs.Members.{Below}

-- ---- what a file means
pub one_meaning : (file : List ℕ) (p : Places) (m n : Meaning file p) → (m.shapes ≡ n.shapes) × (m.score ≡ n.score)
one_meaning file p m n = (
  all_once (take p.shapes file) m.shapes n.shapes m.folio.limits.are_shapes n.folio.limits.are_shapes (sym m.shape_words_lem ∙ n.shape_words_lem),
  (once (take p.shapes file) no_blank m.score n.score [] [] m.folio.is_score.fits n.folio.is_score.fits
      (append-nil (flatten m.score) ∙ sym m.score_words ∙ n.score_words ∙ sym (append-nil (flatten n.score)))).0,
)

-- ---- what is answered and written
abbrev full : List ℕ → List ℕ → List ℕ → List ℕ → Counts → Lent → OpenOutcome
full ar ws st sc k l =
    out (Ok k)
    (lent (sets l.words 0 ws) (sets l.starts 0 st) (sets l.score 0 sc) (sets l.spans 0 (spans_of ar sc)))

counts_are : (ar : List ℕ) (ss : List Term) (t : Term) → counts_of ar (gather flatten ss) (met_in ss) (flatten t) (met_with 0 t) ≡ counts_in ar ss t
counts_are ar ss t = λ i. record {
  symbols = length ar;
  shapes = length ss;
  words = length (gather flatten ss);
  nodes = length_flatten t i;
  depth = depth t;
  deepest = greatest (map depth ss);
}

full_answered : (ar : List ℕ) (ss : List Term) (t : Term) (l : Lent) → folio.Folio ar ss t
    → full ar (gather flatten ss) (starts_at 0 ss) (flatten t) (counts_of ar (gather flatten ss) (met_in ss) (flatten t) (met_with 0 t)) l ≡ answered ar ss t l
full_answered ar ss t l f =
    let few = f.limits.symbols.few_symbols in
    let sp = spans_are ar no_blank t (omega arith) f.is_score.fits in
    ap₂ (λ (k : Counts) (x : List ℕ). out (Ok k)
    (lent (sets l.words 0 (gather flatten ss)) (sets l.starts 0 (starts_at 0 ss)) (sets l.score 0 (flatten t)) (sets l.spans 0 x)))
    (counts_are ar ss t) sp

-- ---- what is accepted
never_folio {κ} : {C : Type κ} {r : Reason} {p : ℕ} {k : Counts} → Err (refused_at r p) ≡ Ok k → C
never_folio e = let z : ◌≡◌ {A = ℕ} 0 1 = cc in absurd (omega arith)

on_room {κ} : {C : Type κ} (b : Bool) (l : Lent) (o : OpenOutcome) (k : Counts) → (unless b (refuse_opening reason.Tables 0 l) o).answer ≡ Ok k
    → (b ≡ true → o.answer ≡ Ok k → C) → C
on_room true l o k e c = c refl e
on_room false l o k e c = never_folio e

stored_room : (ar ws st sc : List ℕ) (counts : Counts) (l : Lent) (k : Counts) → (stored ar ws st sc counts l).answer ≡ Ok k
    → Room l (length ws) (length st) (length sc)
unfolding stored
stored_room ar ws st sc counts l k e =
    on_room (leb (length ws) (length l.words)) l _ k e λ a e₁.
    on_room (leb (length st) (length l.starts)) l _ k e₁ λ b e₂.
    on_room (leb (length sc) (length l.score)) l _ k e₂ λ c e₃.
    on_room (leb (length sc) (length l.spans)) l _ k e₃ λ d e₄.
    record {
      words = leb-true (length ws) (length l.words) a;
      starts = leb-true (length st) (length l.starts) b;
      score =
          leb-true (length sc) (length l.score) c;
      spans = leb-true (length sc) (length l.spans) d;
    }

-- shapes and score pass, and there is room
record Held (ar ws sc : List ℕ) (l : Lent) : Type 0 where
  found : ShapesMet
  shaped : (shapes_of ar blank_word ws).answer ≡ Ok found
  tree : Met
  whole : score_of ar sc ≡ Ok tree
  room : Room l (length ws) (length (shapes_of ar blank_word ws).starts) (length sc)

held_in_lem : (ar ws sc : List ℕ) (at : ℕ) (l : Lent) (k : Counts) → (held ar ws sc at l).answer ≡ Ok k → Held ar ws sc l
unfolding held
held_in_lem ar ws sc at l k e = go (shapes_of ar blank_word ws).answer refl (score_of ar sc) refl e
  where
    go : (a : Result ShapesMet Refusal) → (shapes_of ar blank_word ws).answer ≡ a → (b : Result Met Refusal) → score_of ar sc ≡ b
        → (on_shapes a at l (λ n. on_score b (at + 2 * length ws) l (λ m. stored ar ws (shapes_of ar blank_word ws).starts sc (counts_of ar ws n sc m) l))).answer
        ≡ Ok k
        → Held ar ws sc l
    go (Err why) ea b eb e = never_folio e
    go (Ok n) ea (Err why) eb e = never_folio e
    go (Ok n) ea (Ok m) eb e = record {
      found = n;
      shaped = ea;
      tree = m;
      whole = eb;
      room = stored_room ar ws (shapes_of ar blank_word ws).starts sc (counts_of ar ws n sc m) l k e;
    }

pub record Accepted (file : List ℕ) (l : Lent) : Type 0 where
  pub places : Places
  pub placed : sections_of file ≡ Ok places
  pub meaning : Meaning file places
  pub room : Room l (length (gather flatten meaning.shapes)) (length meaning.shapes) (span meaning.score)
  pub is : opened file l ≡ answered (take places.shapes file) meaning.shapes meaning.score l

pub made_held : (file : List ℕ) (p : Places) (m : Meaning file p) (l : Lent) → sections_of file ≡ Ok p
    → Room l (length (gather flatten m.shapes)) (length m.shapes) (span m.score)
    → opened file l ≡ answered (take p.shapes file) m.shapes m.score l
made_held file p m l e room =
    let ar : List ℕ = take p.shapes file in
    let ws : List ℕ = gather flatten m.shapes in
    let sc : List ℕ = flatten m.score in
    let k : Counts = counts_of ar ws (met_in m.shapes) sc (met_with 0 m.score) in
    let r = shapes_found ar m.shapes m.folio.limits.are_shapes m.folio.limits.some_shape m.folio.limits.few_shapes in
    opened_at file l p e
    ∙ ap₂ (λ (x y : List ℕ). held ar x y p.shapes l) m.shape_words_lem m.score_words
    ∙ held_on ar ws sc p.shapes l (ap (λ (x : ShapesRead). x.answer) r) (score_of_lem ar m.score m.folio.is_score)
    ∙ ap (λ (x : ShapesRead). stored ar ws x.starts sc k l) r
    ∙ stored_all ar ws (starts_at 0 m.shapes) sc k l room.words (rw (length_starts 0 m.shapes) room.starts)
    (rw (length_flatten m.score) room.score) (rw (length_flatten m.score) room.spans)
    ∙ full_answered ar m.shapes m.score l m.folio

pub folio_of : (ar : List ℕ) (ss : List Term) (t : Term) → GoodSymbols ar → AreShapes ar ss → 1 ≤ length ss → length ss ≤ 16 → IsScore ar t
    → folio.Folio ar ss t
folio_of ar ss t g s a b c = record { limits = record { symbols = g; some_shape = a; few_shapes = b; are_shapes = s }; is_score = c }

pub accepted : (file : List ℕ) (l : Lent) (k : Counts) → Below 256 file → (opened file l).answer ≡ Ok k → Accepted file l
unfolding opened
accepted file l k small e = go (sections_of file) refl e
  where
    built : (p : Places) → sections_of file ≡ Ok p
        → Held (take p.shapes file) (words_of (take (p.score - p.shapes) (drop p.shapes file)))
        (words_of (take (p.end - p.score) (drop p.score file))) l → Accepted file l
    built p ep h =
        let ar : List ℕ = take p.shapes file in
        let ws : List ℕ = words_of (take (p.score - p.shapes) (drop p.shapes file)) in
        let bs : List ℕ = take (p.end - p.score) (drop p.score file) in
        let f = found_shapes ar ws h.found h.shaped in
        let s = score_is ar (words_of bs) h.tree
        (words_below bs (λ w m. small w (in_drop p.score file (in_take (p.end - p.score) (drop p.score file) m)))) h.whole in
        let g = symbols_is ar (sections_in file p ep).1 in
        let m : Meaning file p = record {
          shapes = f.trees;
          score = s.tree;
          folio =
              folio_of ar f.trees s.tree g f.each f.some_shape f.few_shapes s.is;
          shape_words_lem = f.words;
          score_words = s.words;
        } in
        let r : Room l (length (gather flatten f.trees)) (length f.trees) (span s.tree) = record {
          words = omega (arith, h.room.words, ap length f.words);
          starts = omega (arith, h.room.starts, ap length f.begins, length_starts 0 f.trees);
          score = omega (arith, h.room.score, ap length s.words, length_flatten s.tree);
          spans = omega (arith, h.room.spans, ap length s.words, length_flatten s.tree);
        } in
        record { places = p; placed = ep; meaning = m; room = r; is = made_held file p m l ep r }

    go : (s : Result Places Refusal) → sections_of file ≡ s → (on_sections s file l).answer ≡ Ok k → Accepted file l
    go (Err why) es e = never_folio e
    go (Ok p) es e = built p es (held_in_lem (take p.shapes file) (words_of (take (p.score - p.shapes) (drop p.shapes file)))
        (words_of (take (p.end - p.score) (drop p.score file))) p.shapes l k e)

-- a file that passes 1 to 4, and whose sections are those of a folio
pub made : (file : List ℕ) (p : Places) (m : Meaning file p) (l : Lent) → trailer_of file ≡ Ok p
    → Room l (length (gather flatten m.shapes)) (length m.shapes) (span m.score)
    → opened file l ≡ answered (take p.shapes file) m.shapes m.score l
made file p m l e room =
    let g = m.folio.limits.symbols in
    made_held file p m l (sections_good file p e (symbols_of_lem (take p.shapes file) g)) room

-- ---- the terms that the tables hold
pub shape_terms_lem : (ar : List ℕ) (ss : List Term) → AreShapes ar ss → length ss ≤ 16 → shape_terms ar (gather flatten ss) ≡ ss
shape_terms_lem ar ss s few = parse_all_lem ar blank_word shape_levels ss 16 few (λ t m. let h = (s t m).flat in ((s t m).fits, omega arith))

pub score_term_lem : (ar : List ℕ) (t : Term) → IsScore ar t → score_term ar (flatten t) ≡ t
score_term_lem ar t s =
    let h = s.flat in
    ap (λ (x : List ℕ). score_term ar x) (sym (append-nil (flatten t)))
    ∙ ap or_blank (parse_flatten ar no_blank t score_levels [] s.fits (omega arith))
