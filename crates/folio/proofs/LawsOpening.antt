-- Opening, way by way.
--   stored_words stored_starts stored_score stored_spans stored_all   18, then the four tables
--   held_shapes held_score held_on                     7 to 17
--   opened_refused opened_at                           1 to 6
--   parts_shapes parts_score parts_on, shape_part_lem score_part_lem opened_held  the same with the parts as the code has them
use Rattle.kinds.specs.declared.Refusal.{Refusal}
use Rattle.kinds.specs.Reasons.{refused_at}
use Rattle.std.specs.Prelude.{Err, Ok, Result}
use Prim.Native.Nat.{ℕ, ◌+◌, ◌*◌, ◌-◌, ◌/◌, ◌<◌, ◌≤◌}
use mathlib.Core.Path.{◌≡◌, ap, ap₂, sym, ◌∙◌}
use mathlib.Core.List.{List}
use native.Mathlib.Omega.{arith}
use native.Mathlib.Nat.{sub-zero}
use borrow.Author.Tests.{le-leb, lt-leb}
use lib.ListN.{length, take, drop, length-drop}
use lib.Seq.{sets, length-take-le, take_all, take-take, drop-drop}
use Rattle.folio.specs.Holding.{section_words}
use Rattle.kinds.proofs.ListLaws.{run_whole, drop_take}
use Rattle.kinds.specs.declared.Reason.{Reason}
use Rattle.kinds.specs.declared.Reason.TheVariants as reason
use Rattle.term.specs.Spans.{spans_of}
use Rattle.sections.specs.Bytes.{words_of}
use Rattle.sections.specs.Sections.{sections_of}
use Rattle.sections.specs.declared.Places.{Places}
use Rattle.contents.specs.Tables.{shapes_of, score_of}
use Rattle.kinds.specs.Limits.{blank_word}
use Rattle.term.specs.declared.Met.{Met}
use Rattle.contents.specs.declared.ShapesMet.{ShapesMet}
use Rattle.folio.specs.declared.Counts.{Counts}
use Rattle.folio.specs.Opening.{Lent, lent, out, refuse_opening, counts_of, stored, held, on_sections, opened}
use Rattle.sections.proofs.LawsBytes.{length_words, words_take, words_drop}
use Rattle.sections.proofs.LawsSections.{Placed}
use Rattle.contents.proofs.LawsTables.{found_count}

module _ (ar ws st sc : List ℕ) (k : Counts) (l : Lent) where
  pub stored_words : length l.words < length ws → stored ar ws st sc k l ≡ refuse_opening reason.Tables 0 l
  unfolding stored
  stored_words a = rw (lt-leb _ _ a)

  pub stored_starts : length ws ≤ length l.words → length l.starts < length st → stored ar ws st sc k l ≡ refuse_opening reason.Tables 0 l
  unfolding stored
  stored_starts a b = rw (le-leb _ _ a, lt-leb _ _ b)

  pub stored_score : length ws ≤ length l.words → length st ≤ length l.starts → length l.score < length sc
      → stored ar ws st sc k l ≡ refuse_opening reason.Tables 0 l
  unfolding stored
  stored_score a b c = rw (le-leb _ _ a, le-leb _ _ b, lt-leb _ _ c)

  pub stored_spans : length ws ≤ length l.words → length st ≤ length l.starts → length sc ≤ length l.score → length l.spans < length sc
      → stored ar ws st sc k l ≡ refuse_opening reason.Tables 0 l
  unfolding stored
  stored_spans a b c d = rw (le-leb _ _ a, le-leb _ _ b, le-leb _ _ c, lt-leb _ _ d)

  pub stored_all : length ws ≤ length l.words → length st ≤ length l.starts → length sc ≤ length l.score → length sc ≤ length l.spans
      → stored ar ws st sc k l ≡ out (Ok k)
      (lent (sets l.words 0 ws) (sets l.starts 0 st) (sets l.score 0 sc) (sets l.spans 0 (spans_of ar sc)))
  unfolding stored
  stored_all a b c d = rw (le-leb _ _ a, le-leb _ _ b, le-leb _ _ c, le-leb _ _ d)

module _ (ar ws sc : List ℕ) (at : ℕ) (l : Lent) where
  pub held_shapes : {r : Reason} {i : ℕ} → (shapes_of ar blank_word ws).answer ≡ Err (refused_at r i) → held ar ws sc at l ≡ refuse_opening r (at + 2 * i) l
  unfolding held
  held_shapes e = rw e

  pub held_score : {k : ShapesMet} {r : Reason} {i : ℕ} → (shapes_of ar blank_word ws).answer ≡ Ok k → score_of ar sc ≡ Err (refused_at r i)
      → held ar ws sc at l ≡ refuse_opening r (at + 2 * length ws + 2 * i) l
  unfolding held
  held_score e f = rw (e, f)

  pub held_on : {k : ShapesMet} {m : Met} → (shapes_of ar blank_word ws).answer ≡ Ok k → score_of ar sc ≡ Ok m
      → held ar ws sc at l ≡ stored ar ws (shapes_of ar blank_word ws).starts sc (counts_of ar ws k sc m) l
  unfolding held
  held_on e f = rw (e, f)

module _ (file : List ℕ) (l : Lent) where
  pub opened_refused : {r : Reason} {p : ℕ} → sections_of file ≡ Err (refused_at r p) → opened file l ≡ refuse_opening r p l
  unfolding opened
  opened_refused e = ap (λ (s : Result Places Refusal). on_sections s file l) e

  pub opened_at : (p : Places) → sections_of file ≡ Ok p
      → opened file l ≡ held (take p.shapes file) (words_of (take (p.score - p.shapes) (drop p.shapes file)))
      (words_of (take (p.end - p.score) (drop p.score file))) p.shapes l
  unfolding opened
  opened_at p e = ap (λ (s : Result Places Refusal). on_sections s file l) e

-- ---- the same with the parts as the code has them

module _ (ar both : List ℕ) (m : ℕ) (fits : m ≤ length both) where
  pub ws_is : take (m - 0) both ≡ take m both
  ws_is = ap (λ (n : ℕ). take n both) (sub-zero m)

  pub ws_length : length (take (m - 0) both) ≡ m
  ws_length = ap length ws_is ∙ length-take-le m both fits

  pub sc_is : take (length both - m) (drop m both) ≡ drop m both
  sc_is = take_all (length both - m) (drop m both) (omega (arith, length-drop m both))

  pub sc_length : length (take (length both - m) (drop m both)) ≡ length both - m
  sc_length = ap length sc_is ∙ length-drop m both

  pub held_parts : (at : ℕ) (l : Lent) → held ar (take m both) (drop m both) at l ≡ held ar (take (m - 0) both) (take (length both - m) (drop m both))
      at l
  held_parts at l = ap₂ (λ (x y : List ℕ). held ar x y at l) (sym ws_is) (sym sc_is)

  pub parts_shapes : (at : ℕ) (l : Lent) {r : Reason} {i : ℕ} → (shapes_of ar blank_word (take (m - 0) both)).answer ≡ Err (refused_at r i)
      → held ar (take m both) (drop m both) at l ≡ refuse_opening r (at + 2 * i) l
  parts_shapes at l e = held_parts at l ∙ held_shapes _ _ _ at l e

  pub parts_score : (at : ℕ) (l : Lent) {k : ShapesMet} {r : Reason} {i : ℕ} → (shapes_of ar blank_word (take (m - 0) both)).answer ≡ Ok k
      → score_of ar (take (length both - m) (drop m both)) ≡ Err (refused_at r i)
      → held ar (take m both) (drop m both) at l ≡ refuse_opening r (at + 2 * m + 2 * i) l
  parts_score at l {r = r} {i = i} e f = held_parts at l ∙ held_score ar (take (m - 0) both) _ at l e f
      ∙ ap (λ (n : ℕ). refuse_opening r (at + 2 * n + 2 * i) l) ws_length

  pub parts_on : (at : ℕ) (l : Lent) (k : ShapesMet) (z f : List ℕ) {t : Met} {counts : Counts}
      → (shapes_of ar blank_word (take (m - 0) both)).answer ≡ Ok k
      → score_of ar (take (length both - m) (drop m both)) ≡ Ok t → length z ≡ 16
      → f ≡ sets z 0 (shapes_of ar blank_word (take (m - 0) both)).starts
      → counts ≡ counts_of ar (take (m - 0) both) k (take (length both - m) (drop m both)) t
      → held ar (take m both) (drop m both) at l ≡ stored ar (take (m - 0) both) (take (k.number - 0) f) (take (length both - m) (drop m both)) counts l
  parts_on at l k z f {counts = counts} e s lz ef ec =
      let c = found_count ar blank_word (take (m - 0) both) k e in
      held_parts at l
      ∙ held_on ar (take (m - 0) both) (take (length both - m) (drop m both)) at l e s
      ∙ ap₂ (λ (x : List ℕ) (y : Counts). stored ar (take (m - 0) both) x (take (length both - m) (drop m both)) y l)
      (sym (run_whole z f (shapes_of ar blank_word (take (m - 0) both)).starts k.number c.0 (omega (arith, c.0, c.1)) ef)) (sym ec)

pub bytes_length : (file : List ℕ) (p : Places) → Placed file p → length (take (p.end - p.shapes) (drop p.shapes file)) ≡ p.end - p.shapes
bytes_length file p d = length-take-le (p.end - p.shapes) (drop p.shapes file)
    (omega (arith, length-drop p.shapes file, d.first, d.second, d.size))

module _ (file : List ℕ) (p : Places) (d : Placed file p) (z a : List ℕ) (lz : length z ≡ section_words)
    (ea : a ≡ sets z 0 (words_of (take (p.end - p.shapes) (drop p.shapes file)))) where
  abbrev pub bytes : List ℕ
  bytes = take (p.end - p.shapes) (drop p.shapes file)

  all_words : length (words_of bytes) ≡ d.all
  all_words = length_words d.all bytes (omega (arith, bytes_length file p d, d.words))

  pub both_is : take ((p.end - p.shapes) / 2 - 0) a ≡ words_of bytes
  both_is = run_whole z a (words_of bytes) ((p.end - p.shapes) / 2) (omega (arith, all_words, d.words))
      (omega (arith, all_words, d.words, d.size, d.short)) ea

  pub both_length : length (take ((p.end - p.shapes) / 2 - 0) a) ≡ d.all
  both_length = ap length both_is ∙ all_words

  twice : 2 * ((p.score - p.shapes) / 2) ≡ p.score - p.shapes
  twice = omega (arith, d.words, d.score_words, d.first, d.second)

  short : 2 * ((p.score - p.shapes) / 2) ≤ length bytes
  short = omega (arith, twice, bytes_length file p d, d.first, d.second)

  pub shape_part_lem : take ((p.score - p.shapes) / 2) (take ((p.end - p.shapes) / 2 - 0) a) ≡ words_of
      (take (p.score - p.shapes) (drop p.shapes file))
  shape_part_lem =
      ap (take ((p.score - p.shapes) / 2)) both_is
      ∙ words_take ((p.score - p.shapes) / 2) bytes short
      ∙ ap (λ (n : ℕ). words_of (take n bytes)) twice
      ∙ ap words_of (take-take (p.score - p.shapes) (p.end - p.shapes) (drop p.shapes file) (omega (arith, d.first, d.second)))

  pub score_part_lem : drop ((p.score - p.shapes) / 2) (take ((p.end - p.shapes) / 2 - 0) a) ≡ words_of
      (take (p.end - p.score) (drop p.score file))
  score_part_lem =
      let e : p.end - p.shapes ≡ p.score - p.shapes + (p.end - p.score) = omega (arith, d.first, d.second) in
      let s : p.shapes + (p.score - p.shapes) ≡ p.score = omega (arith, d.first) in
      ap (drop ((p.score - p.shapes) / 2)) both_is
      ∙ words_drop ((p.score - p.shapes) / 2) bytes short
      ∙ ap (λ (n : ℕ). words_of (drop n bytes)) twice
      ∙ ap (λ (n : ℕ). words_of (drop (p.score - p.shapes) (take n (drop p.shapes file)))) e
      ∙ ap words_of (drop_take (p.score - p.shapes) (p.end - p.score) (drop p.shapes file)
      (omega (arith, length-drop p.shapes file, d.first, d.second, d.size)))
      ∙ ap (λ (x : List ℕ). words_of (take (p.end - p.score) x)) (drop-drop (p.score - p.shapes) p.shapes file ∙ ap (λ (n : ℕ). drop n file) s)

  pub opened_held : (l : Lent) → sections_of file ≡ Ok p → opened file l
      ≡ held (take (p.shapes - 0) file) (take ((p.score - p.shapes) / 2) (take ((p.end - p.shapes) / 2 - 0) a))
      (drop ((p.score - p.shapes) / 2) (take ((p.end - p.shapes) / 2 - 0) a)) p.shapes l
  opened_held l e =
      opened_at file l p e
      ∙ ap₂ (λ (x y : List ℕ). held (take p.shapes file) x y p.shapes l) (sym shape_part_lem) (sym score_part_lem)
      ∙ ap (λ (n : ℕ). held (take n file) (take ((p.score - p.shapes) / 2) (take ((p.end - p.shapes) / 2 - 0) a))
      (drop ((p.score - p.shapes) / 2) (take ((p.end - p.shapes) / 2 - 0) a)) p.shapes l) (sym (sub-zero p.shapes))
