-- Opening refuses exactly by the table.
--   refused_given given_refused   a refusal has its row; a row has its refusal
--   refused-exactly               so a number is given exactly when its row says
use Rattle.kinds.specs.declared.Refusal.{Refusal}
use Rattle.term.specs.declared.Met.{Met}
use Rattle.std.specs.Prelude.{Err, Ok, Result}
use mathlib.Core.Path.{◌≡◌, refl, ap, ap₂, sym, ◌∙◌}
use mathlib.Core.List.{List}
use Prim.Native.Nat.{ℕ, ◌+◌, ◌-◌, ◌*◌, ◌<◌, ◌≤◌}
use native.Mathlib.Omega.{arith}
use native.Mathlib.Decide.{dec_lt}
use lib.ListN.{length, take, drop, length-drop}
use lib.Seq.{length-take-le}
use Rattle.kinds.specs.declared.Reason.{Reason}
use Rattle.kinds.specs.declared.Reason.TheVariants as reason
use Rattle.kinds.proofs.Members.{in_take, in_drop}
use Rattle.term.specs.Terms.{span}
use Rattle.term.proofs.Sizes.{length_flatten}
use Rattle.term.proofs.TermWhole.{met_with}
use Rattle.sections.specs.Sections.{trailer_of, symbols_of, symbols_at, shapes_at, score_at, granted}
use Rattle.contents.specs.Tables.{ShapesRead, shapes_of, score_of}
use Rattle.kinds.specs.Limits.{blank_word}
use Rattle.folio.specs.Opening.{Lent, Room, OpenOutcome, refuse_opening, counts_of, stored, held, opened}
use Rattle.folio.specs.Folio.{Shaped, Scored}
use Rattle.term.specs.Admitted.{GoodSymbols}
use Rattle.sections.specs.declared.Places.{Places}
use Rattle.contents.specs.declared.ShapesMet.{ShapesMet}
use Rattle.folio.specs.declared.Counts.{Counts}
use Rattle.sections.specs.Bytes.{words_of}
use Rattle.sections.proofs.LawsBytes.{length_words}
use Rattle.sections.proofs.LawsSections.{Placed, trailer_in, sections_trailer, sections_symbols, sections_good}
use Rattle.folio.proofs.LawsOpening.{stored_words, stored_starts, stored_score, stored_spans, stored_all, held_shapes, held_score, held_on, opened_refused, opened_at}
use Rattle.folio.proofs.Symbols.{symbols_is, symbols_of_lem}
use Rattle.folio.proofs.ScoreWhole.{words_below, score_is, score_of_lem}
use Rattle.kinds.specs.Members.{Below}
use Rattle.folio.proofs.ShapesFound.{length_starts, met_in, found_shapes}
use Rattle.kinds.specs.Reasons.{number_of, refused_at}
use Rattle.kinds.proofs.Refusals.{same_refusal as one_refusal}
use Rattle.promises.proofs.ByNumber.{RefusedAs, by_reason}
use Rattle.promises.specs.Refusals.{Framed, Given, in_trailer, in_symbols, in_shapes, in_score, row_18}
use Rattle.promises.proofs.TrailerRows.{trailer_row, row_trailer, trailer_framed, framed_trailer, symbol_row, row_symbol}
use Rattle.promises.proofs.ShapeRows.{shape_row, row_shape, pass_shapes}
use Rattle.promises.proofs.ScoreRows.{score_row, row_score}

same_refusal {κ} : {C : Type κ} {r s : Reason} {p q : ℕ} → ◌≡◌ {A = Result Counts Refusal} (Err (refused_at r p)) (Err (refused_at s q)) → (r ≡ s → p ≡ q → C) → C
same_refusal e k = let w = one_refusal e in k w.0 w.1

no_refusal {κ} : {C : Type κ} {c : Counts} {r : Reason} {p : ℕ} → ◌≡◌ {A = Result Counts Refusal} (Ok c) (Err (refused_at r p)) → C
no_refusal e = let z : ◌≡◌ {A = ℕ} 0 1 = cc in absurd (omega arith)

module _ (file : List ℕ) (l : Lent) where
  -- a section of k words, from byte a to byte b
  section_ends : (a b k : ℕ) → b ≡ a + 2 * k → b ≤ length file → a + 2 * length (words_of (take (b - a) (drop a file))) ≡ b
  section_ends a b k e h =
      let size : b - a ≡ 2 * k = omega arith in
      let long = length-take-le (b - a) (drop a file) (omega (arith, length-drop a file)) ∙ size in
      omega (arith, length_words k (take (b - a) (drop a file)) long)

  -- the score's first byte, behind the shapes' words
  score_begins : (q : Places) → Placed file q → q.shapes + 2 * length (shapes_at file q) ≡ q.score
  score_begins q d = section_ends q.shapes q.score (d.all - d.nodes) (omega (arith, d.words, d.score_words, d.first, d.second))
      (omega (arith, d.size, d.second))

  -- and the trailer's, behind the score's
  score_ends : (q : Places) → Placed file q → q.score + 2 * length (score_at file q) ≡ q.end
  score_ends q d = section_ends q.score q.end d.nodes d.score_words (omega (arith, d.size))

  -- ---- a refusal has its row
  module _ (small : Below 256 file) (r : Reason) (p : ℕ) (e : (opened file l).answer ≡ Err (refused_at r p)) where
    told : (o : OpenOutcome) → opened file l ≡ o → o.answer ≡ Err (refused_at r p)
    told o d = sym (ap (λ (x : OpenOutcome). x.answer) d) ∙ e

    module _ (q : Places) (eq : trailer_of file ≡ Ok q) (good : symbols_of (symbols_at file q) ≡ granted) where
      abbrev ar : List ℕ
      ar = symbols_at file q

      abbrev ws : List ℕ
      ws = shapes_at file q

      abbrev sc : List ℕ
      sc = score_at file q

      whole : opened file l ≡ held ar ws sc q.shapes l
      whole = opened_at file l q (sections_good file q eq good)

      no_room : (st : List ℕ) (s : Shaped ar ws st) (t : Scored ar sc) (k : Counts) → (stored ar ws st sc k l).answer ≡ Err (refused_at r p)
          → Given file l (number_of r) p
      no_room st s t k d = go (dec_lt (length l.words) (length ws)) (dec_lt (length l.starts) (length st)) (dec_lt (length l.score) (length sc))
          (dec_lt (length l.spans) (length sc))
        where
          st_is : length st ≡ length s.trees
          st_is = ap length s.begins ∙ length_starts 0 s.trees

          n_is : length sc ≡ span t.tree
          n_is = ap length t.words ∙ length_flatten t.tree

          given : (Room l (length ws) (length s.trees) (span t.tree) → ⊥) → stored ar ws st sc k l ≡ refuse_opening reason.Tables 0 l
              → Given file l (number_of r) p
          given n x = same_refusal (sym (ap (λ (o : OpenOutcome). o.answer) x) ∙ d) λ a b. rw (← a, ← b)
              (row_18 q (trailer_framed file q eq) (symbols_is ar good) st s t n)

          go : Dec (length l.words < length ws) → Dec (length l.starts < length st) → Dec (length l.score < length sc)
              → Dec (length l.spans < length sc) → Given file l (number_of r) p
          go (yes a) b c d = given (λ x. let y = x.words in omega arith) (stored_words ar ws st sc k l a)
          go (no a) (yes b) c d = given (λ x. let y = x.starts in omega (arith, b, st_is)) (stored_starts ar ws st sc k l (omega arith) b)
          go (no a) (no b) (yes c) d = given (λ x. let y = x.score in omega (arith, c, n_is))
              (stored_score ar ws st sc k l (omega arith) (omega arith) c)
          go (no a) (no b) (no c) (yes d) =
              given (λ x. let y = x.spans in omega (arith, d, n_is)) (stored_spans ar ws st sc k l (omega arith) (omega arith) (omega arith) d)
          go (no a) (no b) (no c) (no x) =
              no_refusal (sym (ap (λ (o : OpenOutcome). o.answer) (stored_all ar ws st sc k l (omega arith) (omega arith) (omega arith) (omega arith)))
              ∙ d)

      on_score_lem : (n : ShapesMet) → (shapes_of ar blank_word ws).answer ≡ Ok n → (x : Result Met Refusal) → score_of ar sc ≡ x → Given file l (number_of r) p
      on_score_lem n es (Err why) ex =
          same_refusal (told _ (whole ∙ held_score ar ws sc q.shapes l es ex)) λ a b.
          let placed = trailer_in file q eq in
          let place : q.score + 2 * why.1 ≡ p = sym (ap (λ y. y + 2 * why.1) (score_begins q placed)) ∙ b in
          rw (← place) (in_score q (trailer_framed file q eq) (symbols_is ar good) (shapes_of ar blank_word ws).starts (found_shapes ar ws n es)
          (score_row ar sc q.score q.end (score_ends q placed) r why.1 (ex ∙ ap (λ y. Err (refused_at y why.1)) a)))
      on_score_lem n es (Ok m) ex =
          let s = found_shapes ar ws n es in
          let t = score_is ar sc m (words_below _ (λ w i. small w (in_drop q.score file (in_take (q.end - q.score) (drop q.score file) i))))
          ex in
          no_room (shapes_of ar blank_word ws).starts s t (counts_of ar ws n sc m) (rw_told (held_on ar ws sc q.shapes l es ex))
        where
          rw_told : {o : OpenOutcome} → held ar ws sc q.shapes l ≡ o → o.answer ≡ Err (refused_at r p)
          rw_told d = told _ (whole ∙ d)

      on_shapes_lem : (x : Result ShapesMet Refusal) → (shapes_of ar blank_word ws).answer ≡ x → Given file l (number_of r) p
      on_shapes_lem (Err why) ex =
          same_refusal (told _ (whole ∙ held_shapes ar ws sc q.shapes l ex)) λ a b.
          rw (← b) (in_shapes q (trailer_framed file q eq) (symbols_is ar good)
          (shape_row ar ws q.shapes q.score (score_begins q (trailer_in file q eq)) r why.1 (ex ∙ ap (λ y. Err (refused_at y why.1)) a)))
      on_shapes_lem (Ok n) ex = on_score_lem n ex (score_of ar sc) refl

    on_symbols_lem : (q : Places) → trailer_of file ≡ Ok q → (v : Result Unit Refusal) → symbols_of (symbols_at file q) ≡ v → Given file l (number_of r) p
    on_symbols_lem q eq (Err why) ev =
        same_refusal (told _ (opened_refused file l (sections_symbols file q eq ev))) λ a b.
        in_symbols q (trailer_framed file q eq) (symbol_row (symbols_at file q) r p (ev ∙ ap₂ (λ x y. Err (refused_at x y)) a b))
    on_symbols_lem q eq (Ok _) ev = on_shapes_lem q eq ev (shapes_of (symbols_at file q) blank_word (shapes_at file q)).answer refl

    on_trailer : (s : Result Places Refusal) → trailer_of file ≡ s → Given file l (number_of r) p
    on_trailer (Err why) es =
        same_refusal (told _ (opened_refused file l (sections_trailer file es))) λ a b.
        in_trailer (trailer_row file r p (es ∙ ap₂ (λ x y. Err (refused_at x y)) a b))
    on_trailer (Ok q) es = on_symbols_lem q es (symbols_of (symbols_at file q)) refl

    pub refused_given : Given file l (number_of r) p
    refused_given = on_trailer (trailer_of file) refl

  -- ---- a row has its refusal
  framed_at : (q : Places) → Framed file q → GoodSymbols (symbols_at file q)
      → opened file l ≡ held (symbols_at file q) (shapes_at file q) (score_at file q) q.shapes l
  framed_at q f g = opened_at file l q (sections_good file q (framed_trailer file q f) (symbols_of_lem (symbols_at file q) g))

  abbrev refused : Reason → ℕ → OpenOutcome
  refused r p = refuse_opening r p l

  pub given_refused : {n p : ℕ} → Given file l n p → RefusedAs refused (opened file l) n p
  given_refused (in_trailer x) = let y = row_trailer file x in
      record { reason = y.reason; number = y.number; is = opened_refused file l (sections_trailer file y.is) }
  given_refused (in_symbols q f x) =
      let y = row_symbol (symbols_at file q) x in
      record { reason = y.reason; number = y.number; is = opened_refused file l (sections_symbols file q (framed_trailer file q f) y.is) }
  given_refused (in_shapes q f g x) =
      let placed = trailer_in file q (framed_trailer file q f) in
      let y = row_shape (symbols_at file q) (shapes_at file q) q.shapes q.score (score_begins q placed) x in
      let z = y.refused in
      record {
        reason = z.reason;
        number = z.number;
        is = framed_at q f g ∙ held_shapes (symbols_at file q) (shapes_at file q) (score_at file q) q.shapes l z.is
            ∙ ap (refused z.reason) (sym y.place);
      }
  given_refused (in_score q f g st s x) =
      let placed = trailer_in file q (framed_trailer file q f) in
      let y = row_score (symbols_at file q) (score_at file q) q.score q.end (score_ends q placed) x in
      let z = y.refused in
      let shapes-pass = ap (λ (a : ShapesRead). a.answer) (pass_shapes (symbols_at file q) (shapes_at file q) st s) in
      record {
        reason = z.reason;
        number = z.number;
        is = framed_at q f g
            ∙ held_score (symbols_at file q) (shapes_at file q) (score_at file q) q.shapes l shapes-pass z.is
            ∙ ap (λ a. refused z.reason (a + 2 * y.word)) (score_begins q placed)
            ∙ ap (refused z.reason) (sym y.place);
      }
  given_refused (row_18 q f g st s t n) = by_reason refused reason.Tables
      (framed_at q f g
      ∙ held_on ar ws sc q.shapes l (ap (λ (y : ShapesRead). y.answer) (pass_shapes ar ws st s))
      (ap (score_of ar) t.words ∙ score_of_lem ar t.tree t.is)
      ∙ ap (λ (y : ShapesRead). stored ar ws y.starts sc k l) (pass_shapes ar ws st s)
      ∙ go (dec_lt (length l.words) (length ws)) (dec_lt (length l.starts) (length st)) (dec_lt (length l.score) (length sc))
      (dec_lt (length l.spans) (length sc)))
    where
      ar : List ℕ
      ar = symbols_at file q

      ws : List ℕ
      ws = shapes_at file q

      sc : List ℕ
      sc = score_at file q

      k : Counts
      k = counts_of ar ws (met_in s.trees) sc (met_with 0 t.tree)

      st_is : length st ≡ length s.trees
      st_is = ap length s.begins ∙ length_starts 0 s.trees

      n_is : length sc ≡ span t.tree
      n_is = ap length t.words ∙ length_flatten t.tree

      go : Dec (length l.words < length ws) → Dec (length l.starts < length st) → Dec (length l.score < length sc)
          → Dec (length l.spans < length sc) → stored ar ws st sc k l ≡ refuse_opening reason.Tables 0 l
      go (yes a) b c d = stored_words ar ws st sc k l a
      go (no a) (yes b) c d = stored_starts ar ws st sc k l (omega arith) b
      go (no a) (no b) (yes c) d = stored_score ar ws st sc k l (omega arith) (omega arith) c
      go (no a) (no b) (no c) (yes d) = stored_spans ar ws st sc k l (omega arith) (omega arith) (omega arith) d
      go (no a) (no b) (no c) (no d) =
          absurd (n (record {
            words = omega arith;
            starts = omega (arith, b, st_is);
            score = omega (arith, c, n_is);
            spans =
                omega (arith, d, n_is);
          }))
