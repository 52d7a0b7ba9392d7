-- Rows 7 to 12: the shapes' tests give them, and give nothing else.
--   shape_row row_shape     from the tests to a row, and back
--   pass_shapes             and where none of them is given
use Rattle.std.specs.Prelude.{Err, Ok, Result}
use mathlib.Core.Path.{◌≡◌, refl, ap, sym, ◌∙◌, subst}
use mathlib.Core.Logic.{⊎_elim}
use mathlib.Core.Bool.{Bool, true, false, cond}
use mathlib.Core.List.{List, [], ◌∷◌, ◌++◌, append_assoc, append-nil}
use Prim.Native.Nat.{ℕ, zero, suc, ◌+◌, ◌-◌, ◌<◌, ◌≤◌, ◌*◌}
use native.Mathlib.Omega.{arith}
use borrow.Author.Tests.{ltb-true, ltb-false, leb-true, leb-false, lt-ltb, le-leb}
use lib.Dec.{ltb, leb}
use lib.ListN.{length, get_or, drop, length-append}
use Rattle.kinds.specs.Lists.{gather}
use Rattle.kinds.specs.declared.Reason.{Reason}
use Rattle.kinds.specs.declared.Reason.TheVariants as reason
use Rattle.kinds.proofs.Members.{in_one, ∈_append, in_none}
use Rattle.kinds.proofs.ListLaws.{from, gather_append}
use Rattle.term.specs.Terms.{blank, flatten}
use Rattle.term.specs.Reading.{alone, reading}
use Rattle.term.specs.declared.Met.{Met}
use Rattle.term.specs.declared.Fault.{Fault}
use Rattle.term.specs.declared.Fault.TheVariants.{Ends, NoSymbol, Many, Deep}
use Rattle.term.proofs.LawsReading.{whole_in}
use Rattle.term.proofs.WholeTerm.{TermAt, whole_term}
use Rattle.term.proofs.TermWhole.{read_back}
use Rattle.term.proofs.Sizes.{length_flatten}
use Rattle.term.proofs.FirstFault.{fault_of, of_fault}
use Rattle.contents.specs.Tables.{shape_limits, shape_reason, shapes_met, another, ShapesRead, shapes_read, one_shape, shapes_from, shapes_of}
use Rattle.kinds.specs.Limits.{blank_word, shape_levels}
use Rattle.folio.specs.Folio.{starts_at, Shaped}
use Rattle.term.specs.Admitted.{IsShape}
use Rattle.contents.specs.declared.ShapesMet.{ShapesMet}
use Rattle.contents.proofs.LawsTables.{shapes_on, shapes_none, shapes_some}
use Rattle.folio.proofs.ShapesFound.{solid, others, pushes_answer, shapes_past, met_in, shapes_found}
use Rattle.kinds.specs.Reasons.{number_of, refused_at}
use Rattle.term.proofs.FaultPlaces.{ends_at_end, many_at_stop}
use Rattle.kinds.proofs.Refusals.{same_refusal}
use Rattle.promises.proofs.ByNumber.{RefusedAs, by_reason, refusing}
use Rattle.promises.specs.Refusals.{ShapesTo, ShapeFault, ShapeRow, row_7, row_8, row_9, row_10, row_11, row_12_none, row_12_more}

not_refused {κ} : {C : Type κ} {r : Reason} {n : ShapesMet} {i : ℕ} → Ok n ≡ Err (refused_at r i) → C
not_refused e = let z : ◌≡◌ {A = ℕ} 0 1 = cc in absurd (omega arith)

module _ (ar ws : List ℕ) (first end : ℕ) (whole : first + 2 * length ws ≡ end) where
  abbrev all : ℕ → ShapesMet → ℕ → ShapesRead
  all c k at = shapes_from ar blank_word ws c k at

  -- ---- from the tests
  abbrev Row : Reason → ℕ → Type 0
  Row r i = ShapeRow ar ws first end (number_of r) (first + 2 * i)

  by_fault : (at : ℕ) (f : Fault) (i : ℕ) → ShapeFault ar ws at f i → Row (shape_reason f) i
  by_fault at Ends i x =
      let b = x.begins in
      let z = ends_at_end ar ws (shape_limits blank_word at) x.fault (omega arith) in
      let place : end ≡ first + 2 * i = omega (arith, whole, z) in
      rw (← place) (row_8 at (rw z at x))
  by_fault at NoSymbol i x = row_7 at i x
  by_fault at Many i x = let z = many_at_stop ar ws (shape_limits blank_word at) x.fault (omega arith) in rw z (row_10 at (rw z at x))
  by_fault at Deep i x = row_11 at i x

  one_more_lem : (at n : ℕ) (m : Met) → at < length ws → get_or ws at 0 < blank_word → m.end ≤ at + 16 → (a : TermAt ar ws blank_word shape_levels at m)
      → ShapesTo ar ws at n → ShapesTo ar ws m.end (n + 1)
  one_more_lem at n m h g few a s =
      let t = a.tree in
      let is : IsShape ar t = record {
        fits = a.fits;
        flat = omega (arith, a.flat);
        small = omega (arith, a.size, few);
        solid =
            solid ar ws shape_levels at m a h g;
      } in
      let split : gather flatten (s.shapes ++ (t ∷ [])) ≡ gather flatten s.shapes ++ flatten t =
      gather_append flatten s.shapes (t ∷ []) ∙ ap (λ x. gather flatten s.shapes ++ x) (append-nil (flatten t)) in
      record {
        shapes = s.shapes ++ (t ∷ []);
        many = length-append s.shapes (t ∷ []) ∙ ap (λ x. x + 1) s.many;
        each = λ u m. ⊎_elim (s.each u) (λ x. subst (IsShape ar) (sym (in_one x)) is) (∈_append s.shapes m);
        words = s.words ∙ ap (λ x. gather flatten s.shapes ++ x) a.words
            ∙ sym (append_assoc (gather flatten s.shapes) (flatten t) (drop m.end ws)) ∙ ap (λ x. x ++ drop m.end ws) (sym split);
        size = let b = ap length split ∙ length-append (gather flatten s.shapes) (flatten t) in
            omega (arith, a.size, s.size, b, length_flatten t);
      }

  from_row : (c : ℕ) (k : ShapesMet) (at : ℕ) (r : Reason) (i : ℕ) → k.number + c ≡ 16 → ShapesTo ar ws at k.number
      → (all c k at).answer ≡ Err (refused_at r i) → Row r i
  unfolding shapes_from
  from_row zero k at r i h s e = go (ltb at (length ws)) refl e
    where
      go : (b : Bool) → ltb at (length ws) ≡ b
          → (cond b (shapes_read (Err (refused_at reason.Shapes at)) []) (shapes_read (Ok k) [])).answer ≡ Err (refused_at r i) → Row r i
      go false eb d = not_refused d
      go true eb d =
          let w = same_refusal d in
          let x : reason.Shapes ≡ r = w.0 in
          let y : at ≡ i = w.1 in
          let z : k.number ≡ 16 = omega arith in
          rw (← x, ← y) (row_12_more at (ltb-true at (length ws) eb) (rw z at s))
  from_row (suc c) k at r i h s e =
      go (ltb at (length ws)) refl (reading ar ws (shape_limits blank_word at) shape_levels at) refl (leb blank_word (get_or ws at 0)) refl e
      (λ m s'. from_row c (another k m) m.end r i (omega arith) s')
    where
      go : (b : Bool) → ltb at (length ws) ≡ b → (x : Result Met (Fault × ℕ)) → reading ar ws (shape_limits blank_word at) shape_levels at ≡ x → (lone : Bool)
          → leb blank_word (get_or ws at 0) ≡ lone
          → (cond b (one_shape x at lone (shapes_on ar blank_word ws c k)) (shapes_read (Ok k) [])).answer ≡ Err (refused_at r i)
          → ((m : Met) → ShapesTo ar ws m.end (k.number + 1) → (shapes_on ar blank_word ws c k m).answer ≡ Err (refused_at r i) → Row r i) → Row r i
      go false eb x ex lone el d ih = not_refused d
      go true eb (Err (f, p)) ex lone el d ih =
          let w = same_refusal d in
          let y : shape_reason f ≡ r = w.0 in
          let z : p ≡ i = w.1 in
          rw (← y, ← z) (by_fault at f p (record {
            number = k.number;
            one_of_16 = omega arith;
            begins = ltb-true at (length ws) eb;
            before = s;
            fault =
                fault_of ar ws (shape_limits blank_word at) shape_levels at f p ex;
          }))
      go true eb (Ok m) ex true el d ih =
          let w = same_refusal d in
          let y : reason.LoneBlank ≡ r = w.0 in
          let z : at ≡ i = w.1 in
          rw (← y, ← z) (row_9 at k.number (omega arith) (ltb-true at (length ws) eb) s (leb-true blank_word (get_or ws at 0) el))
      go true eb (Ok m) ex false el d ih =
          let a = whole_term ar ws (shape_limits blank_word at) shape_levels at m ex in
          let w = whole_in ar ws (shape_limits blank_word at) shape_levels at m ex in
          ih m (one_more_lem at k.number m (ltb-true at (length ws) eb) (leb-false blank_word (get_or ws at 0) el) w.few a s) d

  none_yet : ShapesTo ar ws 0 0
  none_yet = record { shapes = []; many = refl; each = λ t m. in_none m; words = refl; size = refl }

  pub shape_row : (r : Reason) (i : ℕ) → (shapes_of ar blank_word ws).answer ≡ Err (refused_at r i) → Row r i
  unfolding shapes_of
  shape_row r i e = go (ltb 0 (length ws)) refl e
    where
      go : (b : Bool) → ltb 0 (length ws) ≡ b → (cond b (all 16 (shapes_met 0 0) 0) (shapes_read (Err (refused_at reason.Shapes 0)) [])).answer ≡ Err (refused_at r i)
          → Row r i
      go true eb d = from_row 16 (shapes_met 0 0) 0 r i refl none_yet d
      go false eb d =
          let w = same_refusal d in
          let x : reason.Shapes ≡ r = w.0 in
          let y : 0 ≡ i = w.1 in
          let h = ltb-false 0 (length ws) eb in
          let here : first ≡ first + 2 * 0 = omega arith in
          rw (← x, ← y, ← here) (row_12_none (omega arith))

  -- ---- to the tests
  to_there : (at n c : ℕ) → n + c ≡ 16 → (s : ShapesTo ar ws at n) → 0 < length ws
      → (shapes_of ar blank_word ws).answer ≡ (all c (others (shapes_met 0 0) s.shapes) at).answer
  to_there at n c h s some_word =
      let k = others (shapes_met 0 0) s.shapes in
      let sixteen : 16 ≡ length s.shapes + c = omega (arith, s.many) in
      let z : 0 + length (gather flatten s.shapes) ≡ at = omega (arith, s.size) in
      ap (λ (x : ShapesRead). x.answer) (shapes_some ar blank_word ws (λ e. omega arith)
      ∙ ap (λ x. all x (shapes_met 0 0) 0) sixteen ∙ shapes_past ar ws s.shapes c (shapes_met 0 0) 0 (drop at ws) s.each s.words)
      ∙ pushes_answer (starts_at 0 s.shapes) (all c k (0 + length (gather flatten s.shapes)))
      ∙ ap (λ x. (all c k x).answer) z

  fault_row : (at : ℕ) (f : Fault) (i : ℕ) → ShapeFault ar ws at f i → (shapes_of ar blank_word ws).answer ≡ Err (refused_at (shape_reason f) i)
  unfolding shapes_from
  fault_row at f i x =
      let b = x.begins in
      let n = x.one_of_16 in
      let c = 15 - x.number in
      to_there at x.number (suc c) (omega arith) x.before (omega arith)
      ∙ rw (lt-ltb at (length ws) b, of_fault ar ws (shape_limits blank_word at) x.fault) refl

  -- a row is of a word, or of the section's end
  pub record ShapesRefused (n p : ℕ) : Type 0 where
    pub word : ℕ
    pub place : p ≡ first + 2 * word
    pub refused : RefusedAs refusing (shapes_of ar blank_word ws).answer n word

  at_word : (r : Reason) (i : ℕ) → (shapes_of ar blank_word ws).answer ≡ Err (refused_at r i) → ShapesRefused (number_of r) (first + 2 * i)
  at_word r i e = record { word = i; place = refl; refused = by_reason refusing r e }

  pub row_shape : {n p : ℕ} → ShapeRow ar ws first end n p → ShapesRefused n p
  unfolding shapes_from
  row_shape (row_7 at i x) = at_word reason.ShapeWord i (fault_row at NoSymbol i x)
  row_shape (row_8 at x) = record {
    word = length ws;
    place = sym whole;
    refused = by_reason refusing reason.ShapeEnds (fault_row at Ends (length ws) x);
  }
  row_shape (row_9 i n few h s b) =
      at_word reason.LoneBlank i (to_there i n (suc (15 - n)) (omega arith) s (omega arith)
      ∙ rw (lt-ltb i (length ws) h, lone i h b, le-leb blank_word (get_or ws i 0) b) refl)
    where
      lone : (i : ℕ) → i < length ws → blank_word ≤ get_or ws i 0 → reading ar ws (shape_limits blank_word i) shape_levels i ≡ Ok (alone i)
      lone i h b = (read_back ar ws (shape_limits blank_word i) (blank (get_or ws i 0)) shape_levels i (drop (i + 1) ws) b (omega arith) (omega arith)
          (from ws i h)).0
  row_shape (row_10 at x) = at_word reason.ShapeNodes (at + 16) (fault_row at Many (at + 16) x)
  row_shape (row_11 at i x) = at_word reason.ShapeDepth i (fault_row at Deep i x)
  row_shape (row_12_none e) = record {
    word = 0;
    place = omega arith;
    refused = by_reason refusing reason.Shapes (ap (λ (x : ShapesRead). x.answer) (shapes_none ar blank_word ws e));
  }
  row_shape (row_12_more i h s) = at_word reason.Shapes i (to_there i 16 0 refl s (omega arith) ∙ rw (lt-ltb i (length ws) h) refl)

-- ---- where they give nothing
pub pass_shapes : (ar ws st : List ℕ) (s : Shaped ar ws st) → shapes_of ar blank_word ws ≡ shapes_read (Ok (met_in s.trees)) st
pass_shapes ar ws st s =
    ap (shapes_of ar blank_word) s.words ∙ shapes_found ar s.trees s.each s.some_shape s.few_shapes
    ∙ ap (shapes_read (Ok (met_in s.trees))) (sym s.begins)
