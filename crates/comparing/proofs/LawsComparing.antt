-- Comparing at each way through it.
--   good_shapes                  good shapes are at most 16, and lie among their words
--   answer_bad answer_go         19, or what the score and the marks give
--   refused_is number_is         the outcome of a refusal, and of a number
--   tells_bad tells_refused tells_number   the same, by what the code finds
--   MarkFrom mark_begin mark_half words_in_lem mark_room mark_next mark_done  a node's mark, shape by shape
--   found_is                     they hold a match exactly if its shape is one and stands there
use Rattle.std.specs.Prelude.{Err, Ok}
use Prim.Native.Nat.{ℕ, suc, ◌+◌, ◌-◌, ◌*◌, ◌^◌, ◌<◌, ◌≤◌}
use mathlib.Core.Path.{◌≡◌, refl, ap, ap₂, sym, ◌∙◌}
use mathlib.Core.Bool.{Bool, true, false, cond, ◌&&◌}
use mathlib.Core.List.{List}
use native.Mathlib.Omega.{arith}
use native.Mathlib.Nat.{zero-add}
use native.Mathlib.Numerals.{add-one}
use lib.Dec.{eqb, ltb}
use lib.ListN.{length, get_or, take, drop, length-map}
use lib.Seq.{sets}
use Rattle.kinds.specs.Bits.{bit}
use Rattle.kinds.specs.Limits.{blank_word}
use Rattle.kinds.specs.Lists.{gather, range, onto}
use Rattle.kinds.specs.declared.Reason.{Reason}
use Rattle.kinds.specs.declared.Reason.TheVariants.{BadShapes}
use Rattle.kinds.proofs.ListLaws.{onto_sets, range_at}
use Rattle.kinds.proofs.Members.{length_range}
use Rattle.checks.specs.Again.{shapes_good}
use Rattle.term.specs.Terms.{Term, flatten}
use Rattle.folio.specs.Folio.{starts_at}
use Rattle.folio.proofs.GoodTables.{shapes_good_shaped}
use Rattle.folio.proofs.ShapesFound.{length_starts}
use Rattle.counting.specs.Counting.{match_at, found, total, counted}
use Rattle.counting.specs.Passing.{long_of}
use Rattle.counting.proofs.CountLaws.{looked, unlooked}
use Rattle.matching.specs.Shapes.{end_of, part, shape_at, Laid}
use Rattle.matching.specs.Falling.{falls}
use Rattle.matching.proofs.LawsShapes.{end_last, end_next, part_is, words_are}
use Rattle.matching.proofs.ShapeWords.{shapes_laid}
use Rattle.comparing.specs.Comparing.{matched_at, mark_at, marks_to, marks_of, answer_of, out_of, compared}
use Rattle.comparing.proofs.MarkLaws.{BitsFrom, bits_begin, bits_half, bits_room, bits_down, bits_end, bit_of}

trees_laid : (ss : List Term) {ws st : List ℕ} → ws ≡ gather flatten ss → st ≡ starts_at 0 ss → Laid ws st
trees_laid ss a b = rw (a, b) (shapes_laid ss)

pub good_shapes : (ar ws st : List ℕ) → shapes_good ar ws st ≡ true → (length st ≤ 16) × Laid ws st
good_shapes ar ws st e =
    let s = (shapes_good_shaped ar ws st e).1 in
    (omega (arith, ap length s.begins, length_starts 0 s.trees, s.few_shapes), trees_laid s.trees s.words s.begins)

module _ (ar ws st score spans marks : List ℕ) where
  pub answer_bad : shapes_good ar ws st ≡ false → answer_of ar ws st score spans marks ≡ Err BadShapes
  unfolding answer_of
  answer_bad e = rw e

  pub answer_go : shapes_good ar ws st ≡ true
      → answer_of ar ws st score spans marks ≡ counted (λ ms. Ok (total (marks_of ws st score spans))) ar score spans marks
  unfolding answer_of
  answer_go e = rw e

  pub refused_is : {r : Reason} → answer_of ar ws st score spans marks ≡ Err r → compared ar ws st score spans marks ≡ out_of (Err r) marks
  refused_is e = rw e

  pub number_is : {k : ℕ} → answer_of ar ws st score spans marks ≡ Ok k
      → compared ar ws st score spans marks ≡ out_of (Ok k) (onto (marks_of ws st score spans) marks)
  number_is e = rw e

  -- ---- what the code answers
  pub tells_bad : shapes_good ar ws st ≡ false → out_of (Err BadShapes) marks ≡ compared ar ws st score spans marks
  tells_bad e = sym (refused_is (answer_bad e))

  module _ (e : shapes_good ar ws st ≡ true) where
    pub tells_refused : {r : Reason} → long_of ar score spans marks ≡ Err r → out_of (Err r) marks ≡ compared ar ws st score spans marks
    tells_refused {r} h = sym (refused_is (answer_go e ∙ unlooked ar score spans marks (λ ms. Ok (total (marks_of ws st score spans))) r h))

    pub tells_number : {n k : ℕ} {ms : List ℕ} → long_of ar score spans marks ≡ Ok n
        → (k ≡ total (marks_to ws st score spans n)) × (ms ≡ sets marks 0 (marks_to ws st score spans n))
        → out_of (Ok k) ms ≡ compared ar ws st score spans marks
    tells_number {n} h w =
        let l = looked ar score spans marks n h in
        let all : marks_to ws st score spans n ≡ marks_of ws st score spans = ap (marks_to ws st score spans) l.nodes in
        let long : length (marks_of ws st score spans) ≡ length score =
        length-map (range 0 (length score)) (mark_at ws st score spans) ∙ length_range 0 (length score) in
        ap₂ (λ c m. out_of (Ok c) m) (w.0 ∙ ap total all) (w.1 ∙ ap (sets marks 0) all
        ∙ sym (onto_sets (marks_of ws st score spans) marks (omega (arith, long, l.nodes, l.inside))))
        ∙ sym (number_is (answer_go e ∙ l.counts (λ ms. Ok (total (marks_of ws st score spans)))))

abbrev one : Bool → ℕ
one b = cond b 1 0

-- ---- the mark of a node, where the shapes below j are left: the words of the last of them end where those of shape j begin
pub record MarkFrom (ws st score spans : List ℕ) (x mark j end : ℕ) : Type 0 where
  pub bits : BitsFrom (matched_at ws st score spans x) (length st) mark j
  pub ends : (i : ℕ) → j ≡ suc i → end ≡ end_of ws st i

pub mark_begin : (ws st score spans : List ℕ) (x : ℕ) → MarkFrom ws st score spans x 0 (length st) (length ws)
mark_begin ws st score spans x = record {
  bits = bits_begin (matched_at ws st score spans x) (length st);
  ends = λ j h. sym (end_last ws st j (omega arith));
}

module _ {ws st score spans : List ℕ} {x mark end : ℕ} where
  pub mark_done : {j : ℕ} → MarkFrom ws st score spans x mark j end → j ≤ 0 → mark ≡ mark_at ws st score spans x
  unfolding mark_at
  mark_done {j} m h = let e : j ≡ 0 = omega arith in bits_end (rw e at m.bits)

  module _ {j : ℕ} (m : MarkFrom ws st score spans x mark (suc j) end) where
    inside : j < length st
    inside = omega (arith, m.bits.inside)

    pub mark_half : length st ≤ 16 → mark < 2 ^ 15
    mark_half h = bits_half m.bits h

    module _ (laid : Laid ws st) where
      pub words_in_lem : (get_or st j 0 ≤ end) × (end ≤ length ws)
      words_in_lem = let h = laid j inside in (omega (arith, h.0, m.ends j refl), omega (arith, h.1, m.ends j refl))

      shape_is : take (end - get_or st j 0) (drop (get_or st j 0) ws) ≡ shape_at ws st j
      shape_is = sym (words_are ws st j inside ∙ ap (part ws (get_or st j 0)) (sym (m.ends j refl))
          ∙ part_is ws (get_or st j 0) end words_in_lem.0 words_in_lem.1)

      module _ {b : ℕ} (d : b ≡ one (falls blank_word score spans (take (end - get_or st j 0) (drop (get_or st j 0) ws)) x)) where
        bit_is : b ≡ one (matched_at ws st score spans x j)
        bit_is = d ∙ ap (λ w. one (falls blank_word score spans w x)) shape_is

        pub mark_room : length st ≤ 16 → mark * 2 + b < 2 ^ 16
        mark_room h = bits_room m.bits bit_is h

        pub mark_next : MarkFrom ws st score spans x (mark * 2 + b) j (get_or st j 0)
        mark_next = record {
          bits = bits_down m.bits bit_is;
          ends = λ i h. sym (end_next ws st i (omega (arith, inside)) ∙ ap (λ k. get_or st k 0) (add-one i ∙ sym h));
        }

module _ (ws st score spans : List ℕ) where
  pub found_is : (x j : ℕ) → x < length score
      → found (marks_of ws st score spans) (match_at x j) ≡ (ltb j (length st) && matched_at ws st score spans x j)
  unfolding mark_at
  found_is x j h =
      ap (λ m. eqb (bit m j) 1) (range_at (mark_at ws st score spans) 0 (length score) 0 x h ∙ ap (mark_at ws st score spans) (zero-add x))
      ∙ bit_of (matched_at ws st score spans x) (length st) 0 j
      ∙ ap (λ i. ltb j (length st) && matched_at ws st score spans x i) (zero-add j)
