-- Putting in, at each way through it.
--   made_words made_long            what was made is the result; or it has over 4,096 words
--   past handed_long handed_short handed_written stored handed_as   43, 44, or the result in the buffer
--   in_none in_goes in_tree         42, or that
--   put_shapes put_score put_out_lem put_not put_finished put_goes  19, 31, 40, 41, or that
--   short_shape, as_long            a good shape has at most 16 words; good spans are as many as the score's words
use Rattle.kinds.specs.declared.Refusal.{Refusal}
use Rattle.std.specs.Prelude.{Err, None, Ok, Result, Some, is_ok}
use Prim.Native.Nat.{ℕ, ◌-◌, ◌<◌, ◌≤◌}
use mathlib.Core.Path.{◌≡◌, refl, ap, ap₂, sym, ◌∙◌}
use mathlib.Core.List.{List, ◌++◌}
use mathlib.Core.Bool.{true, false}
use native.Mathlib.Omega.{arith}
use native.Mathlib.Nat.{zero-add, sub-zero}
use native.Mathlib.Decide.{dec_lt}
use borrow.Author.Tests.{lt-ltb, le-ltb, le-leb, lt-leb}
use lib.ListN.{length, take, drop}
use lib.Seq.{sets}
use Rattle.kinds.specs.Limits.{blank_word, score_levels}
use Rattle.kinds.specs.declared.Reason.TheVariants.{BadShapes, BadScore, NotThere, IsFinished, NoTree, PastLimits, ShortScore}
use Rattle.kinds.proofs.ListLaws.{onto_sets, stored_back}
use Rattle.kinds.proofs.Places.{at_in, at_some}
use Rattle.term.specs.Terms.{flatten}
use Rattle.term.specs.declared.Met.{Met}
use Rattle.term.proofs.Sizes.{length_flatten}
use Rattle.term.proofs.LawsReading.{whole_in}
use Rattle.term.proofs.LawsSpans.{length_spans}
use Rattle.contents.specs.Tables.{score_limits, score_of}
use Rattle.contents.proofs.LawsTables.{score_read}
use Rattle.checks.specs.Again.{shapes_good, score_good}
use Rattle.checks.proofs.LawsAgain.{score_good_is}
use Rattle.folio.specs.Folio.{Shaped}
use Rattle.folio.proofs.GoodTables.{shapes_good_shaped}
use Rattle.folio.proofs.ShapesFound.{length_starts}
use Rattle.counting.specs.Counting.{match_at}
use Rattle.matching.specs.Shapes.{shape_at}
use Rattle.matching.specs.Falling.{covered}
use Rattle.matching.proofs.LawsShapes.{words_none}
use Rattle.matching.proofs.ShapeWords.{shape_words_lem}
use Rattle.clashing.specs.Strays.{matched}
use Rattle.replacing.specs.Adding.{Added, to, full}
use Rattle.replacing.specs.Putting.{trees_in, finished_at, result_of, PutOutcome, put_out, refused, handed, put_in, put_of}

-- ---- what was made
pub made_words : {made now result : List ℕ} {e : ℕ} → Added made 0 result (Some e) now → take (e - 0) now ≡ result
made_words {made} {result = result} (to e now a b c) =
    let z : e - 0 ≡ length result = omega arith in
    rw (z, c) (stored_back result made (omega arith))

pub made_long : {made now result : List ℕ} → Added made 0 result None now → length made < length result
made_long {made} {result = result} (full now h) = omega (arith, h, zero-add (length result))

-- ---- 43 and 44
many_words : (ar result : List ℕ) → 4096 < length result → (s : Result Met Refusal) → score_of ar result ≡ s → is_ok s ≡ false
many_words ar result h (Err why) e = refl
many_words ar result h (Ok m) e =
    let r = score_read ar result m e in
    let w = whole_in ar result (score_limits 0) score_levels 0 m r.0 in
    absurd (omega (arith, h, r.1, w.few))

module _ (ar result new : List ℕ) where
  pub past : is_ok (score_of ar result) ≡ false → refused PastLimits new ≡ handed ar result new
  unfolding handed
  past e = rw e

  pub handed_long : 4096 < length result → refused PastLimits new ≡ handed ar result new
  handed_long h = past (many_words ar result h (score_of ar result) refl)

  module _ (e : is_ok (score_of ar result) ≡ true) where
    pub handed_short : length new < length result → refused ShortScore new ≡ handed ar result new
    unfolding handed
    handed_short h = rw (e, lt-leb (length result) (length new) h)

    pub handed_written : {now : List ℕ} → length result ≤ length new → now ≡ sets new 0 result → put_out (Ok (length result)) now ≡ handed ar result new
    unfolding handed
    handed_written h d = rw (e, le-leb (length result) (length new) h) (ap (put_out (Ok (length result))) (d ∙ sym (onto_sets result new h)))

pub stored : (result new : List ℕ) {now : List ℕ} → length result ≤ length new → now ≡ result → now ++ drop (length result) new ≡ sets new 0 result
stored result new h d = ap (λ ws. ws ++ drop (length result) new) d ∙ onto_sets result new h

pub handed_as : (ar new : List ℕ) {words result : List ℕ} {o : PutOutcome} → words ≡ result → o ≡ handed ar words new → o ≡ handed ar result new
handed_as ar new e h = h ∙ ap (λ w. handed ar w new) e

-- ---- 42
pub in_goes : (ar shape score spans : List ℕ) (x : ℕ) (link new : List ℕ) → trees_in ar (length (covered blank_word spans shape x)) 1 link ≡ true
    → put_in ar shape score spans x link new ≡ handed ar (result_of score spans x (covered blank_word spans shape x) link) new
unfolding put_in
in_goes ar shape score spans x link new e = rw e

module _ (ar shape score spans : List ℕ) (x : ℕ) (link new : List ℕ) {n : ℕ} (count : n ≡ length (covered blank_word spans shape x)) where
  pub in_none : trees_in ar n 1 link ≡ false → refused NoTree new ≡ put_in ar shape score spans x link new
  unfolding put_in
  in_none e = rw (← count, e)

  pub in_tree : (nodes : List ℕ) {o : PutOutcome} → trees_in ar n 1 link ≡ true → take n nodes ≡ covered blank_word spans shape x
      → o ≡ handed ar (result_of score spans x (take (n - 0) nodes) link) new → o ≡ put_in ar shape score spans x link new
  in_tree nodes e d h =
      h ∙ ap (λ ys. handed ar (result_of score spans x ys link) new) (ap (λ k. take k nodes) (sub-zero n) ∙ d)
      ∙ sym (in_goes ar shape score spans x link new (ap (λ k. trees_in ar k 1 link) (sym count) ∙ e))

-- ---- 19, 31, 40, 41
module _ (ar ws st score spans : List ℕ) (j x : ℕ) (link : List ℕ) (f : ℕ) (new : List ℕ) where
  abbrev outcome : PutOutcome
  outcome = put_of ar ws st score spans j x link f new

  pub put_shapes : shapes_good ar ws st ≡ false → refused BadShapes new ≡ outcome
  unfolding put_of
  put_shapes e = rw e

  module _ (s : shapes_good ar ws st ≡ true) where
    pub put_score : score_good ar score spans ≡ false → refused BadScore new ≡ outcome
    unfolding put_of
    put_score e = rw (s, e)

    module _ (g : score_good ar score spans ≡ true) where
      pub put_out_lem : length score ≤ x → refused NotThere new ≡ outcome
      unfolding put_of
      put_out_lem h = rw (s, g, le-ltb x (length score) h)

      module _ (l : x < length score) where
        pub put_not : matched ws st score spans (match_at x j) ≡ false → refused NotThere new ≡ outcome
        unfolding put_of
        put_not e = rw (s, g, lt-ltb x (length score) l, e)

        module _ (m : matched ws st score spans (match_at x j) ≡ true) where
          pub put_finished : finished_at score spans x f ≡ true → refused IsFinished new ≡ outcome
          unfolding put_of
          put_finished e = rw (s, g, lt-ltb x (length score) l, m, e)

          pub put_goes : {shape : List ℕ} {o : PutOutcome} → finished_at score spans x f ≡ false → shape ≡ shape_at ws st j
              → o ≡ put_in ar shape score spans x link new → o ≡ outcome
          unfolding put_of
          put_goes e d h = h ∙ ap (λ w. put_in ar w score spans x link new) d ∙ rw (s, g, lt-ltb x (length score) l, m, e)

-- ---- good tables
pub short_shape : (ar ws st : List ℕ) (j : ℕ) → shapes_good ar ws st ≡ true → length (shape_at ws st j) ≤ 16
short_shape ar ws st j e = go (dec_lt j (length st))
  where
    s : Shaped ar ws st
    s = (shapes_good_shaped ar ws st e).1

    go : Dec (j < length st) → length (shape_at ws st j) ≤ 16
    go (no h) = omega (arith, ap length (words_none ws st j (omega arith)))
    go (yes h) =
        let ℓ = at_some s.trees j (omega (arith, ap length s.begins, length_starts 0 s.trees)) in
        let w : shape_at ws st j ≡ flatten ℓ.0 = ap₂ (λ a b. shape_at a b j) s.words s.begins ∙ shape_words_lem s.trees j ℓ.0 ℓ.1 in
        omega (arith, ap length w, length_flatten ℓ.0, (s.each ℓ.0 (at_in s.trees j ℓ.1)).small)

pub as_long : (ar score spans : List ℕ) → score_good ar score spans ≡ true → length spans ≡ length score
as_long ar score spans e = ap length (score_good_is ar score spans e).spans ∙ length_spans ar score
