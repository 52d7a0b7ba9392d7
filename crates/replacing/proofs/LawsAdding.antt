-- Words put one after the other, and the words that each word of a replacement stands for.
--   add_room add_full                    what is copied, or finds no room
--   added_as added_words added_long added_room added_then added_more   and more behind it
--   under_out under_is, piece_symbol piece_name   one word
--   Filling fill_begin fill_next fill_stop fill_end   the replacement's words
--   Made made_is made_full_1 made_full_2   the three parts of the result
use Rattle.std.specs.Prelude.{None, Option, Some}
use Prim.Native.Nat.{ℕ, ◌+◌, ◌-◌, ◌<◌, ◌≤◌}
use mathlib.Core.Path.{◌≡◌, refl, ap, ap₂, sym, ◌∙◌, subst}
use mathlib.Core.List.{List, [], ◌∷◌, ◌++◌}
use native.Mathlib.Omega.{arith}
use native.Mathlib.Nat.{add-zero, sub-zero}
use native.Mathlib.Numerals.{add-one}
use native.Mathlib.Decide.{dec_lt}
use borrow.Author.Tests.{lt-ltb, le-ltb}
use lib.ListN.{length, get_or, take, drop, length-append, length-drop, drop_of_length-le, get_or-eq_default}
use lib.Seq.{sets, drop-cons, take_all, length-sets, sets-eq}
use borrow.Rule.Slice.PartMut.{put_mid}
use Rattle.std.proofs.lemmas.Slice.{put_mid-paste}
use Rattle.kinds.specs.Limits.{first_name}
use Rattle.kinds.specs.Lists.{gather}
use Rattle.kinds.proofs.ListLaws.{sets_append}
use Rattle.matching.specs.Shapes.{part}
use Rattle.matching.proofs.LawsShapes.{part_none, part_is, part_out}
use Rattle.replacing.specs.Adding.{Added, to, full}
use Rattle.replacing.specs.Putting.{under, piece_of, result_of}

-- ---- one piece
module _ (made : List ℕ) (at : ℕ) (words : List ℕ) (l : at ≤ length made) where
  pub add_full : length made - at < length words → Added made at words None made
  add_full h = full made (omega arith)

  pub add_room : {now : List ℕ} → length words ≤ length made - at → now ≡ words
      → Added made at words (Some (at + length words)) (put_mid at (at + length words - at) made now)
  add_room {now} h e =
      let k : length words ≡ at + length words - at = omega arith in
      to (at + length words) _ refl (omega arith)
      (put_mid-paste at (at + length words - at) made now words (length words) e k refl
      ∙ ap (λ ws. take at made ++ ws ++ drop (at + length words) made) (take_all (length words) words (omega arith))
      ∙ sym (sets-eq words made at (omega arith)))

-- ---- by what is known of the room, or of the words
pub added_as : {made last : List ℕ} {at : ℕ} {words : List ℕ} {r s : (Option ℕ)} → r ≡ s → Added made at words r last → Added made at words s last
added_as {made} {last} {at} {words} e h = subst (λ r. Added made at words r last) e h

pub added_words : {made last : List ℕ} {at : ℕ} {words more : List ℕ} {r : (Option ℕ)} → words ≡ more → Added made at words r last → Added made at more r last
added_words {made} {last} {at} {r = r} e h = subst (λ ws. Added made at ws r last) e h

-- ---- one after the other
added_long : {made now : List ℕ} {at e : ℕ} {words : List ℕ} → Added made at words (Some e) now → length now ≡ length made
added_long {made} {at = at} {words = words} (to e now a b c) = ap length c ∙ length-sets made at words

pub added_room : {made now : List ℕ} {at e : ℕ} {words : List ℕ} → Added made at words (Some e) now → e ≤ length now
added_room {made} {at = at} {words = words} (to e now a b c) = omega (arith, b, ap length c ∙ length-sets made at words)

added_then : {made now : List ℕ} {at e : ℕ} {words : List ℕ} → Added made at words (Some e) now → {more last : List ℕ} {r : (Option ℕ)}
    → Added now e more r last → Added made at (words ++ more) r last
added_then {made} {at = at} {words = words} (to e now a b c) {more} (to e₂ last a₂ b₂ c₂) =
    let n = length-append words more in
    let l = ap length c ∙ length-sets made at words in
    to e₂ last (omega (arith, a, a₂, n)) (omega (arith, b₂, l))
    (c₂ ∙ ap₂ (λ (k : List ℕ) (i : ℕ). sets k i more) c a ∙ sym (sets_append made at words more))
added_then {made} {at = at} {words = words} (to e now a b c) {more} (full last k) =
    full last (omega (arith, a, k, ap length c ∙ length-sets made at words, length-append words more))

added_more : {made : List ℕ} {at : ℕ} {words : List ℕ} (more : List ℕ) {last : List ℕ} → Added made at words None last
    → Added made at (words ++ more) None last
added_more {words = words} more (full last k) = full last (omega (arith, k, length-append words more))

-- ---- the words that one word stands for
part_nil : (l : List ℕ) (y : ℕ) → part l y (y + 0) ≡ []
part_nil l y = go (dec_lt (length l) y)
  where
    z : y + 0 - y ≡ 0
    z = omega arith

    go : Dec (length l < y) → part l y (y + 0) ≡ []
    go (yes h) = part_out l y (y + 0) (omega arith) (omega arith)
    go (no h) = part_is l y (y + 0) (omega arith) (omega arith) ∙ ap (λ n. take n (drop y l)) z

part_end : (l : List ℕ) (y : ℕ) → part l y (length l) ≡ drop y l
part_end l y = go (dec_lt (length l) y)
  where
    go : Dec (length l < y) → part l y (length l) ≡ drop y l
    go (yes h) = part_none l y (length l) h ∙ sym (drop_of_length-le l {i = y} (omega arith))
    go (no h) = part_is l y (length l) (omega arith) (omega arith) ∙ take_all (length l - y) (drop y l) (omega (arith, length-drop y l))

module _ (score spans : List ℕ) (y : ℕ) where
  pub under_out : length spans ≤ y → [] ≡ under score spans y
  unfolding under
  under_out h = sym (rw (get_or-eq_default spans 0 h) (part_nil score y))

  pub under_is : {words : List ℕ} {n : ℕ} → n ≡ get_or spans y 0 → words ≡ part score y (y + n) → words ≡ under score spans y
  unfolding under
  under_is d e = e ∙ ap (λ n. part score y (y + n)) d

module _ (score spans nodes : List ℕ) where
  pub piece_symbol : {w : ℕ} → w < first_name → (w ∷ []) ≡ piece_of score spans nodes w
  unfolding piece_of
  piece_symbol {w} h = rw (lt-ltb w first_name h)

  pub piece_name : {w y : ℕ} {words : List ℕ} → first_name ≤ w → y ≡ get_or nodes (w - first_name) 0 → words ≡ under score spans y
      → words ≡ piece_of score spans nodes w
  unfolding piece_of
  piece_name {w} h d e = e ∙ ap (under score spans) d ∙ sym (rw (le-ltb w first_name h))

-- ---- the replacement's words from word i on: what adds them adds all
pub record Filling (piece : ℕ → List ℕ) (link made : List ℕ) (from i at : ℕ) (now : List ℕ) : Type 0 where
  pub rest : (r : Option ℕ) (last : List ℕ) → Added now at (gather piece (drop i link)) r last → Added made from (gather piece link) r last
  pub room : at ≤ length now
  pub long : length now ≡ length made

pub fill_begin : (piece : ℕ → List ℕ) (link made : List ℕ) (from : ℕ) → from ≤ length made → Filling piece link made from 0 from made
fill_begin piece link made from h = record { rest = λ r last k. k; room = h; long = refl }

module _ {piece : ℕ → List ℕ} {link made : List ℕ} {from i at : ℕ} {now : List ℕ} (h : Filling piece link made from i at now) where
  module _ (l : i < length link) where
    next_piece : gather piece (drop i link) ≡ piece (get_or link i 0) ++ gather piece (drop (i + 1) link)
    next_piece =
        let e : drop i link ≡ get_or link i 0 ∷ drop (i + 1) link = rw (add-one i) (drop-cons link i 0 l) in
        ap (gather piece) e

    pub fill_next : {e : ℕ} {next : List ℕ} → Added now at (piece (get_or link i 0)) (Some e) next → Filling piece link made from (i + 1) e next
    fill_next {e} {next} k = record {
      rest = λ r last d. h.rest r last (added_words (sym next_piece) (added_then k d));
      room = added_room k;
      long = added_long k ∙ h.long;
    }

    pub fill_stop : {last : List ℕ} → Added now at (piece (get_or link i 0)) None last → Added made from (gather piece link) None last
    fill_stop {last} k =
        h.rest None last (added_words (sym next_piece) (added_more (gather piece (drop (i + 1) link)) k))

  pub fill_end : length link ≤ i → Added made from (gather piece link) (Some at) now
  fill_end l =
      h.rest (Some at) now (subst (λ ws. Added now at (gather piece ws) (Some at) now) (sym (drop_of_length-le link l)) (to at now (sym (add-zero at))
      h.room refl))

-- ---- the three parts of the result
module _ (score spans : List ℕ) (x : ℕ) (nodes link made : List ℕ) where
  abbrev pub Made : Option ℕ → List ℕ → Type 0
  Made r last = Added made 0 (result_of score spans x nodes link) r last

  module _ {one : List ℕ} {a : ℕ} (first : Added made 0 (take (x - 0) (drop 0 score)) (Some a) one) where
    front : Added made 0 (take x score) (Some a) one
    front = added_words (ap (λ n. take n score) (sub-zero x)) first

    pub made_full_2 : {two : List ℕ} → Added one a (gather (piece_of score spans nodes) link) None two → Made None two
    unfolding result_of
    made_full_2 k = added_then front (added_more (drop (x + get_or spans x 0) score) k)

    pub made_is : {two last : List ℕ} {b : ℕ} {behind : List ℕ} {r : (Option ℕ)} → Added one a (gather (piece_of score spans nodes) link) (Some b) two
        → behind ≡ part score (x + get_or spans x 0) (length score) → Added two b behind r last → Made r last
    unfolding result_of
    made_is k e m =
        added_then front (added_then k (added_words (e ∙ part_end score (x + get_or spans x 0)) m))

  pub made_full_1 : {last : List ℕ} → Added made 0 (take (x - 0) (drop 0 score)) None last → Made None last
  unfolding result_of
  made_full_1 k =
      added_more (gather (piece_of score spans nodes) link ++ drop (x + get_or spans x 0) score)
      (added_words (ap (λ n. take n score) (sub-zero x)) k)
