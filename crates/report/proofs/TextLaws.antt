-- Text written piece by piece.
--   Put put_then     a text stands from one place on, and ends at another; a piece behind a piece
--   text_is          a text copied
--   dotted_is dotted_next dotted_end   child numbers, each behind a dot
--   dotted_few text_few    how long they are at most
--   Wrote            what a call says of a piece that it wrote
--   Dots dots_next dots_end path_root   what is left of child numbers from a place on
--   field_is states_by_lem states_few  a text and a number; the number of states, and how long its text is
--   first_is refusal_is match_is   the three lines
--   match_short nowhere   a match's line by the spans: there is no room, or no such node
use Rattle.std.specs.Prelude.{Err, None, Ok, Some, Option as Optional}
use Prim.Native.Nat.{ℕ, suc, ◌+◌, ◌*◌, ◌-◌, ◌<◌, ◌≤◌}
use mathlib.Core.Path.{◌≡◌, refl, ap, ap₂, sym, ◌∙◌, subst}
use mathlib.Core.List.{List, [], ◌∷◌, ◌++◌}
use native.Mathlib.Omega.{arith}
use native.Mathlib.Nat.{zero-add}
use mathlib.Core.Option.{Option, none, some, map}
use borrow.Author.Tests.{lt-leb, le-leb}
use native.Mathlib.Numerals.{add-one}
use lib.ListN.{length, get_or, take, drop, set, length-append}
use lib.Seq.{sets, take-length}
use borrow.Rule.Slice.PartMut.{put_mid}
use Rattle.std.proofs.lemmas.Slice.{put_mid-paste}
use Rattle.std.proofs.lemmas.List.Edits.{sets-eq}
use Rattle.kinds.specs.Lists.{gather, unless}
use Rattle.kinds.specs.Positions.{Pos}
use Rattle.kinds.proofs.ListLaws.{sets_append, from, from_end}
use Rattle.kinds.specs.declared.Reason.TheVariants.{ShortBuffers, OutOfRange}
use Rattle.counting.specs.Counting.{match_at}
use Rattle.report.specs.Paths.{path_of}
use Rattle.report.specs.Text.{digits, digits_to, dotted, field, states_field, path_text, match_line}
use Rattle.kinds.specs.Reasons.{number_of}
use Rattle.kinds.specs.declared.Reason.{Reason}
use Rattle.report.specs.Quoted.{bytes}
use Rattle.report.specs.declared.Totals.{Totals}
use Rattle.report.specs.Lines.{out_of, written, written_if, first_out, refusal_out, line_out}
use Rattle.report.proofs.DigitLaws.{digits_few}

pub record Put (o₀ : List ℕ) (a : ℕ) (ws : List ℕ) (o : List ℕ) (e : ℕ) : Type 0 where
  pub end : e ≡ a + length ws
  pub text : o ≡ sets o₀ a ws

pub put_then : {o₀ o o' : List ℕ} {a b c : ℕ} {xs ys : List ℕ} → Put o₀ a xs o b → Put o b ys o' c → Put o₀ a (xs ++ ys) o' c
put_then {o₀} {o} {o'} {a} {b} {c} {xs} {ys} p q = record {
  end = let x = p.end in let y = q.end in let l = length-append xs ys in omega arith;
  text = q.text ∙ ap₂ (λ l k. sets l k ys) p.text p.end ∙ sym (sets_append o₀ a xs ys);
}

-- a text copied over a part of the buffer
pub text_is : (o t : List ℕ) (at : ℕ) {part : List ℕ} → at + length t ≤ length o → part ≡ t → put_mid at (at + length t - at) o part ≡ sets o at t
text_is o t at {part} h e =
    put_mid-paste at (at + length t - at) o part t (length t) e (omega arith) refl
    ∙ ap (λ z. take at o ++ z ++ drop (at + length t) o) (take-length t) ∙ sym (sets-eq t o at h)

-- ---- child numbers
pub dotted_is : (i : ℕ) (p : Pos) → path_text (i ∷ p) ≡ digits i ++ dotted p
unfolding path_text
dotted_is i p = refl

pub dotted_next : (p : Pos) (i : ℕ) → i < length p → dotted (drop i p) ≡ 46 ∷ (digits (get_or p i 0) ++ dotted (drop (i + 1) p))
unfolding dotted
dotted_next p i h = ap (λ l. gather (λ j. 46 ∷ digits j) l) (from p i h)

pub dotted_end : (p : Pos) (i : ℕ) → length p ≤ i → dotted (drop i p) ≡ []
unfolding dotted
dotted_end p i h = ap (λ l. gather (λ j. 46 ∷ digits j) l) (from_end p i h)

pub digits_short : (n : ℕ) → length (digits n) ≤ 20
unfolding digits
digits_short n = digits_few 20 n

pub dotted_few : (p : Pos) → length (dotted p) ≤ 21 * length p
unfolding dotted digits
dotted_few [] = omega arith
dotted_few (i ∷ p) = let ih = dotted_few p in let f = digits_few 20 i in rw (length-append (46 ∷ digits_to 20 i) (dotted p)) (omega arith)

pub text_few : (p : Pos) → length (path_text p) ≤ 21 * length p + 1
unfolding path_text
text_few [] = omega arith
text_few (i ∷ p) = let f = digits_short i in let g = dotted_few p in let e : length (path_text (i ∷ p)) ≡ length (digits i) + length (dotted p) =
    ap length (dotted_is i p) ∙ length-append (digits i) (dotted p) in omega arith

-- what a call says of a piece that it wrote, of at most so many bytes
abbrev pub Wrote : ℕ → List ℕ → ℕ → List ℕ → List ℕ → ℕ → Type 0
Wrote most o a ws o' e = (e ≡ a + length ws) × ((o' ≡ sets o a ws) × (e ≤ a + most))

-- what is left of child numbers, each behind a dot, from place i on
pub record Dots (p : Pos) (o₀ : List ℕ) (a₀ : ℕ) (o : List ℕ) (a i : ℕ) : Type 0 where
  pub room : a + 21 * (length p - i) ≤ a₀ + 21 * length p
  pub end : a₀ + length (dotted p) ≡ a + length (dotted (drop i p))
  pub text : sets o₀ a₀ (dotted p) ≡ sets o a (dotted (drop i p))

pub dots_next : {p : Pos} {o₀ o : List ℕ} {a₀ a i : ℕ} (o' : List ℕ) (e : ℕ) → Dots p o₀ a₀ o a i → i < length p
    → e ≡ a + 1 + length (digits_to 20 (get_or p i 0)) → o' ≡ sets (set o a 46) (a + 1) (digits_to 20 (get_or p i 0)) → Dots p o₀ a₀ o' e (i + 1)
unfolding digits
dots_next {p} {o₀} {o} {a₀} {a} {i} o' e d h q t =
    let s = dotted_next p i h in
    let few = digits_few 20 (get_or p i 0) in
    let l : length (dotted (drop i p)) ≡ suc (length (digits_to 20 (get_or p i 0)) + length (dotted (drop (i + 1) p))) =
    ap length s ∙ ap suc (length-append (digits_to 20 (get_or p i 0)) (dotted (drop (i + 1) p))) in
    let r = d.room in let n = d.end in
    record {
      room = omega arith;
      end = omega arith;
      text = d.text ∙ ap (sets o a) s ∙ ap (λ k. sets (set o a 46) k (digits_to 20 (get_or p i 0) ++ dotted (drop (i + 1) p))) (sym (add-one a))
          ∙ sets_append (set o a 46) (a + 1) (digits_to 20 (get_or p i 0)) (dotted (drop (i + 1) p))
          ∙ ap₂ (λ x k. sets x k (dotted (drop (i + 1) p))) (sym t) (sym q);
    }

-- the first number stands in front of them
pub dots_end : {p : Pos} {o₀ o : List ℕ} {a₀ a i j : ℕ} (whole : Pos) (z : List ℕ) (at : ℕ) → Dots p o₀ a₀ o a i → length p ≤ i → whole ≡ j ∷ p
    → a₀ ≡ at + length (digits_to 20 j) → o₀ ≡ sets z at (digits_to 20 j) → Wrote (21 * length whole + 1) z at (path_text whole) o a
unfolding digits
dots_end {p} {o₀} {o} {a₀} {a} {i} {j} whole z at d h is q t =
    let s = dotted_end p i h in
    let w : path_text whole ≡ digits_to 20 j ++ dotted p = ap path_text is ∙ dotted_is j p in
    let e = d.end in
    let l : length (dotted (drop i p)) ≡ 0 = ap length s in
    let m : length (path_text whole) ≡ length (digits_to 20 j) + length (dotted p) = ap length w ∙ length-append (digits_to 20 j) (dotted p) in (
      omega arith,
      (
        sym (ap (sets z at) w ∙ sets_append z at (digits_to 20 j) (dotted p)
            ∙ ap₂ (λ x k. sets x k (dotted p)) (sym t) (sym q) ∙ d.text ∙ ap (sets o a) s),
        omega (arith, text_few whole),
      ),
    )

pub path_root : (p : Pos) (o o' : List ℕ) (a e : ℕ) → length p ≡ 0 → (e ≡ a + 1) × (o' ≡ sets o a (45 ∷ []))
    → Wrote (21 * length p + 1) o a (path_text p) o' e
unfolding path_text
path_root [] o o' a e z h = (h.0, (h.1, omega (arith, h.0)))
path_root (i ∷ p) o o' a e z h = absurd (omega arith)

-- ---- a line
pub line_short : (text o : List ℕ) → length o < 1400 → out_of (Err ShortBuffers) o ≡ written text o
unfolding written
line_short text o h = rw (lt-leb 1400 (length o) h)

pub line_is : {text o o' : List ℕ} {e : ℕ} → 1400 ≤ length o → Put o 0 text o' e → out_of (Ok e) o' ≡ written text o
unfolding written
line_is {text} {o} {o'} {e} h p = rw (le-leb 1400 (length o) h) (ap₂ (λ k l. out_of (Ok k) l) (p.end ∙ zero-add (length text)) p.text)

piece : (most : ℕ) {o o' : List ℕ} {a e : ℕ} (ws : List ℕ) → Wrote most o a ws o' e → Put o a ws o' e
piece most ws h = record { end = h.0; text = h.1.0 }

text : {o o' : List ℕ} {a e : ℕ} (ws : List ℕ) → (e ≡ a + length ws) × (o' ≡ sets o a ws) → Put o a ws o' e
text ws h = record { end = h.0; text = h.1 }

pub field_is : {o' o'' : List ℕ} {b c : ℕ} (o : List ℕ) (a : ℕ) (ws : List ℕ) (n : ℕ) → (b ≡ a + length ws) × (o' ≡ sets o a ws)
    → Wrote 20 o' b (digits_to 20 n) o'' c → Wrote (length ws + 20) o a (field ws n) o'' c
unfolding digits
field_is o a ws n h d = let p = put_then (text ws h) (piece 20 (digits_to 20 n) d) in (p.end, (p.text, omega (arith, h.0, d.1.1)))

-- the field is the one of what there is
pub states_by_lem : (o : List ℕ) (a : ℕ) (s : Optional ℕ) (n : ℕ) {o' : List ℕ} {e : ℕ} → s ≡ Some n → Wrote 28 o a (field (bytes " states ") n) o' e
    → Wrote 28 o a (states_field s) o' e
states_by_lem o a s n {o'} {e} is h = subst (λ t. Wrote 28 o a (states_field t) o' e) (sym is) h

pub states_few : (s : Optional ℕ) → length (states_field s) ≤ 28
states_few (Some n) = omega (arith, digits_short n)
states_few None = omega arith

pub first_is : (t : Totals) (o : List ℕ) {o₁ o₂ o₃ o₄ o₅ o₆ : List ℕ} {a₁ a₂ a₃ a₄ a₅ a₆ : ℕ} → 1400 ≤ length o
    → Wrote 26 o 0 (field (bytes "nodes ") t.nodes) o₁ a₁ → Wrote 28 o₁ a₁ (states_field t.states) o₂ a₂
    → Wrote 29 o₂ a₂ (field (bytes " matches ") t.matches) o₃ a₃ → Wrote 29 o₃ a₃ (field (bytes " clashes ") t.clashes) o₄ a₄
    → Wrote 27 o₄ a₄ (field (bytes " depth ") t.depth) o₅ a₅ → (a₆ ≡ a₅ + 1) × (o₆ ≡ sets o₅ a₅ (bytes "\n")) → out_of (Ok a₆) o₆ ≡ first_out t o
first_is t o room p₁ p₂ p₃ p₄ p₅ p₆ =
    line_is room
    (put_then (piece 26 (field (bytes "nodes ") t.nodes) p₁)
    (put_then (piece 28 (states_field t.states) p₂)
    (put_then (piece 29 (field (bytes " matches ") t.matches) p₃)
    (put_then (piece 29 (field (bytes " clashes ") t.clashes) p₄)
    (put_then (piece 27 (field (bytes " depth ") t.depth) p₅) (text (bytes "\n") p₆))))))

pub refusal_is : (r : Reason) (p : ℕ) {k : ℕ} (o : List ℕ) {o₁ o₂ o₃ : List ℕ} {a₁ a₂ a₃ : ℕ} → 1400 ≤ length o → k ≡ number_of r
    → Wrote 28 o 0 (field (bytes "refused ") k) o₁ a₁ → Wrote 24 o₁ a₁ (field (bytes " at ") p) o₂ a₂ → (a₃ ≡ a₂ + 1) × (o₃ ≡ sets o₂ a₂ (bytes "\n"))
    → out_of (Ok a₃) o₃ ≡ refusal_out r p o
refusal_is r p {k} o room e p₁ p₂ p₃ =
    line_is room (put_then (piece 28 (field (bytes "refused ") k) p₁) (put_then (piece 24 (field (bytes " at ") p) p₂) (text (bytes "\n") p₃)))
    ∙ ap (λ n. written (field (bytes "refused ") n ++ (field (bytes " at ") p ++ bytes "\n")) o) e

pub match_is : (x j : ℕ) (p : Pos) (most : ℕ) (o : List ℕ) {o₁ o₂ o₃ o₄ o₅ : List ℕ} {a₁ a₂ a₃ a₄ a₅ : ℕ} → 1400 ≤ length o
    → Wrote 20 o 0 (digits_to 20 x) o₁ a₁ → Wrote 21 o₁ a₁ (field (bytes " ") j) o₂ a₂ → (a₃ ≡ a₂ + 1) × (o₃ ≡ sets o₂ a₂ (bytes " "))
    → Wrote most o₃ a₃ (path_text p) o₄ a₄ → (a₅ ≡ a₄ + 1) × (o₅ ≡ sets o₄ a₄ (bytes "\n"))
    → out_of (Ok a₅) o₅ ≡ written (match_line (match_at x j) p) o
unfolding digits
match_is x j p most o room p₁ p₂ p₃ p₄ p₅ =
    line_is room
    (put_then (piece 20 (digits x) p₁)
    (put_then (piece 21 (field (bytes " ") j) p₂)
    (put_then (text (bytes " ") p₃)
    (put_then (piece most (path_text p) p₄) (text (bytes "\n") p₅)))))

-- a match's line by the spans
module _ (sp : List ℕ) (x j : ℕ) (o : List ℕ) where
  pub match_short : length o < 1400 → out_of (Err ShortBuffers) o ≡ line_out sp x j o
  unfolding written
  match_short h = go (path_of sp x)
    where
      go : (q : Option Pos) → out_of (Err ShortBuffers) o ≡ written_if (map (match_line (match_at x j)) q) o
      go none = rw (lt-leb 1400 (length o) h)
      go (some p) = rw (lt-leb 1400 (length o) h)

  pub nowhere : 1400 ≤ length o → path_of sp x ≡ none → out_of (Err OutOfRange) o ≡ line_out sp x j o
  nowhere h e =
      ap (λ t. unless t (out_of (Err ShortBuffers) o) (out_of (Err OutOfRange) o)) (sym (le-leb 1400 (length o) h))
      ∙ ap (λ q. written_if (map (match_line (match_at x j)) q) o) (sym e)
