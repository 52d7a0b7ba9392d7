-- Refusals 7 to 17, way by way.
--   shapes_full shapes_refused shapes_lone shapes_next shapes_done   the shapes from a word on, n of them read, the deepest so deep
--   shapes_none shapes_some                                          all of them
--   Left left_first left_end left_next                               the row that is left, and the buffer that holds the starts
--   score_refused score_whole score_read               the score; a whole one is read to its last word
--   shapes_on found_from_lem found_count shapes_refused_in score_refused_in       how many shapes, and where a refusal is
use Rattle.kinds.proofs.Refusals.{same_refusal}
use Rattle.kinds.specs.declared.Refusal.{Refusal}
use Rattle.kinds.specs.Reasons.{refused_at}
use Rattle.std.specs.Prelude.{Err, Ok, Result}
use Prim.Native.Nat.{ℕ, zero, suc, ◌+◌, ◌-◌, ◌<◌, ◌≤◌}
use mathlib.Core.Path.{◌≡◌, refl, ap, sym, ◌∙◌}
use mathlib.Core.List.{List, []}
use mathlib.Core.Bool.{Bool, true, false, cond}
use native.Mathlib.Omega.{arith}
use native.Mathlib.Numerals.{add-one}
use borrow.Author.Tests.{lt-ltb, le-ltb, le-leb, lt-leb, ltb-false}
use lib.Dec.{ltb, leb}
use lib.ListN.{length, get_or, set, length-set}
use lib.Seq.{sets}
use Rattle.term.specs.Reading.{reading}
use Rattle.term.proofs.LawsReading.{whole_in, refused_in}
use Rattle.term.specs.declared.Met.{Met}
use Rattle.term.specs.declared.Fault.{Fault}
use Rattle.kinds.specs.declared.Reason.{Reason}
use Rattle.kinds.specs.declared.Reason.TheVariants as reason
use Rattle.contents.specs.declared.ShapesMet.{ShapesMet}
use Rattle.contents.specs.Tables.{shape_limits, score_limits, shape_reason, score_reason, shapes_met, another, ShapesRead, shapes_read, push, one_shape, shapes_from, shapes_of, whole_score, score_of}
use Rattle.kinds.specs.Limits.{shape_levels, score_levels}

module _ (ar : List ℕ) (bl : ℕ) (ws : List ℕ) (n most at : ℕ) where
  pub shapes_full : at < length ws → n ≡ 16 → shapes_from ar bl ws (16 - n) (shapes_met n most) at ≡ shapes_read (Err (refused_at reason.Shapes at)) []
  unfolding shapes_from
  shapes_full h e = let z : 16 - n ≡ 0 = omega arith in rw (z, lt-ltb _ _ h)

  pub shapes_refused : {f : Fault} {p : ℕ} → at < length ws → n ≤ 16 → (n ≡ 16 → ⊥)
      → reading ar ws (shape_limits bl at) shape_levels at ≡ Err (f, p)
      → shapes_from ar bl ws (16 - n) (shapes_met n most) at ≡ shapes_read (Err (refused_at (shape_reason f) p)) []
  unfolding shapes_from
  shapes_refused h g k e = let z : 16 - n ≡ suc (16 - (n + 1)) = omega arith in rw (z, lt-ltb _ _ h, e)

  pub shapes_lone : {m : Met} → at < length ws → n ≤ 16 → (n ≡ 16 → ⊥) → reading ar ws (shape_limits bl at) shape_levels at ≡ Ok m
      → bl ≤ get_or ws at 0
      → shapes_from ar bl ws (16 - n) (shapes_met n most) at ≡ shapes_read (Err (refused_at reason.LoneBlank at)) []
  unfolding shapes_from
  shapes_lone h g k e b = let z : 16 - n ≡ suc (16 - (n + 1)) = omega arith in rw (z, lt-ltb _ _ h, e, le-leb _ _ b)

  pub shapes_next : {m : Met} {deepest : ℕ} → at < length ws → n ≤ 16 → (n ≡ 16 → ⊥) → reading ar ws (shape_limits bl at) shape_levels at ≡ Ok m
      → get_or ws at 0 < bl → deepest ≡ (another (shapes_met n most) m).depth
      → shapes_from ar bl ws (16 - n) (shapes_met n most) at ≡ push at (shapes_from ar bl ws (16 - (n + 1)) (shapes_met (n + 1) deepest) m.end)
  unfolding shapes_from
  shapes_next {m} h g k e b q =
      let z : 16 - n ≡ suc (16 - (n + 1)) = omega arith in
      rw (z, lt-ltb _ _ h, e, lt-leb _ _ b) (ap (λ d. push at (shapes_from ar bl ws (16 - (n + 1)) (shapes_met (n + 1) d) m.end)) (sym q))

  pub shapes_done : (c : ℕ) → length ws ≤ at → shapes_from ar bl ws c (shapes_met n most) at ≡ shapes_read (Ok (shapes_met n most)) []
  unfolding shapes_from
  shapes_done zero h = rw (le-ltb _ _ h)
  shapes_done (suc c) h = rw (le-ltb _ _ h)

pub shapes_none : (ar : List ℕ) (bl : ℕ) (ws : List ℕ) → length ws ≡ 0 → shapes_of ar bl ws ≡ shapes_read (Err (refused_at reason.Shapes 0)) []
unfolding shapes_of
shapes_none ar bl ws h = let z : length ws ≤ 0 = omega arith in rw (le-ltb _ _ z)

pub shapes_some : (ar : List ℕ) (bl : ℕ) (ws : List ℕ) → (length ws ≡ 0 → ⊥) → shapes_of ar bl ws ≡ shapes_from ar bl ws 16 (shapes_met 0 0) 0
unfolding shapes_of
shapes_some ar bl ws h = let z : 0 < length ws = omega arith in rw (lt-ltb _ _ z)

-- n shapes read: S is the whole row, R what is left of it; s is the buffer, s₀ as it was at first
pub record Left (S R : ShapesRead) (s₀ s : List ℕ) (n : ℕ) : Type 0 where
  pub long : length s ≡ length s₀
  pub answers : S.answer ≡ R.answer
  pub writes : sets s₀ 0 S.starts ≡ sets s n R.starts

pub left_first : {S R : ShapesRead} (s : List ℕ) → S ≡ R → Left S R s s 0
left_first s e = record { long = refl; answers = ap (λ (r : ShapesRead). r.answer) e; writes = ap (λ (r : ShapesRead). sets s 0 r.starts) e }

pub left_end : {S R : ShapesRead} {s₀ s : List ℕ} {n : ℕ} {a : (Result ShapesMet Refusal)} → Left S R s₀ s n → R ≡ shapes_read a [] → (a ≡ S.answer)
    × (s ≡ sets s₀ 0 S.starts)
left_end {S} {R} {s₀} {s} {n} l e =
    (sym (l.answers ∙ ap (λ (r : ShapesRead). r.answer) e), sym (l.writes ∙ ap (λ (r : ShapesRead). sets s n r.starts) e))

pub left_next : {S R T : ShapesRead} {s₀ s : List ℕ} {n at : ℕ} → Left S R s₀ s n → R ≡ push at T → Left S T s₀ (set s n at) (n + 1)
left_next {S} {R} {T} {s₀} {s} {n} {at} l e = record {
  long = length-set s n at ∙ l.long;
  answers = l.answers ∙ ap (λ (r : ShapesRead). r.answer) e;
  writes = l.writes ∙ ap (λ (r : ShapesRead). sets s n r.starts) e ∙ ap (λ (m : ℕ). sets (set s n at) m T.starts) (sym (add-one n));
}

-- ---- the score

module _ (ar ws : List ℕ) where
  pub score_refused : {f : Fault} {p : ℕ} → reading ar ws (score_limits 0) score_levels 0 ≡ Err (f, p)
      → score_of ar ws ≡ Err (refused_at (score_reason f) p)
  unfolding score_of
  score_refused e = rw e

  pub score_whole : {m : Met} → reading ar ws (score_limits 0) score_levels 0 ≡ Ok m → length ws ≤ m.end → score_of ar ws ≡ Ok m
  unfolding score_of
  score_whole e h = rw (e, le-ltb _ _ h)

never_scored {κ} : {C : Type κ} {r : Reason} {i : ℕ} {m : Met} → Err (refused_at r i) ≡ Ok m → C
never_scored e = let z : ◌≡◌ {A = ℕ} 0 1 = cc in absurd (omega arith)

pub score_read : (ar ws : List ℕ) (m : Met) → score_of ar ws ≡ Ok m
    → (reading ar ws (score_limits 0) score_levels 0 ≡ Ok m) × (m.end ≡ length ws)
unfolding score_of
score_read ar ws m e = go (reading ar ws (score_limits 0) score_levels 0) refl e
  where
    go : (t : Result Met (Fault × ℕ)) → reading ar ws (score_limits 0) score_levels 0 ≡ t → whole_score t (length ws) ≡ Ok m
        → (reading ar ws (score_limits 0) score_levels 0 ≡ Ok m) × (m.end ≡ length ws)
    go (Err (f, p)) et e = never_scored e
    go (Ok k) et e = inner (ltb k.end (length ws)) refl e
      where
        inner : (b : Bool) → ltb k.end (length ws) ≡ b → cond b (Err (refused_at reason.Surplus k.end)) (Ok k) ≡ Ok m
            → (reading ar ws (score_limits 0) score_levels 0 ≡ Ok m) × (m.end ≡ length ws)
        inner true eb e = never_scored e
        inner false eb e =
            let s : k ≡ m = cc in
            let n : k.end ≡ m.end = ap (λ (x : Met). x.end) s in
            let w = (whole_in ar ws (score_limits 0) score_levels 0 k et).inside in
            (et ∙ ap Ok s, omega (arith, ltb-false k.end (length ws) eb))

-- ---- how many shapes, and where a refusal is

pub never_found {κ} : {C : Type κ} {r : Reason} {i : ℕ} {k : ShapesMet} → ◌≡◌ {A = Result ShapesMet Refusal} (Err (refused_at r i)) (Ok k) → C
never_found e = let z : ◌≡◌ {A = ℕ} 0 1 = cc in absurd (omega arith)

-- the shapes after one more
abbrev pub shapes_on : List ℕ → ℕ → List ℕ → ℕ → ShapesMet → Met → ShapesRead
shapes_on ar bl ws c k m = shapes_from ar bl ws c (another k m) m.end

same_number : {n k : ShapesMet} → ◌≡◌ {A = Result ShapesMet Refusal} (Ok n) (Ok k) → n.number ≡ k.number
same_number {n} {k} e = let s : n ≡ k = cc in ap (λ (x : ShapesMet). x.number) s

pub found_from_lem : (ar : List ℕ) (bl : ℕ) (ws : List ℕ) (c : ℕ) (n : ShapesMet) (at : ℕ) (k : ShapesMet)
    → (shapes_from ar bl ws c n at).answer ≡ Ok k
    → (k.number ≡ n.number + length (shapes_from ar bl ws c n at).starts) × (k.number ≤ n.number + c)
unfolding shapes_from
found_from_lem ar bl ws zero n at k e = go (ltb at (length ws)) e
  where
    go : (b : Bool) → (cond b (shapes_read (Err (refused_at reason.Shapes at)) []) (shapes_read (Ok n) [])).answer ≡ Ok k
        → (k.number ≡ n.number + length (cond b (shapes_read (Err (refused_at reason.Shapes at)) []) (shapes_read (Ok n) [])).starts)
        × (k.number ≤ n.number + 0)
    go true e = never_found e
    go false e = let s : n.number ≡ k.number = same_number e in (omega arith, omega arith)
found_from_lem ar bl ws (suc c) n at k e = go (ltb at (length ws)) (reading ar ws (shape_limits bl at) shape_levels at) (leb bl (get_or ws at 0)) e
    (λ m. found_from_lem ar bl ws c (another n m) m.end k)
  where
    go : (b : Bool) (r : Result Met (Fault × ℕ)) (lone : Bool)
        → (cond b (one_shape r at lone (shapes_on ar bl ws c n)) (shapes_read (Ok n) [])).answer ≡ Ok k
        → ((m : Met) → (shapes_on ar bl ws c n m).answer ≡ Ok k
        → (k.number ≡ n.number + 1 + length (shapes_on ar bl ws c n m).starts) × (k.number ≤ n.number + 1 + c))
        → (k.number ≡ n.number + length (cond b (one_shape r at lone (shapes_on ar bl ws c n)) (shapes_read (Ok n) [])).starts)
        × (k.number ≤ n.number + suc c)
    go false r lone e ih = let s : n.number ≡ k.number = same_number e in (omega arith, omega arith)
    go true (Err (f, p)) lone e ih = never_found e
    go true (Ok m) true e ih = never_found e
    go true (Ok m) false e ih = let w = ih m e in (omega (arith, w.0), omega (arith, w.1))

pub found_count : (ar : List ℕ) (bl : ℕ) (ws : List ℕ) (k : ShapesMet) → (shapes_of ar bl ws).answer ≡ Ok k
    → (k.number ≡ length (shapes_of ar bl ws).starts) × (k.number ≤ 16)
unfolding shapes_of
found_count ar bl ws k e = go (ltb 0 (length ws)) e
  where
    go : (b : Bool) → (cond b (shapes_from ar bl ws 16 (shapes_met 0 0) 0) (shapes_read (Err (refused_at reason.Shapes 0)) [])).answer ≡ Ok k
        → (k.number ≡ length (cond b (shapes_from ar bl ws 16 (shapes_met 0 0) 0) (shapes_read (Err (refused_at reason.Shapes 0)) [])).starts)
        × (k.number ≤ 16)
    go true e = let w = found_from_lem ar bl ws 16 (shapes_met 0 0) 0 k e in (omega (arith, w.0), omega (arith, w.1))
    go false e = never_found e

from_refused_in : (ar : List ℕ) (bl : ℕ) (ws : List ℕ) (c : ℕ) (n : ShapesMet) (at : ℕ) (r : Reason) (i : ℕ) → at ≤ length ws
    → (shapes_from ar bl ws c n at).answer ≡ Err (refused_at r i) → i ≤ length ws
unfolding shapes_from
from_refused_in ar bl ws zero n at r i h e = go (ltb at (length ws)) e
  where
    go : (b : Bool) → (cond b (shapes_read (Err (refused_at reason.Shapes at)) []) (shapes_read (Ok n) [])).answer ≡ Err (refused_at r i)
        → i ≤ length ws
    go true e = let s : at ≡ i = (same_refusal e).1 in omega arith
    go false e = never_found (sym e)
from_refused_in ar bl ws (suc c) n at r i h e =
    go (ltb at (length ws)) (reading ar ws (shape_limits bl at) shape_levels at) refl (leb bl (get_or ws at 0)) e
    (λ m. from_refused_in ar bl ws c (another n m) m.end r i)
  where
    go : (b : Bool) (t : Result Met (Fault × ℕ)) → reading ar ws (shape_limits bl at) shape_levels at ≡ t → (lone : Bool)
        → (cond b (one_shape t at lone (shapes_on ar bl ws c n)) (shapes_read (Ok n) [])).answer ≡ Err (refused_at r i)
        → ((m : Met) → m.end ≤ length ws → (shapes_on ar bl ws c n m).answer ≡ Err (refused_at r i) → i ≤ length ws) → i ≤ length ws
    go false t et lone e ih = never_found (sym e)
    go true (Err (f, p)) et lone e ih = let s : p ≡ i = (same_refusal e).1 in rw (← s) (refused_in ar ws (shape_limits bl at) shape_levels at f p h et)
    go true (Ok m) et true e ih = let s : at ≡ i = (same_refusal e).1 in omega arith
    go true (Ok m) et false e ih = ih m (whole_in ar ws (shape_limits bl at) shape_levels at m et).inside e

pub shapes_refused_in : (ar : List ℕ) (bl : ℕ) (ws : List ℕ) (r : Reason) (i : ℕ) → (shapes_of ar bl ws).answer ≡ Err (refused_at r i) → i ≤ length ws
unfolding shapes_of
shapes_refused_in ar bl ws r i e = go (ltb 0 (length ws)) e
  where
    go : (b : Bool) → (cond b (shapes_from ar bl ws 16 (shapes_met 0 0) 0) (shapes_read (Err (refused_at reason.Shapes 0)) [])).answer ≡ Err (refused_at r i)
        → i ≤ length ws
    go true e = from_refused_in ar bl ws 16 (shapes_met 0 0) 0 r i (omega arith) e
    go false e = let s : 0 ≡ i = (same_refusal e).1 in omega arith

pub score_refused_in : (ar ws : List ℕ) (r : Reason) (i : ℕ) → score_of ar ws ≡ Err (refused_at r i) → i ≤ length ws
unfolding score_of
score_refused_in ar ws r i e = go (reading ar ws (score_limits 0) score_levels 0) refl e
  where
    go : (t : Result Met (Fault × ℕ)) → reading ar ws (score_limits 0) score_levels 0 ≡ t → whole_score t (length ws) ≡ Err (refused_at r i) → i ≤ length ws
    go (Err (f, p)) et e = let s : p ≡ i = (same_refusal e).1 in rw (← s) (refused_in ar ws (score_limits 0) score_levels 0 f p (omega arith) et)
    go (Ok m) et e = inner (ltb m.end (length ws)) e
      where
        inner : (b : Bool) → cond b (Err (refused_at reason.Surplus m.end)) (Ok m) ≡ Err (refused_at r i) → i ≤ length ws
        inner true e = let s : m.end ≡ i = (same_refusal e).1 in rw (← s) (whole_in ar ws (score_limits 0) score_levels 0 m et).inside
        inner false e = never_scored (sym e)
