-- Shapes that are found are shapes, and the shapes there are are found.
--   length_starts                 as many begin as there are
--   solid                         a shape's term is no blank
--   ShapesAt shapes_at_lem        the words from an index on are those of shapes, and their starts are such
--   found_shapes                  all of them
--   others pushes shapes_past     shapes in front of words that are any: what they are met with, and their starts
--   met_in shapes_found           and all of them
--   all_once                      shapes' words determine the shapes
use Rattle.kinds.specs.declared.Refusal.{Refusal}
use Rattle.term.specs.declared.Fault.{Fault}
use Rattle.kinds.specs.Reasons.{refused_at}
use Rattle.std.specs.Prelude.{Err, Ok, Result}
use mathlib.Core.Path.{◌≡◌, refl, ap, ap₂, sym, ◌∙◌}
use mathlib.Core.List.{List, [], ◌∷◌, ◌++◌, map, append-nil, append_assoc}
use mathlib.Core.Bool.{Bool, true, false, cond}
use Prim.Native.Nat.{ℕ, zero, suc, ◌+◌, ◌-◌, max, ◌<◌, ◌≤◌}
use native.Mathlib.Omega.{arith}
use native.Mathlib.Nat.{add-zero, zero-add}
use borrow.Author.Tests.{ltb-true, ltb-false, leb-false, lt-ltb, lt-leb}
use lib.Dec.{ltb, leb}
use lib.ListN.{length, get_or, drop, drop_of_length-le, length-append}
use Rattle.kinds.specs.Lists.{gather, greatest}
use Rattle.kinds.specs.declared.Reason.TheVariants as reason
use Rattle.kinds.proofs.Members.{in_none}
use Rattle.kinds.specs.Members.{◌∈◌, here, there}
use Rattle.kinds.proofs.ListLaws.{from}
use Rattle.kinds.proofs.Bools.{false_true}
use Rattle.term.specs.Terms.{Term, blank, node, span, depth, flatten, Fits}
use Rattle.term.specs.Reading.{reading}
use Rattle.term.specs.declared.Met.{Met}
use Rattle.term.proofs.LawsReading.{whole_in}
use Rattle.term.proofs.WholeTerm.{TermAt, whole_term}
use Rattle.term.proofs.TermWhole.{first, met_with, read_back}
use Rattle.term.proofs.OneTerm.{once}
use Rattle.term.proofs.Sizes.{length_flatten, span_pos}
use Rattle.contents.specs.declared.ShapesMet.{ShapesMet}
use Rattle.contents.specs.Tables.{shape_limits, shapes_met, another, ShapesRead, shapes_read, push, one_shape, shapes_from, shapes_of}
use Rattle.kinds.specs.Limits.{blank_word, shape_levels}
use Rattle.folio.specs.Folio.{starts_at, Shaped}
use Rattle.term.specs.Admitted.{is_blank, IsShape, AreShapes}
use Rattle.contents.proofs.LawsTables.{shapes_on, never_found, shapes_done, shapes_some, found_from_lem}

pub length_starts : (at : ℕ) (ts : List Term) → length (starts_at at ts) ≡ length ts
length_starts at [] = refl
length_starts at (t ∷ ts) = ap suc (length_starts (at + span t) ts)

pub record ShapesAt (ar ws starts : List ℕ) (at : ℕ) : Type 0 where
  pub trees : List Term
  pub each : AreShapes ar trees
  pub words : drop at ws ≡ gather flatten trees
  pub begins : starts ≡ starts_at at trees

no_shapes : (ar ws : List ℕ) (at : ℕ) → ltb at (length ws) ≡ false → ShapesAt ar ws [] at
no_shapes ar ws at e = record { trees = []; each = λ t m. in_none m; words = drop_of_length-le ws (ltb-false at (length ws) e); begins = refl }

-- what begins with a word that is no blank is no blank
pub solid : (ar ws : List ℕ) (d at : ℕ) (m : Met) (r : TermAt ar ws blank_word d at m) → at < length ws → get_or ws at 0 < blank_word → is_blank r.tree ≡ false
solid ar ws d at m r h g = go r.tree r.fits r.words
  where
    go : (t : Term) → Fits ar blank_word t → drop at ws ≡ flatten t ++ drop m.end ws → is_blank t ≡ false
    go (blank w) f q =
        let u : (get_or ws at 0 ∷ drop (at + 1) ws) ≡ (w ∷ drop m.end ws) = sym (from ws at h) ∙ q in
        let s : get_or ws at 0 ≡ w = cc in
        absurd (omega arith)
    go (node g ts) f q = refl

pub shapes_at_lem : (ar ws : List ℕ) (c : ℕ) (n : ShapesMet) (at : ℕ) (k : ShapesMet) → (shapes_from ar blank_word ws c n at).answer ≡ Ok k
    → ShapesAt ar ws (shapes_from ar blank_word ws c n at).starts at
unfolding shapes_from
shapes_at_lem ar ws zero n at k e = go (ltb at (length ws)) refl e
  where
    go : (b : Bool) → ltb at (length ws) ≡ b
        → (cond b (shapes_read (Err (refused_at reason.Shapes at)) []) (shapes_read (Ok n) [])).answer ≡ Ok k
        → ShapesAt ar ws (cond b (shapes_read (Err (refused_at reason.Shapes at)) []) (shapes_read (Ok n) [])).starts at
    go true eb e = never_found e
    go false eb e = no_shapes ar ws at eb
shapes_at_lem ar ws (suc c) n at k e =
    go (ltb at (length ws)) refl (reading ar ws (shape_limits blank_word at) shape_levels at) refl (leb blank_word (get_or ws at 0)) refl e
    (λ m. shapes_at_lem ar ws c (another n m) m.end k)
  where
    join : (m : Met) (a : TermAt ar ws blank_word shape_levels at m) → IsShape ar a.tree → (st : List ℕ) → ShapesAt ar ws st m.end
        → ShapesAt ar ws (at ∷ st) at
    join m a s st b = record {
      trees = a.tree ∷ b.trees;
      each = λ t i. both t i;
      words = a.words ∙ ap (λ (l : List ℕ). flatten a.tree ++ l) b.words;
      begins = ap (λ (l : List ℕ). at ∷ l) (b.begins ∙ ap (λ (x : ℕ). starts_at x b.trees) a.size);
    }
      where
        both : (t : Term) → t ∈ (a.tree ∷ b.trees) → IsShape ar t
        both t (here q) = rw q s
        both t (there i) = b.each t i

    go : (b : Bool) → ltb at (length ws) ≡ b → (r : Result Met (Fault × ℕ)) → reading ar ws (shape_limits blank_word at) shape_levels at ≡ r → (lone : Bool)
        → leb blank_word (get_or ws at 0) ≡ lone
        → (cond b (one_shape r at lone (shapes_on ar blank_word ws c n)) (shapes_read (Ok n) [])).answer ≡ Ok k
        → ((m : Met) → (shapes_on ar blank_word ws c n m).answer ≡ Ok k → ShapesAt ar ws (shapes_on ar blank_word ws c n m).starts m.end)
        → ShapesAt ar ws (cond b (one_shape r at lone (shapes_on ar blank_word ws c n)) (shapes_read (Ok n) [])).starts at
    go false eb r er lone el e ih = no_shapes ar ws at eb
    go true eb (Err (f, p)) er lone el e ih = never_found e
    go true eb (Ok m) er true el e ih = never_found e
    go true eb (Ok m) er false el e ih =
        let a = whole_term ar ws (shape_limits blank_word at) shape_levels at m er in
        let w = whole_in ar ws (shape_limits blank_word at) shape_levels at m er in
        let s : IsShape ar a.tree = record {
          fits = a.fits;
          flat = omega (arith, a.flat);
          small = omega (arith, w.few, a.size);
          solid =
              solid ar ws shape_levels at m a (ltb-true at (length ws) eb) (leb-false blank_word (get_or ws at 0) el);
        } in
        join m a s (shapes_on ar blank_word ws c n m).starts (ih m e)

pub found_shapes : (ar ws : List ℕ) (k : ShapesMet) → (shapes_of ar blank_word ws).answer ≡ Ok k → Shaped ar ws (shapes_of ar blank_word ws).starts
unfolding shapes_of
found_shapes ar ws k e = go (ltb 0 (length ws)) refl e
  where
    some_of : (ts : List Term) → 0 < length ws → ws ≡ gather flatten ts → 1 ≤ length ts
    some_of [] h q = let z : length ws ≡ 0 = ap length q in absurd (omega arith)
    some_of (t ∷ ts) h q = omega arith

    go : (b : Bool) → ltb 0 (length ws) ≡ b
        → (cond b (shapes_from ar blank_word ws 16 (shapes_met 0 0) 0) (shapes_read (Err (refused_at reason.Shapes 0)) [])).answer ≡ Ok k
        → Shaped ar ws (cond b (shapes_from ar blank_word ws 16 (shapes_met 0 0) 0) (shapes_read (Err (refused_at reason.Shapes 0)) [])).starts
    go true eb e =
        let f = shapes_at_lem ar ws 16 (shapes_met 0 0) 0 k e in
        let c = found_from_lem ar blank_word ws 16 (shapes_met 0 0) 0 k e in
        record {
          trees = f.trees;
          each = f.each;
          some_shape = some_of f.trees (ltb-true 0 (length ws) eb) f.words;
          few_shapes = omega (arith, c.0, c.1, ap length f.begins, length_starts 0 f.trees);
          words = f.words;
          begins = f.begins;
        }
    go false eb e = never_found e

-- ---- the way back
head_word_lem : (ar ws : List ℕ) (at : ℕ) (t : Term) (r : List ℕ) → IsShape ar t → drop at ws ≡ flatten t ++ r → (at < length ws)
    × (get_or ws at 0 < blank_word)
head_word_lem ar ws at (blank w) r s e = false_true (sym s.solid)
head_word_lem ar ws at (node f ts) r s e =
    let h = first ws at f _ e in
    let q = s.fits.0 in
    (h.0, omega (arith, h.1, q))

-- with these too
abbrev pub others : ShapesMet → List Term → ShapesMet
others k ts = shapes_met (k.number + length ts) (max k.depth (greatest (map depth ts)))

-- the starts of whole shapes, in front of what is read after them
abbrev pub pushes : List ℕ → ShapesRead → ShapesRead
pushes [] r = r
pushes (at ∷ st) r = push at (pushes st r)

pub pushes_answer : (st : List ℕ) (r : ShapesRead) → (pushes st r).answer ≡ r.answer
pushes_answer [] r = refl
pushes_answer (at ∷ st) r = pushes_answer st r

pushes_end : (st : List ℕ) (a : Result ShapesMet Refusal) → pushes st (shapes_read a []) ≡ shapes_read a st
pushes_end [] a = refl
pushes_end (at ∷ st) a = ap (push at) (pushes_end st a)

pub shapes_past : (ar ws : List ℕ) (ts : List Term) (c : ℕ) (k : ShapesMet) (at : ℕ) (r : List ℕ) → AreShapes ar ts
    → drop at ws ≡ gather flatten ts ++ r
    → shapes_from ar blank_word ws (length ts + c) k at
    ≡ pushes (starts_at at ts) (shapes_from ar blank_word ws c (others k ts) (at + length (gather flatten ts)))
unfolding shapes_from
shapes_past ar ws [] c k at r s e =
    let z : k.depth ≡ max k.depth 0 = omega arith in
    λ i. shapes_from ar blank_word ws (zero-add c i) (shapes_met (sym (add-zero k.number) i) (z i)) (sym (add-zero at) i)
shapes_past ar ws (t ∷ ts) c k at r s e =
    let one = s t (here refl) in
    let q : drop at ws ≡ flatten t ++ (gather flatten ts ++ r) = e ∙ append_assoc (flatten t) (gather flatten ts) r in
    let w = head_word_lem ar ws at t (gather flatten ts ++ r) one q in
    let small = one.small in
    let flat = one.flat in
    let b = read_back ar ws (shape_limits blank_word at) t shape_levels at (gather flatten ts ++ r) one.fits (omega arith) (omega arith) q in
    let more : suc (length ts) + c ≡ suc (length ts + c) = omega arith in
    let step : shapes_from ar blank_word ws (suc (length ts + c)) k at ≡ push at (shapes_on ar blank_word ws (length ts + c) k (met_with at t)) =
    rw (lt-ltb _ _ w.0, b.0, lt-leb _ _ w.1) in
    let ih = shapes_past ar ws ts c (another k (met_with at t)) (at + span t) r (λ u m. s u (there m)) b.1 in
    let x : k.number + 1 + length ts ≡ k.number + suc (length ts) = omega arith in
    let y : max (max k.depth (depth t)) (greatest (map depth ts)) ≡ max k.depth (max (depth t) (greatest (map depth ts))) = omega arith in
    let z : at + span t + length (gather flatten ts) ≡ at + length (flatten t ++ gather flatten ts) =
    omega (arith, length-append (flatten t) (gather flatten ts), length_flatten t) in
    ap (λ n. shapes_from ar blank_word ws n k at) more ∙ step ∙ ap (push at) ih
    ∙ (λ i. push at (pushes (starts_at (at + span t) ts) (shapes_from ar blank_word ws c (shapes_met (x i) (y i)) (z i))))

words_some : (ts : List Term) → 1 ≤ length ts → length (gather flatten ts) ≡ 0 → ⊥
words_some [] h e = omega arith
words_some (t ∷ ts) h e = omega (arith, length-append (flatten t) (gather flatten ts), length_flatten t, span_pos t, e)

-- what shapes are met with
abbrev pub met_in : List Term → ShapesMet
met_in ts = shapes_met (length ts) (greatest (map depth ts))

met_others : (ts : List Term) → others (shapes_met 0 0) ts ≡ met_in ts
met_others ts =
    let z : max 0 (greatest (map depth ts)) ≡ greatest (map depth ts) = omega arith in
    λ i. shapes_met (zero-add (length ts) i) (z i)

pub shapes_found : (ar : List ℕ) (ts : List Term) → AreShapes ar ts → 1 ≤ length ts → length ts ≤ 16
    → shapes_of ar blank_word (gather flatten ts) ≡ shapes_read (Ok (met_in ts)) (starts_at 0 ts)
shapes_found ar ts s some few =
    let ws = gather flatten ts in
    let k = others (shapes_met 0 0) ts in
    let sixteen : 16 ≡ length ts + (16 - length ts) = omega arith in
    shapes_some ar blank_word ws (words_some ts some)
    ∙ ap (λ n. shapes_from ar blank_word ws n (shapes_met 0 0) 0) sixteen
    ∙ shapes_past ar ws ts (16 - length ts) (shapes_met 0 0) 0 [] s (sym (append-nil ws))
    ∙ ap (pushes (starts_at 0 ts)) (shapes_done ar blank_word ws k.number k.depth (0 + length ws) (16 - length ts) (omega arith))
    ∙ pushes_end (starts_at 0 ts) (Ok k)
    ∙ ap (λ (m : ShapesMet). shapes_read (Ok m) (starts_at 0 ts)) (met_others ts)

-- ---- one list of shapes
no_words : (t : Term) (r : List ℕ) → [] ≡ flatten t ++ r → ⊥
no_words (blank w) r e = let z : ◌≡◌ {A = ℕ} 0 1 = cc in omega arith
no_words (node f ts) r e = let z : ◌≡◌ {A = ℕ} 0 1 = cc in omega arith

pub all_once : (ar : List ℕ) (ts us : List Term) → AreShapes ar ts → AreShapes ar us → gather flatten ts ≡ gather flatten us → ts ≡ us
all_once ar [] [] p q e = refl
all_once ar [] (u ∷ us) p q e = absurd (no_words u (gather flatten us) e)
all_once ar (t ∷ ts) [] p q e = absurd (no_words t (gather flatten ts) (sym e))
all_once ar (t ∷ ts) (u ∷ us) p q e =
    let a = once ar blank_word t u (gather flatten ts) (gather flatten us) (p t (here refl)).fits (q u (here refl)).fits e in
    ap₂ (λ (x : Term) (l : List Term). x ∷ l) a.0 (all_once ar ts us (λ x m. p x (there m)) (λ x m. q x (there m)) a.1)
