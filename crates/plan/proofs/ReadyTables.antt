-- Tables filled from shape words that pass the check are ready, and the plan made with them is the one that is promised.
--   stands standss shapes_stand   a shape's words stand from its start on
--   place_small                   the positions of a shape are small
--   node_words                    so codes, powers and masks of its nodes fit a word
--   tabled_of                     what code asks of the tables
--   ready_for ready               they are ready
--   ready_shapes                  for the shapes that the shape words hold
--   plan_of_tables                so the plan on words is that of the paper's construction for these shapes
use mathlib.Core.Path.{◌≡◌, refl, ap, sym, ◌∙◌, subst}
use mathlib.Core.List.{List, [], ◌∷◌, ◌++◌, append_assoc}
use mathlib.Core.Bool.{true}
use mathlib.Core.Option.{some}
use Prim.Native.Nat.{ℕ, zero, suc, ◌+◌, ◌*◌, ◌/◌, ◌%◌, ◌^◌, ◌≤◌, ◌<◌}
use native.Mathlib.Omega.{arith}
use native.Mathlib.Nat.{zero-add}
use native.Mathlib.Decide.{dec_lt}
use lib.ListN.{length, get_or, get_elem?, length-append}
use lib.Pow.{pow_mono}
use lib.Seq.{sets, length-sets, get_or_at}
use Rattle.kinds.specs.Lists.{gather}
use Rattle.kinds.specs.Positions.{Pos, code}
use Rattle.kinds.proofs.Codes.{Small, small_code}
use Rattle.kinds.proofs.Options.{none_not}
use Rattle.kinds.proofs.Places.{at_in, at_get_d}
use Rattle.term.specs.Terms.{Term, blank, node, Terms, tnil, tcons, span, flatten, flattens}
use Rattle.term.specs.Places.{sub, dom}
use Rattle.folio.specs.Folio.{Shaped, starts_at, shape_terms}
use Rattle.term.specs.Admitted.{IsShape, GoodSymbols, AreShapes}
use Rattle.checks.specs.Again.{shapes_good}
use Rattle.folio.proofs.ShapesFound.{length_starts}
use Rattle.folio.proofs.GoodTables.{shapes_good_shaped}
use Rattle.folio.proofs.Accepted.{shape_terms_lem}
use Rattle.automaton.specs.Exploring.{construction}
use Rattle.automaton.specs.Paper.{paper}
use Rattle.automaton.specs.PlanWords.{planned}
use Rattle.term.proofs.Subterms.{sub_depth, fits_proper}
use Rattle.term.proofs.Sizes.{length_flatten}
use Rattle.goals.specs.GoalWords.{Tabled, size_of}
use Rattle.tables.specs.ShapeTables.{word_at, span_at, table_words, entry_w, entries_from}
use Rattle.decoding.specs.Decoding.{roots, kid_masks, shape_at, TableOf}
use Rattle.decoding.specs.GoodStates.{Ready}
use Rattle.decoding.specs.WordMachine.{words}
use Rattle.plan.specs.Building.{plan_of}
use Rattle.decoding.proofs.ShapeNodes.{node_of_lem, kids_in}
use Rattle.tables.proofs.TableLaws.{span_short, entry_none, entry_past, entry_in_lem, word_2}
use Rattle.decoding.proofs.TableSeek.{Stands, Standss}
use Rattle.decoding.proofs.TableTold.{table_of}
use Rattle.decoding.proofs.TableFilled.{filled_is}
use Rattle.decoding.proofs.ReductDecoded.{kids_fit}
use Rattle.decoding.proofs.WordsSimulate.{plan_of_words}
use Rattle.decoding.proofs.GoalDecoded.{node_pos}
use Rattle.decoding.specs.Decoding.{blank_word}

-- ---- where shapes stand
mutual
  pub stands : (t : Term) (ws pre rest : List ℕ) (at : ℕ) → ws ≡ pre ++ (flatten t ++ rest) → length pre ≡ at → Stands ws at t
  stands (blank w) ws pre rest at e l = ap (λ xs. word_at xs at) e ∙ get_or_at pre w rest blank_word at l
  stands (node f ts) ws pre rest at e l = (
    ap (λ xs. word_at xs at) e ∙ get_or_at pre f (flattens ts ++ rest) blank_word at l,
    standss ts ws (pre ++ (f ∷ [])) rest (at + 1) (e ∙ sym (append_assoc pre (f ∷ []) (flattens ts ++ rest)))
        (length-append pre (f ∷ []) ∙ ap (λ x. x + 1) l),
  )

  pub standss : (ts : Terms) (ws pre rest : List ℕ) (at : ℕ) → ws ≡ pre ++ (flattens ts ++ rest) → length pre ≡ at → Standss ws at ts
  standss tnil ws pre rest at e l = tt
  standss (tcons t ts) ws pre rest at e l =
      let d : ws ≡ pre ++ (flatten t ++ (flattens ts ++ rest)) = e ∙ ap (λ xs. pre ++ xs) (append_assoc (flatten t) (flattens ts) rest) in (
        stands t ws pre (flattens ts ++ rest) at d l,
        standss ts ws (pre ++ flatten t) rest (at + span t) (d ∙ sym (append_assoc pre (flatten t) (flattens ts ++ rest)))
            (length-append pre (flatten t) ∙ ap (λ x. x + length (flatten t)) l ∙ ap (λ x. at + x) (length_flatten t)),
      )

pub shapes_stand : (ts : List Term) (ws pre : List ℕ) (at : ℕ) → ws ≡ pre ++ gather flatten ts → length pre ≡ at → (i : ℕ) (t : Term)
    → get_elem? ts i ≡ some t → Stands ws (get_or (starts_at at ts) i 0) t
shapes_stand [] ws pre at e l i t g = none_not g
shapes_stand (x ∷ ts) ws pre at e l zero t g = let z : t ≡ x = cc in rw z (stands x ws pre (gather flatten ts) at e l)
shapes_stand (x ∷ ts) ws pre at e l (suc i) t g =
    shapes_stand ts ws (pre ++ flatten x) (at + span x) (e ∙ sym (append_assoc pre (flatten x) (gather flatten ts)))
    (length-append pre (flatten x) ∙ ap (λ n. n + length (flatten x)) l ∙ ap (λ n. at + n) (length_flatten x)) i t g

-- ---- what fits a word
module _ (ar : List ℕ) (few : (f n : ℕ) → get_elem? ar f ≡ some n → n ≤ 4) where
  pub place_small : (t : Term) → IsShape ar t → (p : Pos) {u : Term} → sub t p ≡ some u → Small p
  place_small t s p {u} e =
      record { short = let l = sub_depth p t u e in let d = s.flat in omega arith; digits = fits_proper ar few blank_word p t s.fits e }

power_fits : (n : ℕ) → n ≤ 6 → 5 ^ n < 65536
power_fits zero h = omega arith
power_fits (suc zero) h = omega arith
power_fits (suc (suc zero)) h = omega arith
power_fits (suc (suc (suc zero))) h = omega arith
power_fits (suc (suc (suc (suc zero)))) h = omega arith
power_fits (suc (suc (suc (suc (suc zero))))) h = omega arith
power_fits (suc (suc (suc (suc (suc (suc zero)))))) h = omega arith
power_fits (suc (suc (suc (suc (suc (suc (suc n))))))) h = absurd (omega arith)

pub node_words : (ar : List ℕ) → ((f n : ℕ) → get_elem? ar f ≡ some n → n ≤ 4) → (t : Term) → IsShape ar t → (r : ℕ) → r < span t
    → (code (get_or (dom t) r []) < 65536) × (5 ^ length (get_or (dom t) r []) < 65536) × (get_or (kid_masks 0 t) r 0 < 65536)
node_words ar few t s r h =
    let o = node_of_lem t r h in
    let p = place_small ar few t s o.at o.is in
    let c = small_code o.at p in
    let m : get_or (kid_masks 0 t) r 0 ≡ roots (kids_in o.under) * 2 ^ suc r =
    o.mask 0 ∙ ap (λ k. roots (kids_in o.under) * 2 ^ suc k) (zero-add r) in
    let k = kids_fit t r o in
    let l : 2 ^ span t ≤ 2 ^ 16 = pow_mono s.small in
    (rw (node_pos t r o) (omega arith), rw (node_pos t r o) (power_fits (length o.at) p.short), omega (arith, m, k, l))

-- ---- the tables
pub tabled_of : (ar ws st tab : List ℕ) → table_words ≤ length tab → ((k : ℕ) → k < table_words → get_or tab k 0 ≡ entry_w ar ws st k) → Tabled tab
tabled_of ar ws st tab long filled =
    record {
      long = long;
      sizes = λ s h. size s h (dec_lt ((512 + 16 * s) / 16 % 16) (length st))
          (dec_lt ((512 + 16 * s) % 16) (span_at ar ws (get_or st ((512 + 16 * s) / 16 % 16) 0)));
    }
  where
    size : (s : ℕ) → s < 16 → Dec ((512 + 16 * s) / 16 % 16 < length st)
        → Dec ((512 + 16 * s) % 16 < span_at ar ws (get_or st ((512 + 16 * s) / 16 % 16) 0)) → size_of tab s ≤ 16
    size s h (no a) b =
        let e = filled (512 + 16 * s) (omega arith) ∙ entry_none ar ws st (512 + 16 * s) (omega (arith, a)) in omega (arith, e)
    size s h (yes a) (no b) =
        let e = filled (512 + 16 * s) (omega arith) ∙ entry_past ar ws st (512 + 16 * s) a (omega (arith, b)) in omega (arith, e)
    size s h (yes a) (yes b) =
        let at = get_or st ((512 + 16 * s) / 16 % 16) 0 in
        let x : (512 + 16 * s) / 256 ≡ 2 = omega arith in
        let e =
        filled (512 + 16 * s) (omega arith)
        ∙ entry_in_lem ar ws st (512 + 16 * s) a b
        ∙ word_2 ar ws at ((512 + 16 * s) / 256) ((512 + 16 * s) % 16) x in
        let l = span_short ar ws 16 (at + (512 + 16 * s) % 16) 1 in
        omega (arith, e, l)

pub ready_for : (ar ws st tab : List ℕ) → GoodSymbols ar → Shaped ar ws st → table_words ≤ length tab
    → ((k : ℕ) → k < table_words → get_or tab k 0 ≡ entry_w ar ws st k) → Ready ar tab (length st)
ready_for ar ws st tab g s long filled = record {
  shapes = s.trees;
  count = sym how_many;
  limits = record { symbols = g; some_shape = s.some_shape; few_shapes = s.few_shapes; are_shapes = s.each };
  tables = λ i h. table i h;
  tabled = tabled_of ar ws st tab long filled;
}
  where
    how_many : length st ≡ length s.trees
    how_many = ap length s.begins ∙ length_starts 0 s.trees

    table : (i : ℕ) → i < length s.trees → TableOf tab i (shape_at s.trees i)
    table i h =
        let t = shape_at s.trees i in
        let e = at_get_d s.trees i (blank blank_word) h in
        let is = s.each t (at_in s.trees i e) in
        let few = s.few_shapes in
        let n = how_many in
        let sy = g.few_symbols in
        let here-is : Stands ws (get_or st i 0) t =
        subst (λ xs. Stands ws (get_or xs i 0) t) (sym s.begins) (shapes_stand s.trees ws [] 0 s.words refl i t e) in
        table_of ar ws st tab (omega arith) filled i t (omega arith) (omega arith) here-is is.fits is.small
        (node_words ar g.children t is)

-- the shapes are those that the shape words hold
held : (ar ws st : List ℕ) → Shaped ar ws st → Shaped ar ws st
held ar ws st s = record {
  trees = shape_terms ar ws;
  each = subst (AreShapes ar) is s.each;
  some_shape = subst (λ ts. 1 ≤ length ts) is s.some_shape;
  few_shapes = subst (λ ts. length ts ≤ 16) is s.few_shapes;
  words = s.words ∙ ap (gather flatten) is;
  begins = s.begins ∙ ap (starts_at 0) is;
}
  where
    is : s.trees ≡ shape_terms ar ws
    is = sym (ap (shape_terms ar) s.words ∙ shape_terms_lem ar s.trees s.each s.few_shapes)

-- as fill_tables leaves the words of l
pub ready : (ar ws st l tab : List ℕ) → shapes_good ar ws st ≡ true → table_words ≤ length l → tab ≡ sets l 0 (entries_from ar ws st 0 table_words)
    → Ready ar tab (length st)
ready ar ws st l tab good long e =
    let g = shapes_good_shaped ar ws st good in
    ready_for ar ws st tab g.0 (held ar ws st g.1) (rw (e, length-sets l 0 (entries_from ar ws st 0 table_words)) long)
    (λ k h. ap (λ xs. get_or xs k 0) e ∙ filled_is ar ws st l table_words k long h)

pub ready_shapes : (ar ws st l tab : List ℕ) (good : shapes_good ar ws st ≡ true) (long : table_words ≤ length l)
    (e : tab ≡ sets l 0 (entries_from ar ws st 0 table_words))
    → (ready ar ws st l tab good long e).shapes ≡ shape_terms ar ws
unfolding ready ready_for held
ready_shapes ar ws st l tab good long e = refl

pub plan_of_tables : (ar ws st l tab : List ℕ) (room : ℕ) → shapes_good ar ws st ≡ true → table_words ≤ length l
    → tab ≡ sets l 0 (entries_from ar ws st 0 table_words)
    → planned (words tab (length st)) ar (length st) room ≡ plan_of ar (shape_terms ar ws) room
plan_of_tables ar ws st l tab room good long e =
    let r = ready ar ws st l tab good long e in
    plan_of_words r room
    ∙ ap (λ n. planned (construction (paper r.shapes)) ar n room) (sym r.count)
    ∙ ap (λ ts. plan_of ar ts room) (ready_shapes ar ws st l tab good long e)
