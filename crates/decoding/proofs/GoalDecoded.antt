-- The construction on words is the construction, under the decoding.
use mathlib.Core.Path.{◌≡◌, refl, ap, ap₂, sym, ◌∙◌}
use mathlib.Core.List.{List, [], ◌∷◌, ◌++◌, map, append-nil}
use mathlib.Core.Bool.{Bool, true, false, cond, not, ◌||◌, false≢true}
use mathlib.Core.Option.{some}
use Prim.Native.Nat.{ℕ, zero, suc, ◌+◌, ◌*◌, ◌/◌, ◌%◌, ◌^◌, ◌≤◌, ◌<◌}
use native.Mathlib.Omega.{arith}
use native.Mathlib.Nat.{add-zero, zero-add, div-one, div-div-eq-div-mul, pow-succ'}
use borrow.Author.Tests.{eq-eqb, ne_eqb, lt-ltb}
use native.Mathlib.Decide.{ℕ_discrete}
use lib.Dec.{eqb, ltb}
use lib.ListN.{length, get_or, get_elem?}
use mathlib.Core.Logic.{⊎_elim}
use native.Mathlib.Nat.{eq-or-lt_of_le}
use lib.Pow.{pow-lt, shl_lt}
use lib.Bits.{or_lt, xor_lt}
use lib.Seq.{get_or_at}
use Rattle.automaton.specs.Bare.{bare, owed, args_of, heads_of, args}
use Rattle.automaton.specs.Goals.{Goal, reduced}
use Rattle.kinds.proofs.Bools.{eqb_is}
use Rattle.kinds.proofs.Codes.{Proper, code_join, code_of_lem, decode_proper, code_same}
use Rattle.kinds.proofs.Members.{same_refl, any_of}
use Rattle.kinds.specs.Members.{◌∈◌, here, there}
use Rattle.kinds.proofs.Prefixes.{strip_append}
use Rattle.kinds.specs.Lists.{any, gather, same, is_nil}
use Rattle.kinds.specs.Positions.{Pos, code, decode}
use Rattle.decoding.proofs.ShapeNodes.{Node, node_of_lem, kids_in, head_word}
use Rattle.decoding.proofs.MaskReduced.{below, args_select, swap_mask, dom_below, span_below, roots_below, swapped}
use Rattle.decoding.proofs.Selecting.{select_at, select_zero, select_none}
use Rattle.decoding.specs.Decoding.{select, roots, shape_at, goal_meant, TableOf, codes_end}
use Rattle.goals.specs.GoalWords.{GoalWords, code_at, size_of, sym_of, kids_of, owed_from, owed_by, node_from, node_at, mask_after}
use Rattle.goals.specs.WordStages.{stays, moves, reduct, goes_on, with_mask, unexpected}
use Rattle.term.specs.Places.{sub, dom}
use Rattle.term.specs.Terms.{count, Term, blank, node, Terms, span}
use Rattle.term.proofs.Subterms.{length_dom}
use Rattle.kinds.specs.Limits.{blank_word}

-- what the words of a goal have to keep
pub record Fine (shapes : List Term) (g : GoalWords) : Type 0 where
  pub shape : g.sh < length shapes
  pub small : g.an < codes_end
  pub bits : g.mask < 2 ^ span (shape_at shapes g.sh)
  pub low : span (shape_at shapes g.sh) ≤ 16
  -- its obligations' positions
  pub fit : (q : Pos) → q ∈ select g.mask (dom (shape_at shapes g.sh))
      → Proper (decode g.an ++ q) × (length (decode g.an ++ q) ≤ 6)
  -- nothing else is open at or under an open node
  pub apart : (r : ℕ) (o : Node (shape_at shapes g.sh) r) → g.mask / 2 ^ r % 2 ≡ 1 → g.mask / 2 ^ r % 2 ^ span o.under ≡ 1

any_map {ℓ κ} : {A : Type ℓ} {B : Type κ} (p : B → Bool) (f : A → B) (xs : List A) → any p (map f xs) ≡ any (λ x. p (f x)) xs
any_map p f [] = refl
any_map p f (x ∷ xs) = ap (λ b. p (f x) || b) (any_map p f xs)

shift : (r i : ℕ) → suc r + i ≡ r + suc i
shift r i = omega arith

-- ---- along the nodes
module _ (tab : List ℕ) (s a : ℕ) (pa : Pos) where
  pub owed_select : (ps : List Pos) (r m : ℕ) → ((i : ℕ) → i < length ps → code_at tab s a (r + i) ≡ code (pa ++ get_or ps i []))
      → owed_from tab s a (length ps) r m ≡ map code (map (λ q. pa ++ q) (select m ps))
  unfolding owed_from select
  owed_select [] r m h = refl
  owed_select (p ∷ ps) r m h =
      go (eqb (m % 2) 1)
      (ap (code_at tab s a) (sym (add-zero r)) ∙ h 0 (omega arith))
      (owed_select ps (suc r) (m / 2) (λ i l. let e : suc r + i ≡ r + suc i = omega arith in ap (code_at tab s a) e ∙ h (suc i) (omega arith)))
    where
      go : (b : Bool) → code_at tab s a r ≡ code (pa ++ p)
          → owed_from tab s a (length ps) (suc r) (m / 2) ≡ map code (map (λ q. pa ++ q) (select (m / 2) ps))
          → cond b (code_at tab s a r ∷ owed_from tab s a (length ps) (suc r) (m / 2)) (owed_from tab s a (length ps) (suc r) (m / 2)) ≡ map code
          (map (λ q. pa ++ q) (cond b (p ∷ select (m / 2) ps) (select (m / 2) ps)))
      go true e i = ap₂ (λ x xs. x ∷ xs) e i
      go false e i = i

  -- what a search for the open node at P finds
  pub data Found (P : Pos) (m r : ℕ) (ps : List Pos) (x : ℕ) : Type 0 where
    lacks : x ≡ 16 → any (λ q. same P (pa ++ q)) (select m ps) ≡ false → Found P m r ps x
    found : (i : ℕ) → x ≡ r + i → i < length ps → m / 2 ^ i % 2 ≡ 1 → pa ++ get_or ps i [] ≡ P → Found P m r ps x

  half_bit : (m i : ℕ) → m / 2 / 2 ^ i % 2 ≡ 1 → m / 2 ^ suc i % 2 ≡ 1
  half_bit m i e = ap (λ k. k % 2) (sym (div-div-eq-div-mul m 2 (2 ^ i) ∙ ap (λ k. m / k) (sym (pow-succ' 2 i)))) ∙ e

  module _ (P : Pos) (proper : Proper P) (short : length P ≤ 7) where
    pub find : (ps : List Pos) (r m : ℕ) → ((i : ℕ) → i < length ps → code_at tab s a (r + i) ≡ code (pa ++ get_or ps i []))
        → ((q : Pos) → q ∈ select m ps → Proper (pa ++ q) × (length (pa ++ q) ≤ 6))
        → Found P m r ps (node_from tab s a (code P) (length ps) r m)
    unfolding node_from select
    find [] r m h fit = lacks refl refl
    find (p ∷ ps) r m h fit =
        go (eqb (m % 2) 1) refl fit (eqb (code_at tab s a r) (code P)) refl
        (ap (code_at tab s a) (sym (add-zero r)) ∙ h 0 (omega arith))
        (λ fit'. find ps (suc r) (m / 2) (λ i l. let e : suc r + i ≡ r + suc i = omega arith in ap (code_at tab s a) e ∙ h (suc i) (omega arith)) fit')
      where
        N : ℕ
        N = node_from tab s a (code P) (length ps) (suc r) (m / 2)

        go : (b : Bool) → eqb (m % 2) 1 ≡ b
            → ((q : Pos) → q ∈ cond b (p ∷ select (m / 2) ps) (select (m / 2) ps) → Proper (pa ++ q) × (length (pa ++ q) ≤ 6))
            → (t : Bool) → eqb (code_at tab s a r) (code P) ≡ t → code_at tab s a r ≡ code (pa ++ p)
            → (((q : Pos) → q ∈ select (m / 2) ps → Proper (pa ++ q) × (length (pa ++ q) ≤ 6)) → Found P (m / 2) (suc r) ps N)
            → Found P m r (p ∷ ps) (cond b (cond t r N) N)
        go true e f true d c ih =
            let l = f p (here refl) in
            found 0 (sym (add-zero r)) (omega arith) (ap (λ k. k % 2) (div-one m) ∙ eqb_is (m % 2) 1 e)
            (sym (decode_proper (pa ++ p) l.0 (omega (arith, l.1))) ∙ ap decode (sym c ∙ eqb_is (code_at tab s a r) (code P) d)
            ∙ decode_proper P proper short)
        go true e f false d c ih =
            let l = f p (here refl) in
            let n : same P (pa ++ p) ≡ false =
            sym (code_same P (pa ++ p) proper l.0 short (omega (arith, l.1)))
            ∙ ne_eqb (code P) (code (pa ++ p)) (λ z. false≢true (sym d ∙ eq-eqb _ _ (c ∙ sym z))) in
            later (λ z. rw (e, n) z) (ih (λ q i. f q (there i)))
          where
            later : (any (λ q. same P (pa ++ q)) (select (m / 2) ps) ≡ false → any (λ q. same P (pa ++ q)) (select m (p ∷ ps)) ≡ false)
                → {x : ℕ} → Found P (m / 2) (suc r) ps x → Found P m r (p ∷ ps) x
            later k (lacks x z) = lacks x (k z)
            later k (found i x l b w) = found (suc i) (x ∙ shift r i) (omega arith) (half_bit m i b) w
        go false e f t d c ih = later (λ z. rw e z) (ih f)
          where
            later : (any (λ q. same P (pa ++ q)) (select (m / 2) ps) ≡ false → any (λ q. same P (pa ++ q)) (select m (p ∷ ps)) ≡ false)
                → {x : ℕ} → Found P (m / 2) (suc r) ps x → Found P m r (p ∷ ps) x
            later k (lacks x z) = lacks x (k z)
            later k (found i x l b w) = found (suc i) (x ∙ shift r i) (omega arith) (half_bit m i b) w

shape_at_lem : (shapes : List Term) (s : ℕ) → s < length shapes → get_elem? shapes s ≡ some (shape_at shapes s)
shape_at_lem [] s h = absurd (omega arith)
shape_at_lem (t ∷ ts) zero h = refl
shape_at_lem (t ∷ ts) (suc s) h = shape_at_lem ts s (omega arith)

pub node_pos : (t : Term) (r : ℕ) (o : Node t r) → get_or (dom t) r [] ≡ o.at
node_pos t r o =
    ap (λ d. get_or d r []) (o.split ∙ ap (λ d. o.left ++ (map (λ q. o.at ++ q) d ++ o.right)) (dom_below o.under))
    ∙ get_or_at o.left (o.at ++ []) (map (λ q. o.at ++ q) (below o.under) ++ o.right) [] r o.count
    ∙ append-nil o.at

pow_le : {i j : ℕ} → i ≤ j → 2 ^ i ≤ 2 ^ j
pow_le {i} {j} h = ⊎_elim (λ (e : i ≡ j). rw e (omega arith)) (λ (l : i < j). let z = pow-lt l in omega arith) (eq-or-lt_of_le h)

module _ (shapes : List Term) (tab : List ℕ) (tables : (s : ℕ) → s < length shapes → TableOf tab s (shape_at shapes s)) (g : GoalWords)
    (fine : Fine shapes g) where
  code_at_lem : (r : ℕ) → r < span (shape_at shapes g.sh)
      → code_at tab g.sh g.an r ≡ code (decode g.an ++ get_or (dom (shape_at shapes g.sh)) r [])
  code_at_lem r k =
      let T = tables g.sh fine.shape in
      let q = get_or (dom (shape_at shapes g.sh)) r [] in
      ap₂ (λ x y. g.an * x + y) (T.pows r k) (T.codes r k)
      ∙ ap (λ x. x * 5 ^ length q + code q) (sym (code_of_lem 7 g.an fine.small))
      ∙ sym (code_join (decode g.an) q)

  size_is : size_of tab g.sh ≡ length (dom (shape_at shapes g.sh))
  size_is = (tables g.sh fine.shape).size ∙ sym (length_dom (shape_at shapes g.sh))

  codes_at : (i : ℕ) → i < length (dom (shape_at shapes g.sh))
      → code_at tab g.sh g.an (0 + i) ≡ code (decode g.an ++ get_or (dom (shape_at shapes g.sh)) i [])
  codes_at i h = ap (code_at tab g.sh g.an) (zero-add i) ∙ code_at_lem i (rw (← (length_dom (shape_at shapes g.sh))) h)

  -- the codes owed are the codes of the obligations
  pub owed_is : owed_by tab g ≡ map code (goal_meant shapes g).obs
  owed_is =
      ap (λ k. owed_from tab g.sh g.an k 0 g.mask) size_is
      ∙ owed_select tab g.sh g.an (decode g.an) (dom (shape_at shapes g.sh)) 0 g.mask codes_at

  pub finds : (P : Pos) → Proper P → length P ≤ 7
      → Found tab g.sh g.an (decode g.an) P g.mask 0 (dom (shape_at shapes g.sh)) (node_at tab g.sh g.an g.mask (code P))
  finds P proper short =
      rw size_is (find tab g.sh g.an (decode g.an) P proper short (dom (shape_at shapes g.sh)) 0 g.mask codes_at fine.fit)

  module _ (P : Pos) (proper : Proper P) (short : length P ≤ 7) where
    has_at : (i : ℕ) → i < length (dom (shape_at shapes g.sh)) → g.mask / 2 ^ i % 2 ≡ 1
        → decode g.an ++ get_or (dom (shape_at shapes g.sh)) i [] ≡ P → any (same P) (goal_meant shapes g).obs ≡ true
    has_at i l b w =
        any_map (same P) (λ q. decode g.an ++ q) (select g.mask (dom (shape_at shapes g.sh)))
        ∙ any_of (λ q. same P (decode g.an ++ q)) (select_at g.mask i (dom (shape_at shapes g.sh)) [] l b)
        (ap (same P) w ∙ same_refl P)

    -- a goal stays exactly if it has no obligation at P
    pub stays_is : stays tab (code P) g ≡ cond (not (any (same P) (goal_meant shapes g).obs)) (g ∷ []) []
    stays_is = go (finds P proper short)
      where
        go : Found tab g.sh g.an (decode g.an) P g.mask 0 (dom (shape_at shapes g.sh)) (node_at tab g.sh g.an g.mask (code P))
            → stays tab (code P) g ≡ cond (not (any (same P) (goal_meant shapes g).obs)) (g ∷ []) []
        go (lacks x z) =
            rw (eq-eqb _ _ x, any_map (same P) (λ q. decode g.an ++ q) (select g.mask (dom (shape_at shapes g.sh))), z) refl
        go (found i x l b w) =
            let s : i < span (shape_at shapes g.sh) = rw (← (length_dom (shape_at shapes g.sh))) l in
            let k = fine.low in
            let n : node_at tab g.sh g.an g.mask (code P) ≡ 16 → ⊥ = λ e. omega (arith, x, e, s, k) in
            rw (ne_eqb _ _ n, has_at i l b w) refl

    module _ (f k : ℕ) (symbol : f < blank_word)
        (arity : (p : Pos) (ts : Terms) → sub (shape_at shapes g.sh) p ≡ some (node f ts) → count ts ≡ k)
        (blanks : (p : Pos) (w : ℕ) → sub (shape_at shapes g.sh) p ≡ some (blank w) → blank_word ≤ w) where
      -- what a goal puts in after reducing, on positions
      abbrev pub Moved : List (Goal Pos)
      Moved =
          cond ((bare shapes).expects f P (goal_meant shapes g))
          (cond (not (is_nil (reduced (bare shapes) P k (goal_meant shapes g)).obs)) (reduced (bare shapes) P k (goal_meant shapes g) ∷ []) [])
          []

      owed_at : (p : Pos) → decode g.an ++ p ≡ P → owed shapes (goal_meant shapes g) P ≡ sub (shape_at shapes g.sh) p
      owed_at p w = rw (shape_at_lem shapes g.sh fine.shape, ← w, strip_append (decode g.an) p) refl

      -- f is not what stands there
      other : (u : Term) → (head_word u ≡ f → ⊥) → heads_of f (some u) ≡ false
      other (blank w) ne = refl
      other (node h ts) ne = ne_eqb h f ne

      no_move : reduct tab (code P) f g ≡ unexpected → (bare shapes).expects f P (goal_meant shapes g) ≡ false
          → map (goal_meant shapes) (moves tab (code P) f g) ≡ Moved
      no_move e d = rw (e, d) refl

      -- after reducing: the mask is empty exactly if the list is
      ended : (x : ℕ) → x < 2 ^ span (shape_at shapes g.sh) → (bare shapes).expects f P (goal_meant shapes g) ≡ true
          → (goal_meant shapes (with_mask g x)).obs ≡ (reduced (bare shapes) P k (goal_meant shapes g)).obs
          → map (goal_meant shapes) (goes_on x g) ≡ Moved
      ended x l d e = rw (d, ← e) (go (eqb x 0) refl)
        where
          go : (b : Bool) → eqb x 0 ≡ b
              → map (goal_meant shapes) (cond b [] (cond (ltb x unexpected) (with_mask g x ∷ []) [])) ≡ cond
              (not (is_nil (goal_meant shapes (with_mask g x)).obs)) (goal_meant shapes (with_mask g x) ∷ []) []
          go true z = rw (eqb_is x 0 z, select_zero (dom (shape_at shapes g.sh))) refl
          go false z = rw (lt-ltb x unexpected small_mask) (full (select x (dom (shape_at shapes g.sh))) refl)
            where
              small_mask : x < unexpected
              small_mask = let w = pow_le fine.low in omega (arith, l, w)

              full : (ys : List Pos) → select x (dom (shape_at shapes g.sh)) ≡ ys
                  → ◌≡◌ {A = List (Goal Pos)} (goal_meant shapes (with_mask g x) ∷ [])
                  (cond (not (is_nil (map (λ r. decode g.an ++ r) ys))) (goal_meant shapes (with_mask g x) ∷ []) [])
              full [] n =
                  absurd (false≢true (sym z ∙ eq-eqb x 0
                  (select_none x (dom (shape_at shapes g.sh)) (rw (length_dom (shape_at shapes g.sh)) l) n)))
              full (y ∷ ys) n = refl

      mask_fits : (r : ℕ) (o : Node (shape_at shapes g.sh) r)
          → mask_after g.mask r (roots (kids_in o.under) * 2 ^ suc r) < 2 ^ span (shape_at shapes g.sh)
      mask_fits r o =
          let i = o.inside in
          let s = span_below o.under in
          let e : length (below o.under) + suc r ≤ span (shape_at shapes g.sh) = omega (arith, i, s) in
          let a = shl_lt (length (below o.under)) (suc r) (roots_below o.under) in
          let b = pow_le e in
          let c : 2 ^ r < 2 ^ span (shape_at shapes g.sh) = pow-lt (omega (arith, i, s)) in
          or_lt (span (shape_at shapes g.sh)) _ _ (xor_lt (span (shape_at shapes g.sh)) _ _ fine.bits c) (omega (arith, a, b))

      -- it moves on exactly as the definition says
      pub moves_is : map (goal_meant shapes) (moves tab (code P) f g) ≡ Moved
      moves_is = go (finds P proper short)
        where
          at_node : (i : ℕ) (o : Node (shape_at shapes g.sh) i) (u : Term) → o.under ≡ u
              → node_at tab g.sh g.an g.mask (code P) ≡ i → (i ≡ 16 → ⊥) → any (same P) (goal_meant shapes g).obs ≡ true
              → owed shapes (goal_meant shapes g) P ≡ some u → decode g.an ++ o.at ≡ P → g.mask / 2 ^ i % 2 ≡ 1
              → sym_of tab g.sh i ≡ head_word u → kids_of tab g.sh i ≡ roots (kids_in o.under) * 2 ^ suc i
              → Dec (head_word u ≡ f) → map (goal_meant shapes) (moves tab (code P) f g) ≡ Moved
          at_node i o u ou n ne h ow w b sy ki (no d) =
              no_move (rw (n, ne_eqb i 16 ne, sy, ne_eqb (head_word u) f d) refl) (rw (h, ow) (other u d))
          at_node i o (blank v) ou n ne h ow w b sy ki (yes d) = let z = blanks o.at v (o.is ∙ ap some ou) in absurd (omega arith)
          at_node i o (node f' ts) ou n ne h ow w b sy ki (yes d) =
              let re : reduct tab (code P) f g ≡ mask_after g.mask i (roots (kids_in o.under) * 2 ^ suc i) =
              rw (n, ne_eqb i 16 ne, sy, eq-eqb f' f d, ki) refl in
              let new = args_of P k (owed shapes (goal_meant shapes g) P) in
              let is : new ≡ map (λ q. (decode g.an ++ o.at) ++ q) (select (roots (kids_in o.under)) (below o.under)) =
              ap (args_of P k) ow
              ∙ ap (λ c. args P 1 c ts) (sym (arity o.at ts (o.is ∙ ap some ou ∙ ap (λ h. some (node h ts)) d)))
              ∙ args_select P 1 ts
              ∙ rw (w, ou) refl in
              rw re (ended (mask_after g.mask i (roots (kids_in o.under) * 2 ^ suc i)) (mask_fits i o) (rw (h, ow) (eq-eqb f' f d))
              (swap_mask (decode g.an) new (shape_at shapes g.sh) i g.mask o (fine.apart i o b) is
              ∙ ap (λ Q. gather (swapped Q new) (goal_meant shapes g).obs) w))

          go : Found tab g.sh g.an (decode g.an) P g.mask 0 (dom (shape_at shapes g.sh)) (node_at tab g.sh g.an g.mask (code P))
              → map (goal_meant shapes) (moves tab (code P) f g) ≡ Moved
          go (lacks x z) =
              no_move (rw (eq-eqb _ _ x) refl)
              (rw (any_map (same P) (λ q. decode g.an ++ q) (select g.mask (dom (shape_at shapes g.sh))), z) refl)
          go (found i x l b w) =
              let T = tables g.sh fine.shape in
              let s : i < span (shape_at shapes g.sh) = rw (← (length_dom (shape_at shapes g.sh))) l in
              let o = node_of_lem (shape_at shapes g.sh) i s in
              let w' : decode g.an ++ o.at ≡ P = ap (λ q. decode g.an ++ q) (sym (node_pos (shape_at shapes g.sh) i o)) ∙ w in
              let c = fine.low in
              at_node i o o.under refl (x ∙ zero-add i) (λ e. omega (arith, s, c, e)) (has_at i l b w) (owed_at o.at w' ∙ o.is) w' b
              (T.syms i s ∙ o.word) (T.kids i s ∙ o.mask 0 ∙ ap (λ k. roots (kids_in o.under) * 2 ^ suc k) (zero-add i))
              (ℕ_discrete (head_word o.under) f)
