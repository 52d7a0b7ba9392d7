-- What a goal's mask is after a symbol was observed at a position.
--   kids_fit     the mask of a node's children is a mask of the term's nodes
--   Reduct       the symbol is not expected there, or the mask is that of the obligations reduced
--   reduct_is    it is one of the two
use mathlib.Core.Path.{◌≡◌, refl, ap, sym, ◌∙◌}
use mathlib.Core.List.{List, [], ◌++◌, map}
use mathlib.Core.Bool.{true, false}
use mathlib.Core.Option.{some}
use Prim.Native.Nat.{ℕ, suc, ◌+◌, ◌*◌, ◌/◌, ◌%◌, ◌^◌, ◌≤◌, ◌<◌}
use native.Mathlib.Omega.{arith}
use native.Mathlib.Nat.{zero-add}
use native.Mathlib.Decide.{ℕ_discrete}
use borrow.Author.Tests.{eq-eqb, ne_eqb}
use lib.Bits.{or_lt, xor_lt}
use lib.ListN.{length, get_or}
use lib.Pow.{pow-lt, pow_mono, shl_lt}
use Rattle.kinds.specs.Lists.{any, gather, same}
use Rattle.kinds.specs.Positions.{Pos, code, decode}
use Rattle.kinds.proofs.Codes.{Proper}
use Rattle.kinds.proofs.ListLaws.{any_map}
use Rattle.kinds.proofs.Members.{any_of, same_refl}
use Rattle.kinds.proofs.Places.{at_get_d}
use Rattle.kinds.proofs.Prefixes.{strip_append}
use Rattle.term.specs.Places.{sub, dom}
use Rattle.term.specs.Terms.{count, Term, blank, node, Terms, span}
use Rattle.term.proofs.Subterms.{length_dom}
use Rattle.automaton.specs.Bare.{bare, owed, args_of, heads_of, args}
use Rattle.automaton.specs.Goals.{reduced}
use Rattle.decoding.specs.Decoding.{select, roots, shape_at, goal_meant, TableOf}
use Rattle.goals.specs.GoalWords.{GoalWords, node_at, sym_of, kids_of, mask_after}
use Rattle.goals.specs.WordStages.{reduct, with_mask, unexpected}
use Rattle.decoding.proofs.ShapeNodes.{Node, node_of_lem, kids_in, head_word}
use Rattle.decoding.proofs.MaskReduced.{below, args_select, swap_mask, span_below, roots_below, swapped}
use Rattle.decoding.proofs.Selecting.{select_at}
use Rattle.decoding.proofs.GoalDecoded.{Fine, Found, lacks, found, finds, node_pos}
use Rattle.kinds.specs.Limits.{blank_word}

pub kids_fit : (t : Term) (r : ℕ) (o : Node t r) → roots (kids_in o.under) * 2 ^ suc r < 2 ^ span t
kids_fit t r o =
    let i = o.inside in
    let s = span_below o.under in
    let e : length (below o.under) + suc r ≤ span t = omega (arith, i, s) in
    let a = shl_lt (length (below o.under)) (suc r) (roots_below o.under) in
    let b = pow_mono e in
    omega (arith, a, b)

after_fit : (t : Term) (m r : ℕ) (o : Node t r) → m < 2 ^ span t → mask_after m r (roots (kids_in o.under) * 2 ^ suc r) < 2 ^ span t
after_fit t m r o h =
    let i = o.inside in
    let s = span_below o.under in
    let c : 2 ^ r < 2 ^ span t = pow-lt (omega (arith, i, s)) in
    or_lt (span t) _ _ (xor_lt (span t) _ _ h c) (kids_fit t r o)

-- x is the mask after reducing by f, a symbol of k children, at P
pub data Reduct (shapes : List Term) (g : GoalWords) (P : Pos) (f k x : ℕ) : Type 0 where
  missed : x ≡ unexpected → (bare shapes).expects f P (goal_meant shapes g) ≡ false → Reduct shapes g P f k x
  cut : x < 2 ^ span (shape_at shapes g.sh) → (bare shapes).expects f P (goal_meant shapes g) ≡ true
      → (goal_meant shapes (with_mask g x)).obs ≡ (reduced (bare shapes) P k (goal_meant shapes g)).obs → Reduct shapes g P f k x

-- another symbol stands there
not_head : (f : ℕ) (u : Term) → (head_word u ≡ f → ⊥) → heads_of f (some u) ≡ false
not_head f (blank w) ne = refl
not_head f (node h ts) ne = ne_eqb h f ne

module _ (shapes : List Term) (tab : List ℕ) (tables : (s : ℕ) → s < length shapes → TableOf tab s (shape_at shapes s)) (g : GoalWords)
    (fine : Fine shapes g)
    (P : Pos) (proper : Proper P) (short : length P ≤ 7)
    (f k : ℕ) (symbol : f < blank_word) (arity : (p : Pos) (ts : Terms) → sub (shape_at shapes g.sh) p ≡ some (node f ts) → count ts ≡ k)
    (blanks : (p : Pos) (w : ℕ) → sub (shape_at shapes g.sh) p ≡ some (blank w) → blank_word ≤ w) where
  abbrev T : Term
  T = shape_at shapes g.sh

  abbrev N : ℕ
  N = node_at tab g.sh g.an g.mask (code P)

  owes_at : (i : ℕ) → i < length (dom T) → g.mask / 2 ^ i % 2 ≡ 1 → decode g.an ++ get_or (dom T) i [] ≡ P
      → any (same P) (goal_meant shapes g).obs ≡ true
  owes_at i l b w =
      any_map (λ q. decode g.an ++ q) (same P) (select g.mask (dom T))
      ∙ any_of (λ q. same P (decode g.an ++ q)) (select_at g.mask i (dom T) [] l b) (ap (same P) w ∙ same_refl P)

  owed_at : (p : Pos) → decode g.an ++ p ≡ P → owed shapes (goal_meant shapes g) P ≡ sub T p
  owed_at p w = rw (at_get_d shapes g.sh (blank blank_word) fine.shape, ← w, strip_append (decode g.an) p) refl

  at_node : (i : ℕ) (o : Node T i) (u : Term) → o.under ≡ u → N ≡ i → (i ≡ 16 → ⊥) → any (same P) (goal_meant shapes g).obs ≡ true
      → owed shapes (goal_meant shapes g) P ≡ some u
      → decode g.an ++ o.at ≡ P → g.mask / 2 ^ i % 2 ≡ 1 → sym_of tab g.sh i ≡ head_word u
      → kids_of tab g.sh i ≡ roots (kids_in o.under) * 2 ^ suc i
      → Dec (head_word u ≡ f) → Reduct shapes g P f k (reduct tab (code P) f g)
  at_node i o u ou n ne h ow w b sy ki (no d) =
      missed (rw (n, ne_eqb i 16 ne, sy, ne_eqb (head_word u) f d) refl) (rw (h, ow) (not_head f u d))
  at_node i o (blank v) ou n ne h ow w b sy ki (yes d) = let z = blanks o.at v (o.is ∙ ap some ou) in absurd (omega arith)
  at_node i o (node f' ts) ou n ne h ow w b sy ki (yes d) =
      let re : reduct tab (code P) f g ≡ mask_after g.mask i (roots (kids_in o.under) * 2 ^ suc i) =
      rw (n, ne_eqb i 16 ne, sy, eq-eqb f' f d, ki) refl in
      let new = args_of P k (owed shapes (goal_meant shapes g) P) in
      let is : new ≡ map (λ q. (decode g.an ++ o.at) ++ q) (select (roots (kids_in o.under)) (below o.under)) =
      ap (args_of P k) ow
      ∙ ap (λ c. args P 1 c ts) (sym (arity o.at ts (o.is ∙ ap some ou ∙ ap (λ h. some (node h ts)) d)))
      ∙ args_select P 1 ts
      ∙ rw (w, ou) refl in
      rw re (cut (after_fit T g.mask i o fine.bits) (rw (h, ow) (eq-eqb f' f d))
      (swap_mask (decode g.an) new T i g.mask o (fine.apart i o b) is ∙ ap (λ Q. gather (swapped Q new) (goal_meant shapes g).obs) w))

  pub reduct_is : Reduct shapes g P f k (reduct tab (code P) f g)
  reduct_is = go (finds shapes tab tables g fine P proper short)
    where
      go : Found tab g.sh g.an (decode g.an) P g.mask 0 (dom T) N → Reduct shapes g P f k (reduct tab (code P) f g)
      go (lacks x z) = missed (rw (eq-eqb _ _ x) refl) (rw (any_map (λ q. decode g.an ++ q) (same P) (select g.mask (dom T)), z) refl)
      go (found i x l b w) =
          let A = tables g.sh fine.shape in
          let s : i < span T = rw (← (length_dom T)) l in
          let o = node_of_lem T i s in
          let w' : decode g.an ++ o.at ≡ P = ap (λ q. decode g.an ++ q) (sym (node_pos T i o)) ∙ w in
          let c = fine.low in
          at_node i o o.under refl (x ∙ zero-add i) (λ e. omega (arith, s, c, e)) (owes_at i l b w) (owed_at o.at w' ∙ o.is) w' b
          (A.syms i s ∙ o.word) (A.kids i s ∙ o.mask 0 ∙ ap (λ k. roots (kids_in o.under) * 2 ^ suc k) (zero-add i))
          (ℕ_discrete (head_word o.under) f)
