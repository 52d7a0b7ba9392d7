-- Lifting in words: what is left of a code below another is the code of what is left of the position.
use mathlib.Core.Path.{◌≡◌, refl, ap, ap₂, sym, ◌∙◌}
use mathlib.Core.List.{List, [], ◌∷◌, ◌++◌, map, append_assoc, append-nil}
use Prim.Native.Nat.{ℕ, zero, suc, ◌+◌, ◌*◌, ◌/◌, ◌%◌, ◌^◌, ◌≤◌, ◌<◌}
use native.Mathlib.Omega.{arith}
use native.Mathlib.Nat.{pow-suc, mul_assoc, mul_comm, mul-one, one-mul, mul-add-mod_self_right, mod-eq_of_lt}
use borrow.Author.Tests.{lt-ltb, le-ltb}
use native.Mathlib.Numerals.{add-one}
use lib.ListN.{length, length-append}
use Rattle.automaton.specs.Bare.{bare}
use Rattle.automaton.specs.Classes.{lift_goal}
use Rattle.kinds.proofs.Codes.{Proper, code_from_append, code_join, decode_proper, code_of_lem, proper_nil, proper_cons, proper_head, proper_tail, proper_append}
use Rattle.kinds.proofs.Prefixes.{strip_append}
use Rattle.kinds.proofs.ListLaws.{map_map, map_same}
use Rattle.kinds.specs.Positions.{Pos, code, code_from, strip, decode}
use Rattle.decoding.specs.Decoding.{goal_meant, select, shape_at, codes_end}
use Rattle.goals.specs.GoalWords.{GoalWords}
use Rattle.goals.specs.WordStages.{under_from, under_code, lift_w}
use Rattle.term.specs.Places.{dom}
use Rattle.term.specs.Terms.{Term}

-- the code of G followed by the numbers of r, last first
abbrev back : ℕ → Pos → ℕ
back g [] = g
back g (i ∷ r) = 5 * back g r + i

abbrev rev : Pos → Pos
rev [] = []
rev (i ∷ r) = rev r ++ (i ∷ [])

back_code : (g : ℕ) (r : Pos) → back g r ≡ code_from g (rev r)
back_code g [] = refl
back_code g (i ∷ r) = ap (λ x. 5 * x + i) (back_code g r) ∙ sym (code_from_append (rev r) (i ∷ []) g)

back_le : (g : ℕ) (r : Pos) → Proper r → g ≤ back g r
back_le g [] h = omega arith
back_le g (i ∷ r) h = let w = back_le g r (proper_tail h) in omega arith

climb : (k g c w : ℕ) (r : Pos) → Proper r → length r ≤ k → under_from k g c (back g r) w ≡ c % (w * 5 ^ length r)
unfolding under_from
climb zero g c w [] h l = ap (λ x. c % x) (sym (mul-one w))
climb zero g c w (i ∷ r) h l = absurd (omega arith)
climb (suc k) g c w [] h l = rw (le-ltb g g (omega arith)) (ap (λ x. c % x) (sym (mul-one w)))
climb (suc k) g c w (i ∷ r) h l =
    let b = back_le g r (proper_tail h) in
    let a = proper_head h in
    let d : (5 * back g r + i) / 5 ≡ back g r = omega arith in
    let e : w * 5 * 5 ^ length r ≡ w * 5 ^ suc (length r) =
    mul_assoc w 5 (5 ^ length r) ∙ ap (λ x. w * x) (mul_comm 5 (5 ^ length r) ∙ sym (pow-suc 5 (length r))) in
    rw (lt-ltb g (5 * back g r + i) (omega arith), d) (climb k g c (w * 5) r (proper_tail h) (omega arith) ∙ ap (λ x. c % x) e)

code_lt : (q : Pos) → Proper q → (c d : ℕ) → c < d → code_from c q < d * 5 ^ length q
code_lt [] h c d l = rw (mul-one d) l
code_lt (i ∷ q) h c d l =
    let u = proper_head h in
    let w = code_lt q (proper_tail h) (5 * c + i) (d * 5) (omega arith) in
    let e : d * 5 * 5 ^ length q ≡ d * 5 ^ suc (length q) =
    mul_assoc d 5 (5 ^ length q) ∙ ap (λ x. d * x) (mul_comm 5 (5 ^ length q) ∙ sym (pow-suc 5 (length q))) in
    rw (← e) w

rev_append : (p q : Pos) → rev (p ++ q) ≡ rev q ++ rev p
rev_append [] q = sym (append-nil (rev q))
rev_append (i ∷ p) q = ap (λ x. x ++ (i ∷ [])) (rev_append p q) ∙ append_assoc (rev q) (rev p) (i ∷ [])

rev_rev : (p : Pos) → rev (rev p) ≡ p
rev_rev [] = refl
rev_rev (i ∷ p) = rev_append (rev p) (i ∷ []) ∙ ap (λ x. i ∷ x) (rev_rev p)

proper_rev : (p : Pos) → Proper p → Proper (rev p)
proper_rev [] h = proper_nil
proper_rev (i ∷ p) h =
    proper_append (rev p) (i ∷ []) (proper_rev p (proper_tail h)) (proper_cons (proper_head h).0 (proper_head h).1 proper_nil)

length_rev : (p : Pos) → length (rev p) ≡ length p
length_rev [] = refl
length_rev (i ∷ p) = length-append (rev p) (i ∷ []) ∙ ap (λ x. x + 1) (length_rev p) ∙ add-one (length p)

-- what is left of code (G.q) below code G is code q
pub under_is : (G q : Pos) → Proper q → length q ≤ 7 → under_code (code G) (code (G ++ q)) ≡ code q
under_is G q h l =
    let c = code (G ++ q) in
    let b : back (code G) (rev q) ≡ c = back_code (code G) (rev q) ∙ ap (code_from (code G)) (rev_rev q) ∙ sym (code_from_append G q 0) in
    let k = climb 7 (code G) c 1 (rev q) (proper_rev q h) (rw (length_rev q) l) in
    let s : code q < 5 ^ length q = rw (← (one-mul (5 ^ length q))) (code_lt q h 0 1 (omega arith)) in
    ap (λ t. under_from 7 (code G) c t 1) (sym b) ∙ k
    ∙ ap (λ w. c % w) (one-mul (5 ^ length (rev q)) ∙ ap (λ n. 5 ^ n) (length_rev q))
    ∙ ap (λ x. x % 5 ^ length q) (code_join G q)
    ∙ mul-add-mod_self_right (code G) (5 ^ length q) (code q) ∙ mod-eq_of_lt s

-- a goal lifted in words is the goal lifted
pub lift_is : (shapes : List Term) (G q : Pos) (g : GoalWords) → g.an < codes_end → decode g.an ≡ G ++ q → Proper q → length q ≤ 7
    → goal_meant shapes (lift_w (code G) g) ≡ lift_goal (bare shapes) G (goal_meant shapes g)
lift_is shapes G q g small e h l =
    let a : g.an ≡ code (G ++ q) = sym (code_of_lem 7 g.an small) ∙ ap code e in
    let p : decode (under_code (code G) g.an) ≡ q =
    ap (λ x. decode (under_code (code G) x)) a ∙ ap decode (under_is G q h l) ∙ decode_proper q h l in
    let S = select g.mask (dom (shape_at shapes g.sh)) in
    ap (λ x. record { shape = g.sh; ann = x; obs = map (λ r. x ++ r) S }) p
    ∙ ap₂ (λ x y. record { shape = g.sh; ann = x; obs = y })
    (sym (ap (strip G) e ∙ strip_append G q))
    (map_same (λ r. q ++ r) (λ r. strip G (decode g.an ++ r)) S
    (λ r m. sym (ap (λ x. strip G (x ++ r)) e ∙ ap (strip G) (append_assoc G q r) ∙ strip_append G (q ++ r)))
    ∙ sym (map_map (strip G) (λ r. decode g.an ++ r) S))
