-- Reducing a goal's mask is reducing its list of obligations.
use mathlib.Core.Path.{◌≡◌, refl, ap, ap₂, sym, ◌∙◌}
use mathlib.Core.List.{List, [], ◌∷◌, ◌++◌, map, append_assoc, append-nil}
use mathlib.Core.Bool.{false, cond}
use Prim.Native.Nat.{ℕ, suc, ◌+◌, ◌*◌, ◌/◌, ◌%◌, ◌^◌, ◌≤◌, ◌<◌}
use native.Mathlib.Omega.{arith}
use native.Mathlib.Nat.{add-zero, pow-suc, mul_assoc, mul_comm, one-mul, mod-lt, mul-le-mul_right, suc-mul}
use lib.Bits.{bit_or, bit_xor, xor_block, or_block, or_shifted, xor_step, xor_zero_r, or_zero_r}
use lib.Pow.{split, pow_pos, pow-add}
use lib.ListN.{length, length-map}
use Rattle.automaton.specs.Bare.{args}
use Rattle.kinds.proofs.Members.{same_refl}
use Rattle.kinds.specs.Members.{◌∈◌, here, there}
use Rattle.kinds.proofs.ListLaws.{map_append, map_map, map_same, same_append}
use Rattle.kinds.specs.Lists.{gather, same}
use Rattle.kinds.specs.Positions.{Pos}
use Rattle.decoding.proofs.ShapeNodes.{Node, kids_in}
use Rattle.decoding.proofs.Selecting.{select_zero, select_append, select_sub, select_map}
use Rattle.decoding.specs.Decoding.{select, roots, solid}
use Rattle.goals.specs.GoalWords.{mask_after}
use Rattle.term.specs.Places.{dom, doms}
use Rattle.term.specs.Terms.{count, Term, blank, node, Terms, tnil, tcons, span, spans}
use Rattle.term.proofs.Subterms.{length_dom, length_doms}

pub select_split {ℓ} : {A : Type ℓ} (xs ys : List A) (h low n : ℕ) → length xs ≡ n → low < 2 ^ n
    → select (h * 2 ^ n + low) (xs ++ ys) ≡ select low xs ++ select h ys
select_split xs ys h low n e l = rw (← e) (select_append xs ys h low (rw e l))

-- the first of a list alone
pub select_one {ℓ} : {A : Type ℓ} (x : A) (xs : List A) → select 1 (x ∷ xs) ≡ x ∷ []
unfolding select
select_one x xs = ap (λ ys. x ∷ ys) (select_zero xs)

-- all but the first
pub select_even {ℓ} : {A : Type ℓ} (z : ℕ) (x : A) (xs : List A) → select (z * 2) (x ∷ xs) ≡ select z xs
unfolding select
select_even z x xs =
    let e : z * 2 % 2 ≡ 0 = omega arith in
    let d : z * 2 / 2 ≡ z = omega arith in
    rw (e, d)

-- the positions under the root
abbrev pub below : Term → List Pos
below (blank w) = []
below (node f ts) = doms ts 1

pub dom_below : (u : Term) → dom u ≡ [] ∷ below u
dom_below (blank w) = refl
dom_below (node f ts) = refl

pub roots_lt : (ts : Terms) → roots ts < 2 ^ spans ts
roots_lt tnil = omega arith
roots_lt (tcons t ts) =
    let ih = roots_lt ts in
    let m : suc (roots ts) * 2 ^ span t ≤ 2 ^ spans ts * 2 ^ span t = mul-le-mul_right (2 ^ span t) ih in
    let s : suc (roots ts) * 2 ^ span t ≡ roots ts * 2 ^ span t + 2 ^ span t = suc-mul (roots ts) (2 ^ span t) in
    let p : 2 ^ (span t + spans ts) ≡ 2 ^ spans ts * 2 ^ span t = pow-add 2 (span t) (spans ts) ∙ mul_comm (2 ^ span t) (2 ^ spans ts) in
    let o = solid_lt t in
    rw p (omega (arith, m, s, o))
  where
    solid_lt : (t : Term) → solid t < 2 ^ span t
    solid_lt (blank w) = pow_pos 1
    solid_lt (node f us) = let z = pow_pos (spans us) in omega (arith, pow-suc 2 (spans us))

pub args_select : (P : Pos) (i : ℕ) (ts : Terms) → args P i (count ts) ts ≡ map (λ q. P ++ q) (select (roots ts) (doms ts i))
unfolding select
args_select P i tnil = refl
args_select P i (tcons (blank w) ts) =
    args_select P (suc i) ts
    ∙ ap (map (λ q. P ++ q)) (sym (select_split ((i ∷ []) ∷ []) (doms ts (suc i)) (roots ts) 0 1 refl (omega arith)))
args_select P i (tcons (node f us) ts) =
    let z = pow_pos (spans us) in
    let l : 1 < 2 ^ suc (spans us) = omega (arith, pow-suc 2 (spans us)) in
    ap (λ qs. (P ++ (i ∷ [])) ∷ qs) (args_select P (suc i) ts)
    ∙ ap (map (λ q. P ++ q)) (sym (
    select_split (map (λ p. i ∷ p) (dom (node f us))) (doms ts (suc i)) (roots ts) 1 (suc (spans us))
    (length-map (dom (node f us)) (λ p. i ∷ p) ∙ length_dom (node f us)) l
    ∙ ap (λ qs. qs ++ select (roots ts) (doms ts (suc i))) (select_one (i ∷ []) (map (λ p. i ∷ p) (doms us 1)))))

-- ---- the mask in three parts
xor_one : (x : ℕ) → bit_xor (x * 2 + 1) 1 ≡ x * 2
xor_one x =
    let e : (x * 2 + 1) / 2 ≡ x = omega arith in
    let d : (x * 2 + 1) % 2 ≡ 1 = omega arith in
    xor_step (x * 2 + 1) 1 ∙ rw (e, d) (ap (λ y. y * 2 + 0) (xor_zero_r x) ∙ add-zero (x * 2))

module _ (m r sp z : ℕ) (one : m / 2 ^ r % 2 ^ suc sp ≡ 1) (small : z < 2 ^ sp) where
  abbrev pub low : ℕ
  low = m % 2 ^ r

  abbrev pub high : ℕ
  high = m / 2 ^ r / 2 ^ suc sp

  pub low_lt : low < 2 ^ r
  low_lt = mod-lt m (pow_pos r)

  pub mask_is : m ≡ (high * 2 ^ suc sp + 1) * 2 ^ r + low
  mask_is = sym (split m r) ∙ ap (λ x. x * 2 ^ r + low) (sym (split (m / 2 ^ r) (suc sp)) ∙ ap (λ x. high * 2 ^ suc sp + x) one)

  even : high * 2 ^ suc sp ≡ high * 2 ^ sp * 2
  even = ap (λ x. high * x) (pow-suc 2 sp) ∙ sym (mul_assoc high (2 ^ sp) 2)

  pub after_is : mask_after m r (z * 2 ^ suc r) ≡ (high * 2 ^ suc sp + z * 2) * 2 ^ r + low
  after_is =
      let k : z * 2 ^ suc r ≡ z * 2 * 2 ^ r + 0 =
      ap (λ x. z * x) (pow-suc 2 r ∙ mul_comm (2 ^ r) 2) ∙ sym (mul_assoc z 2 (2 ^ r)) ∙ sym (add-zero (z * 2 * 2 ^ r)) in
      let b : 2 ^ r ≡ 1 * 2 ^ r + 0 = sym (add-zero (1 * 2 ^ r) ∙ one-mul (2 ^ r)) in
      let x : bit_xor m (2 ^ r) ≡ high * 2 ^ sp * 2 * 2 ^ r + low =
      ap₂ bit_xor (mask_is ∙ ap (λ y. (y + 1) * 2 ^ r + low) even) b
      ∙ xor_block r (high * 2 ^ sp * 2 + 1) 1 low 0 low_lt (pow_pos r)
      ∙ ap₂ (λ y w. y * 2 ^ r + w) (xor_one (high * 2 ^ sp)) (xor_zero_r low) in
      ap₂ bit_or x k
      ∙ or_block r (high * 2 ^ sp * 2) (z * 2) low 0 low_lt (pow_pos r)
      ∙ ap₂ (λ y w. y * 2 ^ r + w)
      (ap (λ y. bit_or y (z * 2)) (sym even) ∙ or_shifted high (suc sp) (z * 2) (omega (arith, pow-suc 2 sp)))
      (or_zero_r low)

pub span_below : (u : Term) → span u ≡ suc (length (below u))
span_below (blank w) = refl
span_below (node f ts) = ap suc (sym (length_doms ts 1))

pub roots_below : (u : Term) → roots (kids_in u) < 2 ^ length (below u)
roots_below (blank w) = pow_pos 0
roots_below (node f ts) = rw (length_doms ts 1) (roots_lt ts)

-- a pass that puts `new` in the place of P and keeps every other
abbrev pub swapped : Pos → List Pos → Pos → List Pos
swapped P new q = cond (same P q) new (q ∷ [])

pub gather_append {ℓ κ} : {A : Type ℓ} {B : Type κ} (f : A → List B) (xs ys : List A) → gather f (xs ++ ys) ≡ gather f xs ++ gather f ys
gather_append f [] ys = refl
gather_append f (x ∷ xs) ys = ap (λ zs. f x ++ zs) (gather_append f xs ys) ∙ sym (append_assoc (f x) (gather f xs) (gather f ys))

module _ (a : Pos) (new : List Pos) where
  -- nothing to swap
  pub swap_none : (p : Pos) (xs : List Pos) → ((q : Pos) → q ∈ xs → same p q ≡ false)
      → gather (swapped (a ++ p) new) (map (λ q. a ++ q) xs) ≡ map (λ q. a ++ q) xs
  swap_none p [] h = refl
  swap_none p (x ∷ xs) h = rw (same_append a p x, h x (here refl)) (ap (λ ys. (a ++ x) ∷ ys) (swap_none p xs (λ q i. h q (there i))))

  -- a mask in three parts: what stands left of a node, at and under it, right of it
  pub select_three : (L U R : List Pos) (h x low r n : ℕ) → length L ≡ r → length U ≡ n → low < 2 ^ r → x < 2 ^ n
      → select ((h * 2 ^ n + x) * 2 ^ r + low) (L ++ (U ++ R)) ≡ select low L ++ (select x U ++ select h R)
  select_three L U R h x low r n e d l k =
      select_split L (U ++ R) (h * 2 ^ n + x) low r e l ∙ ap (λ qs. select low L ++ qs) (select_split U R h x n d k)

  pub swap_at : (u : Term) (p : Pos) (L R : List Pos) (m r : ℕ) → length L ≡ r
      → ((q : Pos) → q ∈ L → same p q ≡ false) → ((q : Pos) → q ∈ R → same p q ≡ false)
      → m / 2 ^ r % 2 ^ suc (length (below u)) ≡ 1
      → new ≡ map (λ q. (a ++ p) ++ q) (select (roots (kids_in u)) (below u))
      → map (λ q. a ++ q) (select (mask_after m r (roots (kids_in u) * 2 ^ suc r)) (L ++ (map (λ q. p ++ q) ([] ∷ below u) ++ R)))
      ≡ gather (swapped (a ++ p) new) (map (λ q. a ++ q) (select m (L ++ (map (λ q. p ++ q) ([] ∷ below u) ++ R))))
  swap_at u p L R m r c nl nr one is =
      let sp = length (below u) in
      let lo = m % 2 ^ r in
      let hi = m / 2 ^ r / 2 ^ suc sp in
      let z = roots (kids_in u) in
      let U : List Pos = map (λ q. p ++ q) ([] ∷ below u) in
      let f : Pos → Pos = λ q. a ++ q in
      let sw = swapped (a ++ p) new in
      let small = roots_below u in
      let lt = low_lt m r sp z one small in
      let len : length U ≡ suc sp = length-map ([] ∷ below u) (λ q. p ++ q) in
      let pos = pow_pos sp in
      let A : select (mask_after m r (z * 2 ^ suc r)) (L ++ (U ++ R)) ≡ select lo L ++ (map (λ q. p ++ q) (select z (below u)) ++ select hi R) =
      ap (λ k. select k (L ++ (U ++ R))) (after_is m r sp z one small)
      ∙ select_three L U R hi (z * 2) lo r (suc sp) c len lt (omega (arith, pow-suc 2 sp, small))
      ∙ ap (λ qs. select lo L ++ (qs ++ select hi R))
      (select_map (λ q. p ++ q) (z * 2) ([] ∷ below u) ∙ ap (map (λ q. p ++ q)) (select_even z [] (below u))) in
      let B : select m (L ++ (U ++ R)) ≡ select lo L ++ ((p ++ []) ∷ select hi R) =
      ap (λ k. select k (L ++ (U ++ R))) (mask_is m r sp z one small)
      ∙ select_three L U R hi 1 lo r (suc sp) c len lt (omega (arith, pow-suc 2 sp, pos))
      ∙ ap (λ qs. select lo L ++ (qs ++ select hi R)) (select_one (p ++ []) (map (λ q. p ++ q) (below u))) in
      let C : map f (map (λ q. p ++ q) (select z (below u))) ≡ new =
      map_map f (λ q. p ++ q) (select z (below u))
      ∙ map_same (λ q. a ++ (p ++ q)) (λ q. (a ++ p) ++ q) (select z (below u)) (λ q m. sym (append_assoc a p q))
      ∙ sym is in
      let D : sw (a ++ (p ++ [])) ≡ new = rw (append-nil p, same_refl (a ++ p)) refl in
      ap (map f) A
      ∙ map_append f (select lo L) (map (λ q. p ++ q) (select z (below u)) ++ select hi R)
      ∙ ap (λ qs. map f (select lo L) ++ qs)
      (map_append f (map (λ q. p ++ q) (select z (below u))) (select hi R) ∙ ap (λ qs. qs ++ map f (select hi R)) C)
      ∙ sym (
      ap (λ qs. gather sw (map f qs)) B
      ∙ ap (gather sw) (map_append f (select lo L) ((p ++ []) ∷ select hi R))
      ∙ gather_append sw (map f (select lo L)) (map f ((p ++ []) ∷ select hi R))
      ∙ ap₂ (λ xs ys. xs ++ ys)
      (swap_none p (select lo L) (λ q i. nl q (select_sub lo L i)))
      (ap₂ (λ xs ys. xs ++ ys) D (swap_none p (select hi R) (λ q i. nr q (select_sub hi R i)))))

  -- reducing the mask at node r is one pass that swaps its position for those of its children that are no blanks
  pub swap_mask : (t : Term) (r m : ℕ) (o : Node t r)
      → m / 2 ^ r % 2 ^ span o.under ≡ 1
      → new ≡ map (λ q. (a ++ o.at) ++ q) (select (roots (kids_in o.under)) (below o.under))
      → map (λ q. a ++ q) (select (mask_after m r (roots (kids_in o.under) * 2 ^ suc r)) (dom t)) ≡ gather (swapped (a ++ o.at) new)
      (map (λ q. a ++ q) (select m (dom t)))
  swap_mask t r m o one is =
      let s : dom t ≡ o.left ++ (map (λ q. o.at ++ q) ([] ∷ below o.under) ++ o.right) =
      o.split ∙ ap (λ d. o.left ++ (map (λ q. o.at ++ q) d ++ o.right)) (dom_below o.under) in
      rw s
      (swap_at o.under o.at o.left o.right m r o.count o.not_left o.not_right
      (ap (λ k. m / 2 ^ r % 2 ^ k) (sym (span_below o.under)) ∙ one) is)
