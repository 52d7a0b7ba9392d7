-- S2 in bits: where no two open positions of a goal are one under the other, nothing else is open under an open node.
use mathlib.Core.Path.{◌≡◌, refl, ap, ap₂, sym, ◌∙◌}
use mathlib.Core.List.{List, [], ◌∷◌, ◌++◌, map, append_assoc}
use Prim.Native.Nat.{ℕ, suc, ◌+◌, ◌*◌, ◌/◌, ◌%◌, ◌^◌, ◌<◌}
use native.Mathlib.Omega.{arith}
use native.Mathlib.Nat.{pow-succ', mod-lt}
use borrow.Author.Tests.{eq-eqb}
use lib.Pow.{pow_pos, split}
use lib.ListN.{length, length-map}
use Rattle.term.specs.Terms.{Term, blank, node, Terms, tnil, tcons, span}
use Rattle.kinds.specs.Positions.{Pos}
use Rattle.decoding.specs.Decoding.{select}
use Rattle.term.specs.Places.{dom, doms}
use Rattle.term.proofs.Subterms.{length_dom}
use Rattle.kinds.proofs.Members.{∈_left, ∈_right, ∈_append, on_map}
use Rattle.kinds.specs.Members.{◌∈◌, here, there}
use Rattle.decoding.proofs.Selecting.{select_append, select_none, select_sub}
use Rattle.decoding.proofs.ShapeNodes.{Node}
use Rattle.decoding.proofs.MaskReduced.{below, dom_below, span_below}
use mathlib.Core.Logic.{⊎_elim}

-- no open position stands under another
abbrev pub Lone : ℕ → Term → Type 0
Lone m t = (p b : Pos) → p ∈ select m (dom t) → (p ++ b) ∈ select m (dom t) → b ≡ []

-- a part of the list, with its part of the mask
part : {A : Type 0} (xs ys zs : List A) (m : ℕ) {y : A} → y ∈ select (m / 2 ^ length xs % 2 ^ length ys) ys
    → y ∈ select m (xs ++ (ys ++ zs))
part xs ys zs m {y} i =
    let h = m / 2 ^ length xs in
    let a : m ≡ h * 2 ^ length xs + m % 2 ^ length xs = sym (split m (length xs)) in
    let b : h ≡ h / 2 ^ length ys * 2 ^ length ys + h % 2 ^ length ys = sym (split h (length ys)) in
    let u = select_append xs (ys ++ zs) h (m % 2 ^ length xs) (mod-lt m (pow_pos (length xs))) in
    let v = select_append ys zs (h / 2 ^ length ys) (h % 2 ^ length ys) (mod-lt h (pow_pos (length ys))) in
    let e : select m (xs ++ (ys ++ zs)) ≡ select (m % 2 ^ length xs) xs ++ (select (h % 2 ^ length ys) ys ++ select (h / 2 ^ length ys) zs) =
    ap (λ k. select k (xs ++ (ys ++ zs))) a ∙ u ∙ ap (λ l. select (m % 2 ^ length xs) xs ++ l) (ap (λ k. select k (ys ++ zs)) b ∙ v) in
    rw e (∈_right (select (m % 2 ^ length xs) xs) (∈_left (select (h / 2 ^ length ys) zs) i))

doms_cons : (ts : Terms) (i : ℕ) → [] ∈ doms ts i → ⊥
doms_cons tnil i m = elim m [ ]
doms_cons (tcons t ts) i m =
    ⊎_elim
    (λ (n : [] ∈ map (λ p. i ∷ p) (dom t)). on_map (λ p. i ∷ p) (dom t) n (λ p j e. let z = ap length e in omega (arith, z)))
    (λ (n : [] ∈ doms ts (suc i)). doms_cons ts (suc i) n)
    (∈_append (map (λ p. i ∷ p) (dom t)) m)

below_cons : (u : Term) → [] ∈ below u → ⊥
below_cons (blank w) m = elim m [ ]
below_cons (node f ts) m = doms_cons ts 1 m

select_odd : (x : ℕ) (y : Pos) (ys : List Pos) → x % 2 ≡ 1 → select x (y ∷ ys) ≡ y ∷ select (x / 2) ys
unfolding select
select_odd x y ys h = rw (eq-eqb (x % 2) 1 h) refl

parity : (y q P x : ℕ) → q * (2 * P) + x ≡ y → x % 2 ≡ y % 2
parity y q P x e = let z : q * (2 * P) ≡ 2 * (q * P) = omega arith in omega (arith, z, e)

one_left : (at : Pos) (u : Term) (x : ℕ) → x < 2 ^ span u → x % 2 ≡ 1
    → ((b : Pos) → (at ++ []) ∈ select x (map (λ q. at ++ q) (dom u)) → (at ++ b) ∈ select x (map (λ q. at ++ q) (dom u)) → b ≡ []) → x ≡ 1
one_left at u x l o h = go (select (x / 2) (map (λ q. at ++ q) (below u))) refl
  where
    all : select x (map (λ q. at ++ q) (dom u)) ≡ (at ++ []) ∷ select (x / 2) (map (λ q. at ++ q) (below u))
    all = ap (λ d. select x (map (λ q. at ++ q) d)) (dom_below u) ∙ select_odd x (at ++ []) (map (λ q. at ++ q) (below u)) o

    go : (zs : List Pos) → select (x / 2) (map (λ q. at ++ q) (below u)) ≡ zs → x ≡ 1
    go [] e =
        let n = length-map (below u) (λ q. at ++ q) in
        let s = span_below u in
        let p = pow-succ' 2 (length (below u)) in
        let w : x < 2 * 2 ^ length (below u) = rw (← p, ← s) l in
        let z = select_none (x / 2) (map (λ q. at ++ q) (below u)) (rw n (omega (arith, w))) e in
        omega (arith, z, o)
    go (z ∷ zs) e =
        let i : z ∈ select (x / 2) (map (λ q. at ++ q) (below u)) = rw e (here refl) in
        on_map (λ q. at ++ q) (below u) (select_sub (x / 2) (map (λ q. at ++ q) (below u)) i) λ b j d.
        let k : (at ++ b) ∈ select (x / 2) (map (λ q. at ++ q) (below u)) = rw (← d) i in
        let n : b ≡ [] = h b (rw all (here refl)) (rw all (there k)) in
        absurd (below_cons u (rw (← n) j))

-- the field `apart` of Fine
pub lone_apart : (t : Term) (m r : ℕ) (o : Node t r) → Lone m t → m / 2 ^ r % 2 ≡ 1 → m / 2 ^ r % 2 ^ span o.under ≡ 1
lone_apart t m r o lone bit =
    let u = o.under in
    let s = span_below u in
    let p : 2 ^ span u ≡ 2 * 2 ^ length (below u) = ap (λ k. 2 ^ k) s ∙ pow-succ' 2 (length (below u)) in
    let q = split (m / 2 ^ r) (span u) in
    let e : m / 2 ^ r / 2 ^ span u * (2 * 2 ^ length (below u)) + m / 2 ^ r % 2 ^ span u ≡ m / 2 ^ r =
    ap (λ k. m / 2 ^ r / 2 ^ span u * k + m / 2 ^ r % 2 ^ span u) (sym p) ∙ q in
    let odd = parity (m / 2 ^ r) (m / 2 ^ r / 2 ^ span u) (2 ^ length (below u)) (m / 2 ^ r % 2 ^ span u) e ∙ bit in
    one_left o.at u (m / 2 ^ r % 2 ^ span u) (mod-lt (m / 2 ^ r) (pow_pos (span u))) odd
    (λ b i j. lone (o.at ++ []) b (up (o.at ++ []) i) (rw (append_assoc o.at [] b) (up (o.at ++ b) j)))
  where
    up : (y : Pos) → y ∈ select (m / 2 ^ r % 2 ^ span o.under) (map (λ q. o.at ++ q) (dom o.under)) → y ∈ select m (dom t)
    up y i =
        let n : length (map (λ q. o.at ++ q) (dom o.under)) ≡ span o.under =
        length-map (dom o.under) (λ q. o.at ++ q) ∙ length_dom o.under in
        let c : m / 2 ^ length o.left % 2 ^ length (map (λ q. o.at ++ q) (dom o.under)) ≡ m / 2 ^ r % 2 ^ span o.under =
        ap₂ (λ a b. m / 2 ^ a % 2 ^ b) o.count n in
        let w : y ∈ select (m / 2 ^ length o.left % 2 ^ length (map (λ q. o.at ++ q) (dom o.under))) (map (λ q. o.at ++ q) (dom o.under)) =
        rw c i in
        rw o.split (part o.left (map (λ q. o.at ++ q) (dom o.under)) o.right m w)
