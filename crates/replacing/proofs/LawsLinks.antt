-- Whether a replacement is one tree, and whether a node is finished: the loops.
--   Wanting want_begin want_next want_none want_many want_unknown want_end   words wanted, from word i on
--   finished_any                         whether a node is finished
use Prim.Native.Nat.{ℕ, zero, suc, ◌+◌, ◌-◌, ◌<◌, ◌≤◌}
use mathlib.Core.Path.{◌≡◌, refl, ap, sym, ◌∙◌}
use mathlib.Core.List.{List, [], ◌∷◌}
use mathlib.Core.Bool.{true, false, ◌&&◌, ◌||◌}
use native.Mathlib.Omega.{arith}
use native.Mathlib.Numerals.{add-one}
use borrow.Author.Tests.{ne_eqb}
use lib.Dec.{eqb}
use lib.ListN.{length, get_or, drop, drop_of_length-le, length-drop}
use lib.Seq.{drop-cons}
use Rattle.std.specs.List.{list_any, range_with_len}
use Rattle.kinds.specs.Lists.{any, range}
use Rattle.kinds.proofs.Bools.{and_false}
use Rattle.replacing.specs.Putting.{is_known, trees_in, bears, finished_at}

-- more are wanted than words are there
trees_many : (ar : List ℕ) (n k : ℕ) (ws : List ℕ) → length ws < k → trees_in ar n k ws ≡ false
unfolding trees_in
trees_many ar n zero [] h = absurd (omega arith)
trees_many ar n (suc k) [] h = ne_eqb (suc k) 0 (λ e. omega arith)
trees_many ar n zero (w ∷ ws) h = refl
trees_many ar n (suc k) (w ∷ ws) h = and_false (is_known ar n w) (trees_many ar n (k + get_or ar w 0) ws (omega arith))

pub record Wanting (ar : List ℕ) (n : ℕ) (link : List ℕ) (k i : ℕ) : Type 0 where
  pub whole : trees_in ar n 1 link ≡ trees_in ar n k (drop i link)

pub want_begin : (ar : List ℕ) (n : ℕ) (link : List ℕ) → Wanting ar n link 1 0
want_begin ar n link = record { whole = refl }

module _ {ar : List ℕ} {n : ℕ} {link : List ℕ} {k i : ℕ} (h : Wanting ar n link k i) where
  module _ (l : i < length link) where
    next_word : drop i link ≡ get_or link i 0 ∷ drop (i + 1) link
    next_word = rw (add-one i) (drop-cons link i 0 l)

    pub want_none : k ≡ 0 → false ≡ trees_in ar n 1 link
    unfolding trees_in
    want_none e = sym (h.whole ∙ rw (e, next_word))

    pub want_many : length link - i < k → false ≡ trees_in ar n 1 link
    want_many g = sym (h.whole ∙ trees_many ar n k (drop i link) (omega (arith, length-drop i link)))

    more : (k ≡ 0 → ⊥) → trees_in ar n 1 link ≡ (is_known ar n (get_or link i 0) && trees_in ar n (k - 1 + get_or ar (get_or link i 0) 0) (drop (i + 1) link))
    unfolding trees_in
    more e = let z : k ≡ suc (k - 1) = omega arith in h.whole ∙ rw next_word (ap (λ m. trees_in ar n m (get_or link i 0 ∷ drop (i + 1) link)) z)

    pub want_unknown : (k ≡ 0 → ⊥) → is_known ar n (get_or link i 0) ≡ false → false ≡ trees_in ar n 1 link
    want_unknown e g = sym (more e ∙ rw g)

    pub want_next : {c : ℕ} → (k ≡ 0 → ⊥) → is_known ar n (get_or link i 0) ≡ true → c ≡ get_or ar (get_or link i 0) 0 → Wanting ar n link (k - 1 + c) (i + 1)
    want_next {c} e g d = record { whole = more e ∙ rw (g, d) }

  pub want_end : length link ≤ i → eqb k 0 ≡ trees_in ar n 1 link
  unfolding trees_in
  want_end l = sym (h.whole ∙ rw (drop_of_length-le link l))

-- ---- the nodes up to one
pub finished_any : (score spans : List ℕ) (x f : ℕ) → list_any (bears score spans x f) (range_with_len 0 (x + 1)) ≡ finished_at score spans x f
unfolding finished_at
finished_any score spans x f = ap (λ n. list_any (bears score spans x f) (range_with_len 0 n)) (add-one x) ∙ same 0 (suc x)
  where
    same : (y n : ℕ) → list_any (bears score spans x f) (range_with_len y n) ≡ any (bears score spans x f) (range y n)
    same y zero = refl
    same y (suc n) = ap (λ b. bears score spans x f y || b) (ap (λ z. list_any (bears score spans x f) (range_with_len z n)) (add-one y) ∙ same (suc y) n)
