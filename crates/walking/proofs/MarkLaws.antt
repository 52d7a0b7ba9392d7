-- Marks after announcements: what is announced is set, and nothing else changes.
--   Marked          a bit of the mark at a node is set
--   marked_length   the marks keep their number
--   marked_is       a bit is set then if it was, or was announced
use mathlib.Core.Path.{◌≡◌, refl, sym, ◌∙◌}
use mathlib.Core.List.{List, [], ◌∷◌}
use mathlib.Core.Logic.{◌⊎◌, inl, inr, ⊎_elim, ◌↔◌}
use Prim.Native.Nat.{ℕ, ◌<◌}
use native.Mathlib.Decide.{ℕ_discrete}
use lib.ListN.{length, get_or, length-set}
use lib.Seq.{get_or-set_same, get_or-set_other}
use Rattle.kinds.specs.Bits.{bit, with_bit}
use Rattle.kinds.proofs.BitLaws.{bit_same, bit_other}
use Rattle.kinds.specs.Members.{◌∈◌, here, there}
use Rattle.queue.specs.Targets.{put, marked}

-- a bit and a node
abbrev pub Marked : List ℕ → ℕ × ℕ → Type 0
Marked ms x = bit (get_or ms x.1 0) x.0 ≡ 1

module _ (ms : List ℕ) (x : ℕ × ℕ) (h : x.1 < length ms) where
  put_new : Marked (put x ms) x
  put_new = rw (get_or-set_same ms x.1 (with_bit (get_or ms x.1 0) x.0) 0 h) (bit_same (get_or ms x.1 0) x.0)

  put_node : (y : ℕ × ℕ) → (y.1 ≡ x.1 → ⊥) → bit (get_or (put x ms) y.1 0) y.0 ≡ bit (get_or ms y.1 0) y.0
  put_node y n = rw (get_or-set_other ms x.1 y.1 (with_bit (get_or ms x.1 0) x.0) 0 n)

  put_bit : (y : ℕ × ℕ) → y.1 ≡ x.1 → (y.0 ≡ x.0 → ⊥) → bit (get_or (put x ms) y.1 0) y.0 ≡ bit (get_or ms y.1 0) y.0
  put_bit y e n = rw (e, get_or-set_same ms x.1 (with_bit (get_or ms x.1 0) x.0) 0 h) (bit_other (get_or ms x.1 0) x.0 y.0 n)

  put_cases : (y : ℕ × ℕ) → (y ≡ x) ⊎ (bit (get_or (put x ms) y.1 0) y.0 ≡ bit (get_or ms y.1 0) y.0)
  put_cases y = go (ℕ_discrete y.1 x.1) (ℕ_discrete y.0 x.0)
    where
      go : Dec (y.1 ≡ x.1) → Dec (y.0 ≡ x.0) → (y ≡ x) ⊎ (bit (get_or (put x ms) y.1 0) y.0 ≡ bit (get_or ms y.1 0) y.0)
      go (no n) d = inr (put_node y n)
      go (yes e) (no n) = inr (put_bit y e n)
      go (yes e) (yes d) = inl (λ i. (d i, e i))

pub marked_length : (xs : List (ℕ × ℕ)) (ms : List ℕ) → length (marked xs ms) ≡ length ms
unfolding marked
marked_length [] ms = refl
marked_length (x ∷ xs) ms = marked_length xs (put x ms) ∙ length-set ms x.1 (with_bit (get_or ms x.1 0) x.0)

pub marked_is : (xs : List (ℕ × ℕ)) (ms : List ℕ) → ((x : ℕ × ℕ) → x ∈ xs → x.1 < length ms) → (y : ℕ × ℕ)
    → Marked (marked xs ms) y ↔ (Marked ms y ⊎ (y ∈ xs))
unfolding marked
marked_is [] ms h y = (λ m. inl m, λ c. ⊎_elim (λ m. m) (λ m. elim m [ ]) c)
marked_is (x ∷ xs) ms h y = both_ways
    (marked_is xs (put x ms) (λ z m. rw (length-set ms x.1 (with_bit (get_or ms x.1 0) x.0)) (h z (there m))) y)
    (put_cases ms x (h x (here refl)) y)
  where
    both_ways : Marked (marked xs (put x ms)) y ↔ (Marked (put x ms) y ⊎ (y ∈ xs)) → (y ≡ x)
        ⊎ (bit (get_or (put x ms) y.1 0) y.0 ≡ bit (get_or ms y.1 0) y.0)
        → Marked (marked xs (put x ms)) y ↔ (Marked ms y ⊎ (y ∈ (x ∷ xs)))
    both_ways ih (inl e) = (λ m. inr (here e), λ c. ih.1 (inl (rw e (put_new ms x (h x (here refl))))))
    both_ways ih (inr e) = (
      λ m. ⊎_elim (λ (a : Marked (put x ms) y). inl (sym e ∙ a)) (λ i. inr (there i)) (ih.0 m),
      λ c. ih.1
          (⊎_elim (λ (a : Marked ms y). inl (e ∙ a)) rest c),
    )
      where
        rest : y ∈ (x ∷ xs) → Marked (put x ms) y ⊎ (y ∈ xs)
        rest (here d) = inl (rw d (put_new ms x (h x (here refl))))
        rest (there m) = inr m
