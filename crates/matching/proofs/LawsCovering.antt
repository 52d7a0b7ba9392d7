-- Keeping the nodes that a shape's blanks cover.
--   keep_symbol keep_blank   one word
--   Covering covering_begin covering_room covering_next covering_end covering_count   word after word: those kept, and those of the words that are left
use Prim.Native.Nat.{ℕ, zero, suc, ◌+◌, ◌<◌, ◌≤◌}
use mathlib.Core.Path.{◌≡◌, refl, ap, sym, ◌∙◌}
use mathlib.Core.List.{List, [], ◌∷◌, ◌++◌, append_assoc, append-nil}
use native.Mathlib.Omega.{arith}
use native.Mathlib.Numerals.{add-one}
use lib.Dec.{ltb}
use lib.ListN.{length, take, set}
use lib.Seq.{length-take-le}
use Rattle.matching.specs.Falling.{on_blanks, covered}
use Rattle.matching.specs.Laying.{laid}
use Rattle.matching.proofs.LawsFalling.{pick_symbol, pick_blank}
use Rattle.matching.proofs.LawsLaying.{laid_length, picked_laid}
use Rattle.kinds.specs.Lists.{gather}

take_one_more : (l : List ℕ) (n x : ℕ) → n < length l → take (suc n) (set l n x) ≡ take n l ++ (x ∷ [])
take_one_more [] n x h = absurd (omega arith)
take_one_more (y ∷ l) zero x h = refl
take_one_more (y ∷ l) (suc n) x h = ap (λ k. y ∷ k) (take_one_more l n x (omega arith))

module _ (bl w x n : ℕ) (nodes : List ℕ) where
  pub keep_symbol : w < bl → take n nodes ≡ take n nodes ++ on_blanks (ltb w bl) x
  keep_symbol h = rw (pick_symbol bl w x on_blanks h) (sym (append-nil (take n nodes)))

  pub keep_blank : bl ≤ w → n < length nodes → take (n + 1) (set nodes n x) ≡ take n nodes ++ on_blanks (ltb w bl) x
  keep_blank h g = rw (pick_blank bl w x on_blanks h, add-one n) (take_one_more nodes n x g)

-- the nodes of the blanks among words that are left
abbrev pub kept : ℕ → List (ℕ × ℕ) → List ℕ
kept bl l = gather (λ p. on_blanks (ltb p.0 bl) p.1) l

-- the first n nodes are kept, and those of the words that are left make it all
pub record Covering (bl most : ℕ) (all : List ℕ) (l : List (ℕ × ℕ)) (nodes : List ℕ) (n : ℕ) : Type 0 where
  pub whole : all ≡ take n nodes ++ kept bl l
  pub few : n + length l ≤ most

pub covering_begin : (bl : ℕ) (spans shape : List ℕ) (x : ℕ) (nodes : List ℕ) {l : List (ℕ × ℕ)} → l ≡ laid bl spans shape x
    → Covering bl (length shape) (covered bl spans shape x) l nodes 0
covering_begin bl spans shape x nodes e = record {
  whole = sym (ap (kept bl) e ∙ picked_laid bl spans on_blanks shape x);
  few = omega (arith, ap length e, laid_length bl spans shape x);
}

module _ {bl most : ℕ} {all : List ℕ} {l : List (ℕ × ℕ)} {nodes : List ℕ} {n : ℕ} (h : Covering bl most all l nodes n) where
  module _ {w x : ℕ} {r : List (ℕ × ℕ)} (e : l ≡ (w, x) ∷ r) where
    pub covering_room : n < most
    covering_room = omega (arith, h.few, ap length e)

    pub covering_next : {now : List ℕ} {m : ℕ} → take m now ≡ take n nodes ++ on_blanks (ltb w bl) x → m ≤ n + 1 → Covering bl most all r now m
    covering_next {now} {m} d f = record {
      whole =
          h.whole ∙ ap (λ k. take n nodes ++ kept bl k) e
          ∙ sym (append_assoc (take n nodes) (on_blanks (ltb w bl) x) (kept bl r)) ∙ ap (λ k. k ++ kept bl r) (sym d);
      few = omega (arith, f, h.few, ap length e);
    }

  module _ (e : l ≡ []) where
    pub covering_end : take n nodes ≡ all
    covering_end = sym (h.whole ∙ ap (λ k. take n nodes ++ kept bl k) e ∙ append-nil (take n nodes))

    pub covering_count : most ≤ length nodes → n ≡ length all
    covering_count room = sym (length-take-le n nodes (omega (arith, h.few, room))) ∙ ap length covering_end
