-- Marks that hold exactly the matches.
--   found_take     the first marks of a longer list hold of their nodes what it holds
--   exact_same     there is one list of such marks
--   exact_bit exact_shape   the first marks of a longer list, bit by bit
--   exact_right    by whatever tells which shape matches where, they are right
use mathlib.Core.Path.{◌≡◌, ap, sym, ◌∙◌, subst}
use mathlib.Core.Bool.{Bool}
use mathlib.Core.List.{List}
use mathlib.Core.Logic.{◌↔◌}
use mathlib.Core.Option.{some}
use Prim.Native.Nat.{ℕ, ◌<◌}
use native.Mathlib.Omega.{arith}
use lib.Dec.{eqb}
use lib.ListN.{get_or, get_elem?, take}
use lib.Seq.{ext_get_or, get_or-take}
use Rattle.kinds.specs.Bits.{bit}
use Rattle.kinds.specs.Positions.{Pos}
use Rattle.kinds.proofs.BitLaws.{bits_same}
use Rattle.kinds.proofs.Bools.{bool_ext, eqb_is, is_eqb, not_true}
use Rattle.kinds.proofs.Places.{at_below}
use Rattle.term.specs.Terms.{Term, span}
use Rattle.term.specs.Places.{Matches, number}
use Rattle.term.proofs.Numbers.{number_place, number_below}
use Rattle.counting.specs.Counting.{Match, match_at, found}
use Rattle.clashing.specs.Strays.{IsMatch}
use Rattle.promises.specs.Exact.{Exact}
use Rattle.promises.specs.Demand2.{Says}
use Rattle.promises.proofs.Reported.{Right}

pub found_take : (n : ℕ) (ms : List ℕ) (m : Match) → m.node < n → found (take n ms) m ≡ found ms m
found_take n ms m h = ap (λ k. eqb (bit k m.shape) 1) (get_or-take n ms m.node 0 h)

module _ {shapes : List Term} {t : Term} where
  pub exact_same : {ms ns : List ℕ} → Exact shapes t ms → Exact shapes t ns → ms ≡ ns
  exact_same {ms} {ns} a b = ext_get_or 0 ms ns (a.long ∙ sym b.long) λ x h.
      let l : x < span t = omega (arith, a.long) in
      bits_same (get_or ms x 0) (get_or ns x 0) (λ j. (over a b x j l, over b a x j l))
    where
      over : {xs ys : List ℕ} → Exact shapes t xs → Exact shapes t ys → (x j : ℕ) → x < span t → bit (get_or xs x 0) j ≡ 1 → bit (get_or ys x 0) j ≡ 1
      over {xs} {ys} c d x j l e =
          eqb_is (bit (get_or ys x 0) j) 1 ((d.exactly (match_at x j) l).1 ((c.exactly (match_at x j) l).0 (is_eqb (bit (get_or xs x 0) j) 1 e)))

  -- the shape and the position of a match, where its numbers are known
  is_there : {j n : ℕ} {ℓ : Term} (p : Pos) → get_elem? shapes j ≡ some ℓ → number t p ≡ some n → IsMatch shapes t (match_at n j) → Matches ℓ t p
  is_there {j} {n} {ℓ} p g e m =
      let shapes_are : some m.shape ≡ some ℓ = sym m.has_shape ∙ g in
      let places-are : some m.place ≡ some p = sym (number_place m.place t n m.has_node) ∙ number_place p t n e in
      let same : m.shape ≡ ℓ = cc in
      let here : m.place ≡ p = cc in
      subst (λ q. Matches ℓ t q) here (subst (λ k. Matches k t m.place) same m.matches)

  module _ (ms : List ℕ) (a : Exact shapes t (take (span t) ms)) where
    pub exact_bit : (j : ℕ) (ℓ : Term) → get_elem? shapes j ≡ some ℓ → (n : ℕ) (p : Pos) → number t p ≡ some n → (bit (get_or ms n 0) j ≡ 1) ↔ Matches ℓ t p
    exact_bit j ℓ g n p e =
        let h = number_below p t n e in
        let first = found_take (span t) ms (match_at n j) h in
        let x = a.exactly (match_at n j) h in (
          λ b. is_there p g e (x.0 (first ∙ is_eqb (bit (get_or ms n 0) j) 1 b)),
          λ m. eqb_is (bit (get_or ms n 0) j) 1
              (sym first ∙ x.1 (record { shape = ℓ; place = p; has_shape = g; has_node = e; matches = m })),
        )

    pub exact_shape : (j n : ℕ) → n < span t → bit (get_or ms n 0) j ≡ 1 → (ℓ : Term) × (get_elem? shapes j ≡ some ℓ)
    exact_shape j n h b =
        let m = (a.exactly (match_at n j) h).0 (found_take (span t) ms (match_at n j) h ∙ is_eqb (bit (get_or ms n 0) j) 1 b) in
        (m.shape, m.has_shape)

  pub exact_right : (test : Term → Pos → Bool) → Says test t → {ms : List ℕ} → Exact shapes t ms → Right test shapes t ms
  exact_right test says {ms} a = record {
    long = a.long;
    exactly = λ j ℓ g n p e.
        let x = a.exactly (match_at n j) (number_below p t n e) in
        bool_ext (found ms (match_at n j)) (test ℓ p) (λ b. (says ℓ p).1 (is_there p g e (x.0 b)))
        (λ b. x.1 (record { shape = ℓ; place = p; has_shape = g; has_node = e; matches = (says ℓ p).0 b }));
    no_other = λ j n h l. not_true (found ms (match_at n j)) (λ b. omega (arith, at_below shapes j ((a.exactly (match_at n j) h).0 b).has_shape));
  }
