-- A node is finished by words exactly if it or one above it bears the symbol in the tree.
--   finished_is is_finished
use Prim.Native.Nat.{ℕ, suc, ◌+◌, ◌-◌, ◌≤◌}
use mathlib.Core.Path.{◌≡◌, ap, sym, ◌∙◌}
use mathlib.Core.List.{◌++◌}
use mathlib.Core.Bool.{true}
use mathlib.Core.Option.{some, map}
use native.Mathlib.Omega.{arith}
use lib.Dec.{eqb}
use lib.ListN.{get_or}
use Rattle.kinds.specs.Lists.{bind, range}
use Rattle.kinds.specs.Positions.{Pos}
use Rattle.kinds.proofs.Bools.{and_l, and_r, both, eqb_is, is_eqb, ltb_is, is_ltb}
use Rattle.kinds.proofs.Members.{on_any, any_of, range_in, in_range}
use Rattle.kinds.proofs.Options.{none_not, on_bind, on_map}
use Rattle.kinds.proofs.Places.{get_d_at}
use Rattle.term.specs.Terms.{Term, blank, node, Terms, flatten, sizes, Whole}
use Rattle.term.specs.Places.{sub, hd, number}
use Rattle.term.proofs.Numbers.{sub_number, number_sub, number_place, number_below, node_at_lem, number_append}
use Rattle.term.proofs.Subterms.{whole_at}
use Rattle.following.proofs.FollowTree.{word_at_lem, span_at_lem}
use Rattle.replacing.specs.Links.{Finished}
use Rattle.replacing.specs.Putting.{bears, finished_at}

module _ (t : Term) (whole : Whole t) (p : Pos) (x f : ℕ) (n : number t p ≡ some x) where
  -- node y bears the symbol, and x is it or under it
  bears_above : (y : ℕ) → y ≤ x → bears (flatten t) (sizes t) x f y ≡ true → Finished t p f
  unfolding bears
  bears_above y l e =
      let q = node_at_lem t y (omega (arith, number_below p t x n)) in
      let u = sub_number q.0 t y q.1 in
      let w = whole_at t whole q.0 u.0 u.1 in
      let g = word_at_lem t q.0 w.0 w.1 y (u.1 ∙ ap some w.2) q.1 in
      let s = span_at_lem t q.0 u.0 y u.1 q.1 in
      let b = ltb_is x (y + get_or (sizes t) y 0) (and_r (eqb (get_or (flatten t) y 0) f) e) in
      let r = node_at_lem u.0 (x - y) (omega (arith, b, s)) in
      let z : y + (x - y) ≡ x = omega arith in
      let a : number t (q.0 ++ r.0) ≡ some x = number_append q.0 r.0 t u.0 y u.1 q.1 ∙ ap (map (λ k. y + k)) r.1 ∙ ap some z in
      let c = sym (number_place p t x n) ∙ number_place (q.0 ++ r.0) t x a in
      let same : p ≡ q.0 ++ r.0 = cc in
      record {
        above = q.0;
        under = r.0;
        is = same;
        bears = ap (λ o. bind o hd) (u.1 ∙ ap some w.2) ∙ ap some (sym (get_d_at (flatten t) y 0 g) ∙ eqb_is (get_or (flatten t) y 0) f (and_l _ e));
      }

  pub finished_is : finished_at (flatten t) (sizes t) x f ≡ true → Finished t p f
  unfolding finished_at
  finished_is e =
      on_any (bears (flatten t) (sizes t) x f) (range 0 (suc x)) e λ y i b. bears_above y (let h = in_range (suc x) 0 y i in omega arith) b

  head_is : (v : Term) → hd v ≡ some f → (ts : Terms) × (v ≡ node f ts)
  head_is (blank w) e = none_not e
  head_is (node g ts) e = let z : g ≡ f = cc in (ts, ap (λ h. node h ts) z)

  pub is_finished : Finished t p f → finished_at (flatten t) (sizes t) x f ≡ true
  unfolding finished_at bears
  is_finished h =
      on_bind (sub t h.above) hd h.bears λ v ev d.
      let k = number_sub h.above t v ev in
      on_map (number v h.under) _ (sym (number_append h.above h.under t v k.0 ev k.1) ∙ ap (number t) (sym h.is) ∙ n) λ m em s.
      let below = number_below h.under v m em in
      let w = head_is v d in
      let g = get_d_at (flatten t) k.0 0 (word_at_lem t h.above f w.0 k.0 (ev ∙ ap some w.1) k.1) in
      any_of (bears (flatten t) (sizes t) x f) (range_in (suc x) 0 k.0 (omega arith) (omega arith))
      (both (is_eqb (get_or (flatten t) k.0 0) f g) (is_ltb x (k.0 + get_or (sizes t) k.0 0) (omega (
        arith,
        s,
        below,
        span_at_lem t h.above v k.0 ev k.1,
      ))))
