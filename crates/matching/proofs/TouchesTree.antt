-- The nodes touched, by words, are those on which the shape's symbols fall in the tree.
--   Touches over_touches touches_over   exactly those on which a non-blank node falls
--   touches_at at_touches           the definition's are those
--   touched_touches touches_touched   and, where the shape matches, those by words
use Prim.Native.Nat.{ℕ, zero, suc, ◌+◌}
use mathlib.Core.Path.{◌≡◌, refl, ap, sym, ◌∙◌}
use mathlib.Core.List.{List, [], ◌∷◌, ◌++◌}
use mathlib.Core.Bool.{true, not}
use mathlib.Core.Option.{Option, none, some, map}
use mathlib.Core.Logic.{⊎_elim}
use native.Mathlib.Omega.{arith}
use native.Mathlib.Nat.{add-zero}
use Rattle.kinds.specs.Lists.{bind, is_nil, perhaps}
use Rattle.kinds.specs.Members.{◌∈◌, here, there}
use Rattle.kinds.specs.Positions.{Pos}
use Rattle.kinds.proofs.Bools.{false_true}
use Rattle.kinds.proofs.Options.{none_not, on_bind, on_map}
use Rattle.kinds.proofs.Members.{in_none, in_one, ∈_left, ∈_right, ∈_append, in_filter, filter_in, gather_in, on_gather}
use Rattle.term.specs.Terms.{Term, blank, node, Terms, tnil, tcons, span, flatten, sizes, Fits}
use Rattle.term.specs.Places.{nth, sub, skip, head_at, dom, number, Matches}
use Rattle.term.proofs.Numbers.{sub_number, number_append}
use Rattle.term.proofs.Subterms.{dom_in}
use Rattle.matching.specs.Falling.{on_symbols, touched}
use Rattle.matching.specs.Touching.{symbol_places, touched_at}
use Rattle.matching.proofs.LawsFalling.{touched_picked}
use Rattle.matching.proofs.Picked.{over, overs, picked_is}

-- a non-blank node q of a shape that stands at a position falls on node x
pub record Touches (ℓ t : Term) (p : Pos) (x : ℕ) : Type 0 where
  pub q : Pos
  pub f : ℕ
  pub symbol : head_at ℓ q ≡ some f
  pub falls : number t (p ++ q) ≡ some x

-- ---- by positions
none_over : (ts : Terms) (x : ℕ) → overs on_symbols ts tnil x ≡ []
none_over tnil x = refl
none_over (tcons t ts) x = refl

-- node y lies in child i, where the children begin at x
record Kid (ts us : Terms) (x y : ℕ) : Type 0 where
  i : ℕ
  a : Term
  b : Term
  k : ℕ
  shape : nth ts i ≡ some a
  score : nth us i ≡ some b
  under : Touches a b [] k
  sum : y ≡ x + skip us i + k

mutual
  over_touches : (ℓ u : Term) (x y : ℕ) → y ∈ over on_symbols ℓ u x → (k : ℕ) × Touches ℓ u [] k × (y ≡ x + k)
  over_touches (blank w) u x y m = in_none m
  over_touches (node f ts) u x y (here e) = (0, record { q = []; f = f; symbol = refl; falls = refl }, rw add-zero e)
  over_touches (node f ts) (blank w) x y (there m) = in_none (rw (none_over ts (x + 1)) at m)
  over_touches (node f ts) (node g us) x y (there m) =
      let h = overs_touches ts us (x + 1) y m in
      let z : suc (skip us h.i) + h.k ≡ suc (skip us h.i + h.k) = omega arith in (
        suc (skip us h.i + h.k),
        record {
          q = suc h.i ∷ h.under.q;
          f = h.under.f;
          symbol = rw h.shape h.under.symbol;
          falls = rw
              (h.score, h.under.falls, z);
        },
        omega (arith, h.sum),
      )

  overs_touches : (ts us : Terms) (x y : ℕ) → y ∈ overs on_symbols ts us x → Kid ts us x y
  overs_touches tnil us x y m = in_none m
  overs_touches (tcons t ts) tnil x y m = in_none m
  overs_touches (tcons t ts) (tcons u us) x y m = ⊎_elim
      (λ j. let h = over_touches t u x y j in record { i = 0; a = t; b = u; k = h.0; shape = refl; score = refl; under = h.1; sum = rw add-zero h.2 })
      (λ j. let h = overs_touches ts us (x + span u) y j in let z : x + span u + skip us h.i + h.k ≡ x + (span u + skip us h.i) + h.k = omega arith in
      record { i = suc h.i; a = h.a; b = h.b; k = h.k; shape = h.shape; score = h.score; under = h.under; sum = h.sum ∙ z })
      (∈_append (over on_symbols t u x) m)

overs_in : (ts us : Terms) (i : ℕ) (a b : Term) (x y : ℕ) → nth ts i ≡ some a → nth us i ≡ some b → y ∈ over on_symbols a b (x + skip us i) → y ∈ overs on_symbols ts us x
overs_in tnil us i a b x y ea eb m = none_not ea
overs_in (tcons t ts) tnil i a b x y ea eb m = none_not eb
overs_in (tcons t ts) (tcons u us) zero a b x y ea eb m =
    let za : a ≡ t = cc in
    let zb : b ≡ u = cc in
    ∈_left (overs on_symbols ts us (x + span u)) (rw (za, zb, add-zero) at m)
overs_in (tcons t ts) (tcons u us) (suc i) a b x y ea eb m =
    let z : x + (span u + skip us i) ≡ x + span u + skip us i = omega arith in
    ∈_right (over on_symbols t u x) (overs_in ts us i a b (x + span u) y ea eb (rw z at m))

touches_over : (q : Pos) (ℓ u : Term) (x k f : ℕ) → head_at ℓ q ≡ some f → number u q ≡ some k → (x + k) ∈ over on_symbols ℓ u x
touches_over [] (blank w) u x k f e n = none_not e
touches_over [] (node g ts) u x k f e n = let z : 0 ≡ k = cc in rw (← z, add-zero) (here refl)
touches_over (i ∷ q) (blank w) u x k f e n = none_not e
touches_over (zero ∷ q) (node g ts) u x k f e n = none_not e
touches_over (suc i ∷ q) (node g ts) (blank w) x k f e n = none_not n
touches_over (suc i ∷ q) (node g ts) (node h us) x k f e n =
    on_bind (bind (nth ts i) (λ v. sub v q)) _ e λ v ev d.
    on_bind (nth ts i) _ ev λ a ea da.
    on_bind (nth us i) _ n λ b eb db.
    on_map (number b q) _ db λ j ej dj.
    let m = touches_over q a b (x + 1 + skip us i) j f (rw da d) ej in
    let z : x + 1 + skip us i + j ≡ x + k = omega arith in
    there (overs_in ts us i a b (x + 1) (x + k) ea eb (rw z at m))

-- ---- as the definition has them
in_perhaps : (o : Option ℕ) {y : ℕ} → y ∈ perhaps o → o ≡ some y
in_perhaps none m = in_none m
in_perhaps (some z) m = ap some (sym (in_one m))

not_nil : (o : Option ℕ) → not (is_nil (perhaps o)) ≡ true → (f : ℕ) × (o ≡ some f)
not_nil none e = false_true e
not_nil (some f) e = (f, refl)

module _ (ℓ t : Term) (p : Pos) (y : ℕ) where
  pub touches_at : Touches ℓ t p y → y ∈ touched_at ℓ t p
  touches_at h =
      on_bind (sub ℓ h.q) _ h.symbol λ u e d.
      gather_in (λ q. perhaps (number t (p ++ q)))
      (filter_in (λ q. not (is_nil (perhaps (head_at ℓ q)))) (dom_in h.q ℓ e) (rw h.symbol refl)) (rw h.falls (here refl))

  pub at_touches : y ∈ touched_at ℓ t p → Touches ℓ t p y
  at_touches i =
      on_gather (λ q. perhaps (number t (p ++ q))) (symbol_places ℓ) i λ q j k.
      let s = not_nil (head_at ℓ q) (in_filter (λ q. not (is_nil (perhaps (head_at ℓ q)))) (dom ℓ) j).1 in
      record { q = q; f = s.0; symbol = s.1; falls = in_perhaps (number t (p ++ q)) k }

-- ---- where the shape matches
module _ (ar : List ℕ) (bl sb : ℕ) (ℓ t : Term) (fits : Fits ar bl ℓ) (good : Fits ar sb t) (p : Pos) (x : ℕ) (n : number t p ≡ some x)
    (m : Matches ℓ t p) where
  pub touched_touches : (y : ℕ) → y ∈ touched bl (sizes t) (flatten ℓ) x → Touches ℓ t p y
  touched_touches y i =
      let s = sub_number p t x n in
      let h = over_touches ℓ s.0 x y (rw (touched_picked bl (sizes t) (flatten ℓ) x ∙ picked_is on_symbols ar bl sb ℓ t fits good p x n m s.0 s.1) at i) in
      record {
        q = h.1.q;
        f = h.1.f;
        symbol = h.1.symbol;
        falls = number_append p h.1.q t s.0 x s.1 n
            ∙ ap (map (λ k. x + k)) h.1.falls ∙ ap some (sym h.2);
      }

  pub touches_touched : (y : ℕ) → Touches ℓ t p y → y ∈ touched bl (sizes t) (flatten ℓ) x
  touches_touched y h =
      let s = sub_number p t x n in
      on_map (number s.0 h.q) _ (sym (number_append p h.q t s.0 x s.1 n) ∙ h.falls) λ k ek d.
      rw (touched_picked bl (sizes t) (flatten ℓ) x ∙ picked_is on_symbols ar bl sb ℓ t fits good p x n m s.0 s.1, ← d) (touches_over h.q ℓ s.0 x k h.f h.symbol ek)
