-- The paper's match against a test that computes: document 000, section 2.
--   agrees_at   a shape against what stands somewhere, node by node
--   matches_is matches_of_lem  a shape matches at a position exactly if it agrees with what stands there
use mathlib.Core.Path.{◌≡◌, refl}
use mathlib.Core.List.{List, [], ◌∷◌}
use mathlib.Core.Bool.{Bool, true, false, ◌&&◌, false≢true}
use mathlib.Core.Option.{Option, none, some, none-ne-some}
use Prim.Native.Nat.{ℕ, zero, suc}
use lib.Dec.{eqb}
use Rattle.kinds.specs.Lists.{bind}
use Rattle.kinds.proofs.Bools.{and_l, and_r, both, eqb_is, is_eqb}
use Rattle.term.specs.Terms.{Term, blank, node, Terms, tnil, tcons}
use Rattle.term.specs.Places.{nth, sub, hd, Matches}
use Rattle.term.proofs.Subterms.{sub_append}

abbrev mutual
  pub agrees_at : Term → Option Term → Bool
  agrees_at (blank w) o = true
  agrees_at (node f ts) none = false
  agrees_at (node f ts) (some (blank w)) = false
  agrees_at (node f ts) (some (node g us)) = eqb f g && agree_at ts us

  pub agree_at : Terms → Terms → Bool
  agree_at tnil us = true
  agree_at (tcons t ts) tnil = agrees_at t none && agree_at ts tnil
  agree_at (tcons t ts) (tcons u us) = agrees_at t (some u) && agree_at ts us

-- the symbol at q under what may be a term
abbrev pub sym_at : Option Term → List ℕ → Option ℕ
sym_at o q = bind (bind o (λ u. sub u q)) hd

abbrev pub Agrees : Term → Option Term → Type 0
Agrees ℓ o = (q : List ℕ) (f : ℕ) → sym_at (some ℓ) q ≡ some f → sym_at o q ≡ some f

mutual
  sound : (ℓ : Term) (o : Option Term) → agrees_at ℓ o ≡ true → Agrees ℓ o
  sound (blank w) o h [] f e = absurd (none-ne-some _ e)
  sound (blank w) o h (i ∷ q) f e = absurd (none-ne-some _ e)
  sound (node g ts) none h q f e = absurd (false≢true h)
  sound (node g ts) (some (blank w)) h q f e = absurd (false≢true h)
  sound (node g ts) (some (node k us)) h [] f e = let x : g ≡ k = eqb_is g k (and_l _ h) in rw (← x) e
  sound (node g ts) (some (node k us)) h (zero ∷ q) f e = absurd (none-ne-some _ e)
  sound (node g ts) (some (node k us)) h (suc i ∷ q) f e = sounds ts us (and_r (eqb g k) h) i q f e

  sounds : (ts us : Terms) → agree_at ts us ≡ true → (n : ℕ) (q : List ℕ) (f : ℕ) → sym_at (nth ts n) q ≡ some f → sym_at (nth us n) q ≡ some f
  sounds tnil us h n q f e = absurd (none-ne-some _ e)
  sounds (tcons t ts) tnil h zero q f e = sound t none (and_l _ h) q f e
  sounds (tcons t ts) tnil h (suc n) q f e = sounds ts tnil (and_r (agrees_at t none) h) n q f e
  sounds (tcons t ts) (tcons u us) h zero q f e = sound t (some u) (and_l _ h) q f e
  sounds (tcons t ts) (tcons u us) h (suc n) q f e = sounds ts us (and_r (agrees_at t (some u)) h) n q f e

mutual
  complete : (ℓ : Term) (o : Option Term) → Agrees ℓ o → agrees_at ℓ o ≡ true
  complete (blank w) o h = refl
  complete (node g ts) none h = absurd (none-ne-some _ (h [] g refl))
  complete (node g ts) (some (blank w)) h = absurd (none-ne-some _ (h [] g refl))
  complete (node g ts) (some (node k us)) h =
      let e : some k ≡ some g = h [] g refl in
      let e' : k ≡ g = cc in
      both {a = eqb g k} (rw e' (is_eqb g g refl)) (completes ts us (λ n q f. h (suc n ∷ q) f))

  completes : (ts us : Terms) → ((n : ℕ) (q : List ℕ) (f : ℕ) → sym_at (nth ts n) q ≡ some f → sym_at (nth us n) q ≡ some f) → agree_at ts us ≡ true
  completes tnil us h = refl
  completes (tcons t ts) tnil h = both (complete t none (h zero)) (completes ts tnil (λ n. h (suc n)))
  completes (tcons t ts) (tcons u us) h = both (complete t (some u) (h zero)) (completes ts us (λ n. h (suc n)))

pub matches_of_lem : (ℓ t : Term) (p : List ℕ) → agrees_at ℓ (sub t p) ≡ true → Matches ℓ t p
matches_of_lem ℓ t p h q f e = rw (sub_append p q t) (sound ℓ (sub t p) h q f e)

pub matches_is : (ℓ t : Term) (p : List ℕ) → Matches ℓ t p → agrees_at ℓ (sub t p) ≡ true
matches_is ℓ t p m = complete ℓ (sub t p) (λ q f e. rw (sub_append p q t) at (m q f e))
