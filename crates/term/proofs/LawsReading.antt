-- Reading a term, way by way, and where it ends.
--   children_blank children_none children_symbol   how many children a word has
--   head_out head_bad head_many head_kids head_in  the tests at a node
--   reading_bad reading_deep reading_into          a node that fails, one too deep, one whose children are read
--   kids_stop kids_next kids_done                  what is left after k of n children
--   on_next on_enter never_whole never_kids                   what a whole reading is made of
--   Within whole_in                                a whole term ends behind its start, within the words and the limit
--   refused_in                                     a fault is at a word, or right behind the last
use Rattle.std.specs.Prelude.{Err, Ok, Result}
use Prim.Native.Nat.{ℕ, zero, suc, ◌+◌, ◌-◌, ◌<◌, ◌≤◌}
use mathlib.Core.Path.{◌≡◌, refl, ap, sym, ◌∙◌}
use mathlib.Core.List.{List}
use mathlib.Core.Bool.{Bool, true, false, cond}
use native.Mathlib.Omega.{arith}
use native.Mathlib.Nat.{sub-zero}
use native.Mathlib.Numerals.{sub-one}
use borrow.Author.Tests.{lt-ltb, le-ltb, le-leb, lt-leb, ltb-true}
use lib.Dec.{ltb}
use lib.ListN.{length, get_or}
use Rattle.term.specs.Reading.{children_of, below, head_of, met, alone, after, enter, next, kids_of, reading}
use Rattle.term.specs.declared.Limits.{Limits}
use Rattle.term.specs.declared.Met.{Met}
use Rattle.term.specs.declared.Fault.{Fault}
use Rattle.term.specs.declared.Fault.TheVariants.{Ends, NoSymbol, Many, Deep}

module _ (ar : List ℕ) (blanks w : ℕ) where
  pub children_blank : blanks ≤ w → children_of ar blanks w ≡ Ok 0
  unfolding children_of
  children_blank h = simp (le-leb _ _ h)

  pub children_none : w < blanks → length ar ≤ w → children_of ar blanks w ≡ Err NoSymbol
  unfolding children_of
  children_none h g = simp (lt-leb _ _ h, le-ltb _ _ g)

  pub children_symbol : w < blanks → w < length ar → children_of ar blanks w ≡ Ok (get_or ar w 0)
  unfolding children_of
  children_symbol h g = simp (lt-leb _ _ h, lt-ltb _ _ g)

module _ (ar ws : List ℕ) (l : Limits) (at : ℕ) where
  pub head_out : length ws ≤ at → head_of ar ws l at ≡ Err Ends
  unfolding head_of
  head_out h = rw (le-ltb _ _ h)

  pub head_bad : {f : Fault} → at < length ws → children_of ar l.blanks (get_or ws at 0) ≡ Err f → head_of ar ws l at ≡ Err f
  unfolding head_of
  head_bad h e = rw (lt-ltb _ _ h, e)

  pub head_many : {n : ℕ} → at < length ws → children_of ar l.blanks (get_or ws at 0) ≡ Ok n → l.stop ≤ at → head_of ar ws l at ≡ Err Many
  unfolding head_of
  head_many h e g = rw (lt-ltb _ _ h, e, le-ltb _ _ g)

  pub head_kids : {n : ℕ} → at < length ws → children_of ar l.blanks (get_or ws at 0) ≡ Ok n → at < l.stop → head_of ar ws l at ≡ Ok n
  unfolding head_of
  head_kids h e g = rw (lt-ltb _ _ h, e, lt-ltb _ _ g)

  pub reading_bad : (d : ℕ) {f : Fault} → head_of ar ws l at ≡ Err f → reading ar ws l d at ≡ Err (f, at)
  unfolding reading
  reading_bad zero e = rw e
  reading_bad (suc d) e = rw e

  pub reading_deep : (d : ℕ) {n : ℕ} → head_of ar ws l at ≡ Ok n → d ≡ 0 → reading ar ws l d at ≡ Err (Deep, at)
  unfolding reading
  reading_deep zero e z = rw e
  reading_deep (suc d) e z = absurd (omega arith)

  pub reading_into : (d : ℕ) {n : ℕ} → head_of ar ws l at ≡ Ok n → (d ≡ 0 → ⊥)
      → reading ar ws l d at ≡ kids_of (reading ar ws l (d - 1)) (n - 0) (alone at)
  unfolding reading
  reading_into zero e z = absurd (z refl)
  reading_into (suc d) {n} e z = rw (e, sub-one) (ap (λ k. kids_of (reading ar ws l d) k (alone at)) (sym (sub-zero n)))

-- what is left after k of n children
module _ (f : ℕ → Result Met (Fault × ℕ)) (n k : ℕ) (c : Met) where
  kids_more : k < n → kids_of f (n - k) c ≡ next (f c.end) (λ m. kids_of f (n - (k + 1)) (after c m))
  kids_more h = let e : n - k ≡ suc (n - (k + 1)) = omega arith in rw e

  pub kids_stop : {a : Fault} {p : ℕ} → k < n → f c.end ≡ Err (a, p) → kids_of f (n - k) c ≡ Err (a, p)
  kids_stop h e = kids_more h ∙ rw e

  pub kids_next : {m : Met} {most : ℕ} → k < n → f c.end ≡ Ok m → most ≡ (after c m).depth
      → kids_of f (n - k) c ≡ kids_of f (n - (k + 1)) (met m.end most)
  kids_next {m} h e q = kids_more h ∙ rw e (ap (λ d. kids_of f (n - (k + 1)) (met m.end d)) (sym q))

  pub kids_done : n ≤ k → kids_of f (n - k) c ≡ Ok c
  kids_done h = let e : n - k ≡ 0 = omega arith in rw e

-- ---- where a whole term ends

pub never_whole {ℓ} : {C : Type ℓ} {f : Fault} {p : ℕ} {m : Met} → ◌≡◌ {A = Result Met (Fault × ℕ)} (Err (f, p)) (Ok m) → C
never_whole h = let z : ◌≡◌ {A = ℕ} 0 1 = cc in absurd (omega arith)

pub never_kids {ℓ} : {C : Type ℓ} {f : Fault} {n : ℕ} → ◌≡◌ {A = Result ℕ Fault} (Err f) (Ok n) → C
never_kids h = let z : ◌≡◌ {A = ℕ} 0 1 = cc in absurd (omega arith)

pub same_fault : {f g : Fault} {p q : ℕ} → ◌≡◌ {A = Result Met (Fault × ℕ)} (Err (f, p)) (Err (g, q)) → (f ≡ g) × (p ≡ q)
same_fault {f} {g} {p} {q} e =
    let z : ◌≡◌ {A = Fault × ℕ} (f, p) (g, q) = cc in (ap (λ (x : Fault × ℕ). x.0) z, ap (λ (x : Fault × ℕ). x.1) z)

-- a node that passes stands within the words and before the limit
pub head_in : (ar ws : List ℕ) (l : Limits) (at n : ℕ) → head_of ar ws l at ≡ Ok n → (at < length ws) × (at < l.stop)
unfolding head_of
head_in ar ws l at n = go (ltb at (length ws)) refl (children_of ar l.blanks (get_or ws at 0))
  where
    under : (m : ℕ) (y : Bool) → ltb at l.stop ≡ y → cond y (Ok m) (Err Many) ≡ Ok n → at < l.stop
    under m true e h = ltb-true _ _ e
    under m false e h = never_kids h

    go : (x : Bool) → ltb at (length ws) ≡ x → (c : Result ℕ Fault) → cond x (below l.stop at c) (Err Ends) ≡ Ok n → (at < length ws) × (at < l.stop)
    go true ex (Err f) e = never_kids e
    go true ex (Ok m) e = (ltb-true _ _ ex, under m (ltb at l.stop) refl e)
    go false ex c e = never_kids e

-- a term that is read whole, at `at`, with m met
pub record Within (ws : List ℕ) (l : Limits) (at : ℕ) (m : Met) : Type 0 where
  pub some : at < m.end
  pub inside : m.end ≤ length ws
  pub few : m.end ≤ l.stop

pub on_next {κ} : {C : Type κ} (a : Result Met (Fault × ℕ)) (k : Met → Result Met (Fault × ℕ)) (m : Met) → next a k ≡ Ok m → ((m₁ : Met) → a ≡ Ok m₁ → k m₁ ≡ Ok m → C) → C
on_next (Ok m₁) k m e c = c m₁ refl e
on_next (Err (f, p)) k m e c = never_whole e

kids_in_lem : (f : ℕ → Result Met (Fault × ℕ)) (ws : List ℕ) (l : Limits) → ((at : ℕ) (m : Met) → f at ≡ Ok m → Within ws l at m) → (n : ℕ) (c m : Met)
    → c.end ≤ length ws → c.end ≤ l.stop → kids_of f n c ≡ Ok m → (c.end ≤ m.end) × (m.end ≤ length ws) × (m.end ≤ l.stop)
kids_in_lem f ws l each zero c m h g e = let s : c.end ≡ m.end = cc in omega arith
kids_in_lem f ws l each (suc n) c m h g e =
    on_next (f c.end) _ m e λ m₁ e₁ e₂.
    let one = each c.end m₁ e₁ in
    let rest = kids_in_lem f ws l each n (after c m₁) m one.inside one.few e₂ in
    omega (arith, one.some)

pub on_enter {κ} : {C : Type κ} (c : Result ℕ Fault) (at : ℕ) (k : ℕ → Result Met (Fault × ℕ)) (m : Met) → enter c at k ≡ Ok m → ((n : ℕ) → c ≡ Ok n → k n ≡ Ok m → C)
    → C
on_enter (Err f) at k m e c = never_whole e
on_enter (Ok n) at k m e c = c n refl e

pub whole_in : (ar ws : List ℕ) (l : Limits) (d at : ℕ) (m : Met) → reading ar ws l d at ≡ Ok m → Within ws l at m
unfolding reading
whole_in ar ws l zero at m e = on_enter (head_of ar ws l at) at _ m e λ n h k. never_whole k
whole_in ar ws l (suc d) at m e =
    on_enter (head_of ar ws l at) at _ m e λ n h k.
    let i = head_in ar ws l at n h in
    let r = kids_in_lem (reading ar ws l d) ws l (whole_in ar ws l d) n (alone at) m (omega arith) (omega arith) k in
    record { some = omega arith; inside = omega arith; few = omega arith }

-- ---- where a fault is

on_next_refused {κ} : {C : Type κ} (a : Result Met (Fault × ℕ)) (k : Met → Result Met (Fault × ℕ)) (f : Fault) (p : ℕ) → next a k ≡ Err (f, p) → (a ≡ Err (f, p) → C)
    → ((m : Met) → a ≡ Ok m → k m ≡ Err (f, p) → C) → C
on_next_refused (Ok m) k f p e x y = y m refl e
on_next_refused (Err (g, q)) k f p e x y = x e

kids_refused_in : (g : ℕ → Result Met (Fault × ℕ)) (ws : List ℕ) (l : Limits) → ((at : ℕ) (m : Met) → g at ≡ Ok m → Within ws l at m)
    → ((at : ℕ) (f : Fault) (p : ℕ) → at ≤ length ws → g at ≡ Err (f, p) → p ≤ length ws)
    → (n : ℕ) (c : Met) (f : Fault) (p : ℕ) → c.end ≤ length ws → kids_of g n c ≡ Err (f, p) → p ≤ length ws
kids_refused_in g ws l whole each zero c f p h e = never_whole (sym e)
kids_refused_in g ws l whole each (suc n) c f p h e =
    on_next_refused (g c.end) (λ m. kids_of g n (after c m)) f p e
    (λ r. each c.end f p h r)
    (λ m w r. kids_refused_in g ws l whole each n (after c m) f p (whole c.end m w).inside r)

pub refused_in : (ar ws : List ℕ) (l : Limits) (d at : ℕ) (f : Fault) (p : ℕ) → at ≤ length ws → reading ar ws l d at ≡ Err (f, p) → p ≤ length ws
unfolding reading
refused_in ar ws l zero at f p h e = go (head_of ar ws l at) e
  where
    go : (c : Result ℕ Fault) → enter c at (λ n. Err (Deep, at)) ≡ Err (f, p) → p ≤ length ws
    go (Err g) e = let s : at ≡ p = (same_fault e).1 in omega arith
    go (Ok n) e = let s : at ≡ p = (same_fault e).1 in omega arith
refused_in ar ws l (suc d) at f p h e = go (head_of ar ws l at) refl e (λ a g q. refused_in ar ws l d a g q)
  where
    go : (c : Result ℕ Fault) → head_of ar ws l at ≡ c → enter c at (λ n. kids_of (reading ar ws l d) n (alone at)) ≡ Err (f, p)
        → ((a : ℕ) (g : Fault) (q : ℕ) → a ≤ length ws → reading ar ws l d a ≡ Err (g, q) → q ≤ length ws) → p ≤ length ws
    go (Err g) i e each = let s : at ≡ p = (same_fault e).1 in omega arith
    go (Ok n) i e each =
        let b = head_in ar ws l at n i in
        kids_refused_in (reading ar ws l d) ws l (whole_in ar ws l d) each n (alone at) f p (omega arith) e
