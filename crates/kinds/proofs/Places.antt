-- Places in lists: get_elem? s i.
--   at_in at_below at_some on_in, at_get_d get_d_at get_d_in  what stands there, and is in the list
--   get_elem_some get_elem_none                               a word at a place, or none
--   at_left at_right at_end at_map split_at          in lists put together and in what is made of each
--   Ext ext_refl ext_trans at_ext ext_length get_d_ext         a list that grew at its end
--   find_at find_none find_more find_new find_same            the first that passes; in a longer list; in what is made of each
--   on_map_at                                                 in what is made of each with its place
--   distinct_at                                               where nothing stands twice, equal entries stand at one place
use mathlib.Core.Path.{◌≡◌, refl, ap, sym, ◌∙◌}
use mathlib.Core.Bool.{Bool, true, false, cond}
use mathlib.Core.List.{List, [], ◌∷◌, ◌++◌, map, append_assoc, append-nil}
use mathlib.Core.Option.{none, some}
use Prim.Native.Nat.{ℕ, zero, suc, ◌+◌, ◌<◌, ◌≤◌}
use native.Mathlib.Omega.{arith}
use native.Mathlib.Nat.{add-zero, zero-add}
use lib.ListN.{length, get_or, get_elem?, take, drop, length-append, get_or-append}
use Rattle.kinds.specs.Lists.{find, map_at}
use Rattle.kinds.proofs.Members.{Distinct}
use Rattle.kinds.specs.Members.{◌∈◌, here, there}
use Rattle.kinds.proofs.Options.{none_not}

module _ {ℓ} {A : Type ℓ} where
  pub at_in : (s : List A) (i : ℕ) {x : A} → get_elem? s i ≡ some x → x ∈ s
  at_in [] i e = none_not e
  at_in (y ∷ s) zero {x} e = let z : x ≡ y = cc in here z
  at_in (y ∷ s) (suc i) e = there (at_in s i e)

  pub on_in {κ} : {C : Type κ} {x : A} {s : List A} → x ∈ s → ((i : ℕ) → get_elem? s i ≡ some x → C) → C
  on_in (here e) k = k 0 (rw e)
  on_in (there m) k = on_in m (λ i. k (suc i))

  pub at_below : (s : List A) (i : ℕ) {x : A} → get_elem? s i ≡ some x → i < length s
  at_below [] i e = none_not e
  at_below (y ∷ s) zero e = omega arith
  at_below (y ∷ s) (suc i) e = let h = at_below s i e in omega arith

  pub at_some : (s : List A) (i : ℕ) → i < length s → (x : A) × (get_elem? s i ≡ some x)
  at_some [] i h = absurd (omega arith)
  at_some (x ∷ s) zero h = (x, refl)
  at_some (x ∷ s) (suc i) h = at_some s i (omega arith)

  pub get_elem_none : (s : List A) (i : ℕ) → length s ≤ i → get_elem? s i ≡ none
  get_elem_none [] i h = refl
  get_elem_none (x ∷ s) zero h = absurd (omega arith)
  get_elem_none (x ∷ s) (suc i) h = get_elem_none s i (omega arith)

  pub at_get_d : (s : List A) (i : ℕ) (d : A) → i < length s → get_elem? s i ≡ some (get_or s i d)
  at_get_d [] i d h = absurd (omega arith)
  at_get_d (x ∷ s) zero d h = refl
  at_get_d (x ∷ s) (suc i) d h = at_get_d s i d (omega arith)

  pub get_d_at : (s : List A) (i : ℕ) (d : A) {x : A} → get_elem? s i ≡ some x → get_or s i d ≡ x
  get_d_at [] i d e = none_not e
  get_d_at (y ∷ s) zero d e = cc
  get_d_at (y ∷ s) (suc i) d e = get_d_at s i d e

  pub get_d_in : (s : List A) (i : ℕ) (d : A) → i < length s → get_or s i d ∈ s
  get_d_in s i d h = at_in s i (at_get_d s i d h)

  pub at_left : (s m : List A) (i : ℕ) {x : A} → get_elem? s i ≡ some x → get_elem? (s ++ m) i ≡ some x
  at_left [] m i e = none_not e
  at_left (y ∷ s) m zero e = e
  at_left (y ∷ s) m (suc i) e = at_left s m i e

  pub at_right : (a b : List A) (i : ℕ) → get_elem? (a ++ b) (length a + i) ≡ get_elem? b i
  at_right [] b i = rw zero-add
  at_right (x ∷ a) b i = let e : suc (length a) + i ≡ suc (length a + i) = omega arith in rw e (at_right a b i)

  pub at_end : (s : List A) (x : A) → get_elem? (s ++ (x ∷ [])) (length s) ≡ some x
  at_end [] x = refl
  at_end (y ∷ s) x = at_end s x

  pub split_at : (xs : List A) (i : ℕ) {x : A} → get_elem? xs i ≡ some x → xs ≡ take i xs ++ (x ∷ drop (suc i) xs)
  split_at [] i e = none_not e
  split_at (y ∷ xs) zero {x} e = let z : y ≡ x = cc in rw z
  split_at (y ∷ xs) (suc i) e = ap (λ l. y ∷ l) (split_at xs i e)

  -- the first that passes: its place, counted from c
  pub find_at : (p : A → Bool) (s : List A) (c i : ℕ) → find p s c ≡ some i → (j : ℕ) × (i ≡ c + j)
      × ((x : A) × (get_elem? s j ≡ some x) × (p x ≡ true))
  find_at p [] c i e = none_not e
  find_at p (x ∷ s) c i e = go (p x) refl e (λ d. find_at p s (suc c) i d)
    where
      go : (b : Bool) → p x ≡ b → cond b (some c) (find p s (suc c)) ≡ some i
          → (find p s (suc c) ≡ some i → (j : ℕ) × (i ≡ suc c + j) × ((y : A) × (get_elem? s j ≡ some y) × (p y ≡ true)))
          → (j : ℕ) × (i ≡ c + j) × ((y : A) × (get_elem? (x ∷ s) j ≡ some y) × (p y ≡ true))
      go true d z ih = let w : c ≡ i = cc in (0, rw (← w) (omega arith), (x, refl, d))
      go false d z ih = let r = ih z in (suc r.0, rw r.1 (omega arith), r.2)

  pub find_none : (p : A → Bool) (s : List A) (c : ℕ) → find p s c ≡ none → (x : A) → x ∈ s → p x ≡ false
  find_none p (y ∷ s) c e x m = go (p y) refl e m (find_none p s (suc c))
    where
      go : (b : Bool) → p y ≡ b → cond b (some c) (find p s (suc c)) ≡ none → x ∈ (y ∷ s) → (find p s (suc c) ≡ none → (x : _) → x ∈ s → p x ≡ false)
          → p x ≡ false
      go true d z i ih = none_not (sym z)
      go false d z (here i) ih = rw i d
      go false d z (there i) ih = ih z x i
  find_none p [] c e x m = elim m [ ]

  -- in a longer list
  pub find_more : (p : A → Bool) (s t : List A) (c i : ℕ) → find p s c ≡ some i → find p (s ++ t) c ≡ some i
  find_more p [] t c i e = none_not e
  find_more p (x ∷ s) t c i e = go (p x) e (find_more p s t (suc c) i)
    where
      go : (b : Bool) → cond b (some c) (find p s (suc c)) ≡ some i → (find p s (suc c) ≡ some i → find p (s ++ t) (suc c) ≡ some i)
          → cond b (some c) (find p (s ++ t) (suc c)) ≡ some i
      go true d ih = d
      go false d ih = ih d

  pub find_new : (p : A → Bool) (s : List A) (x : A) (t : List A) (c : ℕ) → find p s c ≡ none → p x ≡ true
      → find p (s ++ (x ∷ t)) c ≡ some (c + length s)
  find_new p [] x t c e d = rw (d, add-zero c) refl
  find_new p (y ∷ s) x t c e d = go (p y) e (λ h. find_new p s x t (suc c) h d)
    where
      go : (b : Bool) → cond b (some c) (find p s (suc c)) ≡ none
          → (find p s (suc c) ≡ none → find p (s ++ (x ∷ t)) (suc c) ≡ some (suc c + length s))
          → cond b (some c) (find p (s ++ (x ∷ t)) (suc c)) ≡ some (c + suc (length s))
      go true h ih = none_not (sym h)
      go false h ih = let z : suc c + length s ≡ c + suc (length s) = omega arith in ih h ∙ ap some z

  -- places stay when a list grows at its end
  pub record Ext (s s' : List A) : Type ℓ where
    pub more : List A
    pub eq : s' ≡ s ++ more

  pub ext_refl : (s : List A) → Ext s s
  ext_refl s = record { more = []; eq = sym (append-nil s) }

  pub ext_trans : {a b c : List A} → Ext a b → Ext b c → Ext a c
  ext_trans p q = record { more = p.more ++ q.more; eq = rw (q.eq, p.eq, append_assoc) }

  pub at_ext : {s s' : List A} → Ext s s' → (i : ℕ) {x : A} → get_elem? s i ≡ some x → get_elem? s' i ≡ some x
  at_ext {s = s} p i e = rw p.eq (at_left s p.more i e)

  pub ext_length : {s s' : List A} → Ext s s' → length s ≤ length s'
  ext_length p = rw (p.eq, length-append) (omega arith)

  pub get_d_ext : {s s' : List A} → Ext s s' → (i : ℕ) (d : A) → i < length s → get_or s' i d ≡ get_or s i d
  get_d_ext {s} p i d h = rw p.eq (get_or-append s p.more d i h)

pub get_elem_some : (l : List ℕ) (i : ℕ) → i < length l → get_elem? l i ≡ some (get_or l i 0)
get_elem_some l i h = at_get_d l i 0 h

module _ {ℓ κ} {A : Type ℓ} {B : Type κ} where
  pub at_map : (f : A → B) (s : List A) (i : ℕ) {x : A} → get_elem? s i ≡ some x → get_elem? (map f s) i ≡ some (f x)
  at_map f [] i e = none_not e
  at_map f (y ∷ s) zero {x} e = let z : y ≡ x = cc in rw z
  at_map f (y ∷ s) (suc i) e = at_map f s i e

  pub on_map_at {μ} : {C : Type μ} (f : ℕ → A → B) (c : ℕ) (s : List A) {y : B} → y ∈ map_at f c s
      → ((i : ℕ) (x : A) → get_elem? s i ≡ some x → y ≡ f (c + i) x → C) → C
  on_map_at f c (x ∷ s) (here e) k = k 0 x refl (rw add-zero e)
  on_map_at f c (x ∷ s) (there m) k = on_map_at f (suc c) s m (λ i t a b. let z : suc c + i ≡ c + suc i = omega arith in k (suc i) t a (rw z at b))
  on_map_at {C = C} f c [] {y = y} x'' k = elim x'' [ ]

  pub find_same : (h : A → B) (p : A → Bool) (q : B → Bool) (s : List A) (c : ℕ) → ((x : A) → x ∈ s → p x ≡ q (h x)) → find p s c ≡ find q (map h s) c
  find_same h p q [] c e = refl
  find_same h p q (x ∷ s) c e = rw (e x (here refl), find_same h p q s (suc c) (λ y m. e y (there m)))

pub distinct_at : (xs : List ℕ) → Distinct xs → (i k : ℕ) → i < length xs → k < length xs → get_or xs i 0 ≡ get_or xs k 0 → i ≡ k
distinct_at [] d i k hi hk e = absurd (omega arith)
distinct_at (x ∷ xs) d zero zero hi hk e = refl
distinct_at (x ∷ xs) d zero (suc k) hi hk e = absurd (d.0 (rw e (get_d_in xs k 0 (omega arith))))
distinct_at (x ∷ xs) d (suc i) zero hi hk e = absurd (d.0 (rw (← e) (get_d_in xs i 0 (omega arith))))
distinct_at (x ∷ xs) d (suc i) (suc k) hi hk e = ap suc (distinct_at xs d.1 i k (omega arith) (omega arith) e)
