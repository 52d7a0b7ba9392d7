-- Lists as finite sets.
--   in_none in_one                               in a list of none or one
--   ∈_left ∈_right ∈_append                      in a list put before another
--   in_filter filter_in, on_any any_of any_none, all_at all_of_lem   by a test
--   map_in on_map, gather_in on_gather           in what is made of each
--   same_is same_refl                            equality of lists of numbers as a test
--   eqb_in in_eqb                                a number in a list, as a test
--   one_outside                                  where not each of a list's numbers is in another, one is not
--   Distinct distinct_map, Without without distinct_le   no element twice; the pigeonhole
--   gather_length              how many
--   Perm perm_refl perm_sym perm_length perm_in insert_perm sort_perm sort_in in_sort   the same elements, each as often
--   range_in in_range length_range       numbers in a row
--   in_take in_drop                              in a part
use mathlib.Core.Path.{◌≡◌, refl, ap, sym, ◌∙◌}
use mathlib.Core.Bool.{Bool, true, false, cond, not, false≢true}
use mathlib.Core.List.{List, [], ◌∷◌, ◌++◌, map}
use mathlib.Core.Logic.{◌⊎◌, inl, inr, ⊎_elim, ⊎_map}
use Prim.Native.Nat.{ℕ, zero, suc, ◌+◌, ◌*◌, ◌<◌, ◌≤◌}
use native.Mathlib.Omega.{arith}
use native.Mathlib.Nat.{eq-or-lt_of_le}
use lib.Dec.{eqb}
use lib.ListN.{length, take, drop, length-append}
use Rattle.kinds.specs.Members.{◌∈◌, here, there, ◌⊆◌}
use Rattle.kinds.specs.Lists.{same, filter, any, all, gather, range, insert, sort}
use Rattle.kinds.proofs.Bools.{and_l, and_r, both, or_l, or_r, or_case, neither, false_true, test, of_not, eqb_is, is_eqb}

module _ {ℓ} {A : Type ℓ} where
  pub in_none {κ} : {C : Type κ} {x : A} → x ∈ [] → C
  in_none m = elim m [ ]

  pub in_one : {x y : A} → x ∈ (y ∷ []) → x ≡ y
  in_one (here e) = e
  in_one {y = y} (there x5) = elim x5 [ ]

  pub ∈_left : {x : A} {xs : List A} (ys : List A) → x ∈ xs → x ∈ (xs ++ ys)
  ∈_left ys (here e) = here e
  ∈_left ys (there m) = there (∈_left ys m)

  pub ∈_right : (xs : List A) {x : A} {ys : List A} → x ∈ ys → x ∈ (xs ++ ys)
  ∈_right [] m = m
  ∈_right (z ∷ xs) m = there (∈_right xs m)

  pub ∈_append : (xs : List A) {x : A} {ys : List A} → x ∈ (xs ++ ys) → (x ∈ xs) ⊎ (x ∈ ys)
  ∈_append [] m = inr m
  ∈_append (z ∷ xs) (here e) = inl (here e)
  ∈_append (z ∷ xs) (there m) = ⊎_map there (λ i. i) (∈_append xs m)

  pub in_filter : (p : A → Bool) (xs : List A) {x : A} → x ∈ filter p xs → (x ∈ xs) × (p x ≡ true)
  in_filter p (y ∷ ys) {x} m = go (p y) refl m (λ i. in_filter p ys i)
    where
      go : (b : Bool) → p y ≡ b → x ∈ cond b (y ∷ filter p ys) (filter p ys) → (x ∈ filter p ys → (x ∈ ys) × (p x ≡ true)) → (x ∈ (y ∷ ys))
          × (p x ≡ true)
      go true e (here h) ih = (here h, rw h e)
      go true e (there i) ih = (there (ih i).0, (ih i).1)
      go false e i ih = (there (ih i).0, (ih i).1)
  in_filter p [] {x = x} m = elim m [ ]

  pub filter_in : (p : A → Bool) {x : A} {xs : List A} → x ∈ xs → p x ≡ true → x ∈ filter p xs
  filter_in p {x} (here {x = y} {xs} e) t = let t' : p y ≡ true = rw e at t in rw t' (here e)
  filter_in p {x} (there {x = y} {xs} m) t = go (p y) (filter_in p m t)
    where
      go : (b : Bool) → x ∈ filter p xs → x ∈ cond b (y ∷ filter p xs) (filter p xs)
      go true i = there i
      go false i = i

  -- any and all, as facts
  pub on_any {κ} : {C : Type κ} (p : A → Bool) (xs : List A) → any p xs ≡ true → ((x : A) → x ∈ xs → p x ≡ true → C) → C
  on_any p [] e k = absurd (false≢true e)
  on_any p (x ∷ xs) e k = ⊎_elim (λ (t : p x ≡ true). k x (here refl) t) (λ (t : any p xs ≡ true). on_any p xs t (λ y m. k y (there m)))
      (or_case (p x) e)

  pub any_of : (p : A → Bool) {x : A} {xs : List A} → x ∈ xs → p x ≡ true → any p xs ≡ true
  any_of p (here {x = y} {xs} e) t = or_l _ (rw e at t)
  any_of p (there {x = y} m) t = or_r (p y) (any_of p m t)

  pub any_none : (p : A → Bool) (xs : List A) → ((x : A) → x ∈ xs → p x ≡ false) → any p xs ≡ false
  any_none p [] h = refl
  any_none p (x ∷ xs) h = neither (h x (here refl)) (any_none p xs (λ y m. h y (there m)))

  pub all_at : (p : A → Bool) {x : A} {xs : List A} → all p xs ≡ true → x ∈ xs → p x ≡ true
  all_at p {x} {xs = y ∷ ys} e (here h) = rw h (and_l _ e)
  all_at p {x} {xs = y ∷ ys} e (there m) = all_at p (and_r (p y) e) m
  all_at p {x = x} {xs = []} e x6 = elim x6 [ ]

  pub all_of_lem : (p : A → Bool) (xs : List A) → ((x : A) → x ∈ xs → p x ≡ true) → all p xs ≡ true
  all_of_lem p [] h = refl
  all_of_lem p (x ∷ xs) h = both (h x (here refl)) (all_of_lem p xs (λ y m. h y (there m)))

module _ {ℓ κ} {A : Type ℓ} {B : Type κ} where
  pub map_in : (f : A → B) {x : A} {xs : List A} → x ∈ xs → f x ∈ map f xs
  map_in f (here e) = here (ap f e)
  map_in f (there m) = there (map_in f m)

  pub on_map {μ} : {C : Type μ} (f : A → B) (xs : List A) {y : B} → y ∈ map f xs → ((x : A) → x ∈ xs → y ≡ f x → C) → C
  on_map f (x ∷ xs) (here e) k = k x (here refl) e
  on_map f (x ∷ xs) (there m) k = on_map f xs m (λ z i. k z (there i))
  on_map {C = C} f [] {y = y} x'' k = elim x'' [ ]

  pub gather_in : (f : A → List B) {x : A} {xs : List A} {y : B} → x ∈ xs → y ∈ f x → y ∈ gather f xs
  gather_in f (here {x = z} {xs} e) m = ∈_left (gather f xs) (rw e at m)
  gather_in f (there {x = z} i) m = ∈_right (f z) (gather_in f i m)

  pub on_gather {μ} : {C : Type μ} (f : A → List B) (xs : List A) {y : B} → y ∈ gather f xs → ((x : A) → x ∈ xs → y ∈ f x → C) → C
  on_gather f (x ∷ xs) m k = ⊎_elim (λ (i : _ ∈ f x). k x (here refl) i) (λ i. on_gather f xs i (λ z j. k z (there j))) (∈_append (f x) m)
  on_gather {C = C} f [] {y = y} m k = elim m [ ]

-- ---- equality of lists of numbers
pub same_is : (p q : List ℕ) → same p q ≡ true → p ≡ q
same_is [] [] e = refl
same_is [] (j ∷ q) e = absurd (false≢true e)
same_is (i ∷ p) [] e = absurd (false≢true e)
same_is (i ∷ p) (j ∷ q) e = rw (eqb_is i j (and_l _ e), same_is p q (and_r (eqb i j) e))

pub same_refl : (p : List ℕ) → same p p ≡ true
same_refl [] = refl
same_refl (i ∷ p) = both (is_eqb i i refl) (same_refl p)

pub eqb_in : (x : ℕ) (ys : List ℕ) → any (eqb x) ys ≡ true → x ∈ ys
eqb_in x ys e = on_any (eqb x) ys e λ y i d. rw (eqb_is x y d) i

pub in_eqb : {x : ℕ} {ys : List ℕ} → x ∈ ys → any (eqb x) ys ≡ true
in_eqb {x} i = any_of (eqb x) i (is_eqb x x refl)

pub one_outside : (xs ys : List ℕ) → (xs ⊆ ys → ⊥) → (x : ℕ) × (x ∈ xs) × (x ∈ ys → ⊥)
one_outside xs ys n = ⊎_elim one (λ e. absurd (n (λ x i. each x i e))) (test (any outside xs))
  where
    outside : ℕ → Bool
    outside x = not (any (eqb x) ys)

    one : any outside xs ≡ true → (x : ℕ) × (x ∈ xs) × (x ∈ ys → ⊥)
    one e = on_any outside xs e λ x i h. (x, i, λ j. false_true (sym (of_not (any (eqb x) ys) h) ∙ in_eqb j))

    each : (x : ℕ) → x ∈ xs → any outside xs ≡ false → x ∈ ys
    each x i e = ⊎_elim (eqb_in x ys) (λ h. false_true (sym e ∙ any_of outside i (ap not h))) (test (any (eqb x) ys))

module _ {ℓ} {A : Type ℓ} where
  -- no element twice
  abbrev pub Distinct : List A → Type ℓ
  Distinct [] = Unit {ℓ}
  Distinct (x ∷ xs) = (x ∈ xs → ⊥) × Distinct xs

  -- a list without one of its elements
  pub record Without (x : A) (ys : List A) : Type ℓ where
    pub rest : List A
    pub shorter : length ys ≡ suc (length rest)
    pub kept : (y : A) → y ∈ ys → (y ≡ x) ⊎ (y ∈ rest)

  pub without : {x : A} {ys : List A} → x ∈ ys → Without x ys
  without {x} (here {x = z} {xs = ys} e) = record { rest = ys; shorter = refl; kept = go }
    where
      go : (y : A) → y ∈ (z ∷ ys) → (y ≡ x) ⊎ (y ∈ ys)
      go y (here h) = inl (h ∙ sym e)
      go y (there m) = inr m
  without {x} (there {x = z} {xs = ys} m) = let w = without m in record { rest = z ∷ w.rest; shorter = ap suc w.shorter; kept = go w }
    where
      go : (w : Without x ys) (y : A) → y ∈ (z ∷ ys) → (y ≡ x) ⊎ (y ∈ (z ∷ w.rest))
      go w y (here h) = inr (here h)
      go w y (there i) = ⊎_map (λ e. e) there (w.kept y i)

  -- the pigeonhole
  pub distinct_le : (xs ys : List A) → Distinct xs → xs ⊆ ys → length xs ≤ length ys
  distinct_le [] ys d h = omega arith
  distinct_le (x ∷ xs) ys d h = let w = without (h x (here refl)) in le w (distinct_le xs w.rest d.1 (go w))
    where
      go : (w : Without x ys) (y : A) → y ∈ xs → y ∈ w.rest
      go w y m = ⊎_elim (λ (e : y ≡ x). absurd (d.0 (rw e at m))) (λ i. i) (w.kept y (h y (there m)))

      le : (w : Without x ys) → length xs ≤ length w.rest → suc (length xs) ≤ length ys
      le w l = rw w.shorter (omega arith)

  -- the same elements, each as often
  pub data Perm : List A → List A → Type ℓ where
    done : Perm [] []
    keep : (x : A) {xs ys : List A} → Perm xs ys → Perm (x ∷ xs) (x ∷ ys)
    swap : (x y : A) (xs : List A) → Perm (x ∷ y ∷ xs) (y ∷ x ∷ xs)
    then : {xs ys zs : List A} → Perm xs ys → Perm ys zs → Perm xs zs

  pub perm_refl : (xs : List A) → Perm xs xs
  perm_refl [] = done
  perm_refl (x ∷ xs) = keep x (perm_refl xs)

  pub perm_sym : {xs ys : List A} → Perm xs ys → Perm ys xs
  perm_sym done = done
  perm_sym (keep x p) = keep x (perm_sym p)
  perm_sym (swap x y xs) = swap y x xs
  perm_sym (then p q) = then (perm_sym q) (perm_sym p)

  pub perm_length : {xs ys : List A} → Perm xs ys → length xs ≡ length ys
  perm_length done = refl
  perm_length (keep x p) = ap suc (perm_length p)
  perm_length (swap x y xs) = refl
  perm_length (then p q) = perm_length p ∙ perm_length q

  pub perm_in : {xs ys : List A} → Perm xs ys → xs ⊆ ys
  perm_in (keep x p) z (here e) = here e
  perm_in (keep x p) z (there m) = there (perm_in p z m)
  perm_in (swap x y xs) z (here e) = there (here e)
  perm_in (swap x y xs) z (there (here e)) = here e
  perm_in (swap x y xs) z (there (there m)) = there (there m)
  perm_in (then p q) z m = perm_in q z (perm_in p z m)
  perm_in done z m = elim m [ ]

  -- sorting permutes
  pub insert_perm : (lt : A → A → Bool) (a : A) (xs : List A) → Perm (a ∷ xs) (insert lt a xs)
  insert_perm lt a [] = keep a done
  insert_perm lt a (x ∷ xs) = go (lt x a) (insert_perm lt a xs)
    where
      go : (b : Bool) → Perm (a ∷ xs) (insert lt a xs) → Perm (a ∷ x ∷ xs) (cond b (x ∷ insert lt a xs) (a ∷ x ∷ xs))
      go true p = then (swap a x xs) (keep x p)
      go false p = perm_refl (a ∷ x ∷ xs)

  pub sort_perm : (lt : A → A → Bool) (xs : List A) → Perm xs (sort lt xs)
  sort_perm lt [] = done
  sort_perm lt (x ∷ xs) = then (keep x (sort_perm lt xs)) (insert_perm lt x (sort lt xs))

  pub sort_in : (lt : A → A → Bool) {x : A} {xs : List A} → x ∈ xs → x ∈ sort lt xs
  sort_in lt {x} {xs} m = perm_in (sort_perm lt xs) x m

  pub in_sort : (lt : A → A → Bool) (xs : List A) {x : A} → x ∈ sort lt xs → x ∈ xs
  in_sort lt xs {x} m = perm_in (perm_sym (sort_perm lt xs)) x m

-- numbers in a range
pub range_in : (n c i : ℕ) → c ≤ i → i < c + n → i ∈ range c n
range_in zero c i l h = absurd (omega arith)
range_in (suc n) c i l h = ⊎_elim (λ (e : c ≡ i). here (sym e)) (λ (g : c < i). there (range_in n (suc c) i g (omega arith))) (eq-or-lt_of_le l)

pub in_range : (n c i : ℕ) → i ∈ range c n → (c ≤ i) × (i < c + n)
in_range (suc n) c i (here e) = omega arith
in_range (suc n) c i (there m) = let h = in_range n (suc c) i m in omega arith
in_range zero c i x' = elim x' [ ]

pub length_range : (c n : ℕ) → length (range c n) ≡ n
length_range c zero = refl
length_range c (suc n) = ap suc (length_range (suc c) n)

-- ---- how many
pub gather_length : {A B : Type 0} (f : A → List B) (c : ℕ) (xs : List A) → ((x : A) → length (f x) ≡ c) → length (gather f xs) ≡ length xs * c
gather_length f c [] h = omega arith
gather_length f c (x ∷ xs) h = rw (length-append, h x, gather_length f c xs h) (mul_suc (length xs) c)
  where
    mul_suc : (n c : ℕ) → c + n * c ≡ suc n * c
    mul_suc n c = omega arith

-- a member of a part is one of the whole
pub in_take : {A : Type 0} (n : ℕ) (xs : List A) {x : A} → x ∈ take n xs → x ∈ xs
in_take zero xs m = in_none m
in_take (suc n) [] m = m
in_take (suc n) (y ∷ xs) (here e) = here e
in_take (suc n) (y ∷ xs) (there m) = there (in_take n xs m)

pub in_drop : {A : Type 0} (n : ℕ) (xs : List A) {x : A} → x ∈ drop n xs → x ∈ xs
in_drop zero xs m = m
in_drop (suc n) [] m = m
in_drop (suc n) (y ∷ xs) m = there (in_drop n xs m)

-- ---- no element twice, where different elements go to different ones
pub distinct_map : {A B : Type 0} (f : A → B) (xs : List A) → ((a b : A) → a ∈ xs → b ∈ xs → f a ≡ f b → a ≡ b) → Distinct xs → Distinct (map f xs)
distinct_map f [] h d = tt
distinct_map f (x ∷ xs) h d = (
  λ m. on_map f xs m λ y i e. d.0 (rw (h x y (here refl) (there i) e) i),
  distinct_map f xs
      (λ a b i j. h a b (there i) (there j)) d.1,
)
