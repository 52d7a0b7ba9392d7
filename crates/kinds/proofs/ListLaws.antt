-- Lists.
--   sets_append set_before sets_before sets_behind sets_at sets_over   runs of stores
--   from from_end take_again none_left drop_take take_map drop_map take_set   parts
--   run_start run_next run_end part_sets run_back part_back run_whole   a run that is stored, and read again
--   onto_sets length_onto take_onto drop_onto     words in front
--   same_yes same_not same_next same_stop same_end same_lengths same_append   lists that are compared
--   append_same                                   what follows the same start
--   map_append map_map map_same, filter_map filter_same filter_append   each; by a test
--   any_map any_same any_append, all_map all_same all_append
--   gather_append gather_map gather_same map_gather, concat_append , insert_map sort_map
--   insert_map_in sort_map_in nil_same            where the order is kept of the elements at hand; no element
--   , range_append range_next range_at   with their places; numbers in a row
use Prim.Native.Nat.{ℕ, zero, suc, ◌+◌, ◌-◌, ◌<◌, ◌≤◌}
use mathlib.Core.Path.{◌≡◌, refl, ap, ap₂, sym, ◌∙◌}
use mathlib.Core.List.{List, [], ◌∷◌, ◌++◌, map, append_assoc}
use mathlib.Core.Bool.{Bool, true, false, cond, ◌&&◌, ◌||◌}
use native.Mathlib.Omega.{arith}
use native.Mathlib.Nat.{add-zero, add-suc, suc-add, zero-add, sub-zero}
use native.Mathlib.Numerals.{add-one}
use borrow.Author.Tests.{eq-eqb, ne_eqb}
use borrow.Rule.Slice.PartMut.{put_mid}
use lib.ListN.{length, get_or, take, drop, set, length-append, length-drop, drop_of_length-le}
use lib.Seq.{take-add, take_all, drop-cons, sets, sets-eq, set_comm, take-set-le, drop-set-lt, get_or-set_other, take_at, drop_at, take-append-le, drop-append-le, length-take-le, length-sets, take-append_seam, drop-append_seam}
use Rattle.std.proofs.lemmas.Slice.{put_mid-paste}
use Rattle.kinds.specs.Lists.{same, filter, any, all, insert, sort, gather, concat, range, onto, is_nil}
use Rattle.kinds.proofs.Bools.{is_eqb}
use Rattle.kinds.proofs.Members.{same_is, same_refl, in_sort}
use Rattle.kinds.specs.Members.{◌∈◌, here, there}

-- ---- runs of stores
-- two runs back to back are one
pub sets_append : (l : List ℕ) (i : ℕ) (xs ys : List ℕ) → sets l i (xs ++ ys) ≡ sets (sets l i xs) (i + length xs) ys
sets_append l i [] ys = rw add-zero
sets_append l i (x ∷ xs) ys =
    sets_append (set l i x) (suc i) xs ys
    ∙ ap (λ (n : ℕ). sets (sets (set l i x) (suc i) xs) n ys) (suc-add i (length xs) ∙ sym (add-suc i (length xs)))

-- a store before a run goes first
pub set_before : (l : List ℕ) (i j v : ℕ) (xs : List ℕ) → i < j → set (sets l j xs) i v ≡ sets (set l i v) j xs
set_before l i j v [] h = refl
set_before l i j v (x ∷ xs) h =
    set_before (set l j x) i (suc j) v xs (omega arith)
    ∙ ap (λ (m : List ℕ). sets m (suc j) xs) (set_comm l j i x v (λ e. omega arith))

-- what stands before a run, and behind it
pub sets_before : (vs l : List ℕ) (i n : ℕ) → n ≤ i → take n (sets l i vs) ≡ take n l
sets_before [] l i n h = refl
sets_before (v ∷ vs) l i n h = sets_before vs (set l i v) (suc i) n (omega arith) ∙ take-set-le n l i v h

pub sets_behind : (vs l : List ℕ) (i n : ℕ) → i + length vs ≤ n → drop n (sets l i vs) ≡ drop n l
sets_behind [] l i n h = refl
sets_behind (v ∷ vs) l i n h = sets_behind vs (set l i v) (suc i) n (omega arith) ∙ drop-set-lt n l i v (omega arith)

pub sets_at : (vs l : List ℕ) (i k : ℕ) → k < i → get_or (sets l i vs) k 0 ≡ get_or l k 0
sets_at [] l i k h = refl
sets_at (v ∷ vs) l i k h = sets_at vs (set l i v) (suc i) k (omega arith) ∙ get_or-set_other l i k v 0 (λ e. omega arith)

-- a run stored over another
pub sets_over : (l vs ws : List ℕ) (i j : ℕ) → j ≤ i → i + length vs ≤ j + length ws → j + length ws ≤ length l
    → sets (sets l i vs) j ws ≡ sets l j ws
sets_over l vs ws i j h g r =
    sets-eq ws (sets l i vs) j (rw (length-sets l i vs) r)
    ∙ ap₂ (λ a b. a ++ ws ++ b) (sets_before vs l i j h) (sets_behind vs l i (j + length ws) g)
    ∙ sym (sets-eq ws l j r)

-- ---- parts
-- a list from its i-th on
pub from : (l : List ℕ) (i : ℕ) → i < length l → drop i l ≡ get_or l i 0 ∷ drop (i + 1) l
from l i h = rw (add-one i) (drop-cons l i 0 h)

pub from_end : (l : List ℕ) (i : ℕ) → length l ≤ i → drop i l ≡ []
from_end l i h = drop_of_length-le l h

-- as many words as a part has are that part
pub take_again : (k : ℕ) (l : List ℕ) → take (length (take k l)) l ≡ take k l
take_again zero l = refl
take_again (suc k) [] = refl
take_again (suc k) (x ∷ l) = ap (λ t. x ∷ t) (take_again k l)

pub none_left : {A : Type 0} (xs : List A) → length xs ≡ 0 → xs ≡ []
none_left [] e = refl
none_left (x ∷ xs) e = absurd (omega arith)

-- a part behind a part
pub drop_take : (m n : ℕ) (l : List ℕ) → m ≤ length l → drop m (take (m + n) l) ≡ take n (drop m l)
drop_take m n l h = ap (drop m) (take-add m n l) ∙ drop_at (take m l) (take n (drop m l)) m (length-take-le m l h)

pub take_set : (l : List ℕ) (i x : ℕ) → i < length l → take (suc i) (set l i x) ≡ take i l ++ (x ∷ [])
take_set [] i x h = absurd (omega arith)
take_set (y ∷ l) zero x h = refl
take_set (y ∷ l) (suc i) x h = ap (λ z. y ∷ z) (take_set l i x (omega arith))

-- ---- a run that is stored word by word, and read again
pub run_start : (o l : List ℕ) (at : ℕ) → sets o at l ≡ sets o (at + 0) l
run_start o l at = ap (λ (n : ℕ). sets o n l) (sym (add-zero at))

pub run_next : (o l : List ℕ) (at i : ℕ) → i < length l
    → sets o (at + i) (drop i l) ≡ sets (set o (at + i) (get_or l i 0)) (at + (i + 1)) (drop (i + 1) l)
run_next o l at i h =
    let e : suc (at + i) ≡ at + (i + 1) = omega arith in
    ap (sets o (at + i)) (from l i h) ∙ ap (λ (n : ℕ). sets (set o (at + i) (get_or l i 0)) n (drop (i + 1) l)) e

pub run_end : (o l : List ℕ) (at i : ℕ) → length l ≤ i → sets o (at + i) (drop i l) ≡ o
run_end o l at i h = ap (sets o (at + i)) (from_end l i h)

-- what a write to a part leaves, as such a run
pub part_sets : (at n : ℕ) (o ws : List ℕ) → at + length ws ≤ length o → n ≡ length ws → put_mid at n o ws ≡ sets o at ws
part_sets at n o ws h e =
    put_mid-paste at n o ws ws (length ws) refl (sym e) refl
    ∙ ap (λ t. take at o ++ t ++ drop (at + length ws) o) (take_all (length ws) ws (omega arith))
    ∙ sym (sets-eq ws o at h)

-- what was stored from j on, read again
pub run_back : (l : List ℕ) (j n : ℕ) (r : List ℕ) → j + length r ≡ n → n ≤ length l → drop j (take n (sets l j r)) ≡ r
run_back l j n r e h =
    ap (λ (x : List ℕ). drop j (take n x)) (sets-eq r l j (omega arith))
    ∙ ap (drop j) (take_at (take j l ++ r) (drop (j + length r) l) n
    (length-append (take j l) r ∙ ap (λ (x : ℕ). x + length r) (length-take-le j l (omega arith)) ∙ e))
    ∙ drop_at (take j l) r j (length-take-le j l (omega arith))

-- what was stored at the start, read again by parts
pub part_back : (l r : List ℕ) (j k : ℕ) → j + k ≤ length r → length r ≤ length l → take k (drop j (sets l 0 r)) ≡ take k (drop j r)
part_back l r j k h g =
    ap (λ (x : List ℕ). take k (drop j x)) (sets-eq r l 0 (omega arith))
    ∙ ap (take k) (drop-append-le j r (drop (0 + length r) l) (omega arith))
    ∙ take-append-le k (drop j r) (drop (0 + length r) l) (rw (length-drop j r) (omega arith))

-- a run stored at the start, read again whole; n as the code has it
pub run_whole : (z f r : List ℕ) (n : ℕ) → n ≡ length r → length r ≤ length z → f ≡ sets z 0 r → take (n - 0) f ≡ r
run_whole z f r n e h ef =
    ap (λ (x : ℕ). take x f) (sub-zero n)
    ∙ ap (take n) ef
    ∙ part_back z r 0 n (omega arith) h
    ∙ take_all n r (omega arith)

-- ---- words in front
-- they are a run stored at the start
pub onto_sets : (new ws : List ℕ) → length new ≤ length ws → onto new ws ≡ sets ws 0 new
onto_sets new ws h = sym (sets-eq new ws 0 (rw (zero-add (length new)) h) ∙ ap (λ (n : ℕ). new ++ drop n ws) (zero-add (length new)))

pub length_onto : (new ws : List ℕ) → length new ≤ length ws → length (onto new ws) ≡ length ws
length_onto new ws h = ap length (onto_sets new ws h) ∙ length-sets ws 0 new

pub take_onto : (new ws : List ℕ) → take (length new) (onto new ws) ≡ new
take_onto new ws = take-append_seam new (drop (length new) ws)

-- words stored at a list's start
pub stored_back : (ws l : List ℕ) → length ws ≤ length l → take (length ws) (sets l 0 ws) ≡ ws
stored_back ws l h = ap (take (length ws)) (sym (onto_sets ws l h)) ∙ take_onto ws l

pub drop_onto : (new ws : List ℕ) → drop (length new) (onto new ws) ≡ drop (length new) ws
drop_onto new ws = drop-append_seam new (drop (length new) ws)

-- ---- lists that are compared
pub same_yes : {xs ys : List ℕ} → xs ≡ ys → same xs ys ≡ true
same_yes {xs} {ys} e = rw (← e) (same_refl xs)

pub same_not : (xs ys : List ℕ) → (xs ≡ ys → ⊥) → same xs ys ≡ false
same_not xs ys h = go (same xs ys) refl
  where
    go : (b : Bool) → same xs ys ≡ b → same xs ys ≡ false
    go true e = absurd (h (same_is xs ys e))
    go false e = e

pub same_lengths : (xs ys : List ℕ) → (length xs ≡ length ys → ⊥) → same xs ys ≡ false
same_lengths xs ys h = same_not xs ys (λ e. h (ap length e))

module _ (xs ys : List ℕ) (i : ℕ) where
  pub same_next : i < length xs → i < length ys → get_or xs i 0 ≡ get_or ys i 0 → same (drop i xs) (drop i ys) ≡ same (drop (i + 1) xs) (drop (i + 1) ys)
  same_next h g e = ap₂ same (from xs i h) (from ys i g) ∙ rw (eq-eqb _ _ e)

  pub same_stop : i < length xs → i < length ys → (get_or xs i 0 ≡ get_or ys i 0 → ⊥) → same (drop i xs) (drop i ys) ≡ false
  same_stop h g e = ap₂ same (from xs i h) (from ys i g) ∙ rw (ne_eqb _ _ e)

  pub same_end : length xs ≤ i → length ys ≤ i → same (drop i xs) (drop i ys) ≡ true
  same_end h g = ap₂ same (from_end xs i h) (from_end ys i g)

pub same_append : (a p q : List ℕ) → same (a ++ p) (a ++ q) ≡ same p q
same_append [] p q = refl
same_append (i ∷ a) p q = rw (is_eqb i i refl) (same_append a p q)

pub append_same : (a p q : List ℕ) → a ++ p ≡ a ++ q → p ≡ q
append_same [] p q e = e
append_same (i ∷ a) p q e = append_same a p q (cc)

-- ---- each, and by a test
module _ {ℓ κ} {A : Type ℓ} {B : Type κ} (h : A → B) where
  pub map_append : (xs ys : List A) → map h (xs ++ ys) ≡ map h xs ++ map h ys
  map_append [] ys = refl
  map_append (x ∷ xs) ys = ap (λ l. h x ∷ l) (map_append xs ys)

  pub take_map : (i : ℕ) (xs : List A) → take i (map h xs) ≡ map h (take i xs)
  take_map zero xs = refl
  take_map (suc i) [] = refl
  take_map (suc i) (x ∷ xs) = ap (λ l. h x ∷ l) (take_map i xs)

  pub drop_map : (i : ℕ) (xs : List A) → drop i (map h xs) ≡ map h (drop i xs)
  drop_map zero xs = refl
  drop_map (suc i) [] = refl
  drop_map (suc i) (x ∷ xs) = drop_map i xs

  pub filter_map : (q : B → Bool) (xs : List A) → filter q (map h xs) ≡ map h (filter (λ x. q (h x)) xs)
  filter_map q [] = refl
  filter_map q (x ∷ xs) = go (q (h x)) (filter_map q xs)
    where
      go : (b : Bool) → filter q (map h xs) ≡ map h (filter (λ x. q (h x)) xs)
          → cond b (h x ∷ filter q (map h xs)) (filter q (map h xs)) ≡ map h (cond b (x ∷ filter (λ x. q (h x)) xs) (filter (λ x. q (h x)) xs))
      go true ih = ap (λ l. h x ∷ l) ih
      go false ih = ih

  pub any_map : (q : B → Bool) (xs : List A) → any q (map h xs) ≡ any (λ x. q (h x)) xs
  any_map q [] = refl
  any_map q (x ∷ xs) = ap (λ b. q (h x) || b) (any_map q xs)

  pub all_map : (q : B → Bool) (xs : List A) → all q (map h xs) ≡ all (λ x. q (h x)) xs
  all_map q [] = refl
  all_map q (x ∷ xs) = ap (λ b. q (h x) && b) (all_map q xs)

  -- a test of two that the map keeps
  pub insert_map : (lt : A → A → Bool) (lt' : B → B → Bool) → ((x y : A) → lt x y ≡ lt' (h x) (h y)) → (a : A) (xs : List A)
      → map h (insert lt a xs) ≡ insert lt' (h a) (map h xs)
  insert_map lt lt' e a [] = refl
  insert_map lt lt' e a (x ∷ xs) = rw (← (e x a)) (go (lt x a) (insert_map lt lt' e a xs))
    where
      go : (b : Bool) → map h (insert lt a xs) ≡ insert lt' (h a) (map h xs)
          → map h (cond b (x ∷ insert lt a xs) (a ∷ x ∷ xs)) ≡ cond b (h x ∷ insert lt' (h a) (map h xs)) (h a ∷ h x ∷ map h xs)
      go true ih = ap (λ l. h x ∷ l) ih
      go false ih = refl

  pub sort_map : (lt : A → A → Bool) (lt' : B → B → Bool) → ((x y : A) → lt x y ≡ lt' (h x) (h y)) → (xs : List A)
      → map h (sort lt xs) ≡ sort lt' (map h xs)
  sort_map lt lt' e [] = refl
  sort_map lt lt' e (x ∷ xs) = insert_map lt lt' e x (sort lt xs) ∙ ap (insert lt' (h x)) (sort_map lt lt' e xs)

module _ {ℓ} {A : Type ℓ} where
  pub filter_same : (p q : A → Bool) (xs : List A) → ((x : A) → x ∈ xs → p x ≡ q x) → filter p xs ≡ filter q xs
  filter_same p q [] e = refl
  filter_same p q (x ∷ xs) e = rw (e x (here refl), filter_same p q xs (λ y m. e y (there m)))

  pub filter_append : (p : A → Bool) (xs ys : List A) → filter p (xs ++ ys) ≡ filter p xs ++ filter p ys
  filter_append p [] ys = refl
  filter_append p (x ∷ xs) ys = go (p x) (filter_append p xs ys)
    where
      go : (b : Bool) → filter p (xs ++ ys) ≡ filter p xs ++ filter p ys
          → cond b (x ∷ filter p (xs ++ ys)) (filter p (xs ++ ys)) ≡ cond b (x ∷ filter p xs) (filter p xs) ++ filter p ys
      go true ih = ap (λ l. x ∷ l) ih
      go false ih = ih

  pub any_same : (p q : A → Bool) (xs : List A) → ((x : A) → x ∈ xs → p x ≡ q x) → any p xs ≡ any q xs
  any_same p q [] e = refl
  any_same p q (x ∷ xs) e = rw (e x (here refl), any_same p q xs (λ y m. e y (there m)))

  pub any_append : (p : A → Bool) (xs ys : List A) → any p (xs ++ ys) ≡ (any p xs || any p ys)
  any_append p [] ys = refl
  any_append p (x ∷ xs) ys = go (p x) (any_append p xs ys)
    where
      go : (b : Bool) → any p (xs ++ ys) ≡ (any p xs || any p ys) → (b || any p (xs ++ ys)) ≡ ((b || any p xs) || any p ys)
      go true ih = refl
      go false ih = ih

  pub all_same : (p q : A → Bool) (xs : List A) → ((x : A) → x ∈ xs → p x ≡ q x) → all p xs ≡ all q xs
  all_same p q [] e = refl
  all_same p q (x ∷ xs) e = rw (e x (here refl), all_same p q xs (λ y m. e y (there m)))

  pub all_append : (p : A → Bool) (xs ys : List A) → all p (xs ++ ys) ≡ (all p xs && all p ys)
  all_append p [] ys = refl
  all_append p (x ∷ xs) ys = go (p x) (all_append p xs ys)
    where
      go : (b : Bool) → all p (xs ++ ys) ≡ (all p xs && all p ys) → (b && all p (xs ++ ys)) ≡ ((b && all p xs) && all p ys)
      go true ih = ih
      go false ih = refl

module _ {ℓ κ} {A : Type ℓ} {B : Type κ} where
  pub map_same : (f g : A → B) (xs : List A) → ((x : A) → x ∈ xs → f x ≡ g x) → map f xs ≡ map g xs
  map_same f g [] e = refl
  map_same f g (x ∷ xs) e = rw (e x (here refl), map_same f g xs (λ y m. e y (there m)))

  pub gather_same : (f g : A → List B) (xs : List A) → ((x : A) → x ∈ xs → f x ≡ g x) → gather f xs ≡ gather g xs
  gather_same f g [] e = refl
  gather_same f g (x ∷ xs) e = rw (e x (here refl), gather_same f g xs (λ y m. e y (there m)))

  pub gather_append : (f : A → List B) (xs ys : List A) → gather f (xs ++ ys) ≡ gather f xs ++ gather f ys
  gather_append f [] ys = refl
  gather_append f (x ∷ xs) ys = ap (λ l. f x ++ l) (gather_append f xs ys) ∙ sym (append_assoc (f x) (gather f xs) (gather f ys))

pub concat_append {ℓ} : {A : Type ℓ} (xs ys : List (List A)) → concat (xs ++ ys) ≡ concat xs ++ concat ys
concat_append [] ys = refl
concat_append (x ∷ xs) ys = ap (λ l. x ++ l) (concat_append xs ys) ∙ sym (append_assoc x (concat xs) (concat ys))

module _ {ℓ κ μ} {A : Type ℓ} {B : Type κ} {C : Type μ} where
  pub map_map : (g : B → C) (f : A → B) (xs : List A) → map g (map f xs) ≡ map (λ x. g (f x)) xs
  map_map g f [] = refl
  map_map g f (x ∷ xs) = ap (λ l. g (f x) ∷ l) (map_map g f xs)

  pub map_gather : (h : B → C) (f : A → List B) (xs : List A) → map h (gather f xs) ≡ gather (λ x. map h (f x)) xs
  map_gather h f [] = refl
  map_gather h f (x ∷ xs) = map_append h (f x) (gather f xs) ∙ ap (λ l. map h (f x) ++ l) (map_gather h f xs)

  pub gather_map : (f : B → List C) (h : A → B) (xs : List A) → gather f (map h xs) ≡ gather (λ x. f (h x)) xs
  gather_map f h [] = refl
  gather_map f h (x ∷ xs) = ap (λ l. f (h x) ++ l) (gather_map f h xs)

pub nil_same : {A B : Type 0} (h : A → B) (xs : List A) → is_nil (map h xs) ≡ is_nil xs
nil_same h [] = refl
nil_same h (x ∷ xs) = refl

-- sorting and a map that keeps the order of the elements at hand
module _ {ℓ κ} {A : Type ℓ} {B : Type κ} (h : A → B) (lt : A → A → Bool) (lt' : B → B → Bool) where
  pub insert_map_in : (a : A) (xs : List A) → ((x : A) → x ∈ xs → lt x a ≡ lt' (h x) (h a)) → map h (insert lt a xs) ≡ insert lt' (h a) (map h xs)
  insert_map_in a [] e = refl
  insert_map_in a (x ∷ xs) e = rw (← (e x (here refl))) (go (lt x a) (insert_map_in a xs (λ y m. e y (there m))))
    where
      go : (b : Bool) → map h (insert lt a xs) ≡ insert lt' (h a) (map h xs)
          → map h (cond b (x ∷ insert lt a xs) (a ∷ x ∷ xs)) ≡ cond b (h x ∷ insert lt' (h a) (map h xs)) (h a ∷ h x ∷ map h xs)
      go true ih = ap (λ l. h x ∷ l) ih
      go false ih = refl

  pub sort_map_in : (xs : List A) → ((x y : A) → x ∈ xs → y ∈ xs → lt x y ≡ lt' (h x) (h y)) → map h (sort lt xs) ≡ sort lt' (map h xs)
  sort_map_in [] e = refl
  sort_map_in (x ∷ xs) e =
      insert_map_in x (sort lt xs) (λ y m. e y x (there (in_sort lt xs m)) (here refl))
      ∙ ap (insert lt' (h x)) (sort_map_in xs (λ y z i j. e y z (there i) (there j)))

-- ---- numbers in a row
pub range_append : (c m n : ℕ) → range c (m + n) ≡ range c m ++ range (c + m) n
range_append c zero n = rw (zero-add n, add-zero c)
range_append c (suc m) n =
    let e : suc m + n ≡ suc (m + n) = omega arith in
    let d : suc c + m ≡ c + suc m = omega arith in
    rw (e, ← d) (ap (λ l. c ∷ l) (range_append (suc c) m n))

pub range_next : (c n : ℕ) → range c (suc n) ≡ range c n ++ ((c + n) ∷ [])
range_next c n = let e : suc n ≡ n + 1 = omega arith in ap (range c) e ∙ range_append c n 1

pub range_at : {A : Type 0} (f : ℕ → A) (d : A) (n c i : ℕ) → i < n → get_or (map f (range c n)) i d ≡ f (c + i)
range_at f d zero c i h = absurd (omega arith)
range_at f d (suc n) c zero h = ap f (sym (add-zero c))
range_at f d (suc n) c (suc i) h = let e : suc c + i ≡ c + suc i = omega arith in range_at f d n (suc c) i (omega arith) ∙ ap f e
