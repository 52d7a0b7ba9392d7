-- Rows and goals put in order by a key and their place.
--   first_on first_off first_end first_all first_pad   the first obligation position of a row's goals along the columns
--   keyed_on keyed_off keyed_end keyed_count           the places that pass, one after the other
--   Listed listed_begin listed_on listed_off listed_end   a loop that lists them and puts them in order
--   keyed_place item_place                             the place behind a key
--   sort_keyed                                         by key and place is by key: the earlier of two equal ones stays first
use mathlib.Core.Path.{◌≡◌, refl, ap, ap₂, sym, ◌∙◌}
use mathlib.Core.List.{List, [], ◌∷◌, ◌++◌, map}
use mathlib.Core.Bool.{Bool, true, false, cond}
use Prim.Native.Nat.{ℕ, zero, suc, ◌+◌, ◌-◌, ◌*◌, ◌%◌, ◌<◌, ◌≤◌}
use native.Mathlib.Omega.{arith}
use native.Mathlib.Nat.{sub-zero}
use native.Mathlib.Numerals.{add-one}
use native.Mathlib.Decide.{dec_lt}
use borrow.Author.Tests.{lt-ltb, le-ltb}
use lib.Dec.{ltb}
use lib.ListN.{length, get_or, take, drop, set, length-set}
use lib.Seq.{sets, drop-cons}
use Rattle.kinds.specs.Lists.{insert, sort, gather, range}
use Rattle.kinds.proofs.Members.{in_sort}
use Rattle.kinds.specs.Members.{◌∈◌, here, there}
use Rattle.goals.specs.GoalWords.{GoalWords, goal_at, goals_from, owed_by, pad, first_code}
use Rattle.goals.specs.WordStages.{picked_w, class_key}
use Rattle.derivatives.specs.Orders.{keyed}
use Rattle.goals.proofs.GoalLaws.{goals_next, goals_end, first_append}
use Rattle.derivatives.proofs.SortLaws.{arranged_run}

-- ---- no goals
pub picked_none : (bs : List Bool) → picked_w bs [] ≡ []
unfolding picked_w
picked_none [] = refl
picked_none (b ∷ bs) = refl

-- ---- the first obligation position of a row's goals
abbrev pub first_from : List ℕ → List Bool → List ℕ → ℕ → ℕ → ℕ → ℕ
first_from tab row ws n best j = first_code best (gather (owed_by tab) (picked_w (drop j row) (goals_from ws (3 * j) (n - j))))

module _ (tab : List ℕ) (row : List Bool) (ws : List ℕ) (n best j : ℕ) where
  along : j < n → goals_from ws (3 * j) (n - j) ≡ goal_at ws (3 * j) ∷ goals_from ws (3 * (j + 1)) (n - (j + 1))
  along h =
      let d : n - j - 1 ≡ n - (j + 1) = omega arith in
      let e : 3 * j + 3 ≡ 3 * (j + 1) = omega arith in
      goals_next ws (3 * j) (n - j) (omega arith) ∙ rw (d, e) refl

  pub first_on : j < n → j < length row → get_or row j false ≡ true
      → first_from tab row ws n best j ≡ first_from tab row ws n (first_code best (owed_by tab (goal_at ws (3 * j)))) (j + 1)
  unfolding picked_w
  first_on h l e =
      ap₂ (λ r gs. first_code best (gather (owed_by tab) (picked_w r gs))) (drop-cons row j false l) (along h)
      ∙ rw (e, add-one j) (first_append best (owed_by tab (goal_at ws (3 * j))) _)

  pub first_off : j < n → j < length row → get_or row j false ≡ false → first_from tab row ws n best j ≡ first_from tab row ws n best (j + 1)
  unfolding picked_w
  first_off h l e =
      ap₂ (λ r gs. first_code best (gather (owed_by tab) (picked_w r gs))) (drop-cons row j false l) (along h) ∙ rw (e, add-one j) refl

  pub first_end : n ≤ j → first_from tab row ws n best j ≡ best
  unfolding first_code
  first_end h =
      ap (λ gs. first_code best (gather (owed_by tab) (picked_w (drop j row) gs))) (goals_end ws (3 * j) (n - j) (omega arith))
      ∙ ap (λ gs. first_code best (gather (owed_by tab) gs)) (picked_none (drop j row))

pub first_all : (tab : List ℕ) (row : List Bool) (ws : List ℕ) (n best : ℕ)
    → first_code best (gather (owed_by tab) (picked_w row (goals_from ws 0 n))) ≡ first_from tab row ws n best 0
first_all tab row ws n best = rw (sub-zero n) refl

-- no later than where it began
pub first_pad : (best : ℕ) (cs : List ℕ) → pad (first_code best cs) ≤ pad best
unfolding first_code
first_pad best [] = omega arith
first_pad best (c ∷ cs) = go (dec_lt (pad c) (pad best)) (first_pad c cs) (first_pad best cs)
  where
    go : Dec (pad c < pad best) → pad (first_code c cs) ≤ pad c → pad (first_code best cs) ≤ pad best
        → pad (first_code (cond (ltb (pad c) (pad best)) c best) cs) ≤ pad best
    go (yes h) i k = let e : pad (first_code c cs) ≤ pad best = omega arith in rw (lt-ltb (pad c) (pad best) h) e
    go (no h) i k = rw (le-ltb (pad c) (pad best) (omega (arith, h))) k

pub key_of : (tab : List ℕ) (gs : List GoalWords) → class_key tab gs ≡ pad (first_code 65535 (gather (owed_by tab) gs))
unfolding class_key
key_of tab gs = refl

pub key_small : (tab : List ℕ) (gs : List GoalWords) → class_key tab gs ≤ 65535
key_small tab gs = rw (key_of tab gs) (first_pad 65535 (gather (owed_by tab) gs))

-- ---- the places that pass
module _ (p : ℕ → Bool) (key : ℕ → ℕ) (n i : ℕ) where
  pub keyed_on : i < n → p i ≡ true → keyed p key i (n - i) ≡ (128 * key i + i) ∷ keyed p key (i + 1) (n - (i + 1))
  unfolding keyed
  keyed_on h e = let d : n - i ≡ suc (n - (i + 1)) = omega arith in rw (d, e, add-one i) refl

  pub keyed_off : i < n → p i ≡ false → keyed p key i (n - i) ≡ keyed p key (i + 1) (n - (i + 1))
  unfolding keyed
  keyed_off h e = let d : n - i ≡ suc (n - (i + 1)) = omega arith in rw (d, e, add-one i) refl

  pub keyed_end : n ≤ i → keyed p key i (n - i) ≡ []
  unfolding keyed
  keyed_end h = let d : n - i ≡ 0 = omega arith in rw d refl

pub keyed_all : (p : ℕ → Bool) (key : ℕ → ℕ) (n : ℕ) → keyed p key 0 n ≡ keyed p key 0 (n - 0)
keyed_all p key n = rw (sub-zero n) refl

pub keyed_count : (p : ℕ → Bool) (key : ℕ → ℕ) (i k : ℕ) → length (keyed p key i k) ≤ k
unfolding keyed
keyed_count p key i zero = omega arith
keyed_count p key i (suc k) = go (p i) (keyed p key (suc i) k) (keyed_count p key (suc i) k)
  where
    go : (b : Bool) (xs : List ℕ) → length xs ≤ k → length (cond b ((128 * key i + i) ∷ xs) xs) ≤ suc k
    go true xs h = omega arith
    go false xs h = omega arith

-- the places before i that pass stand in the first k of l
pub record Listed (p : ℕ → Bool) (key : ℕ → ℕ) (n : ℕ) (l₀ l : List ℕ) (k i : ℕ) : Type 0 where
  pub below : i ≤ n
  pub few : k ≤ i
  pub long : length l ≡ length l₀
  pub count : k + length (keyed p key i (n - i)) ≡ length (keyed p key 0 n)
  pub is : sets l₀ 0 (keyed p key 0 n) ≡ sets l k (keyed p key i (n - i))

pub listed_begin : (p : ℕ → Bool) (key : ℕ → ℕ) (n : ℕ) (l : List ℕ) → Listed p key n l l 0 0
listed_begin p key n l =
    let e = keyed_all p key n in
    record { below = omega arith; few = omega arith; long = refl; count = omega (arith, ap length e); is = ap (sets l 0) e }

module _ {p : ℕ → Bool} {key : ℕ → ℕ} {n : ℕ} {l₀ l : List ℕ} {k i : ℕ} (s : Listed p key n l₀ l k i) where
  pub listed_on : i < n → p i ≡ true → (v : ℕ) → v ≡ 128 * key i + i → Listed p key n l₀ (set l k v) (k + 1) (i + 1)
  listed_on h e v d =
      let o = keyed_on p key n i h e in
      let c = s.count in
      let f = s.few in
      record {
        below = omega arith;
        few = omega arith;
        long = length-set l k v ∙ s.long;
        count = omega (arith, ap length o);
        is = s.is ∙ ap (sets l k) o ∙ rw (add-one k, d) refl;
      }

  pub listed_off : i < n → p i ≡ false → Listed p key n l₀ l k (i + 1)
  listed_off h e =
      let o = keyed_off p key n i h e in
      let c = s.count in
      let f = s.few in
      record { below = omega arith; few = omega arith; long = s.long; count = omega (arith, ap length o); is = s.is ∙ ap (sets l k) o }

  pub listed_end : n ≤ i → n ≤ length l₀ → (l' : List ℕ) → l' ≡ sets l 0 (sort ltb (take k l))
      → (k ≡ length (keyed p key 0 n)) × (l' ≡ sets l₀ 0 (sort ltb (keyed p key 0 n)))
  listed_end h room l' e =
      let o = keyed_end p key n i h in
      let z : k ≡ length (keyed p key 0 n) = let c = s.count in omega (arith, ap length o) in
      let w : l ≡ sets l₀ 0 (keyed p key 0 n) = sym (s.is ∙ ap (sets l k) o) in
      (z, e ∙ arranged_run l₀ l (keyed p key 0 n) k w z (let q = keyed_count p key 0 n in omega arith))

-- each is 128 times the key of a place and that place
pub keyed_place : (p : ℕ → Bool) (key : ℕ → ℕ) (i k x : ℕ) → x ∈ keyed p key i k → (j : ℕ) × (i ≤ j) × (j < i + k) × (x ≡ 128 * key j + j)
unfolding keyed
keyed_place p key i (suc k) x m =
    go (p i) (λ h. let r = keyed_place p key (suc i) k x h in let a = r.1 in let b = r.2 in (r.0, omega arith, omega arith, r.3)) m
  where
    go : (b : Bool) → (x ∈ keyed p key (suc i) k → (j : ℕ) × (i ≤ j) × (j < i + suc k) × (x ≡ 128 * key j + j))
        → x ∈ cond b ((128 * key i + i) ∷ keyed p key (suc i) k) (keyed p key (suc i) k)
        → (j : ℕ) × (i ≤ j) × (j < i + suc k) × (x ≡ 128 * key j + j)
    go true rest (here e) = (i, omega arith, omega arith, e)
    go true rest (there h) = rest h
    go false rest h = rest h
keyed_place p key i zero x m = elim m [ ]

pub item_place : (a j : ℕ) → j < 128 → (128 * a + j) % 128 ≡ j
item_place a j h = omega arith

-- ---- sorting by key and place is sorting by key
module _ {A : Type 0} (at : ℕ → A) (key : A → ℕ) where
  abbrev pub by : A → A → Bool
  by a b = ltb (key a) (key b)

  abbrev pub item : ℕ → ℕ
  item i = 128 * key (at i) + i

  abbrev pub named : ℕ → A
  named x = at (x % 128)

  -- places from i on
  abbrev Past : ℕ → List ℕ → Type 0
  Past i xs = (x : ℕ) → x ∈ xs → (j : ℕ) × (i ≤ j) × (j < 128) × (x ≡ item j)

  named_item : (j : ℕ) → j < 128 → named (item j) ≡ at j
  named_item j h = ap at (item_place (key (at j)) j h)

  -- a later place comes first exactly where its key is smaller
  item_before : (a b i j : ℕ) → i < j → j < 128 → ltb (128 * b + j) (128 * a + i) ≡ ltb b a
  item_before a b i j h g = go (dec_lt b a)
    where
      go : Dec (b < a) → ltb (128 * b + j) (128 * a + i) ≡ ltb b a
      go (yes l) = lt-ltb (128 * b + j) (128 * a + i) (omega arith) ∙ sym (lt-ltb b a l)
      go (no l) = le-ltb (128 * b + j) (128 * a + i) (omega (arith, l)) ∙ sym (le-ltb b a (omega (arith, l)))

  insert_item : (i : ℕ) → i < 128 → (xs : List ℕ) → Past (suc i) xs → map named (insert ltb (item i) xs) ≡ insert by (at i) (map named xs)
  insert_item i h [] past = ap (λ a. a ∷ []) (named_item i h)
  insert_item i h (x ∷ xs) past =
      let r = past x (here refl) in
      let j = r.0 in
      let e : by (named x) (at i) ≡ ltb x (item i) =
      rw (r.3, named_item j r.2) (sym (item_before (key (at i)) (key (at j)) i j r.1 r.2)) in
      rw e (go (ltb x (item i)) (insert_item i h xs (λ y m. past y (there m))))
    where
      go : (b : Bool) → map named (insert ltb (item i) xs) ≡ insert by (at i) (map named xs)
          → map named (cond b (x ∷ insert ltb (item i) xs) (item i ∷ x ∷ xs)) ≡ cond b (named x ∷ insert by (at i) (map named xs))
          (at i ∷ named x ∷ map named xs)
      go true ih = ap (λ l. named x ∷ l) ih
      go false ih = ap (λ a. a ∷ named x ∷ map named xs) (named_item i h)

  abbrev pub passing : (ℕ → Bool) → ℕ → ℕ → List A
  passing p i k = gather (λ j. cond (p j) (at j ∷ []) []) (range i k)

  pub sort_keyed : (p : ℕ → Bool) (i k : ℕ) → i + k ≤ 128 → map named (sort ltb (keyed p (λ j. key (at j)) i k)) ≡ sort by (passing p i k)
  unfolding keyed
  sort_keyed p i zero h = refl
  sort_keyed p i (suc k) h = go (p i) (sort_keyed p (suc i) k (omega arith))
    where
      past : Past (suc i) (sort ltb (keyed p (λ j. key (at j)) (suc i) k))
      past x m =
          let r = keyed_place p (λ j. key (at j)) (suc i) k x (in_sort ltb (keyed p (λ j. key (at j)) (suc i) k) m) in
          let b = r.2 in (r.0, r.1, omega arith, r.3)

      go : (b : Bool) → map named (sort ltb (keyed p (λ j. key (at j)) (suc i) k)) ≡ sort by (passing p (suc i) k)
          → map named (sort ltb (cond b (item i ∷ keyed p (λ j. key (at j)) (suc i) k) (keyed p (λ j. key (at j)) (suc i) k))) ≡ sort by
          (cond b (at i ∷ []) [] ++ passing p (suc i) k)
      go true ih = insert_item i (omega arith) (sort ltb (keyed p (λ j. key (at j)) (suc i) k)) past ∙ ap (insert by (at i)) ih
      go false ih = ih
