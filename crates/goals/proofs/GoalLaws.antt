-- The word definitions along a loop's turn.
use Rattle.std.specs.Prelude.{None, Some}
use native.Mathlib.Nat.{zero-add, add-zero, add_assoc}
use Prim.Native.Nat.{ℕ, zero, suc, ◌+◌, ◌-◌, ◌*◌, ◌/◌, ◌%◌, ◌<◌, ◌≤◌}
use mathlib.Core.Path.{◌≡◌, refl, ap, ap₂, sym, ◌∙◌}
use mathlib.Core.List.{List, [], ◌∷◌, ◌++◌, append_assoc}
use mathlib.Core.Bool.{Bool, true, false, cond, ◌||◌}
use native.Mathlib.Omega.{arith}
use native.Mathlib.Numerals.{add-one}
use borrow.Author.Tests.{eq-eqb, ne_eqb}
use lib.Dec.{eqb, ltb}
use lib.ListN.{length, get_or, take, drop, set, drop_of_length-le}
use Rattle.std.proofs.Common.{fold}
use lib.Seq.{sets, sets-eq, take-append_seam}
use Rattle.kinds.proofs.ListLaws.{from}
use Rattle.goals.specs.GoalWords.{GoalWords, owed_from, owed_codes, node_from, code_at, first_code, pad, goal_at, goals_from, Low, Stored, root_codes}
use Rattle.goals.specs.WordStages.{has_code, sharing}
use Rattle.goals.specs.Sharing.{first_shared, pick, is_at}

pub sub_one : (k : ℕ) → suc k - 1 ≡ k
sub_one k = omega arith

-- what is left of n at i
pub left_one : (n i : ℕ) → i < n → n - i ≡ suc (n - (i + 1))
left_one n i h = omega arith

pub left_none : (n i : ℕ) → n ≤ i → n - i ≡ 0
left_none n i h = omega arith

-- node r of n, with the mask from there
module _ (tab : List ℕ) (s a n r m : ℕ) where
  pub owed_on : r < n → m % 2 ≡ 1 → owed_from tab s a (n - r) r m ≡ code_at tab s a r ∷ owed_from tab s a (n - (r + 1)) (r + 1) (m / 2)
  unfolding owed_from
  owed_on h e = rw (left_one n r h, eq-eqb _ _ e, add-one r)

  pub owed_off : r < n → (m % 2 ≡ 1 → ⊥) → owed_from tab s a (n - r) r m ≡ owed_from tab s a (n - (r + 1)) (r + 1) (m / 2)
  unfolding owed_from
  owed_off h e = rw (left_one n r h, ne_eqb _ _ e, add-one r)

  pub owed_end : n ≤ r → owed_from tab s a (n - r) r m ≡ []
  unfolding owed_from
  owed_end h = rw (left_none n r h)

  module _ (c : ℕ) where
    pub node_here : r < n → m % 2 ≡ 1 → code_at tab s a r ≡ c → node_from tab s a c (n - r) r m ≡ r
    unfolding node_from
    node_here h e g = rw (left_one n r h, eq-eqb _ _ e, eq-eqb _ _ g)

    pub node_other : r < n → m % 2 ≡ 1 → (code_at tab s a r ≡ c → ⊥)
        → node_from tab s a c (n - r) r m ≡ node_from tab s a c (n - (r + 1)) (r + 1) (m / 2)
    unfolding node_from
    node_other h e g = rw (left_one n r h, eq-eqb _ _ e, ne_eqb _ _ g, add-one r)

    pub node_off : r < n → (m % 2 ≡ 1 → ⊥) → node_from tab s a c (n - r) r m ≡ node_from tab s a c (n - (r + 1)) (r + 1) (m / 2)
    unfolding node_from
    node_off h e = rw (left_one n r h, ne_eqb _ _ e, add-one r)

    pub node_end : n ≤ r → node_from tab s a c (n - r) r m ≡ 16
    unfolding node_from
    node_end h = rw (left_none n r h)

-- one store of a run
pub run_on : (l : List ℕ) (i v : ℕ) (vs : List ℕ) → sets l i (v ∷ vs) ≡ sets (set l i v) (i + 1) vs
run_on l i v vs = rw (add-one i)

module _ (x : ℕ) (b : List ℕ) (j : ℕ) where
  pub has_next : j < length b → (get_or b j 0 ≡ x → ⊥) → has_code x (drop j b) ≡ has_code x (drop (j + 1) b)
  has_next h ne = ap (has_code x) (from b j h) ∙ rw (ne_eqb _ _ ne)

  pub has_here : j < length b → get_or b j 0 ≡ x → has_code x (drop j b) ≡ true
  has_here h e = ap (has_code x) (from b j h) ∙ rw (eq-eqb _ _ e)

  pub has_end : length b ≤ j → has_code x (drop j b) ≡ false
  has_end h = ap (has_code x) (drop_of_length-le b h)

module _ (a b : List ℕ) (i : ℕ) where
  pub first_next : i < length a → has_code (get_or a i 0) b ≡ false → first_shared (drop i a) b ≡ first_shared (drop (i + 1) a) b
  unfolding first_shared
  first_next h e = ap (λ (l : List ℕ). first_shared l b) (from a i h) ∙ rw e

  pub first_here : i < length a → has_code (get_or a i 0) b ≡ true → first_shared (drop i a) b ≡ Some (get_or a i 0)
  unfolding first_shared
  first_here h e = ap (λ (l : List ℕ). first_shared l b) (from a i h) ∙ rw e

  pub first_end : length a ≤ i → first_shared (drop i a) b ≡ None
  unfolding first_shared
  first_end h = ap (λ (l : List ℕ). first_shared l b) (drop_of_length-le a h)

pub first_fold : (best : ℕ) (cs : List ℕ) → first_code best cs ≡ fold (λ b c. cond (ltb (pad c) (pad b)) c b) best cs
unfolding first_code
first_fold best [] = refl
first_fold best (c ∷ cs) = first_fold (cond (ltb (pad c) (pad best)) c best) cs

-- what was written from 0 on is the front
pub front : (l vs w : List ℕ) (n : ℕ) → length vs ≤ length l → n ≡ length vs → w ≡ sets l 0 vs → take n w ≡ vs
front l vs w n h e z =
    rw (e, z, sets-eq vs l 0 (omega arith))
    (ap (take (length vs)) (append_assoc [] vs _) ∙ take-append_seam vs (drop (0 + length vs) l))

-- goals along the words
pub goals_next : (ws : List ℕ) (at k : ℕ) → 0 < k → goals_from ws at k ≡ goal_at ws at ∷ goals_from ws (at + 3) (k - 1)
unfolding goals_from
goals_next ws at zero h = absurd (omega arith)
goals_next ws at (suc k) h = rw (sub_one k)

pub goals_end : (ws : List ℕ) (at k : ℕ) → k ≤ 0 → goals_from ws at k ≡ []
unfolding goals_from
goals_end ws at zero h = refl
goals_end ws at (suc k) h = absurd (omega arith)

pub goals_on : (ws : List ℕ) (at n j : ℕ) → j < n
    → goals_from ws (at + 3 * j) (n - j) ≡ goal_at ws (at + 3 * j) ∷ goals_from ws (at + 3 * (j + 1)) (n - (j + 1))
unfolding goals_from
goals_on ws at n j h =
    let e : at + 3 * j + 3 ≡ at + 3 * (j + 1) = omega arith in rw (left_one n j h, e)

pub low_next : (ws : List ℕ) (at k : ℕ) → 0 < k → Low (goals_from ws at k) → (get_or ws at 0 < 16) × Low (goals_from ws (at + 3) (k - 1))
low_next ws at k h l = rw (goals_next ws at k h) at l

-- goals read from words that agree
pub goals_same : (xs ys : List ℕ) (a b k : ℕ) → ((i : ℕ) → i < 3 * k → get_or xs (a + i) 0 ≡ get_or ys (b + i) 0)
    → goals_from xs a k ≡ goals_from ys b k
unfolding goals_from
goals_same xs ys a b zero h = refl
goals_same xs ys a b (suc k) h =
    let z : get_or xs a 0 ≡ get_or ys b 0 = ap (λ n. get_or xs n 0) (sym (add-zero a)) ∙ h 0 (omega arith) ∙ ap (λ n. get_or ys n 0) (add-zero b) in
    ap₂ (λ g gs. g ∷ gs)
    (λ i. record { sh = z i; an = h 1 (omega arith) i; mask = h 2 (omega arith) i })
    (goals_same xs ys (a + 3) (b + 3) k (λ i l. ap (λ n. get_or xs n 0) (add_assoc a 3 i) ∙ h (3 + i) (omega arith)
    ∙ ap (λ n. get_or ys n 0) (sym (add_assoc b 3 i))))

-- goal a of k
pub goals_length : (ws : List ℕ) (at k : ℕ) → length (goals_from ws at k) ≡ k
unfolding goals_from
goals_length ws at zero = refl
goals_length ws at (suc k) = ap suc (goals_length ws (at + 3) k)

pub goals_at : (ws : List ℕ) (at k a : ℕ) (d : GoalWords) → a < k → get_or (goals_from ws at k) a d ≡ goal_at ws (at + 3 * a)
unfolding goals_from
goals_at ws at zero a d h = absurd (omega arith)
goals_at ws at (suc k) zero d h = let e : at + 3 * 0 ≡ at = omega arith in ap (goal_at ws) (sym e)
goals_at ws at (suc k) (suc a) d h =
    let e : at + 3 + 3 * a ≡ at + 3 * suc a = omega arith in goals_at ws (at + 3) k a d (omega arith) ∙ ap (goal_at ws) e

-- each goal's shape
pub low_at : (ws : List ℕ) (at n j : ℕ) → Low (goals_from ws at n) → j < n → (goal_at ws (at + 3 * j)).sh < 16
unfolding goals_from
low_at ws at zero j l h = absurd (omega arith)
low_at ws at (suc n) zero l h = let e : at + 3 * 0 ≡ at = omega arith in rw e l.0
low_at ws at (suc n) (suc j) l h =
    let e : at + 3 * suc j ≡ at + 3 + 3 * j = omega arith in rw e (low_at ws (at + 3) n j l.1 (omega arith))

pub stored_low : {tab ws : List ℕ} {at n : ℕ} → Stored tab ws at n → (j : ℕ) → j < n → (goal_at ws (at + 3 * j)).sh < 16
stored_low {ws = ws} {at} {n} s j h = low_at ws at n j s.low h

pub stored_first : {tab ws : List ℕ} {n : ℕ} → Stored tab ws 0 n → (j : ℕ) → j < n → (goal_at ws (3 * j)).sh < 16
stored_first s j h = rw (zero-add (3 * j)) at (stored_low s j h)

pub first_append : (b : ℕ) (xs ys : List ℕ) → first_code b (xs ++ ys) ≡ first_code (first_code b xs) ys
unfolding first_code
first_append b [] ys = refl
first_append b (x ∷ xs) ys = first_append (cond (ltb (pad x) (pad b)) x b) xs ys

-- goal j of n
module _ (tab ws : List ℕ) (at n j best : ℕ) where
  pub label_on : j < n → get_or ws (at + 3 * j + 1) 0 ≡ 0
      → first_code best (root_codes tab (goals_from ws (at + 3 * j) (n - j)))
      ≡ first_code (first_code best (owed_codes tab (get_or ws (at + 3 * j) 0) 0 (get_or ws (at + 3 * j + 2) 0)))
      (root_codes tab (goals_from ws (at + 3 * (j + 1)) (n - (j + 1))))
  unfolding root_codes
  label_on h e =
      ap (λ gs. first_code best (root_codes tab gs)) (goals_on ws at n j h) ∙ rw e (first_append best _ _)

  pub label_off : j < n → (get_or ws (at + 3 * j + 1) 0 ≡ 0 → ⊥)
      → first_code best (root_codes tab (goals_from ws (at + 3 * j) (n - j)))
      ≡ first_code best (root_codes tab (goals_from ws (at + 3 * (j + 1)) (n - (j + 1))))
  unfolding root_codes
  label_off h e = ap (λ gs. first_code best (root_codes tab gs)) (goals_on ws at n j h) ∙ rw (ne_eqb _ _ e)

  pub label_end : n ≤ j → first_code best (root_codes tab (goals_from ws (at + 3 * j) (n - j))) ≡ best
  unfolding root_codes first_code goals_from
  label_end h = rw (left_none n j h)

pub node_low : (tab : List ℕ) (s a c k r m : ℕ) → r + k ≤ 16 → node_from tab s a c k r m ≤ 16
unfolding node_from
node_low tab s a c zero r m h = omega arith
node_low tab s a c (suc k) r m h =
    go (eqb (m % 2) 1) (eqb (code_at tab s a r) c) (node_from tab s a c k (suc r) (m / 2))
    (node_low tab s a c k (suc r) (m / 2) (omega arith))
  where
    go : (t u : Bool) (x : ℕ) → x ≤ 16 → cond t (cond u r x) x ≤ 16
    go true true x l = omega arith
    go true false x l = l
    go false u x l = l

-- something is shared exactly if a code of the one is the other's
pub shared_is : (xs ys : List ℕ) → is_at (first_shared xs ys) ≡ sharing xs ys
unfolding first_shared sharing
shared_is [] ys = refl
shared_is (x ∷ xs) ys = go (has_code x ys) (shared_is xs ys)
  where
    go : (b : Bool) → is_at (first_shared xs ys) ≡ sharing xs ys → is_at (pick b (Some x) (first_shared xs ys)) ≡ (b || sharing xs ys)
    go true e = refl
    go false e = e
