-- The classes of a list of goals, for any kind of obligation: each is all that depends on its first goal.
--   picked_in on_picked picked_of picked_map pairwise_picked   the goals of a row
--   leads_at on_row                    a row that begins a class
--   Class class_is class_lead          a class, by the place of its first goal
--   class_sub class_at_lem class_has class_some  its goals are goals of the list; which ones; there is one
--   class_closed                       what depends on a goal of a class is in it
--   class_unique class_of              each goal that depends on itself is in exactly one class
--   classes_one classes_none           of the classes one passes a test, or none does
use mathlib.Core.Path.{◌≡◌, refl, ap, sym, ◌∙◌}
use mathlib.Core.Bool.{Bool, true, false, cond, false≢true}
use mathlib.Core.List.{List, [], ◌∷◌, map}
use mathlib.Core.Option.{some}
use mathlib.Core.Logic.{◌⊎◌, inl, inr, ⊎_elim}
use Prim.Native.Nat.{ℕ, zero, suc, ◌+◌, ◌<◌}
use native.Mathlib.Omega.{arith}
use native.Mathlib.Nat.{eq-or-lt_of_le, le_of_suc-le-suc, add-zero, zero-add}
use lib.ListN.{length, get_or, get_elem?}
use Rattle.kinds.specs.Lists.{sum}
use Rattle.kinds.proofs.Bools.{test, not_true, Order, less, equal, more, order}
use Rattle.kinds.proofs.Options.{none_not}
use Rattle.kinds.proofs.Members.{on_map, map_in, in_sort, sort_in, sort_perm}
use Rattle.kinds.specs.Members.{◌∈◌, here, there, ◌⊆◌, Pairwise}
use Rattle.kinds.proofs.Sums.{sum_map, sum_perm, sum_zero}
use Rattle.kinds.proofs.Places.{on_in, at_some, get_d_at}
use Rattle.automaton.specs.Goals.{Goal, State, Calculus}
use Rattle.automaton.specs.Classes.{Square, cell, picked, leads, rows_from, dep, Dependent, closed, class_before, classes}
use Rattle.automaton.specs.Walking.{one}
use Rattle.automaton.proofs.Closure.{direct, dependent_place, dependent_join, dependent_sym, dependent_closed}

-- ---- the goals of a row
module _ {A : Type 0} where
  pub picked_in : (r : List Bool) (s : List A) → picked r s ⊆ s
  picked_in (true ∷ bs) (g ∷ s) x (here e) = here e
  picked_in (true ∷ bs) (g ∷ s) x (there m) = there (picked_in bs s x m)
  picked_in (false ∷ bs) (g ∷ s) x m = there (picked_in bs s x m)
  picked_in [] s x m = elim m [ ]
  picked_in (false ∷ bs) [] x m = elim m [ ]
  picked_in (true ∷ bs) [] x m = elim m [ ]

  pub on_picked {κ} : {C : Type κ} (r : List Bool) (s : List A) {x : A} → x ∈ picked r s
      → ((j : ℕ) → get_elem? s j ≡ some x → get_or r j false ≡ true → C) → C
  on_picked (true ∷ bs) (g ∷ s) (here e) k = k 0 (rw e) refl
  on_picked (true ∷ bs) (g ∷ s) (there m) k = on_picked bs s m (λ j. k (suc j))
  on_picked (false ∷ bs) (g ∷ s) m k = on_picked bs s m (λ j. k (suc j))
  on_picked {C = C} [] s m k = elim m [ ]
  on_picked {C = C} (false ∷ bs) [] m k = elim m [ ]
  on_picked {C = C} (true ∷ bs) [] m k = elim m [ ]

  pub picked_of : (r : List Bool) (s : List A) (j : ℕ) {x : A} → get_elem? s j ≡ some x → get_or r j false ≡ true → x ∈ picked r s
  picked_of [] s j e t = absurd (false≢true t)
  picked_of (b ∷ bs) [] j e t = none_not e
  picked_of (true ∷ bs) (g ∷ s) zero {x} e t = let z : x ≡ g = cc in here z
  picked_of (false ∷ bs) (g ∷ s) zero e t = absurd (false≢true t)
  picked_of (true ∷ bs) (g ∷ s) (suc j) e t = there (picked_of bs s j e t)
  picked_of (false ∷ bs) (g ∷ s) (suc j) e t = picked_of bs s j e t

pub picked_map : {A B : Type 0} (h : A → B) (r : List Bool) (s : List A) → map h (picked r s) ≡ picked r (map h s)
picked_map h [] s = refl
picked_map h (b ∷ bs) [] = refl
picked_map h (true ∷ bs) (g ∷ s) = ap (λ l. h g ∷ l) (picked_map h bs s)
picked_map h (false ∷ bs) (g ∷ s) = picked_map h bs s

pub pairwise_picked : {A : Type 0} (R : A → A → Type 0) (r : List Bool) (s : List A) → Pairwise R s → Pairwise R (picked r s)
pairwise_picked R [] s a = tt
pairwise_picked R (b ∷ bs) [] a = tt
pairwise_picked R (true ∷ bs) (g ∷ s) a = (λ y m. a.0 y (picked_in bs s y m), pairwise_picked R bs s a.1)
pairwise_picked R (false ∷ bs) (g ∷ s) a = pairwise_picked R bs s a.1

-- ---- rows that begin a class
pub leads_at : (i : ℕ) (r : List Bool) → leads i r ≡ true → (get_or r i false ≡ true) × ((m : ℕ) → m < i → get_or r m false ≡ false)
leads_at zero [] e = absurd (false≢true e)
leads_at zero (b ∷ bs) e = (e, λ m h. absurd (omega arith))
leads_at (suc i) [] e = absurd (false≢true e)
leads_at (suc i) (true ∷ bs) e = absurd (false≢true e)
leads_at (suc i) (false ∷ bs) e = let ih = leads_at i bs e in (ih.0, λ m. elim m as (λ k. k < suc i → get_or (false ∷ bs) k false ≡ false) [ zero ↦ λ h. refl | suc k ↦ λ h. ih.1 k (le_of_suc-le-suc h) ])

leads_of : (i : ℕ) (r : List Bool) → get_or r i false ≡ true → ((m : ℕ) → m < i → get_or r m false ≡ false) → leads i r ≡ true
leads_of zero [] e h = e
leads_of zero (b ∷ bs) e h = e
leads_of (suc i) [] e h = e
leads_of (suc i) (b ∷ bs) e h = rw (h 0 (omega arith)) (leads_of i bs e (λ m l. h (suc m) (omega arith)))

shift : (i c : ℕ) → suc i + c ≡ i + suc c
shift i c = omega arith

pub on_row {κ} : {C : Type κ} (m : Square) (i : ℕ) {r : List Bool} → r ∈ rows_from i m → ((k : ℕ) → get_elem? m k ≡ some r → leads (i + k) r ≡ true → C)
    → C
on_row {C = C} (x ∷ m) i {r} a k = go (leads i x) refl a (λ b. on_row m (suc i) b (λ c e t. k (suc c) e (rw (shift i c) at t)))
  where
    go : (b : Bool) → leads i x ≡ b → r ∈ cond b (x ∷ rows_from (suc i) m) (rows_from (suc i) m) → (r ∈ rows_from (suc i) m → C) → C
    go true e (here d) rest = k 0 (rw d) (rw (add-zero, d) e)
    go true e (there b) rest = rest b
    go false e b rest = rest b
on_row {C = C} [] i {r = r} a k = elim a [ ]

row_in : (m : Square) (i l : ℕ) {r : List Bool} → get_elem? m l ≡ some r → leads (i + l) r ≡ true → r ∈ rows_from i m
row_in [] i l e t = none_not e
row_in (x ∷ m) i zero {r} e t = let z : r ≡ x = cc in rw (← z, rw add-zero at t) (here refl)
row_in (x ∷ m) i (suc l) {r} e t = go (leads i x) (row_in m (suc i) l e (rw (← (shift i l)) at t))
  where
    go : (b : Bool) → r ∈ rows_from (suc i) m → r ∈ cond b (x ∷ rows_from (suc i) m) (rows_from (suc i) m)
    go true a = there a
    go false a = a

on_cell {κ} : {C : Type κ} (m : Square) (i j : ℕ) → cell m i j ≡ true → ((r : List Bool) → get_elem? m i ≡ some r → get_or r j false ≡ true → C) → C
on_cell [] i j e k = absurd (false≢true e)
on_cell (r ∷ m) zero j e k = k r refl e
on_cell (r ∷ m) (suc i) j e k = on_cell m i j e k

-- the first number that passes a test
record Least (f : ℕ → Bool) (n : ℕ) : Type 0 where
  pub at : ℕ
  pub below : at < n
  pub passes : f at ≡ true
  pub before : (m : ℕ) → m < at → f m ≡ false

least : (f : ℕ → Bool) (n : ℕ) → ((m : ℕ) → m < n → f m ≡ false) ⊎ Least f n
least f zero = inl (λ m h. absurd (omega arith))
least f (suc n) = go (least f n) (test (f n))
  where
    go : ((m : ℕ) → m < n → f m ≡ false) ⊎ Least f n → (f n ≡ true) ⊎ (f n ≡ false) → ((m : ℕ) → m < suc n → f m ≡ false) ⊎ Least f (suc n)
    go (inr l) t = inr (record { at = l.at; below = omega arith; passes = l.passes; before = l.before })
    go (inl z) (inl t) = inr (record { at = n; below = omega arith; passes = t; before = z })
    go (inl z) (inr t) = inl (λ m h. ⊎_elim (λ (e : m ≡ n). rw e t) (λ (l : m < n). z m l) (eq-or-lt_of_le (le_of_suc-le-suc h)))

module _ {O : Type 0} (K : Calculus O) where
  -- a class: the row of its first goal
  pub record Class (s k : State O) : Type 0 where
    pub lead : ℕ
    pub row : List Bool
    pub is_row : get_elem? (closed K s) lead ≡ some row
    pub begins : leads lead row ≡ true
    pub is : k ≡ picked row s

  pub class_is : (s k : State O) → k ∈ classes K s → Class s k
  class_is s k m =
      on_map (λ r. picked r s) (rows_from 0 (closed K s)) (in_sort (class_before K) (map (λ r. picked r s) (rows_from 0 (closed K s))) m) λ r i e.
      on_row (closed K s) 0 i λ l a t.
      record { lead = l; row = r; is_row = a; begins = rw zero-add at t; is = e }

  is_class : (s k : State O) → Class s k → k ∈ classes K s
  is_class s k c = rw c.is (sort_in (class_before K)
      (map_in (λ r. picked r s) (row_in (closed K s) 0 c.lead c.is_row (rw zero-add c.begins))))

  pub class_sub : (s k : State O) → k ∈ classes K s → k ⊆ s
  class_sub s k m = let c = class_is s k m in rw c.is (picked_in c.row s)

  module _ (s k : State O) (c : Class s k) where
    row_cell : (j : ℕ) → cell (closed K s) c.lead j ≡ get_or c.row j false
    row_cell j = ap (λ r. get_or r j false) (get_d_at (closed K s) c.lead [] c.is_row)

    row_yes : (j : ℕ) → get_or c.row j false ≡ true → Dependent K s c.lead j
    row_yes j e = (dependent_closed K s c.lead j).0 (row_cell j ∙ e)

    yes_row : (j : ℕ) → Dependent K s c.lead j → get_or c.row j false ≡ true
    yes_row j d = sym (row_cell j) ∙ (dependent_closed K s c.lead j).1 d

    pub class_lead : Dependent K s c.lead c.lead
    class_lead = row_yes c.lead (leads_at c.lead c.row c.begins).0

    -- its goals depend on the first
    pub class_at_lem {κ} : {C : Type κ} {g : Goal O} → g ∈ k → ((j : ℕ) → get_elem? s j ≡ some g → Dependent K s c.lead j → C) → C
    class_at_lem m f = on_picked c.row s (rw c.is at m) λ j a t. f j a (row_yes j t)

    -- and all that do are its goals
    pub class_has : (j : ℕ) {g : Goal O} → get_elem? s j ≡ some g → Dependent K s c.lead j → g ∈ k
    class_has j a d = rw c.is (picked_of c.row s j a (yes_row j d))

    pub class_some : (g : Goal O) × (g ∈ k)
    class_some = let g = at_some s c.lead (dependent_place K s class_lead).0 in (g.0, class_has c.lead g.1 class_lead)

  pub class_closed : (s k : State O) → k ∈ classes K s → (g h : Goal O) → g ∈ k → h ∈ s → dep K g h ≡ true → h ∈ k
  class_closed s k m g h gk hs t =
      let c = class_is s k m in
      class_at_lem s k c gk λ i a d.
      on_in hs λ j b.
      class_has s k c j b (dependent_join K s d (direct K s a b t))

  -- nothing before the first goal of a class is in it
  lead_first : (s k : State O) (c : Class s k) (m : ℕ) → m < c.lead → Dependent K s c.lead m → ⊥
  lead_first s k c m l d = false≢true (sym ((leads_at c.lead c.row c.begins).1 m l) ∙ yes_row s k c m d)

  -- classes with a common place have the same first goal
  pub class_unique : (s k k' : State O) (c : Class s k) (c' : Class s k') (j : ℕ) → Dependent K s c.lead j → Dependent K s c'.lead j
      → c.lead ≡ c'.lead
  class_unique s k k' c c' j d e = go (order c.lead c'.lead)
    where
      there : Dependent K s c.lead c'.lead
      there = dependent_join K s d (dependent_sym K s e)

      go : Order c.lead c'.lead → c.lead ≡ c'.lead
      go (less h) = absurd (lead_first s k' c' c.lead h (dependent_sym K s there))
      go (equal e) = e
      go (more h) = absurd (lead_first s k c c'.lead h there)

  -- a goal that depends on itself is in a class
  pub class_of {κ} : {C : Type κ} (s : State O) (j : ℕ) → Dependent K s j j
      → ((k : State O) (c : Class s k) → k ∈ classes K s → Dependent K s c.lead j → C) → C
  class_of {C = C} s j d f = ⊎_elim (λ z. absurd (false≢true (sym (z j (dependent_place K s d).0) ∙ (dependent_closed K s j j).1 d))) go
      (least (cell (closed K s) j) (length s))
    where
      go : Least (cell (closed K s) j) (length s) → C
      go l = on_cell (closed K s) l.at l.at ((dependent_closed K s l.at l.at).1 (dependent_join K s (dependent_sym K s to) to)) λ r a t.
          let c : Class s (picked r s) = record { lead = l.at; row = r; is_row = a; begins = leads_of l.at r t (no_less r a); is = refl } in
          f (picked r s) c (is_class s (picked r s) c) (dependent_sym K s to)
        where
          to : Dependent K s j l.at
          to = (dependent_closed K s j l.at).0 l.passes

          no_less : (r : List Bool) → get_elem? (closed K s) l.at ≡ some r → (m : ℕ) → m < l.at → get_or r m false ≡ false
          no_less r a m h = go' (get_or r m false) refl
            where
              go' : (b : Bool) → get_or r m false ≡ b → get_or r m false ≡ false
              go' false e = e
              go' true e =
                  let y : cell (closed K s) l.at m ≡ true = ap (λ x. get_or x m false) (get_d_at (closed K s) l.at [] a) ∙ e in
                  let u : cell (closed K s) j m ≡ true =
                  (dependent_closed K s j m).1 (dependent_join K s to ((dependent_closed K s l.at m).0 y)) in
                  absurd (false≢true (sym (l.before m h) ∙ u))

-- exactly one of the rows that begin a class passes a test
rows_one : (P : List Bool → Bool) (m : Square) (i l : ℕ) (r : List Bool) → get_elem? m l ≡ some r → leads (i + l) r ≡ true → P r ≡ true
    → ((k : ℕ) (x : List Bool) → get_elem? m k ≡ some x → leads (i + k) x ≡ true → P x ≡ true → k ≡ l) → sum (map (λ x. one (P x)) (rows_from i m)) ≡ 1
rows_one P [] i l r e t p u = none_not e
rows_one P (x ∷ m) i zero r e t p u =
    let z : x ≡ r = cc in
    rw (z, rw add-zero at t, p, sum_zero (λ y. one (P y)) (rows_from (suc i) m) rest)
  where
    rest : (y : List Bool) → y ∈ rows_from (suc i) m → one (P y) ≡ 0
    rest y a = on_row m (suc i) a λ k b c. rw (not_true (P y) (λ q. let v = u (suc k) y b (rw (shift i k) at c) q in omega arith))
rows_one P (x ∷ m) i (suc l) r e t p u =
    go (leads i x) refl (rows_one P m (suc i) l r e (rw (← (shift i l)) at t) p
    (λ k y b c q. let v = u (suc k) y b (rw (shift i k) at c) q in omega arith))
  where
    go : (b : Bool) → leads i x ≡ b → sum (map (λ y. one (P y)) (rows_from (suc i) m)) ≡ 1
        → sum (map (λ y. one (P y)) (cond b (x ∷ rows_from (suc i) m) (rows_from (suc i) m))) ≡ 1
    go true h ih = rw (not_true (P x) (λ q. let v = u 0 x refl (rw (add-zero, h)) q in omega arith)) (omega arith)
    go false h ih = ih

module _ {O : Type 0} (K : Calculus O) (P : State O → Bool) (s : State O) where
  sum_rows : sum (map (λ k. one (P k)) (classes K s)) ≡ sum (map (λ r. one (P (picked r s))) (rows_from 0 (closed K s)))
  sum_rows = sym (sum_perm (λ k. one (P k)) (sort_perm (class_before K) (map (λ r. picked r s) (rows_from 0 (closed K s)))))
      ∙ sum_map (λ k. one (P k)) (λ r. picked r s) (rows_from 0 (closed K s))

  pub classes_one : (k : State O) (c : Class K s k) → P k ≡ true → ((k' : State O) (c' : Class K s k') → P k' ≡ true → c'.lead ≡ c.lead)
      → sum (map (λ k. one (P k)) (classes K s)) ≡ 1
  classes_one k c p u = sum_rows ∙ rows_one (λ r. P (picked r s)) (closed K s) 0 c.lead c.row c.is_row (rw zero-add c.begins)
      (rw (← c.is) p)
      (λ l r a t q. u (picked r s) (record { lead = l; row = r; is_row = a; begins = rw zero-add at t; is = refl }) q)

  pub classes_none : ((k : State O) → k ∈ classes K s → P k ≡ false) → sum (map (λ k. one (P k)) (classes K s)) ≡ 0
  classes_none h = sum_zero (λ k. one (P k)) (classes K s) (λ k m. rw (h k m))
