-- What the ordered places name: the classes of a derivative and the announcements of a state, in the definition's order.
--   cells_closed       what `dependency` ensures: each cell is the closed square's
--   classes_in_order   the rows that begin a class, in order, give the classes
--   outputs_in_order   the goals that go out, in order, are the announcements
--   items_low          they name places within
use mathlib.Core.Path.{◌≡◌, refl, ap, ap₂, sym, ◌∙◌}
use mathlib.Core.List.{List, [], ◌∷◌, ◌++◌, map}
use mathlib.Core.Bool.{Bool, true, false, cond}
use Prim.Native.Nat.{ℕ, zero, suc, ◌+◌, ◌*◌, ◌%◌, ◌<◌, ◌≤◌}
use native.Mathlib.Omega.{arith}
use native.Mathlib.Nat.{zero-add, add-zero}
use lib.Dec.{ltb}
use lib.ListN.{length, get_or, length-map}
use Rattle.kinds.specs.Lists.{sort, gather, range}
use Rattle.kinds.proofs.Bools.{bool_ext}
use Rattle.kinds.proofs.Members.{in_sort}
use Rattle.kinds.specs.Members.{◌∈◌}
use Rattle.kinds.proofs.ListLaws.{gather_map}
use Rattle.kinds.specs.Chains.{Yes}
use Rattle.kinds.proofs.ChainLaws.{chain_within}
use Rattle.automaton.specs.Classes.{Square, cell, through, close, leads, rows_from}
use Rattle.automaton.proofs.Closure.{close_chain}
use Rattle.goals.specs.GoalWords.{GoalWords, goal_w, goal_at, goals_from}
use Rattle.goals.specs.WordStages.{dep_w, picked_w, closed_w, class_key, classes_w, ann_key, announces, outputs_w}
use Rattle.classes.specs.Squares.{shares, Closes}
use Rattle.derivatives.specs.Orders.{keyed, class_at, begins, lead_items, goal_on, goes_out, out_items}
use Rattle.goals.proofs.GoalLaws.{goals_length, goals_at}
use Rattle.derivatives.proofs.OrderLaws.{keyed_place, item_place, passing, sort_keyed}

-- ---- rows that agree
leads_same : (i : ℕ) (r s : List Bool) → ((b : ℕ) → b ≤ i → get_or r b false ≡ get_or s b false) → leads i r ≡ leads i s
leads_same i [] [] h = refl
leads_same zero [] (c ∷ s) h = h 0 (omega arith)
leads_same (suc i) [] (c ∷ s) h = rw (← (h 0 (omega arith))) (leads_same i [] s (λ b l. h (suc b) (omega arith)))
leads_same zero (c ∷ r) [] h = h 0 (omega arith)
leads_same (suc i) (c ∷ r) [] h = rw (h 0 (omega arith)) (leads_same i r [] (λ b l. h (suc b) (omega arith)))
leads_same zero (c ∷ r) (d ∷ s) h = h 0 (omega arith)
leads_same (suc i) (c ∷ r) (d ∷ s) h = rw (h 0 (omega arith), leads_same i r s (λ b l. h (suc b) (omega arith))) refl

picked_same : (gs : List GoalWords) (r s : List Bool) → ((b : ℕ) → b < length gs → get_or r b false ≡ get_or s b false)
    → picked_w r gs ≡ picked_w s gs
unfolding picked_w
picked_same [] [] [] h = refl
picked_same [] [] (c ∷ s) h = refl
picked_same [] (c ∷ r) [] h = refl
picked_same [] (c ∷ r) (d ∷ s) h = refl
picked_same (g ∷ gs) [] [] h = refl
picked_same (g ∷ gs) [] (c ∷ s) h = rw (← (h 0 (omega arith))) (picked_same gs [] s (λ b l. h (suc b) (omega arith)))
picked_same (g ∷ gs) (c ∷ r) [] h = rw (h 0 (omega arith)) (picked_same gs r [] (λ b l. h (suc b) (omega arith)))
picked_same (g ∷ gs) (c ∷ r) (d ∷ s) h = rw (h 0 (omega arith), picked_same gs r s (λ b l. h (suc b) (omega arith))) refl

close_length : (ks : List ℕ) (m : Square) → length (close ks m) ≡ length m
close_length [] m = refl
close_length (k ∷ ks) m = close_length ks (through k m) ∙ length-map m _

module _ {A : Type 0} (f : List Bool → A) (p : ℕ → Bool) (at : ℕ → A) where
  rows_passing : (i : ℕ) (m : Square) → ((a : ℕ) → a < length m → leads (i + a) (get_or m a []) ≡ p (i + a))
      → ((a : ℕ) → a < length m → f (get_or m a []) ≡ at (i + a))
      → map f (rows_from i m) ≡ gather (λ j. cond (p j) (at j ∷ []) []) (range i (length m))
  rows_passing i [] h g = refl
  rows_passing i (r ∷ m) h g =
      go (p i) (rw (add-zero i) at (h 0 (omega arith))) (rw (add-zero i) at (g 0 (omega arith)))
      (rows_passing (suc i) m
      (λ a l. let e : suc i + a ≡ i + suc a = omega arith in rw e (h (suc a) (omega arith)))
      (λ a l. let e : suc i + a ≡ i + suc a = omega arith in rw e (g (suc a) (omega arith))))
    where
      go : (b : Bool) → leads i r ≡ b → f r ≡ at i
          → map f (rows_from (suc i) m) ≡ gather (λ j. cond (p j) (at j ∷ []) []) (range (suc i) (length m))
          → map f (cond (leads i r) (r ∷ rows_from (suc i) m) (rows_from (suc i) m)) ≡ cond b (at i ∷ []) [] ++ gather (λ j. cond (p j) (at j ∷ []) [])
          (range (suc i) (length m))
      go true e d ih = rw (e, d, ih) refl
      go false e d ih = rw e ih

map_at_lem {ℓ κ} : {A : Type ℓ} {B : Type κ} (f : A → B) (xs : List A) (i : ℕ) (d : B) (e : A) → i < length xs
    → get_or (map f xs) i d ≡ f (get_or xs i e)
map_at_lem f [] i d e h = absurd (omega arith)
map_at_lem f (x ∷ xs) zero d e h = refl
map_at_lem f (x ∷ xs) (suc i) d e h = map_at_lem f xs i d e (omega arith)

module _ (tab ws : List ℕ) (n : ℕ) (d : Square) (few : n ≤ 96) where
  abbrev gs : List GoalWords
  gs = goals_from ws 0 n

  abbrev first : Square
  first = map (λ g. map (dep_w tab g) gs) gs

  abbrev none : GoalWords
  none = goal_w 0 0 0

  goal_at_lem : (a : ℕ) → a < n → get_or gs a none ≡ goal_at ws (3 * a)
  goal_at_lem a h = goals_at ws 0 n a none h ∙ ap (goal_at ws) (zero-add (3 * a))

  first_is : (a b : ℕ) → a < n → b < n → shares tab ws a b ≡ cell first a b
  first_is a b ha hb =
      sym (
      ap (λ r. get_or r b false) (map_at_lem (λ g. map (dep_w tab g) gs) gs a [] none (rw (goals_length ws 0 n) ha))
      ∙ map_at_lem (dep_w tab (get_or gs a none)) gs b false none (rw (goals_length ws 0 n) hb)
      ∙ ap₂ (dep_w tab) (goal_at_lem a ha) (goal_at_lem b hb))

  module _ (closes : Closes n (Yes (shares tab ws)) d) where
    pub cells_closed : (a b : ℕ) → a < n → b < n → cell d a b ≡ cell (closed_w tab gs) a b
    unfolding closed_w
    cells_closed a b ha hb =
        let rounds = close_chain n first a b in
        bool_ext (cell d a b) (cell (close (range 0 (length gs)) first) a b)
        (λ e. ap (λ k. cell (close (range 0 k) first) a b) (goals_length ws 0 n)
        ∙ rounds.1 (chain_within (λ i j hi hj y. sym (first_is i j hi hj) ∙ y) ha hb (closes.sound a b ha hb e)))
        (λ e. closes.complete a b ha hb
        (chain_within (λ i j hi hj y. first_is i j hi hj ∙ y) ha hb
        (rounds.0 (ap (λ k. cell (close (range 0 k) first) a b) (sym (goals_length ws 0 n)) ∙ e))))

    closed_rows : length (closed_w tab gs) ≡ n
    unfolding closed_w
    closed_rows = close_length (range 0 (length gs)) first ∙ length-map gs _ ∙ goals_length ws 0 n

    same_cell : (a b : ℕ) → a < length (closed_w tab gs) → b < n → cell (closed_w tab gs) a b ≡ cell d a b
    same_cell a b h l = sym (cells_closed a b (rw closed_rows at h) l)

    pub classes_in_order : map (λ x. class_at d ws n (x % 128)) (sort ltb (lead_items tab d ws n)) ≡ classes_w tab gs
    unfolding classes_w
    classes_in_order =
        sort_keyed (class_at d ws n) (class_key tab) (begins d) 0 n (omega arith)
        ∙ ap (sort (λ a b. ltb (class_key tab a) (class_key tab b))) (sym (
        rows_passing (λ r. picked_w r gs) (begins d) (class_at d ws n) 0 (closed_w tab gs)
        (λ a h. rw (zero-add a) (leads_same a (get_or (closed_w tab gs) a []) (get_or d a [])
        (λ b g. same_cell a b h (let l : a < n = rw closed_rows at h in omega arith))))
        (λ a h. rw (zero-add a) (picked_same gs (get_or (closed_w tab gs) a []) (get_or d a []) (λ b g. same_cell a b h (rw (goals_length ws 0 n) at g))))
        ∙ ap (λ k. passing (class_at d ws n) (class_key tab) (begins d) 0 k) closed_rows))

-- ---- announcements
goals_map : (ws : List ℕ) (at i k : ℕ) → map (goal_on ws at) (range i k) ≡ goals_from ws (at + 3 * i) k
unfolding goals_from
goals_map ws at i zero = refl
goals_map ws at i (suc k) =
    let e : at + 3 * suc i ≡ at + 3 * i + 3 = omega arith in
    ap (λ l. goal_at ws (at + 3 * i) ∷ l) (goals_map ws at (suc i) k ∙ ap (λ a. goals_from ws a k) e)

pub outputs_in_order : (tab ws : List ℕ) (at c f n : ℕ) → n ≤ 96
    → map (λ x. goal_on ws at (x % 128)) (sort ltb (out_items tab ws at c f n)) ≡ outputs_w tab c f (goals_from ws at n)
unfolding outputs_w
outputs_in_order tab ws at c f n few =
    sort_keyed (goal_on ws at) ann_key (goes_out tab ws at c f) 0 n (omega arith)
    ∙ ap (sort (λ g h. ltb (ann_key g) (ann_key h))) (
    sym (gather_map (announces tab c f) (goal_on ws at) (range 0 n))
    ∙ ap (gather (announces tab c f)) (goals_map ws at 0 n ∙ ap (λ a. goals_from ws a n) (let e : at + 3 * 0 ≡ at = omega arith in e)))

-- ---- places within
pub items_low : (p : ℕ → Bool) (key : ℕ → ℕ) (n : ℕ) → n ≤ 96 → (x : ℕ) → x ∈ sort ltb (keyed p key 0 n) → x % 128 < n
items_low p key n few x m =
    let r = keyed_place p key 0 n x (in_sort ltb (keyed p key 0 n) m) in
    let j = r.0 in
    let h = r.2 in
    let e : x % 128 ≡ j = ap (λ y. y % 128) r.3 ∙ item_place (key j) j (omega arith) in
    rw e (omega arith)
