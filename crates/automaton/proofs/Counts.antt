-- Counting a walk: steps, what waits, what is unread.
--   can_look            whatever item waits, there is a symbol at the position that it looks at
--   goes_self           the items that follow may go on themselves: so every waiting item can be taken
--   steps read_steps    after k steps k positions are read
--   looks_distinct      items look at different positions, all unread
--   read_distinct       no position is read twice
--   waiting_unread      no more wait than are unread
--   read_all            where none waits all is read
--   none_waits          none waits exactly if as many positions are read as the score has
use mathlib.Core.Path.{◌≡◌, refl, sym, ◌∙◌}
use mathlib.Core.Bool.{Bool, true, false, false≢true}
use mathlib.Core.List.{List, [], ◌∷◌, ◌++◌, map}
use mathlib.Core.Option.{some}
use mathlib.Core.Logic.{⊎_elim, ◌↔◌}
use Prim.Native.Nat.{ℕ, suc, ◌+◌, ◌≤◌}
use native.Mathlib.Omega.{arith}
use lib.ListN.{length, length-append, length-map}
use Rattle.kinds.specs.Lists.{same, sum}
use Rattle.kinds.specs.Positions.{Pos}
use Rattle.kinds.proofs.Members.{∈_append, on_map, same_is, same_refl, Distinct, distinct_le}
use Rattle.kinds.specs.Members.{◌∈◌, here, there, ◌⊆◌}
use Rattle.kinds.proofs.ListLaws.{none_left}
use Rattle.kinds.proofs.Sums.{sum_append, sum_map}
use Rattle.term.specs.Terms.{Term, node, Terms, count, span}
use Rattle.term.specs.Places.{sub, dom}
use Rattle.automaton.specs.Goals.{Calculus, State, deriv, Announcement}
use Rattle.automaton.specs.Classes.{classes}
use Rattle.automaton.specs.Walking.{Setting, Scored, calculus, Reachable, next, Item, sees, one, times, looks, goes_on, follows, Goes, none_go, one_goes, Walked, begin, step}
use Rattle.term.proofs.Subterms.{whole_at, dom_in, in_dom, length_dom, dom_distinct}
use Rattle.automaton.proofs.Within.{score_arity}
use Rattle.automaton.proofs.Apart.{label_owes}
use Rattle.automaton.proofs.Reachable.{reachable_sound}
use Rattle.automaton.proofs.Alike.{alike_refl}
use Rattle.automaton.proofs.ReadOnce.{looks_sees}
use Rattle.automaton.proofs.Invariant.{Invariant, some_sum}

-- where one test passes only if another does
sum_under : {A : Type 0} (F G : A → Bool) (xs : List A) → ((x : A) → x ∈ xs → F x ≡ true → G x ≡ true)
    → sum (map (λ x. one (F x)) xs) ≤ sum (map (λ x. one (G x)) xs)
sum_under F G [] h = omega arith
sum_under F G (x ∷ xs) h = go (F x) refl (G x) refl (sum_under F G xs (λ y m. h y (there m)))
  where
    go : (a : Bool) → F x ≡ a → (b : Bool) → G x ≡ b → sum (map (λ y. one (F y)) xs) ≤ sum (map (λ y. one (G y)) xs)
        → one a + sum (map (λ y. one (F y)) xs) ≤ one b + sum (map (λ y. one (G y)) xs)
    go true e true d ih = omega arith
    go true e false d ih = absurd (false≢true (sym d ∙ h x (here refl) e))
    go false e b d ih = omega arith

-- at most once each: none twice
distinct_of : (R : List Pos) → ((q : Pos) → q ∈ R → times q R ≤ 1) → Distinct R
distinct_of [] h = tt
distinct_of (p ∷ R) h = (λ m. twice m (rw same_refl at (h p (here refl))), distinct_of R (λ q m. let l = h q (there m) in omega arith))
  where
    twice : p ∈ R → 1 + times p R ≤ 1 → ⊥
    twice m k = let z = some_sum (λ x. same x p) m (same_refl p) in omega arith

in_times : (q : Pos) (R : List Pos) → times q R ≡ 1 → q ∈ R
in_times q [] e = absurd (omega arith)
in_times q (p ∷ R) e = go (same p q) refl (in_times q R)
  where
    go : (b : Bool) → same p q ≡ b → (times q R ≡ 1 → q ∈ R) → q ∈ (p ∷ R)
    go true d ih = here (sym (same_is p q d))
    go false d ih = there (ih (let z : one (same p q) ≡ 0 = rw d in omega arith))

module _ (C : Scored) where
  abbrev S : Setting
  S = C.setting

  abbrev K : Calculus Pos
  K = calculus S

  pub can_look : {items : List Item} {R : List Pos} {told : List Announcement} → Invariant C items R told
      → (it : Item) → it ∈ items → (f : ℕ) × (ts : Terms) × (sub C.score (looks S it) ≡ some (node f ts))
  can_look inv it m =
      let w = reachable_sound S (inv.reach it m) in
      let u = inv.inside it m _ (label_owes S it.state w) in
      let n = whole_at C.score C.is_score.whole (looks S it) u.0 u.1 in
      (n.0, n.1, rw (← n.2) u.1)

  pub goes_self : (it : Item) → Reachable S it.state → (f : ℕ) (ts : Terms) → sub C.score (looks S it) ≡ some (node f ts)
      → Goes S (follows S it f (count ts)) (follows S it f (count ts))
  goes_self it r f ts e = go (classes K (deriv K it.state f (count ts))) (λ k m. m)
    where
      go : (ks : List (State Pos)) → ks ⊆ classes K (deriv K it.state f (count ts)) → Goes S (map (goes_on S it) ks) (map (goes_on S it) ks)
      go [] h = none_go
      go (k ∷ ks) h = one_goes refl (alike_refl _)
          (next f (count ts) r (score_arity C (looks S it) f ts e) (h k (here refl)))
          (go ks (λ y m. h y (there m)))

  abbrev pub steps : {items : List Item} {R : List Pos} {told : List Announcement} → Walked C items R told → ℕ
  steps begin = 0
  steps (step before after R told it f ts js w e g) = suc (steps w)

  pub read_steps : {items : List Item} {R : List Pos} {told : List Announcement} (w : Walked C items R told) → length R ≡ steps w
  read_steps begin = refl
  read_steps (step before after R told it f ts js w e g) = rw (length-append, read_steps w) (omega arith)

  looked : {items : List Item} {R : List Pos} {told : List Announcement} → Invariant C items R told → (q : Pos) → q ∈ (map (looks S) items ++ R)
      → (u : Term) × (sub C.score q ≡ some u)
  looked {items} {R} inv q m = ⊎_elim (λ i. on_map (looks S) items i λ it j e. let n = can_look inv it j in rw e (node n.0 n.1, n.2))
      (λ i. inv.read_inside q i) (∈_append (map (looks S) items) m)

  pub looks_distinct : {items : List Item} {R : List Pos} {told : List Announcement} → Invariant C items R told → Distinct (map (looks S) items ++ R)
  looks_distinct {items} {R} inv = distinct_of (map (looks S) items ++ R) (λ q m.
      let u = looked inv q m in
      let h = inv.once q u.0 u.1 in
      let a = sum_under (λ it. same (looks S it) q) (λ it. sees it q) items
      (λ it i e. rw (← (same_is (looks S it) q e)) (looks_sees S it (reachable_sound S (inv.reach it i)))) in
      let b = sum_map (λ p. one (same p q)) (looks S) items in
      rw (sum_append (λ p. one (same p q)) (map (looks S) items) R) (omega arith))

  pub read_distinct : {items : List Item} {R : List Pos} {told : List Announcement} → Invariant C items R told → Distinct R
  read_distinct {items} {R} inv = distinct_of R (λ q m. let u = inv.read_inside q m in let h = inv.once q u.0 u.1 in omega arith)

  pub waiting_unread : {items : List Item} {R : List Pos} {told : List Announcement} → Invariant C items R told
      → length items + length R ≤ span C.score
  waiting_unread {items} {R} inv =
      let h = distinct_le (map (looks S) items ++ R) (dom C.score) (looks_distinct inv)
      (λ q m. let u = looked inv q m in dom_in q C.score u.1) in
      let a = length-append (map (looks S) items) R in
      let b = length-map items (looks S) in
      let c = length_dom C.score in
      omega arith

  pub read_all : {R : List Pos} {told : List Announcement} → Invariant C [] R told → (q : Pos) (u : Term) → sub C.score q ≡ some u → q ∈ R
  read_all {R} inv q u e = in_times q R (let h = inv.once q u e in omega arith)

  pub none_waits : {items : List Item} {R : List Pos} {told : List Announcement} → Invariant C items R told
      → (items ≡ []) ↔ (length R ≡ span C.score)
  none_waits {items} {R} {told} inv = (all_read, λ e. none_left items (let h = waiting_unread inv in omega arith))
    where
      all_read : items ≡ [] → length R ≡ span C.score
      all_read e =
          let done : Invariant C [] R told = rw e at inv in
          let h = distinct_le (dom C.score) R (dom_distinct C.score) (λ q m. let u = in_dom q C.score m in read_all done q u.0 u.1) in
          let a = waiting_unread inv in
          let b = length_dom C.score in
          omega arith
