-- What is true of a walk after every step, whatever was chosen: R is the list of positions read.
--   Open Seen Known     a node of a goal's shape is still owed, or was read and is in the score
--   Due                 a shape at a position read: announced, still waiting, or refuted by what was read
--   Invariant           W1 to W4
--   some_sum unread               what an item sees or owes was not read
use mathlib.Core.Path.{◌≡◌}
use mathlib.Core.Bool.{Bool, true}
use mathlib.Core.List.{List, ◌++◌, map}
use mathlib.Core.Option.{some}
use mathlib.Core.Logic.{◌⊎◌}
use Prim.Native.Nat.{ℕ, ◌+◌, ◌≤◌}
use native.Mathlib.Omega.{arith}
use lib.ListN.{get_elem?}
use Rattle.kinds.specs.Lists.{same, sum}
use Rattle.kinds.specs.Positions.{Pos, prefix}
use Rattle.kinds.proofs.Members.{any_of, same_refl}
use Rattle.kinds.specs.Members.{◌∈◌, here, there, Pairwise}
use Rattle.kinds.proofs.Prefixes.{◌≼◌, ≼_refl, below_prefix}
use Rattle.term.specs.Terms.{Term}
use Rattle.term.specs.Places.{sub, head_at}
use Rattle.automaton.specs.Goals.{Goal, Announcement}
use Rattle.automaton.specs.Walking.{Scored, Reachable, Item, sees, one, waits, times}
use Rattle.automaton.proofs.Derivative.{Owes}

-- an obligation stands at or above p
pub record Open (g : Goal Pos) (p : Pos) : Type 0 where
  pub at : Pos
  pub in_obs : at ∈ g.obs
  pub over : p ≼ at

-- the symbol k stands at q in the score, and was read
pub record Seen (t : Term) (R : List Pos) (q : Pos) (k : ℕ) : Type 0 where
  pub is : head_at t q ≡ some k
  pub read : q ∈ R

-- a goal of an item at a: each node of its shape that is no blank is open or seen
abbrev pub Known : Scored → List Pos → Pos → Goal Pos → Type 0
Known C R a g = (x : Term) → get_elem? C.setting.shapes g.shape ≡ some x → (r : Pos) (k : ℕ) → head_at x r ≡ some k → Open g (g.ann ++ r)
    ⊎ Seen C.score R ((a ++ g.ann) ++ r) k

abbrev pub announced : ℕ → Pos → Announcement
announced i q = record { shape = i; at = q }

-- shape number i, the term x, at q
pub data Due (t : Term) (items : List Item) (R : List Pos) (told : List Announcement) (i : ℕ) (x : Term) (q : Pos) : Type 0 where
  is_told : announced i q ∈ told → Due t items R told i x q
  is_waiting : (it : Item) (g : Goal Pos) → it ∈ items → g ∈ it.state → g.shape ≡ i → it.at ++ g.ann ≡ q → Due t items R told i x q
  is_refuted : (r : Pos) (k : ℕ) → head_at x r ≡ some k → (q ++ r) ∈ R → (head_at t (q ++ r) ≡ some k → ⊥) → Due t items R told i x q

pub record Invariant (C : Scored) (items : List Item) (R : List Pos) (told : List Announcement) : Type 0 where
  -- states are reachable, and what is owed or was read is in the score
  pub reach : (it : Item) → it ∈ items → Reachable C.setting it.state
  pub inside : (it : Item) → it ∈ items → (o : Pos) → Owes it.state o → (u : Term) × (sub C.score (it.at ++ o) ≡ some u)
  pub read_inside : (q : Pos) → q ∈ R → (u : Term) × (sub C.score q ≡ some u)
  -- W1: each position of the score is seen by one item or was read once
  pub once : (q : Pos) (u : Term) → sub C.score q ≡ some u → waits q items + times q R ≡ 1
  -- W2
  pub known : (it : Item) → it ∈ items → (g : Goal Pos) → g ∈ it.state → Known C R it.at g
  -- W3
  pub due : (q : Pos) → q ∈ R → (i : ℕ) (x : Term) → get_elem? C.setting.shapes i ≡ some x → Due C.score items R told i x q
  -- W4, from left to right: what is announced is a shape that matches, all of it read; and nothing is announced twice
  pub shape : (a : Announcement) → a ∈ told → (x : Term) × (get_elem? C.setting.shapes a.shape ≡ some x)
  pub seen : (a : Announcement) → a ∈ told → (x : Term) → get_elem? C.setting.shapes a.shape ≡ some x → (r : Pos) (k : ℕ) → head_at x r ≡ some k
      → Seen C.score R (a.at ++ r) k
  pub differ : Pairwise (λ a b. a ≡ b → ⊥) told

-- an element that passes counts
pub some_sum : {A : Type 0} (F : A → Bool) {x : A} {xs : List A} → x ∈ xs → F x ≡ true → 1 ≤ sum (map (λ y. one (F y)) xs)
some_sum F {x} (here {x = y} e) t = let z : F y ≡ true = rw e at t in rw z (omega arith)
some_sum F (there m) t = let h = some_sum F m t in omega arith

sees_unread : {C : Scored} {items : List Item} {R : List Pos} {told : List Announcement} → Invariant C items R told → (it : Item) → it ∈ items
    → (q : Pos) → sees it q ≡ true → q ∈ R → ⊥
sees_unread inv it m q e l =
    let u = inv.read_inside q l in
    let h = inv.once q u.0 u.1 in
    let a = some_sum (λ j. sees j q) m e in
    let c = some_sum (λ p. same p q) l (same_refl q) in
    omega arith

pub unread : {C : Scored} {items : List Item} {R : List Pos} {told : List Announcement} → Invariant C items R told → (it : Item) → it ∈ items
    → (o : Pos) → Owes it.state o → (it.at ++ o) ∈ R → ⊥
unread inv it m o b l = sees_unread inv it m (it.at ++ o) (any_of (λ y. prefix (it.at ++ y) (it.at ++ o)) b (below_prefix (≼_refl (it.at ++ o))))
    l
