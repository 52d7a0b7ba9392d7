-- "states are numbered as first met: state 0 initial, then each state in number order, each symbol ascending, each class in the document order
-- of its first obligation position; building stops at the first class, in that order, with over 32 goals (20) or new past 128 states (21);
-- one that is both gives 20."
--   Construction   what numbering and layout need to know of states, whatever they are; construction: the calculus' own
--   Succ Block     a successor: state number and displacement; what one state and symbol announce and go on with
--   Met Made       the states met so far and the successors, or the blocks, made so far; or why building stops
--   meet           one class: the number of the state that it lifts to, as a new one where none of those met is equal
--   meets          classes in their order
--   row            the blocks of one state, symbol after symbol
--   run            state after state, in number order
--   explored       all of it, from the initial state
use Rattle.std.specs.Prelude.{List, [], ◌∷◌, ◌++◌, Bool, cond, ℕ, zero, suc, ltb, leb, length, get_or}
use Rattle.std.proofs.Math.Option.{Option, none, some}
use Rattle.kinds.specs.Lists.{find}
use Rattle.kinds.specs.Positions.{Pos}
use Rattle.kinds.specs.declared.Reason.{Reason}
use Rattle.kinds.specs.declared.Reason.TheVariants.{ManyGoals, ManyStates}
use Rattle.automaton.specs.Goals.{State, Calculus, Announcement}
use Rattle.automaton.specs.Goals as goals
use Rattle.automaton.specs.Classes as classes

pub record Construction (S : Type 0) : Type 0 where
  pub start : S
  pub label : S → Pos
  -- for a symbol and its number of children
  pub outputs : S → ℕ → ℕ → List Announcement
  -- the classes of the derivative
  pub classes : S → ℕ → ℕ → List S
  -- how many goals
  pub size : S → ℕ
  pub gcp : S → Pos
  pub lift : S → S
  pub same : S → S → Bool

abbrev pub construction : {O : Type 0} → Calculus O → Construction (State O)
construction K = record {
  start = goals.initial K;
  label = goals.label K;
  outputs = goals.outputs K;
  classes = λ s f n. classes.classes K (goals.deriv K s f n);
  size = length;
  gcp = classes.gcp;
  lift = classes.lift K;
  same = classes.same_state K;
}

pub record Succ : Type 0 where
  pub to : ℕ
  pub by : Pos

pub record Block : Type 0 where
  pub out : List Announcement
  pub succs : List Succ

pub data Met (S : Type 0) : Type 0 where
  stopped : Reason → Met S
  met : List S → List Succ → Met S

-- a refusal is at the state derived
pub data Made (S : Type 0) : Type 0 where
  refused : Reason → ℕ → Made S
  made : List S → List Block → Made S

module _ {S : Type 0} where
  abbrev pub and_then : Met S → (List S → List Succ → Met S) → Met S
  and_then (stopped r) k = stopped r
  and_then (met ss xs) k = k ss xs

  abbrev pub then_block : ℕ → List Announcement → List Block → Met S → (List S → List Block → Made S) → Made S
  then_block i out bs (stopped r) k = refused r i
  then_block i out bs (met ss xs) k = k ss (bs ++ (record { out = out; succs = xs } ∷ []))

  abbrev pub then_more : Made S → (List S → List Block → Made S) → Made S
  then_more (refused r p) k = refused r p
  then_more (made ss bs) k = k ss bs

  -- a lifted class at its place among those met, or as the next
  abbrev pub numbered : Option ℕ → List S → S → Pos → Met S
  numbered (some i) ss k c = met ss (record { to = i; by = c } ∷ [])
  numbered none ss k c = cond (leb 128 (length ss)) (stopped ManyStates) (met (ss ++ (k ∷ [])) (record { to = length ss; by = c } ∷ []))

module _ {S : Type 0} (C : Construction S) where
  abbrev pub meet : List S → S → Met S
  meet ss k =
      let k' = C.lift k in
      cond (ltb 32 (C.size k)) (stopped ManyGoals) (numbered (find (C.same k') ss 0) ss k' (C.gcp k))

  abbrev pub meets : List S → List S → Met S
  meets ss [] = met ss []
  meets ss (k ∷ ks) = and_then (meet ss k) (λ ss₁ xs. and_then (meets ss₁ ks) (λ ss₂ ys. met ss₂ (xs ++ ys)))

  -- state number i, the symbols from f on, by their numbers of children
  abbrev pub row : ℕ → S → ℕ → List ℕ → List S → List Block → Made S
  row i s f [] ss bs = made ss bs
  row i s f (n ∷ ns) ss bs =
      then_block i (C.outputs s f n) bs (meets ss (C.classes s f n)) (λ ss₁ bs₁. row i s (suc f) ns ss₁ bs₁)

  -- ar has the number of children of each symbol
  abbrev pub run : List ℕ → ℕ → ℕ → List S → List Block → Made S
  run ar zero i ss bs = made ss bs
  run ar (suc fuel) i ss bs =
      let more = then_more (row i (get_or ss i C.start) 0 ar ss bs) (λ ss₁ bs₁. run ar fuel (suc i) ss₁ bs₁) in
      cond (ltb i (length ss)) more (made ss bs)

  abbrev pub explored : List ℕ → Made S
  explored ar = run ar 128 0 (C.start ∷ []) []
