-- Two constructions whose parts agree under a map of states number the same states and make the same plan.
--   Simulates        the map commutes with each part, on states that are Right and classes of these that are Part; what is lifted of a class of at most 32 goals is Right
--   SameMade         both are refused alike, or the states are mapped and the blocks are the same
--   explored_simulated plan_simulated   exploring, and the plan
use mathlib.Core.Path.{◌≡◌, refl, ap, ap₂, sym, ◌∙◌, subst}
use mathlib.Core.Bool.{Bool, true, false, cond, ◌||◌}
use mathlib.Core.List.{List, [], ◌∷◌, ◌++◌, map}
use mathlib.Core.Option.{Option, none, some}
use mathlib.Core.Logic.{⊎_elim}
use Prim.Native.Nat.{ℕ, zero, suc, ◌≤◌}
use native.Mathlib.Omega.{arith}
use lib.Dec.{ltb, leb}
use lib.ListN.{length, get_or, get_elem?, drop, length-map, get_or-map}
use Rattle.kinds.specs.Lists.{find}
use Rattle.kinds.specs.Positions.{Pos, code}
use Rattle.kinds.specs.declared.Reason.{Reason}
use Rattle.kinds.specs.declared.Reason.TheVariants.{ManyGoals, ManyStates}
use Rattle.kinds.proofs.Bools.{ltb_is, ltb_not}
use Rattle.kinds.proofs.Members.{∈_append}
use Rattle.kinds.specs.Members.{◌∈◌, here, there}
use Rattle.kinds.proofs.ListLaws.{map_append, map_map, map_same}
use Rattle.kinds.proofs.Places.{get_d_in, find_same}
use Rattle.automaton.specs.Exploring.{Construction, Succ, Block, Met, stopped, met, Made, refused, made, and_then, then_block, then_more, numbered, meet, meets, row, run, explored}
use Rattle.automaton.specs.PlanWords.{too_long, plan_of_lem, plan_words, to_plan, planned}

pub record Simulates {S T : Type 0} (C : Construction S) (D : Construction T) (h : S → T) (Right : S → Type 0) (Part : S → Type 0) (ar : List ℕ) :
    Type 0 where
  pub start : h C.start ≡ D.start
  pub start_right : Right C.start
  pub label : (s : S) → Right s → D.label (h s) ≡ C.label s
  pub outputs : (s : S) → Right s → (f n : ℕ) → get_elem? ar f ≡ some n → D.outputs (h s) f n ≡ C.outputs s f n
  pub classes : (s : S) → Right s → (f n : ℕ) → get_elem? ar f ≡ some n → map h (C.classes s f n) ≡ D.classes (h s) f n
  pub parts : (s : S) → Right s → (f n : ℕ) → get_elem? ar f ≡ some n → (k : S) → k ∈ C.classes s f n → Part k
  pub size : (k : S) → Part k → D.size (h k) ≡ C.size k
  pub gcp : (k : S) → Part k → D.gcp (h k) ≡ C.gcp k
  pub lift : (k : S) → Part k → h (C.lift k) ≡ D.lift (h k)
  pub lifted : (k : S) → Part k → C.size k ≤ 32 → Right (C.lift k)
  pub same : (s t : S) → Right s → Right t → C.same s t ≡ D.same (h s) (h t)

-- a list from its place f on
from_here : (ar ns : List ℕ) (f n : ℕ) → drop f ar ≡ n ∷ ns → (get_elem? ar f ≡ some n) × (drop (suc f) ar ≡ ns)
from_here [] ns zero n e = let z : 0 ≡ suc (length ns) = ap length e in absurd (omega arith)
from_here [] ns (suc f) n e = let z : 0 ≡ suc (length ns) = ap length e in absurd (omega arith)
from_here (x ∷ ar) ns zero n e = let a : x ≡ n = cc in let b : ar ≡ ns = cc in (ap some a, b)
from_here (x ∷ ar) ns (suc f) n e = from_here ar ns f n e

module _ {S T : Type 0} (C : Construction S) (D : Construction T) (h : S → T) (Right : S → Type 0) (Part : S → Type 0) (ar : List ℕ)
    (sim : Simulates C D h Right Part ar) where
  abbrev Rights : List S → Type 0
  Rights ss = (s : S) → s ∈ ss → Right s

  data SameMet : Met S → Met T → Type 0 where
    both_stop : (r : Reason) → SameMet (stopped r) (stopped r)
    both_met : (ss : List S) (xs : List Succ) → Rights ss → SameMet (met ss xs) (met (map h ss) xs)

  pub data SameMade : Made S → Made T → Type 0 where
    both_refuse : (r : Reason) (i : ℕ) → SameMade (refused r i) (refused r i)
    both_made : (ss : List S) (bs : List Block) → ((s : S) → s ∈ ss → Right s) → SameMade (made ss bs) (made (map h ss) bs)

  numbered_same : (o : Option ℕ) (ss : List S) (k : S) (c : Pos) → Rights ss → Right k → SameMet (numbered o ss k c) (numbered o (map h ss) (h k) c)
  numbered_same (some i) ss k c rs rk = both_met ss (record { to = i; by = c } ∷ []) rs
  numbered_same none ss k c rs rk = rw (length-map ss h, ← (map_append h ss (k ∷ []))) (go (leb 128 (length ss)))
    where
      one_more_lem : Rights (ss ++ (k ∷ []))
      one_more_lem s m = ⊎_elim (λ i. rs s i) last (∈_append ss m)
        where
          last : s ∈ (k ∷ []) → Right s
          last (here e) = rw e rk
          last (there x6) = elim x6 [ ]

      go : (b : Bool) → SameMet (cond b (stopped ManyStates) (met (ss ++ (k ∷ [])) (record { to = length ss; by = c } ∷ [])))
          (cond b (stopped ManyStates) (met (map h (ss ++ (k ∷ []))) (record { to = length ss; by = c } ∷ [])))
      go true = both_stop ManyStates
      go false = both_met (ss ++ (k ∷ [])) (record { to = length ss; by = c } ∷ []) one_more_lem

  meet_same : (ss : List S) (k : S) → Rights ss → Part k → SameMet (meet C ss k) (meet D (map h ss) (h k))
  meet_same ss k rs pk = rw (sim.size k pk, ← (sim.lift k pk), sim.gcp k pk) (go (ltb 32 (C.size k)) refl)
    where
      go : (b : Bool) → ltb 32 (C.size k) ≡ b
          → SameMet (cond b (stopped ManyGoals) (numbered (find (C.same (C.lift k)) ss 0) ss (C.lift k) (C.gcp k)))
          (cond b (stopped ManyGoals) (numbered (find (D.same (h (C.lift k))) (map h ss) 0) (map h ss) (h (C.lift k)) (C.gcp k)))
      go true e = both_stop ManyGoals
      go false e =
          let r = sim.lifted k pk (ltb_not 32 (C.size k) e) in
          let there-too : find (C.same (C.lift k)) ss 0 ≡ find (D.same (h (C.lift k))) (map h ss) 0 =
          find_same h (C.same (C.lift k)) (D.same (h (C.lift k))) ss 0 (λ s m. sim.same (C.lift k) s r (rs s m)) in
          rw (← there-too) (numbered_same (find (C.same (C.lift k)) ss 0) ss (C.lift k) (C.gcp k) rs r)

  and_then_same : {m : Met S} {m' : Met T} (f : List S → List Succ → Met S) (f' : List T → List Succ → Met T) → SameMet m m'
      → ((ss : List S) (xs : List Succ) → Rights ss → SameMet (f ss xs) (f' (map h ss) xs)) → SameMet (and_then m f) (and_then m' f')
  and_then_same f f' (both_stop r) k = both_stop r
  and_then_same f f' (both_met ss xs rs) k = k ss xs rs

  meets_same : (ks ss : List S) → Rights ss → ((k : S) → k ∈ ks → Part k) → SameMet (meets C ss ks) (meets D (map h ss) (map h ks))
  meets_same [] ss rs rk = both_met ss [] rs
  meets_same (k ∷ ks) ss rs rk =
      and_then_same (λ ss₁ xs. and_then (meets C ss₁ ks) (λ ss₂ ys. met ss₂ (xs ++ ys)))
      (λ ss₁ xs. and_then (meets D ss₁ (map h ks)) (λ ss₂ ys. met ss₂ (xs ++ ys))) (meet_same ss k rs (rk k (here refl)))
      (λ ss₁ xs r₁. and_then_same (λ ss₂ ys. met ss₂ (xs ++ ys)) (λ ss₂ ys. met ss₂ (xs ++ ys)) (meets_same ks ss₁ r₁ (λ y m. rk y (there m)))
      (λ ss₂ ys r₂. both_met ss₂ (xs ++ ys) r₂))

  row_same : (i : ℕ) (s : S) → Right s → (ns : List ℕ) (f : ℕ) → drop f ar ≡ ns → (ss : List S) (bs : List Block) → Rights ss
      → SameMade (row C i s f ns ss bs) (row D i (h s) f ns (map h ss) bs)
  row_same i s r [] f e ss bs rs = both_made ss bs rs
  row_same i s r (n ∷ ns) f e ss bs rs =
      let here-is = from_here ar ns f n e in
      rw (← (sim.classes s r f n here-is.0), sim.outputs s r f n here-is.0)
      (go (meets_same (C.classes s f n) ss rs (sim.parts s r f n here-is.0)) (λ ss₁ bs₁ r₁. row_same i s r ns (suc f) here-is.1 ss₁ bs₁ r₁))
    where
      go : {m : Met S} {m' : Met T} → SameMet m m'
          → ((ss₁ : List S) (bs₁ : List Block) → Rights ss₁ → SameMade (row C i s (suc f) ns ss₁ bs₁) (row D i (h s) (suc f) ns (map h ss₁) bs₁))
          → SameMade (then_block i (C.outputs s f n) bs m (λ ss₁ bs₁. row C i s (suc f) ns ss₁ bs₁))
          (then_block i (C.outputs s f n) bs m' (λ ss₁ bs₁. row D i (h s) (suc f) ns ss₁ bs₁))
      go (both_stop c) ih = both_refuse c i
      go (both_met ss₁ xs r₁) ih = ih ss₁ (bs ++ (record { out = C.outputs s f n; succs = xs } ∷ [])) r₁

  then_more_same : {m : Made S} {m' : Made T} (k : List S → List Block → Made S) (k' : List T → List Block → Made T) → SameMade m m'
      → ((ss : List S) (bs : List Block) → Rights ss → SameMade (k ss bs) (k' (map h ss) bs)) → SameMade (then_more m k) (then_more m' k')
  then_more_same k k' (both_refuse r i) f = both_refuse r i
  then_more_same k k' (both_made ss bs rs) f = f ss bs rs

  run_same : (fuel i : ℕ) (ss : List S) (bs : List Block) → Rights ss → SameMade (run C ar fuel i ss bs) (run D ar fuel i (map h ss) bs)
  run_same zero i ss bs rs = both_made ss bs rs
  run_same (suc fuel) i ss bs rs = rw (length-map ss h) (go (ltb i (length ss)) refl (λ ss₁ bs₁ r₁. run_same fuel (suc i) ss₁ bs₁ r₁))
    where
      mapped : h (get_or ss i C.start) ≡ get_or (map h ss) i D.start
      mapped = sym (get_or-map h ss i C.start) ∙ ap (get_or (map h ss) i) sim.start

      go : (b : Bool) → ltb i (length ss) ≡ b
          → ((ss₁ : List S) (bs₁ : List Block) → Rights ss₁ → SameMade (run C ar fuel (suc i) ss₁ bs₁) (run D ar fuel (suc i) (map h ss₁) bs₁))
          → SameMade (cond b (then_more (row C i (get_or ss i C.start) 0 ar ss bs) (λ ss₁ bs₁. run C ar fuel (suc i) ss₁ bs₁)) (made ss bs))
          (cond b (then_more (row D i (get_or (map h ss) i D.start) 0 ar (map h ss) bs) (λ ss₁ bs₁. run D ar fuel (suc i) ss₁ bs₁))
          (made (map h ss) bs))
      go true e ih = then_more_same (λ ss₁ bs₁. run C ar fuel (suc i) ss₁ bs₁) (λ ss₁ bs₁. run D ar fuel (suc i) ss₁ bs₁)
          (subst (λ t. SameMade (row C i (get_or ss i C.start) 0 ar ss bs) (row D i t 0 ar (map h ss) bs)) mapped
          (row_same i (get_or ss i C.start) (rs (get_or ss i C.start) (get_d_in ss i C.start (ltb_is i (length ss) e))) ar 0 refl ss bs rs)) ih
      go false e ih = both_made ss bs rs

  pub explored_simulated : SameMade (explored C ar) (explored D ar)
  explored_simulated = subst (λ t. SameMade (explored C ar) (run D ar 128 0 (t ∷ []) [])) sim.start (run_same 128 0 (C.start ∷ []) [] only)
    where
      only : Rights (C.start ∷ [])
      only s (here e) = rw e sim.start_right
      only s (there x4) = elim x4 [ ]

  words_same : (k n : ℕ) (ss : List S) (bs : List Block) → Rights ss → plan_words D k n (map h ss) bs ≡ plan_words C k n ss bs
  words_same k n ss bs rs =
      let l : map (λ s. code (D.label s)) (map h ss) ≡ map (λ s. code (C.label s)) ss =
      map_map (λ s. code (D.label s)) h ss ∙ map_same _ _ ss (λ s m. ap code (sim.label s (rs s m))) in
      rw (l, length-map ss h)

  pub plan_simulated : (n room : ℕ) → planned C ar n room ≡ planned D ar n room
  plan_simulated n room = go (explored C ar) (explored D ar) explored_simulated
    where
      go : (m : Made S) (m' : Made T) → SameMade m m' → to_plan C room (length ar) n m ≡ to_plan D room (length ar) n m'
      go (refused r i) m' (both_refuse a b) = refl
      go (made ss bs) m' (both_made a b rs) =
          ap₂ (λ (w : List ℕ) (m : ℕ). cond (ltb room (length w) || ltb 65535 (length w)) too_long (plan_of_lem m w))
          (sym (words_same (length ar) n ss bs rs)) (sym (length-map ss h))
