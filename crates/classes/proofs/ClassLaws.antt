-- A row along the columns.
use Prim.Native.Nat.{ℕ, zero, suc, ◌+◌, ◌-◌, ◌*◌, ◌<◌, ◌≤◌}
use mathlib.Core.Path.{◌≡◌, refl, ap, ap₂, sym, ◌∙◌}
use mathlib.Core.List.{List, [], ◌∷◌}
use mathlib.Core.Bool.{Bool, true, false}
use native.Mathlib.Omega.{arith}
use native.Mathlib.Nat.{zero-add}
use native.Mathlib.Numerals.{add-one}
use lib.ListN.{length, get_or, take, drop, length-take}
use lib.Seq.{drop-cons}
use Rattle.std.proofs.lemmas.List.{get_or-take}
use lib.Dec.{eqb, eqb-suc-suc, eqb-suc-zero, eqb-zero-suc}
use Rattle.std.proofs.Common.{Option, Some, None}
use Rattle.std.specs.Option.{MatchOption, option_eq}
use Rattle.std.specs.List.{HoldsAt, AllWithin}
use Rattle.automaton.specs.Classes.{leads}
use Rattle.goals.specs.GoalWords.{GoalWords, goal_at, goals_from, flat, owed_by, first_code, no_code, pad}
use Rattle.goals.specs.WordStages.{picked_w, class_key}
use Rattle.goals.proofs.GoalLaws.{goals_on, left_none}
use Rattle.derivatives.proofs.OrderLaws.{picked_none, key_of, key_small}
use Rattle.kinds.specs.Lists.{gather}

-- whether a row leads, by the place of its first yes
leads_at : (row : List Bool) (i j : ℕ) → j < length row → HoldsAt (λ b. b ≡ true) row j → AllWithin (λ b. b ≡ false) row 0 j → eqb j i ≡ leads i row
leads_at [] i j l h n = absurd (omega arith)
leads_at (b ∷ bs) zero zero l h n = sym (h b)
leads_at (b ∷ bs) (suc i) zero l h n = rw (h b) (eqb-zero-suc i)
leads_at (b ∷ bs) zero (suc j) l h n = eqb-suc-zero j ∙ sym (n 0 b (omega arith) (omega arith))
leads_at (b ∷ bs) (suc i) (suc j) l h n =
    rw (eqb-suc-suc j i, n 0 b (omega arith) (omega arith)) (leads_at bs i j (omega arith) h (λ k d a l. n (suc k) d (omega arith) (omega arith)))

leads_none : (row : List Bool) (i : ℕ) → AllWithin (λ b. b ≡ false) row 0 (length row) → false ≡ leads i row
leads_none [] i n = refl
leads_none (b ∷ bs) zero n = sym (n 0 b (omega arith) (omega arith))
leads_none (b ∷ bs) (suc i) n =
    rw (n 0 b (omega arith) (omega arith)) (leads_none bs i (λ k d a l. n (suc k) d (omega arith) (omega arith)))

pub leads_is : (row : List Bool) (i : ℕ) (r : Option ℕ)
    → MatchOption r (AllWithin (λ b. b ≡ false) row 0 (length row)) (λ j. (j < length row) × HoldsAt (λ b. b ≡ true) row j × AllWithin (λ b. b ≡ false) row 0 j)
    → option_eq eqb r (Some i) ≡ leads i row
leads_is row i None h = leads_none row i h
leads_is row i (Some j) h = leads_at row i j h.0 h.1 h.2

-- of the first n entries of a row
module _ (row : List Bool) (n j : ℕ) where
  pub entry : j < length (take n row) → (j < n) × (j < length row)
  entry h = (omega (arith, length-take n row), omega (arith, length-take n row))

  pub entry_is : {v : Bool} → j < length (take n row) → get_or (take n row) j false ≡ v → get_or row j false ≡ v
  entry_is h e = sym (get_or-take n row j false (entry h).0) ∙ e

  pub entry_end : n ≤ length row → length (take n row) ≤ j → n ≤ j
  entry_end w h = omega (arith, length-take n row)

module _ (row : List Bool) (ws : List ℕ) (n j : ℕ) where
  -- the words that are left of a row's goals, from goal j on
  abbrev pub Left : List ℕ
  Left = flat (picked_w (drop j row) (goals_from ws (3 * j) (n - j)))

  along : j < n → goals_from ws (3 * j) (n - j) ≡ goal_at ws (3 * j) ∷ goals_from ws (3 * (j + 1)) (n - (j + 1))
  along h = simp zero-add at (goals_on ws 0 n j h)

pub pick_on : (row : List Bool) (ws : List ℕ) (n j : ℕ) → j < n → j < length row → get_or row j false ≡ true
    → Left row ws n j ≡ get_or ws (3 * j) 0 ∷ get_or ws (3 * j + 1) 0 ∷ get_or ws (3 * j + 2) 0 ∷ Left row ws n (j + 1)
unfolding picked_w flat
pick_on row ws n j h l e =
    ap₂ (λ r gs. flat (picked_w r gs)) (drop-cons row j false l) (along row ws n j h) ∙ rw (e, add-one j) refl

pub pick_off : (row : List Bool) (ws : List ℕ) (n j : ℕ) → j < n → j < length row → get_or row j false ≡ false
    → Left row ws n j ≡ Left row ws n (j + 1)
unfolding picked_w
pick_off row ws n j h l e =
    ap₂ (λ r gs. flat (picked_w r gs)) (drop-cons row j false l) (along row ws n j h) ∙ rw (e, add-one j) refl

pub pick_end : (row : List Bool) (ws : List ℕ) (n j : ℕ) → n ≤ j → Left row ws n j ≡ []
unfolding flat goals_from
pick_end row ws n j h = rw (left_none n j h) (ap flat (picked_none (drop j row)))

-- the key of a row's class, as code gets it
module _ (tab : List ℕ) (gs : List GoalWords) {c p : ℕ} (e : p ≡ pad c) (f : c ≡ first_code no_code (gather (owed_by tab) gs)) where
  pub key_is : p ≡ class_key tab gs
  key_is = e ∙ ap pad f ∙ sym (key_of tab gs)

  pub key_word : p ≤ 65535
  key_word = omega (arith, key_is, key_small tab gs)
