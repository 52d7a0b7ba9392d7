-- A pass over the goals of a state that writes what each one gives.
--   node_is node_le         the open node, of a goal as the code hands it on; at most 16
--   pass_next pass_end      what is left to write, goal by goal
--   Passing passing_…       a pass, turn by turn
--   stay leave goes…        what one goal gives
--   fresh_… born_…          fresh goals, shape by shape and child by child
--   deriv_… three_runs      the derivative's words, pass after pass
use Prim.Native.Nat.{ℕ, suc, ◌+◌, ◌-◌, ◌*◌, ◌<◌, ◌≤◌}
use mathlib.Core.Path.{◌≡◌, refl, ap, ap₂, sym, ◌∙◌}
use mathlib.Core.List.{List, [], ◌∷◌, ◌++◌, map}
use native.Mathlib.Omega.{arith}
use native.Mathlib.Nat.{zero-add}
use borrow.Author.Tests.{eq-eqb, ne_eqb, lt-ltb, le-ltb}
use lib.ListN.{length, length-append}
use lib.Seq.{sets, length-sets}
use Rattle.kinds.specs.Lists.{gather, range}
use Rattle.kinds.proofs.ListLaws.{sets_append}
use Rattle.goals.specs.GoalWords.{GoalWords, goal_at, flat, Tabled, size_of, node_at}
use Rattle.goals.specs.GoalKinds.{as_goal, as_words}
use Rattle.goals.specs.declared.Goal.{Goal}
use Rattle.goals.specs.WordStages.{stays, moves, reduct, goes_on, with_mask, fresh_w, freshes_w, born_w, deriv_w, unexpected}
use Rattle.goals.proofs.GoalLaws.{node_low}
use Rattle.derivatives.proofs.AlongLaws.{goals_past, past_next, past_end}
use Rattle.derivatives.specs.Passes.{passed, Puts}

-- a goal as the code hands it on, and as words
pub node_is : (tab : List ℕ) (c k : ℕ) (g : GoalWords) (r : Goal) → r ≡ as_goal g → k ≡ node_at tab r.shape.0 r.at.0 r.mask c
    → k ≡ node_at tab g.sh g.an g.mask c
node_is tab c k g r e n = n ∙ ap (λ (x : Goal). node_at tab x.shape.0 x.at.0 x.mask c) e

-- a node's number, or 16
pub node_le : (tab : List ℕ) (s a m c r : ℕ) → Tabled tab × (s < 16) → r ≡ node_at tab s a m c → r ≤ 16
node_le tab s a m c r t e = omega (arith, node_low tab s a c (size_of tab s) 0 m (omega (arith, t.0.sizes s t.1)))

pub flat_append : (gs hs : List GoalWords) → flat (gs ++ hs) ≡ flat gs ++ flat hs
unfolding flat
flat_append [] hs = refl
flat_append (g ∷ gs) hs = ap (λ ws. g.sh ∷ g.an ∷ g.mask ∷ ws) (flat_append gs hs)

-- what the goals from the i-th on give
abbrev pub passed_past : (GoalWords → List GoalWords) → List ℕ → ℕ → ℕ → ℕ → List ℕ
passed_past e ws at n i = flat (gather e (goals_past ws at n i))

module _ (e : GoalWords → List GoalWords) (ws : List ℕ) (at n i : ℕ) where
  pass_next : i < n → passed_past e ws at n i ≡ flat (e (goal_at ws (at + 3 * i))) ++ passed_past e ws at n (i + 1)
  pass_next h =
      ap (λ gs. flat (gather e gs)) (past_next ws at n i h) ∙ flat_append (e (goal_at ws (at + 3 * i))) (gather e (goals_past ws at n (i + 1)))

  pass_end : n ≤ i → passed_past e ws at n i ≡ []
  unfolding flat
  pass_end h = ap (λ gs. flat (gather e gs)) (past_end ws at n i h)

pub record Passing (e : GoalWords → List GoalWords) (ws : List ℕ) (at n to : ℕ) (out₀ out : List ℕ) (next i : ℕ) : Type 0 where
  pub room : next + length (passed_past e ws at n i) ≤ length out
  pub count : next + length (passed_past e ws at n i) ≡ to + length (passed e ws at n)
  pub is : sets out₀ to (passed e ws at n) ≡ sets out next (passed_past e ws at n i)

module _ {e : GoalWords → List GoalWords} {ws : List ℕ} {at n to : ℕ} {out₀ : List ℕ} where
  module _ {out : List ℕ} {next i : ℕ} (s : Passing e ws at n to out₀ out next i) where
    pub passing_fits : i < n → next + length (flat (e (goal_at ws (at + 3 * i)))) ≤ length out
    passing_fits h =
        let p = ap length (pass_next e ws at n i h) in
        let q = length-append (flat (e (goal_at ws (at + 3 * i)))) (passed_past e ws at n (i + 1)) in
        omega (arith, s.room)

    pub passing_on : i < n → (out' : List ℕ) (next' : ℕ) → Puts (flat (e (goal_at ws (at + 3 * i)))) next next' out out'
        → Passing e ws at n to out₀ out' next' (i + 1)
    passing_on h out' next' w =
        let xs = flat (e (goal_at ws (at + 3 * i))) in
        let rest = passed_past e ws at n (i + 1) in
        let p = pass_next e ws at n i h in
        record {
          room = omega (arith, s.room, w.0, ap length p, length-append xs rest, ap length w.1, length-sets out next xs);
          count = omega (arith, s.count, w.0, ap length p, length-append xs rest);
          is = s.is ∙ ap (sets out next) p ∙ sets_append out next xs rest ∙ ap₂ (λ o k. sets o k rest) (sym w.1) (sym w.0);
        }

    pub passing_end : n ≤ i → Puts (passed e ws at n) to next out₀ out
    passing_end h =
        let p = pass_end e ws at n i h in
        (omega (arith, s.count, ap length p), sym (s.is ∙ ap (sets out next) p))

-- three stores of a run
pub run_three : (l : List ℕ) (i x y z : ℕ) (vs : List ℕ) → sets l i (x ∷ y ∷ z ∷ vs) ≡ sets (sets l i (x ∷ y ∷ z ∷ [])) (i + 3) vs
run_three l i x y z vs = let e : i + 3 ≡ suc (suc (suc i)) = omega arith in rw e

module _ (tab : List ℕ) (c : ℕ) (g : GoalWords) where
  pub stay : node_at tab g.sh g.an g.mask c ≡ 16 → stays tab c g ≡ g ∷ []
  stay e = rw (eq-eqb _ _ e)

  pub leave : (node_at tab g.sh g.an g.mask c ≡ 16 → ⊥) → stays tab c g ≡ []
  leave e = rw (ne_eqb _ _ e)

module _ (x : ℕ) (g : GoalWords) where
  pub goes_out_lem : x ≡ 0 → goes_on x g ≡ []
  goes_out_lem e = rw (eq-eqb _ _ e)

  pub goes_not : (x ≡ 0 → ⊥) → unexpected ≤ x → goes_on x g ≡ []
  goes_not e h = rw (ne_eqb _ _ e, le-ltb _ _ h)

  pub goes : (x ≡ 0 → ⊥) → x < unexpected → goes_on x g ≡ with_mask g x ∷ []
  goes e h = rw (ne_eqb _ _ e, lt-ltb _ _ h)

-- what one goal that stays, or leaves, puts
pub flat_none : (gs : List GoalWords) → gs ≡ [] → flat gs ≡ []
unfolding flat
flat_none gs e = ap flat e

pub flat_one : (gs : List GoalWords) (g : GoalWords) → gs ≡ g ∷ [] → flat gs ≡ g.sh ∷ g.an ∷ g.mask ∷ []
unfolding flat
flat_one gs g e = ap flat e

-- one turn of the pass over the goals that stay: what the code has of the goal, and of its open node
module _ (tab : List ℕ) (c : ℕ) {ws : List ℕ} {at n to : ℕ} {out₀ out : List ℕ} {next i : ℕ}
    (s : Passing (stays tab c) ws at n to out₀ out next i) (h : i < n)
    (r : Goal) (k : ℕ) (e : r ≡ as_goal (goal_at ws (at + 3 * i))) (d : k ≡ node_at tab r.shape.0 r.at.0 r.mask c) where
  abbrev g : GoalWords
  g = goal_at ws (at + 3 * i)

  node : k ≡ node_at tab g.sh g.an g.mask c
  node = node_is tab c k g r e d

  words : k ≡ 16 → flat (stays tab c g) ≡ g.sh ∷ g.an ∷ g.mask ∷ []
  words f = flat_one (stays tab c g) g (stay tab c g (sym node ∙ f))

  pub stay_room : k ≡ 16 → next + 3 ≤ length out
  stay_room f = let p = passing_fits s h in omega (arith, ap length (words f))

  pub stay_on : k ≡ 16 → (out' : List ℕ) (next' : ℕ) → out' ≡ sets out next (r.shape.0 ∷ r.at.0 ∷ r.mask ∷ []) → next' ≡ next + 3
      → Passing (stays tab c) ws at n to out₀ out' next' (i + 1)
  stay_on f out' next' o j = passing_on s h out' next' (
    omega (arith, ap length (words f)),
    o ∙ ap (λ (x : Goal). sets out next (x.shape.0 ∷ x.at.0 ∷ x.mask ∷ [])) e ∙ ap (sets out next) (sym (words f)),
  )

  pub stay_off : (k ≡ 16 → ⊥) → (out' : List ℕ) (next' : ℕ) → out' ≡ out → next' ≡ next
      → Passing (stays tab c) ws at n to out₀ out' next' (i + 1)
  stay_off f out' next' o j =
      let none = flat_none (stays tab c g) (leave tab c g (λ z. f (node ∙ z))) in
      passing_on s h out' next' (omega (arith, ap length none), o ∙ ap (sets out next) (sym none))

-- one turn of the pass over the goals that move
module _ (tab : List ℕ) (c f : ℕ) {ws : List ℕ} {at n to : ℕ} {out₀ out : List ℕ} {next i : ℕ}
    (s : Passing (moves tab c f) ws at n to out₀ out next i) (h : i < n)
    (r : Goal) (x : ℕ) (e : r ≡ as_goal (goal_at ws (at + 3 * i))) (d : x ≡ reduct tab c f (as_words r)) where
  moved : flat (goes_on x (as_words r)) ≡ flat (moves tab c f (goal_at ws (at + 3 * i)))
  moved = ap (λ y. flat (goes_on y (as_words r))) d ∙ ap (λ (y : Goal). flat (moves tab c f (as_words y))) e

  pub move_room : next + length (flat (goes_on x (as_words r))) ≤ length out
  move_room = let p = passing_fits s h in omega (arith, ap length moved)

  pub move_on : (out' : List ℕ) (next' : ℕ) → Puts (flat (goes_on x (as_words r))) next next' out out'
      → Passing (moves tab c f) ws at n to out₀ out' next' (i + 1)
  move_on out' next' w = passing_on s h out' next' (w.0 ∙ ap (λ xs. next + length xs) moved, w.1 ∙ ap (sets out next) moved)

-- numbers one after another
pub range_next : (b n j : ℕ) → j < n → range (b + j) (n - j) ≡ (b + j) ∷ range (b + (j + 1)) (n - (j + 1))
range_next b n j h =
    let e : n - j ≡ suc (n - (j + 1)) = omega arith in
    let d : b + (j + 1) ≡ suc (b + j) = omega arith in
    rw (e, d)

pub range_end : (b n j : ℕ) → n ≤ j → range (b + j) (n - j) ≡ []
range_end b n j h = let e : n - j ≡ 0 = omega arith in rw e

-- the fresh goals of the shapes from j on
abbrev pub fresh_from : ℕ → ℕ → ℕ → List ℕ
fresh_from n a j = flat (map (fresh_w a) (range (0 + j) (n - j)))

module _ (n a j : ℕ) where
  pub fresh_next : j < n → fresh_from n a j ≡ j ∷ a ∷ 1 ∷ fresh_from n a (j + 1)
  unfolding flat
  fresh_next h = ap (λ js. flat (map (fresh_w a) js)) (range_next 0 n j h) ∙ rw (zero-add j)

  pub fresh_end : n ≤ j → fresh_from n a j ≡ []
  unfolding flat
  fresh_end h = ap (λ js. flat (map (fresh_w a) js)) (range_end 0 n j h)

-- and those at the children after the i-th
abbrev pub born_from : ℕ → ℕ → ℕ → ℕ → List ℕ
born_from n c k i = flat (gather (λ i'. freshes_w n (5 * c + i')) (range (1 + i) (k - i)))

module _ (n c k i : ℕ) where
  pub born_next : i < k → born_from n c k i ≡ flat (freshes_w n (5 * c + (i + 1))) ++ born_from n c k (i + 1)
  born_next h =
      let e : 1 + i ≡ i + 1 = omega arith in
      ap (λ js. flat (gather (λ i'. freshes_w n (5 * c + i')) js)) (range_next 1 k i h)
      ∙ rw e (flat_append (freshes_w n (5 * c + (i + 1))) (gather (λ i'. freshes_w n (5 * c + i')) (range (1 + (i + 1)) (k - (i + 1)))))

  pub born_end : k ≤ i → born_from n c k i ≡ []
  unfolding flat
  born_end h = ap (λ js. flat (gather (λ i'. freshes_w n (5 * c + i')) js)) (range_end 1 k i h)

-- the derivative's words, pass by pass
pub deriv_words : (tab : List ℕ) (n c f k : ℕ) (gs : List GoalWords)
    → flat (deriv_w tab n c f k gs) ≡ flat (gather (stays tab c) gs) ++ (flat (gather (moves tab c f) gs) ++ flat (born_w n c k))
unfolding deriv_w
deriv_words tab n c f k gs =
    flat_append (gather (stays tab c) gs) (gather (moves tab c f) gs ++ born_w n c k)
    ∙ ap (λ ws. flat (gather (stays tab c) gs) ++ ws) (flat_append (gather (moves tab c f) gs) (born_w n c k))

pub deriv_size : (tab : List ℕ) (n c f k : ℕ) (gs : List GoalWords)
    → length (flat (deriv_w tab n c f k gs)) ≡ length (flat (gather (stays tab c) gs)) +
    (length (flat (gather (moves tab c f) gs)) + length (flat (born_w n c k)))
deriv_size tab n c f k gs =
    ap length (deriv_words tab n c f k gs)
    ∙ length-append (flat (gather (stays tab c) gs)) _
    ∙ ap (λ m. length (flat (gather (stays tab c) gs)) + m) (length-append (flat (gather (moves tab c f) gs)) (flat (born_w n c k)))

pub three_runs : (l S M B : List ℕ) (one two : ℕ) → one ≡ 0 + length S → two ≡ one + length M
    → sets (sets (sets l 0 S) one M) two B ≡ sets l 0 (S ++ (M ++ B))
three_runs l S M B one two e d = sym (sets_append l 0 S (M ++ B) ∙ sets_append (sets l 0 S) (0 + length S) M B ∙ rw (d, e) refl)
