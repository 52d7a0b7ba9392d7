-- Least announcement and lifting along a loop's turn.
use Prim.Native.Nat.{ℕ, zero, suc, ◌+◌, ◌-◌, ◌*◌, ◌/◌, ◌%◌, ◌^◌, ◌<◌, ◌≤◌}
use mathlib.Core.Path.{◌≡◌, refl, ap, ap₂, sym, ◌∙◌}
use mathlib.Core.List.{List, ◌∷◌, map}
use mathlib.Core.Bool.{cond}
use native.Mathlib.Omega.{arith}
use native.Mathlib.Nat.{pow-suc}
use Rattle.std.proofs.Math.Nat.{one-le-pow, pow-le-pow_right}
use Rattle.std.proofs.lemmas.Bool.Decides.{nat_tests}
use Rattle.std.specs.Prelude.{min, ltb}
use borrow.Author.Tests.{lt-ltb, le-ltb}
use lib.ListN.{get_or, set}
use lib.Seq.{sets, set-get_or, get_or-set_other}
use Rattle.goals.specs.GoalWords.{GoalWords, goals_from, flat}
use Rattle.goals.specs.WordStages.{least_code, under_from, under_code, lift_w, displacement_w}
use Rattle.derivatives.specs.Passes.{Lifts}
use Rattle.goals.proofs.GoalLaws.{run_on, goals_next, goals_same}
use Rattle.derivatives.proofs.AlongLaws.{goals_past, past_next, past_end}

less : (b a : ℕ) → cond (ltb a b) a b ≡ min b a
less b a = grind (arith, nat_tests)

module _ (ws : List ℕ) (at n i best : ℕ) where
  pub least_next : i < n → least_code best (goals_past ws at n i) ≡ least_code (min best (get_or ws (at + 3 * i + 1) 0)) (goals_past ws at n (i + 1))
  unfolding least_code
  least_next h =
      ap (least_code best) (past_next ws at n i h) ∙ ap (λ m. least_code m (goals_past ws at n (i + 1))) (less best (get_or ws (at + 3 * i + 1) 0))

  pub least_end : n ≤ i → least_code best (goals_past ws at n i) ≡ best
  unfolding least_code
  least_end h = ap (least_code best) (past_end ws at n i h)

five_le : (n : ℕ) → n ≤ 7 → (0 < 5 ^ n) × (5 ^ n ≤ 78125)
five_le n h = (one-le-pow n 5 (omega arith), pow-le-pow_right {n = 5} (omega arith) h)

module _ (g c : ℕ) where
  under_stop : (k t w : ℕ) → t ≤ g → under_from k g c t w ≡ c % w
  unfolding under_from
  under_stop zero t w h = refl
  under_stop (suc k) t w h = rw (le-ltb g t h) refl

  -- k digits are left of a code of seven
  pub record Under (up weight : ℕ) : Type 0 where
    pub k : ℕ
    pub few : k ≤ 7
    pub low : up < 5 ^ k
    pub power : weight ≡ 5 ^ (7 - k)
    pub is : under_code g c ≡ under_from k g c up weight

  module _ {up weight : ℕ} (u : Under up weight) where
    pub under_weight : (0 < weight) × (weight ≤ 78125)
    under_weight = rw u.power (five_le (7 - u.k) (omega arith))

    pub under_next : g < up → Under (up / 5) (weight * 5)
    unfolding under_from
    under_next h = go u.k u.few u.low u.power u.is
      where
        go : (k : ℕ) → k ≤ 7 → up < 5 ^ k → weight ≡ 5 ^ (7 - k) → under_code g c ≡ under_from k g c up weight → Under (up / 5) (weight * 5)
        go zero f l p e = absurd (omega arith)
        go (suc k) f l p e = record {
          k = k;
          few = omega arith;
          low = let q = pow-suc 5 k in omega arith;
          power = let d : 7 - k ≡ suc (7 - suc k) = omega arith in rw (d, pow-suc 5 (7 - suc k), p) refl;
          is = e ∙ rw (lt-ltb g up h) refl;
        }

    pub under_end : up ≤ g → c % weight ≡ under_code g c
    under_end h = sym (u.is ∙ under_stop u.k up weight h)

abbrev lifted : ℕ → List ℕ → ℕ → ℕ → List ℕ
lifted c ws at k = flat (map (lift_w c) (goals_from ws at k))

lifted_next : (c : ℕ) (ws : List ℕ) (at k : ℕ) → 0 < k
    → lifted c ws at k ≡ get_or ws at 0 ∷ under_code c (get_or ws (at + 1) 0) ∷ get_or ws (at + 2) 0 ∷ lifted c ws (at + 3) (k - 1)
unfolding flat
lifted_next c ws at k h = ap (λ gs. flat (map (lift_w c) gs)) (goals_next ws at k h)

-- one goal lifted where it stands
lifting_on : (c : ℕ) (ws : List ℕ) (at k : ℕ) → 0 < k → (ws' : List ℕ) → ws' ≡ set ws (at + 1) (under_code c (get_or ws (at + 1) 0))
    → sets ws at (lifted c ws at k) ≡ sets ws' (at + 3) (lifted c ws' (at + 3) (k - 1))
lifting_on c ws at k h ws' e =
    let u = under_code c (get_or ws (at + 1) 0) in
    let z = get_or ws (at + 2) 0 in
    let rest = lifted c ws (at + 3) (k - 1) in
    let others : (x : ℕ) → (x ≡ at + 1 → ⊥) → get_or ws' x 0 ≡ get_or ws x 0 =
    λ x d. ap (λ l. get_or l x 0) e ∙ get_or-set_other ws (at + 1) x u 0 d in
    let last : set ws' (at + 2) z ≡ ws' = ap (set ws' (at + 2)) (sym (others (at + 2) (λ d. omega arith))) ∙ set-get_or ws' (at + 2) 0 in
    let two : at + 1 + 1 ≡ at + 2 = omega arith in
    let three : at + 2 + 1 ≡ at + 3 = omega arith in
    let same : rest ≡ lifted c ws' (at + 3) (k - 1) =
    ap (λ gs. flat (map (lift_w c) gs))
    (goals_same ws ws' (at + 3) (at + 3) (k - 1) (λ i l. sym (others (at + 3 + i) (λ d. omega arith)))) in
    ap (sets ws at) (lifted_next c ws at k h)
    ∙ run_on ws at (get_or ws at 0) (u ∷ z ∷ rest)
    ∙ ap (λ l. sets l (at + 1) (u ∷ z ∷ rest)) (set-get_or ws at 0)
    ∙ run_on ws (at + 1) u (z ∷ rest)
    ∙ ap₂ (λ l n. sets l n (z ∷ rest)) (sym e) two
    ∙ run_on ws' (at + 2) z rest
    ∙ ap₂ (λ l n. sets l n rest) last three
    ∙ ap (sets ws' (at + 3)) same

-- the goals from the i-th on, lifted
abbrev pub lifted_past : ℕ → List ℕ → ℕ → ℕ → ℕ → List ℕ
lifted_past c ws at n i = flat (map (lift_w c) (goals_past ws at n i))

module _ (c : ℕ) (ws : List ℕ) (at n i : ℕ) where
  pub lifting_next : i < n → (ws' : List ℕ) → ws' ≡ set ws (at + 3 * i + 1) (under_code c (get_or ws (at + 3 * i + 1) 0))
      → sets ws (at + 3 * i) (lifted_past c ws at n i) ≡ sets ws' (at + 3 * (i + 1)) (lifted_past c ws' at n (i + 1))
  lifting_next h ws' e =
      let d : n - i - 1 ≡ n - (i + 1) = omega arith in
      let f : at + 3 * i + 3 ≡ at + 3 * (i + 1) = omega arith in
      lifting_on c ws (at + 3 * i) (n - i) (omega arith) ws' e ∙ rw (d, f) refl

  pub lifting_end : n ≤ i → sets ws (at + 3 * i) (lifted_past c ws at n i) ≡ ws
  unfolding flat
  lifting_end h = ap (λ gs. sets ws (at + 3 * i) (flat (map (lift_w c) gs))) (past_end ws at n i h)

pub lifts : (gs : List GoalWords) (to top : ℕ) (old new : List ℕ) → top ≡ displacement_w gs → new ≡ sets old to (flat (map (lift_w top) gs))
    → Lifts gs to top old new
lifts gs to top old new t e = (t, e ∙ ap (λ x. sets old to (flat (map (lift_w x) gs))) t)
