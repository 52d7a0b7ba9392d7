-- Goals written as words, and read again.
--   flat_back         goals written from a place on, read again
--   flat_thirds       how many, from how many words
--   picked_few        a row picks no more than there are
use mathlib.Core.Path.{◌≡◌, refl, ap, ap₂, sym, ◌∙◌}
use mathlib.Core.List.{List, [], ◌∷◌}
use mathlib.Core.Bool.{Bool, true, false, cond}
use Prim.Native.Nat.{ℕ, suc, ◌+◌, ◌*◌, ◌/◌, ◌≤◌}
use native.Mathlib.Omega.{arith}
use native.Mathlib.Nat.{zero-add}
use lib.ListN.{length, get_or}
use lib.Seq.{sets}
use Rattle.goals.specs.GoalWords.{GoalWords, goals_from, flat}
use Rattle.goals.specs.WordStages.{picked_w}
use Rattle.decoding.proofs.Room.{flat_length}
use Rattle.goals.proofs.GoalLaws.{goals_same}
use Rattle.states.proofs.StateLaws.{sets_in}

goals_shift : (x : ℕ) (ws : List ℕ) (at k : ℕ) → goals_from (x ∷ ws) (suc at) k ≡ goals_from ws at k
goals_shift x ws at k =
    goals_same (x ∷ ws) ws (suc at) at k (λ i h. let e : suc at + i ≡ suc (at + i) = omega arith in ap (λ n. get_or (x ∷ ws) n 0) e)

flat_goals : (gs : List GoalWords) → goals_from (flat gs) 0 (length gs) ≡ gs
unfolding flat goals_from
flat_goals [] = refl
flat_goals (g ∷ gs) =
    ap (λ l. g ∷ l) (
    goals_shift g.sh (g.an ∷ g.mask ∷ flat gs) 2 (length gs)
    ∙ goals_shift g.an (g.mask ∷ flat gs) 1 (length gs)
    ∙ goals_shift g.mask (flat gs) 0 (length gs)
    ∙ flat_goals gs)

pub flat_back : (l ws : List ℕ) (at : ℕ) (gs : List GoalWords) (k : ℕ) → ws ≡ sets l at (flat gs) → k ≡ length gs
    → at + 3 * length gs ≤ length l → goals_from ws at k ≡ gs
flat_back l ws at gs k e d h =
    ap₂ (λ v n. goals_from v at n) e d
    ∙ goals_same (sets l at (flat gs)) (flat gs) at 0 (length gs)
    (λ i g. let z = flat_length gs in sets_in (flat gs) l at i (omega arith) (omega arith) ∙ ap (λ n. get_or (flat gs) n 0) (sym (zero-add i)))
    ∙ flat_goals gs

pub flat_thirds : (gs : List GoalWords) (k : ℕ) → k ≡ length (flat gs) → k / 3 ≡ length gs
flat_thirds gs k e = let z = flat_length gs in omega arith

pub picked_few : (r : List Bool) (gs : List GoalWords) → length (picked_w r gs) ≤ length gs
unfolding picked_w
picked_few [] gs = omega arith
picked_few (b ∷ r) [] = omega arith
picked_few (b ∷ r) (g ∷ gs) = go b (picked_w r gs) (picked_few r gs)
  where
    go : (b : Bool) (hs : List GoalWords) → length hs ≤ length gs → length (cond b (g ∷ hs) hs) ≤ suc (length gs)
    go true hs h = omega arith
    go false hs h = omega arith
