-- A step's parts, put together.
--   targets_of   what pairs lead to
--   look_of      what an item finds
--   tried_of     what a step leaves
use mathlib.Core.Path.{◌≡◌, refl}
use mathlib.Core.Bool.{true}
use mathlib.Core.List.{List, [], ◌∷◌, map}
use mathlib.Core.Option.{Option, some}
use Prim.Native.Nat.{ℕ, ◌<◌}
use lib.ListN.{length, get_or, get_elem?}
use Rattle.kinds.proofs.Bools.{is_ltb}
use Rattle.kinds.specs.Members.{◌∈◌, here, there}
use Rattle.following.specs.Following.{target}
use Rattle.readers.specs.PlanParts.{counts_good, pairs, label_word, block_of}
use Rattle.walk.specs.Starting.{Walk}
use Rattle.walk.specs.Stepping.{Finding, look, onward, numbered, roomy, moved, tried}
use Rattle.queue.specs.Targets.{targets}

pub targets_of : {A : Type 0} (limit : ℕ) (to : ℕ → Option ℕ) (N C D : A → ℕ) (xs : List A)
    → ((x : A) → x ∈ xs → (N x < limit) × (to (C x) ≡ some (D x)))
    → targets limit to (map (λ x. (N x, C x)) xs) ≡ some (map (λ x. (N x, D x)) xs)
unfolding targets
targets_of limit to N C D [] h = refl
targets_of limit to N C D (x ∷ xs) h =
    let a = h x (here refl) in
    rw (is_ltb (N x) limit a.0, a.1, targets_of limit to N C D xs (λ y m. h y (there m)))

-- in a plan of m states, k symbols and n shapes
pub look_of : (plan score spans : List ℕ) (m k n : ℕ) → counts_good plan ≡ true → get_or plan 0 0 ≡ m → get_or plan 1 0 ≡ k → get_or plan 2 0 ≡ n
    → (s x c y f : ℕ) (os ns os' ns' : List (ℕ × ℕ)) → label_word plan m s ≡ some c → target (length score) spans x c ≡ some y
    → get_elem? score y ≡ some f → block_of plan m k s f ≡ some (os, ns)
    → targets n (target (length score) spans x) os ≡ some os' → targets m (target (length score) spans x) ns ≡ some ns'
    → look plan score spans (s, x) ≡ some (record { node = y; outs = os'; nexts = ns' })
unfolding look
look_of plan score spans m k n good em ek en s x c y f os ns os' ns' el et ef eb eo es = rw (good, em, ek, en, el, et, ef, eb, eo, es)

pub tried_of : (plan score spans : List ℕ) (i : ℕ) (v : Walk) (its : List (ℕ × ℕ)) (rest : List ℕ) (it : ℕ × ℕ) (found : Finding)
    → numbered (length score) v.count ≡ true → pairs v.count.waiting v.items ≡ some (its, rest) → get_elem? its i ≡ some it
    → look plan score spans it ≡ some found → roomy v found (onward i its found.nexts) ≡ true
    → tried plan score spans i v ≡ some (moved v found (onward i its found.nexts))
unfolding tried
tried_of plan score spans i v its rest it found k a b c d = rw (k, a, b, c, d)
