-- Codes padded to six digits, as the builder compares them.
--   pad_six       a padded code is the number of six digits
--   code_before   the order of padded codes is document order
use mathlib.Core.Path.{◌≡◌, refl}
use mathlib.Core.List.{[], ◌∷◌}
use Prim.Native.Nat.{◌≤◌}
use native.Mathlib.Omega.{arith}
use borrow.Author.Tests.{lt-ltb, le-ltb}
use lib.Dec.{ltb}
use lib.ListN.{length}
use Rattle.kinds.specs.Positions.{Pos, before, code, pad_to}
use Rattle.kinds.proofs.Codes.{Proper, proper_head, proper_tail, pad_before}
use Rattle.goals.specs.GoalWords.{pad}

-- a code padded is the number of six digits
pub pad_six : (p : Pos) → Proper p → length p ≤ 6 → pad (code p) ≡ pad_to 6 p
pad_six [] h l = refl
pad_six (a ∷ []) h l = let b0 = proper_head (h) in rw (lt-ltb (code (a ∷ [])) 5 (omega arith)) (omega arith)
pad_six (a ∷ b ∷ []) h l =
    let b0 = proper_head (h) in
    let b1 = proper_head (proper_tail (h)) in
    rw (le-ltb (code (a ∷ b ∷ [])) 5 (omega arith), lt-ltb (code (a ∷ b ∷ [])) 25 (omega arith)) (omega arith)
pad_six (a ∷ b ∷ c ∷ []) h l =
    let b0 = proper_head (h) in
    let b1 = proper_head (proper_tail (h)) in
    let b2 = proper_head (proper_tail (proper_tail (h))) in
    let x = code (a ∷ b ∷ c ∷ []) in rw (le-ltb x 5 (omega arith), le-ltb x 25 (omega arith), lt-ltb x 125 (omega arith)) (omega arith)
pad_six (a ∷ b ∷ c ∷ d ∷ []) h l =
    let b0 = proper_head (h) in
    let b1 = proper_head (proper_tail (h)) in
    let b2 = proper_head (proper_tail (proper_tail (h))) in
    let b3 = proper_head (proper_tail (proper_tail (proper_tail (h)))) in
    let x = code (a ∷ b ∷ c ∷ d ∷ []) in
    rw (le-ltb x 5 (omega arith), le-ltb x 25 (omega arith), le-ltb x 125 (omega arith), lt-ltb x 625 (omega arith)) (omega arith)
pad_six (a ∷ b ∷ c ∷ d ∷ e ∷ []) h l =
    let b0 = proper_head (h) in
    let b1 = proper_head (proper_tail (h)) in
    let b2 = proper_head (proper_tail (proper_tail (h))) in
    let b3 = proper_head (proper_tail (proper_tail (proper_tail (h)))) in
    let b4 = proper_head (proper_tail (proper_tail (proper_tail (proper_tail (h))))) in
    let x = code (a ∷ b ∷ c ∷ d ∷ e ∷ []) in
    rw
    (le-ltb x 5 (omega arith), le-ltb x 25 (omega arith), le-ltb x 125 (omega arith), le-ltb x 625 (omega arith), lt-ltb x 3125 (omega arith))
    (omega arith)
pad_six (a ∷ b ∷ c ∷ d ∷ e ∷ g ∷ []) h l =
    let b0 = proper_head (h) in
    let b1 = proper_head (proper_tail (h)) in
    let b2 = proper_head (proper_tail (proper_tail (h))) in
    let b3 = proper_head (proper_tail (proper_tail (proper_tail (h)))) in
    let b4 = proper_head (proper_tail (proper_tail (proper_tail (proper_tail (h))))) in
    let b5 = proper_head (proper_tail (proper_tail (proper_tail (proper_tail (proper_tail (h)))))) in
    let x = code (a ∷ b ∷ c ∷ d ∷ e ∷ g ∷ []) in
    rw
    (le-ltb x 5 (omega arith), le-ltb x 25 (omega arith), le-ltb x 125 (omega arith), le-ltb x 625 (omega arith), le-ltb x 3125 (omega arith))
    (omega arith)
pad_six (a ∷ b ∷ c ∷ d ∷ e ∷ g ∷ i ∷ p) h l = absurd (omega arith)

pub code_before : (p q : Pos) → Proper p → Proper q → length p ≤ 6 → length q ≤ 6 → ltb (pad (code p)) (pad (code q)) ≡ before p q
code_before p q hp hq lp lq = rw (pad_six p hp lp, pad_six q hq lq) (pad_before 6 p q hp hq lp lq)
