-- The number of the node at a position of a term, and the code that leads to it.
--   num num_is num_root num_below num_inj   the number, 0 where there is none
--   target_num                              a code leads to the node of its position
use mathlib.Core.Path.{◌≡◌, refl, ◌∙◌}
use mathlib.Core.List.{[], ◌++◌}
use mathlib.Core.Option.{some}
use Prim.Native.Nat.{ℕ, ◌<◌, ◌≤◌}
use lib.ListN.{length}
use Rattle.kinds.specs.Lists.{or_else}
use Rattle.kinds.specs.Positions.{Pos, code}
use Rattle.kinds.proofs.Codes.{Small}
use Rattle.term.specs.Terms.{Term, span, flatten, sizes}
use Rattle.term.specs.Places.{sub, number, place}
use Rattle.following.specs.Following.{target}
use Rattle.term.proofs.Sizes.{length_flatten}
use Rattle.term.proofs.Numbers.{number_sub, number_place, number_below}
use Rattle.following.proofs.FollowTree.{target_is}
use Rattle.term.proofs.Subterms.{sub_prefix}

pub num : Term → Pos → ℕ
num t p = or_else (number t p) 0

pub num_is : (t : Term) (p : Pos) (u : Term) → sub t p ≡ some u → number t p ≡ some (num t p)
unfolding num
num_is t p u e = let h = number_sub p t u e in rw h.1

pub num_root : (t : Term) → num t [] ≡ 0
unfolding num
num_root t = refl

pub num_below : (t : Term) (p : Pos) (u : Term) → sub t p ≡ some u → num t p < span t
num_below t p u e = number_below p t (num t p) (num_is t p u e)

pub num_inj : (t : Term) (p q : Pos) (u v : Term) → sub t p ≡ some u → sub t q ≡ some v → num t p ≡ num t q → p ≡ q
num_inj t p q u v e d h =
    let a = number_place p t (num t p) (num_is t p u e) in
    let b = number_place q t (num t q) (num_is t q v d) in
    let c : place t (num t p) ≡ some q = rw h b in
    cc (a, c)

pub target_num : (t : Term) (p q : Pos) (v : Term) → span t ≤ 65536 → Small q → sub t (p ++ q) ≡ some v
    → target (length (flatten t)) (sizes t) (num t p) (code q) ≡ some (num t (p ++ q))
target_num t p q v few sm e =
    let u = sub_prefix t p q v e in
    rw (length_flatten t) (target_is t p q u.0 (num t p) few sm u.1 (num_is t p u.0 u.1) ∙ num_is t (p ++ q) v e)
