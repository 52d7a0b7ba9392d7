-- "path in dotted child numbers": the position of a node, by descent over spans.
--   child_on  of k children from a node on, numbered from i, of a parent that ends at a node, the one in whose subtree x stands
--   child_of  the child of node a in whose subtree x stands: its number and its node
--   path_to   the position of node x under node a, of at most d numbers
--   path_of   the position of node x under the root; none where the spans have no such node within 64 levels
--   Leads     the same said without searching: following the position from the root by spans ends at x
use Rattle.std.specs.Prelude.{ℕ, zero, suc, ◌+◌, ◌<◌, ◌≤◌, ◌≡◌, List, [], ◌∷◌, cond, eqb, ltb, length, get_or}
use Rattle.std.proofs.Math.Option.{Option, none, some, map}
use Rattle.kinds.specs.Lists.{bind, need}
use Rattle.kinds.specs.Limits.{most_children, path_numbers}
use Rattle.kinds.specs.Members.{Below}
use Rattle.kinds.specs.Positions.{Pos}
use Rattle.following.specs.Following.{inside, follow}

unfoldable pub child_on : List ℕ → ℕ → ℕ → ℕ → ℕ → ℕ → Option (ℕ × ℕ)
child_on spans end x zero at i = none
child_on spans end x (suc k) at i =
    need (inside spans end at)
    (cond (ltb x (at + get_or spans at 0)) (some (i, at)) (child_on spans end x k (at + get_or spans at 0) (i + 1)))

abbrev pub child_of : List ℕ → ℕ → ℕ → Option (ℕ × ℕ)
child_of spans x a = child_on spans (a + get_or spans a 0) x most_children (a + 1) 1

unfoldable pub path_to : ℕ → List ℕ → ℕ → ℕ → Option Pos
path_to zero spans x a = need (eqb a x) (some [])
path_to (suc d) spans x a = cond (eqb a x) (some []) (bind (child_of spans x a) (λ c. map (λ p. c.0 ∷ p) (path_to d spans x c.1)))

unfoldable pub path_of : List ℕ → ℕ → Option Pos
path_of spans x = need (ltb x (length spans)) (path_to path_numbers spans x 0)

pub record Leads (spans : List ℕ) (x : ℕ) (p : Pos) : Type 0 where
  pub node : x < length spans
  pub few : length p ≤ path_numbers
  pub children : Below (suc most_children) p
  pub there : follow spans p 0 ≡ some x
