-- Following a position from a node by spans: "each child gone to or stepped over lies, with a span of at least 1, inside its parent's span".
--   inside     a child lies, with a span of at least 1, inside its parent's span
--   sibling    child i, from 0, where child 0 is at a node and the parent ends at a node
--   child_at   child i, from 1, of a node
--   follow     the node at a node followed by a position
--   node_good  a node is below the score words lent, and 65,536
--   target     the node that a code leads to from a node
--   reached    as the kind that a call answers
--   node_of    the node that a part of it answers, if there is one
use Rattle.kinds.specs.declared.Node.{Node}
use Rattle.std.specs.Prelude.{ℕ, zero, suc, ◌+◌, List, [], ◌∷◌, Bool, ◌&&◌, ltb, leb, length, get_or, None, Some, Option as Optional}
use Rattle.std.proofs.Math.Option.{Option, none, some}
use Rattle.kinds.specs.Limits.{numbered_nodes}
use Rattle.kinds.specs.Lists.{bind, need}
use Rattle.kinds.specs.Positions.{Pos, decode, code_good}
use Rattle.kinds.specs.Reasons.{Says, gives, refuses}
use Rattle.kinds.specs.declared.Reason.TheVariants.{OutOfRange}

abbrev pub inside : List ℕ → ℕ → ℕ → Bool
inside spans end at = ltb at (length spans) && (ltb 0 (get_or spans at 0) && leb (at + get_or spans at 0) end)

unfoldable pub sibling : List ℕ → ℕ → ℕ → ℕ → Option ℕ
sibling spans end zero at = need (inside spans end at) (some at)
sibling spans end (suc i) at = need (inside spans end at) (sibling spans end i (at + get_or spans at 0))

unfoldable pub child_at : List ℕ → ℕ → ℕ → Option ℕ
child_at spans zero at = none
child_at spans (suc i) at = need (ltb at (length spans)) (sibling spans (at + get_or spans at 0) i (suc at))

unfoldable pub follow : List ℕ → Pos → ℕ → Option ℕ
follow spans [] at = some at
follow spans (i ∷ p) at = bind (child_at spans i at) (λ x. follow spans p x)

abbrev pub node_good : ℕ → ℕ → Bool
node_good n x = ltb x n && ltb x numbered_nodes

-- n is the number of score words lent
unfoldable pub target : ℕ → List ℕ → ℕ → ℕ → Option ℕ
target n spans at c = need (code_good c) (bind (follow spans (decode c) at) (λ x. need (node_good n x) (some x)))

-- as the kind that a call answers
abbrev pub reached : Option ℕ → Optional Node
reached none = None
reached (some x) = Some (record { 0 = x })

-- the answer in document 01's numbers
abbrev pub reached_says : Optional Node → Says
reached_says (Some x) = gives (x.0 ∷ [])
reached_says None = refuses OutOfRange 0

abbrev pub node_of : Optional ℕ → Option ℕ
node_of (Some x) = some x
node_of None = none
