-- S2 of a decoded goal gives the field `apart` of its words.
use mathlib.Core.Path.{◌≡◌}
use mathlib.Core.List.{List, [], ◌++◌, append_assoc}
use Prim.Native.Nat.{ℕ, ◌/◌, ◌%◌, ◌^◌}
use Rattle.term.specs.Terms.{Term, span}
use Rattle.kinds.specs.Positions.{Pos, decode}
use Rattle.goals.specs.GoalWords.{GoalWords}
use Rattle.decoding.specs.Decoding.{shape_at, goal_meant}
use Rattle.kinds.proofs.Members.{map_in}
use Rattle.kinds.specs.Members.{◌∈◌}
use Rattle.decoding.proofs.ShapeNodes.{Node}
use Rattle.decoding.proofs.OpenApart.{Lone, lone_apart}

pub goal_lone : (shapes : List Term) (g : GoalWords)
    → ((p b : Pos) → p ∈ (goal_meant shapes g).obs → (p ++ b) ∈ (goal_meant shapes g).obs → b ≡ []) → Lone g.mask (shape_at shapes g.sh)
goal_lone shapes g h p b i j =
    let k : (decode g.an ++ (p ++ b)) ∈ (goal_meant shapes g).obs = map_in (λ r. decode g.an ++ r) j in
    h (decode g.an ++ p) b (map_in (λ r. decode g.an ++ r) i) (rw (append_assoc (decode g.an) p b) k)

pub goal_apart : (shapes : List Term) (g : GoalWords)
    → ((p b : Pos) → p ∈ (goal_meant shapes g).obs → (p ++ b) ∈ (goal_meant shapes g).obs → b ≡ [])
    → (r : ℕ) (o : Node (shape_at shapes g.sh) r) → g.mask / 2 ^ r % 2 ≡ 1 → g.mask / 2 ^ r % 2 ^ span o.under ≡ 1
goal_apart shapes g h r o bit = lone_apart (shape_at shapes g.sh) g.mask r o (goal_lone shapes g h) bit
