use native.Mathlib.Omega.{arith}
use Rattle.replacing.proofs.LawsPutting.{in_none, in_tree}
use Rattle.kinds.proofs.Bools.{of_not, of_not_false}
use mathlib.Core.Path.{sym, ◌∙◌}
use Rattle.replacing.proofs.putting.put_in.Goals as goal

pub returns-then-not-tree : goal.returns-then-not-tree
returns-then-not-tree c = in_none _ _ _ _ _ _ _ c.cover-n.ensures.count (sym c.is_tree-tree.ensures ∙ of_not _ c.if-not-tree.true-raw)

pub slice_bounds-change-end : goal.slice_bounds-change-end
slice_bounds-change-end c =
    omega (arith, c.cover-n.ensures.few, c.requires.0)

pub write-requires : goal.write-requires
write-requires c =
    (c.requires.1, c.requires.2)

pub returns : goal.returns
returns c =
    in_tree _ _ _ _ _ _ _ c.cover-n.ensures.count _ (sym c.is_tree-tree.ensures ∙ of_not_false _ c.if-not-tree.false-raw) c.cover-n.ensures.nodes
    c.write.ensures
