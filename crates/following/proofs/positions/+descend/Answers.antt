use mathlib.Core.Path.{ap, sym, ◌∙◌}
use native.Mathlib.Omega.{arith}
use Rattle.following.proofs.LawsFollowing.{descend_root, descend_child, descend_none}
use Rattle.following.specs.Following.{node_of}
use Rattle.following.proofs.positions.+descend.Goals as goal

pub returns-then-code-eq0 : goal.returns-then-code-eq0
returns-then-code-eq0 t c = sym (descend_root _ _ _ c.if-code-eq0.true)

pub descend-requires : goal.descend-requires
descend-requires t c = omega arith

pub returns : goal.returns
returns t c = c.child.ensures
    ∙ sym (descend_child _ _ _ c.if-code-eq0.false (omega arith)
    (sym c.descend.ensures ∙ ap node_of c.in_ok-x.was))

pub returns-in_err-x : goal.returns-in_err-x
returns-in_err-x t c = ap node_of c.from_residual.ensures
    ∙ sym (descend_none _ _ _ c.if-code-eq0.false (omega arith) (sym c.descend.ensures ∙ ap node_of c.in_err-x.was))
