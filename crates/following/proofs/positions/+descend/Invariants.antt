use Rattle.following.proofs.positions.+descend.Given as goal

abbrev pub decreases-descend : goal.decreases-descend
decreases-descend l = l.code
