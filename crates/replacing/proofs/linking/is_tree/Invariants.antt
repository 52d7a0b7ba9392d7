use Rattle.replacing.proofs.LawsLinks.{Wanting}
use Rattle.replacing.proofs.linking.is_tree.Given as goal

abbrev pub invariant-loop-i : goal.invariant-loop-i
invariant-loop-i l = Wanting l.symbols l.n l.link l.wanted l.i
