-- The path on a match's line is the node's position, for every node of a score.
--   score_leads score_path   by the spans of a score: the position of each node leads to it, and is the one that is found
use mathlib.Core.Path.{◌≡◌, refl, ◌∙◌}
use mathlib.Core.List.{List, []}
use mathlib.Core.Option.{some}
use Prim.Native.Nat.{ℕ}
use native.Mathlib.Omega.{arith}
use Rattle.kinds.specs.Positions.{Pos}
use Rattle.term.specs.Terms.{Term, sizes}
use Rattle.term.specs.Places.{number}
use Rattle.term.proofs.Numbers.{sub_number, number_below}
use Rattle.term.proofs.Sizes.{length_sizes}
use Rattle.term.proofs.Subterms.{sub_depth, fits_proper}
use Rattle.following.proofs.FollowTree.{follow_at}
use Rattle.kinds.specs.Limits.{no_blank}
use Rattle.term.specs.Admitted.{GoodSymbols, IsScore}
use Rattle.report.specs.Paths.{path_of, Leads}
use Rattle.report.proofs.FollowPath.{leads_path}

module _ (ar : List ℕ) (t : Term) (good : GoodSymbols ar) (score : IsScore ar t) (p : Pos) (n : ℕ) (e : number t p ≡ some n) where
  pub score_leads : Leads (sizes t) n p
  score_leads =
      let u = sub_number p t n e in
      let l = length_sizes t in
      record {
        node = omega (arith, number_below p t n e, l);
        few = omega (arith, sub_depth p t u.0 u.1, score.flat);
        children = λ i m. omega (arith, (fits_proper ar good.children no_blank p t score.fits u.1 i m).1);
        there = follow_at t [] p t 0 refl refl ∙ e;
      }

  pub score_path : path_of (sizes t) n ≡ some p
  score_path = leads_path (sizes t) n p score_leads
