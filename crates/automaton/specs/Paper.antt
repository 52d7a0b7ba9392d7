-- Obligations as document 000 has them: pairs of a subpattern and a position. The plan that is promised is the one of these.
--   Ob         ℓ@p
--   heads      hd(ℓ) = f
--   fresh      ℓ@p → ℓ@p for each shape
--   args       the arguments ℓ[i]@p.i that are no blank, 1 ≤ i ≤ #f
--   reduce_ob  reduce, one obligation: the arguments of ℓ@p take its own place, so that a list in document order stays one
--   same_term  equality of subpatterns; all blanks are alike
--   paper      the paper's calculus for a list of shapes
use Rattle.std.specs.Prelude.{List, [], ◌∷◌, ◌++◌, Bool, true, false, cond, ◌&&◌, ℕ, zero, suc, eqb}
use Rattle.kinds.specs.Lists.{same, any, gather, map_at}
use Rattle.kinds.specs.Positions.{Pos, strip}
use Rattle.term.specs.Terms.{Term, blank, node, Terms, tnil, tcons}
use Rattle.automaton.specs.Goals.{Goal, Calculus}

pub record Ob : Type 0 where
  pub pat : Term
  pub pos : Pos

abbrev pub heads : ℕ → Term → Bool
heads f (blank w) = false
heads f (node g ts) = eqb g f

abbrev pub fresh : Pos → ℕ → Term → Goal Ob
fresh p i ℓ = record { shape = i; ann = p; obs = record { pat = ℓ; pos = p } ∷ [] }

-- numbered from i on; n of them are looked at
abbrev pub args : Pos → ℕ → ℕ → Terms → List Ob
args p i zero ts = []
args p i (suc n) tnil = []
args p i (suc n) (tcons (blank w) ts) = args p (suc i) n ts
args p i (suc n) (tcons (node f us) ts) = record { pat = node f us; pos = p ++ (i ∷ []) } ∷ args p (suc i) n ts

abbrev pub args_of : Pos → ℕ → Term → List Ob
args_of p n (blank w) = []
args_of p n (node f ts) = args p 1 n ts

abbrev pub reduce_ob : Pos → ℕ → Ob → List Ob
reduce_ob p n o = cond (same p o.pos) (args_of p n o.pat) (o ∷ [])

abbrev mutual
  pub same_term : Term → Term → Bool
  same_term (blank v) (blank w) = true
  same_term (blank v) (node g us) = false
  same_term (node f ts) (blank w) = false
  same_term (node f ts) (node g us) = eqb f g && same_terms ts us

  pub same_terms : Terms → Terms → Bool
  same_terms tnil tnil = true
  same_terms tnil (tcons u us) = false
  same_terms (tcons t ts) tnil = false
  same_terms (tcons t ts) (tcons u us) = same_term t u && same_terms ts us

abbrev pub paper : List Term → Calculus Ob
paper shapes = record {
  at = λ o. o.pos;
  fresh = λ p. map_at (fresh p) 0 shapes;
  expects = λ f p g. any (λ o. same p o.pos && heads f o.pat) g.obs;
  reduce = λ p n g. gather (reduce_ob p n) g.obs;
  lifted = λ c o. record { pat = o.pat; pos = strip c o.pos };
  alike = λ a b. same a.pos b.pos && same_term a.pat b.pat;
}
