-- Inside: obligations as positions alone, as words hold them: what is owed at a position is the shape's subterm there. Both kinds give the same plan.
--   owed       what a goal owes at a position
--   fresh      ℓ@p → ℓ@p, ℓ by its number
--   args       the positions p.i of the arguments that are no blank
--   in_place   reduce, one obligation: the arguments take its own place
--   bare       the calculus of positions for a list of shapes
use Rattle.std.specs.Prelude.{List, [], ◌∷◌, ◌++◌, map, Bool, false, cond, ◌&&◌, ℕ, zero, suc, length}
use Rattle.std.proofs.Math.Option.{Option, none, some}
use Rattle.std.proofs.Math.ListN.{get_elem?}
use Rattle.kinds.specs.Lists.{same, any, gather, range, bind}
use Rattle.kinds.specs.Positions.{Pos, strip}
use Rattle.term.specs.Terms.{Term, blank, node, Terms, tnil, tcons}
use Rattle.term.specs.Places.{sub}
use Rattle.automaton.specs.Goals.{Goal, Calculus}
use Rattle.automaton.specs.Paper.{heads}

abbrev pub owed : List Term → Goal Pos → Pos → Option Term
owed shapes g p = bind (get_elem? shapes g.shape) (λ t. sub t (strip g.ann p))

abbrev pub heads_of : ℕ → Option Term → Bool
heads_of f none = false
heads_of f (some t) = heads f t

abbrev pub fresh : Pos → ℕ → Goal Pos
fresh p i = record { shape = i; ann = p; obs = p ∷ [] }

abbrev pub args : Pos → ℕ → ℕ → Terms → List Pos
args p i zero ts = []
args p i (suc n) tnil = []
args p i (suc n) (tcons (blank w) ts) = args p (suc i) n ts
args p i (suc n) (tcons (node f us) ts) = (p ++ (i ∷ [])) ∷ args p (suc i) n ts

abbrev pub args_of : Pos → ℕ → Option Term → List Pos
args_of p n none = []
args_of p n (some (blank w)) = []
args_of p n (some (node f ts)) = args p 1 n ts

-- in p's own place the positions given
abbrev pub in_place : Pos → List Pos → Pos → List Pos
in_place p new q = cond (same p q) new (q ∷ [])

abbrev pub bare : List Term → Calculus Pos
bare shapes = record {
  at = λ o. o;
  fresh = λ p. map (fresh p) (range 0 (length shapes));
  expects = λ f p g. any (same p) g.obs && heads_of f (owed shapes g p);
  reduce = λ p n g. gather (in_place p (args_of p n (owed shapes g p))) g.obs;
  lifted = strip;
  alike = same;
}
