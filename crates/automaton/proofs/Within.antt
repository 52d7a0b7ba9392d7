-- What the limits say of one shape of a setting and of one node of a score.
--   shape_at_lem shape_node  shape number i is a shape, and begins with a symbol
--   score_arity              a node of the score has as many children as its symbol
use mathlib.Core.Path.{◌≡◌, refl, sym}
use mathlib.Core.Bool.{false}
use mathlib.Core.Option.{some}
use Prim.Native.Nat.{ℕ}
use lib.ListN.{get_elem?}
use Rattle.kinds.specs.Positions.{Pos}
use Rattle.kinds.specs.Limits.{no_blank}
use Rattle.kinds.proofs.Bools.{false_true}
use Rattle.kinds.proofs.Places.{at_in}
use Rattle.term.specs.Terms.{Term, blank, node, Terms, count}
use Rattle.term.specs.Places.{sub}
use Rattle.term.specs.Admitted.{is_blank, IsShape}
use Rattle.term.proofs.Subterms.{fits_at}
use Rattle.automaton.specs.Walking.{Setting, Scored}

solid_node : (t : Term) → is_blank t ≡ false → (f : ℕ) × (us : Terms) × (t ≡ node f us)
solid_node (blank w) e = false_true (sym e)
solid_node (node f us) e = (f, us, refl)

module _ (S : Setting) (i : ℕ) (x : Term) (at : get_elem? S.shapes i ≡ some x) where
  pub shape_at_lem : IsShape S.symbols x
  shape_at_lem = S.limits.are_shapes x (at_in S.shapes i at)

  pub shape_node : (f : ℕ) × (us : Terms) × (x ≡ node f us)
  shape_node = solid_node x shape_at_lem.solid

pub score_arity : (C : Scored) (p : Pos) (f : ℕ) (ts : Terms) → sub C.score p ≡ some (node f ts) → get_elem? C.setting.symbols f ≡ some (count ts)
score_arity C p f ts e = fits_at C.setting.symbols no_blank C.score C.is_score.fits p f ts e
