-- Good tables are those of the terms that they hold.
--   ShapesAre shapes_are   shape words and starts
--   ScoreIs score_is       score words and spans
use mathlib.Core.Path.{◌≡◌, ap, sym, ◌∙◌, subst}
use mathlib.Core.List.{List}
use Prim.Native.Nat.{ℕ}
use Rattle.kinds.specs.Lists.{gather}
use Rattle.term.specs.Terms.{Term, flatten, sizes}
use Rattle.term.specs.Admitted.{AreShapes, IsScore}
use Rattle.folio.specs.Folio.{starts_at, shape_terms, score_term}
use Rattle.folio.proofs.Accepted.{shape_terms_lem, score_term_lem}
use Rattle.promises.specs.Demand1.{GoodShapes, Good}

pub record ShapesAre (ar ws st : List ℕ) (ss : List Term) : Type 0 where
  pub each : AreShapes ar ss
  pub words : ws ≡ gather flatten ss
  pub begins : st ≡ starts_at 0 ss

pub shapes_are : (ar ws st : List ℕ) → GoodShapes ar ws st → ShapesAre ar ws st (shape_terms ar ws)
shapes_are ar ws st s =
    subst (ShapesAre ar ws st) (sym (ap (shape_terms ar) s.1.words ∙ shape_terms_lem ar s.1.trees s.1.each s.1.few_shapes))
    (record { each = s.1.each; words = s.1.words; begins = s.1.begins })

pub record ScoreIs (ar score sp : List ℕ) (t : Term) : Type 0 where
  pub is : IsScore ar t
  pub words : score ≡ flatten t
  pub spans : sp ≡ sizes t

pub score_is : (ar score spans : List ℕ) → Good ar score spans → ScoreIs ar score spans (score_term ar score)
score_is ar score spans g =
    subst (ScoreIs ar score spans) (sym (ap (score_term ar) g.1.words ∙ score_term_lem ar g.1.tree g.1.is))
    (record { is = g.1.is; words = g.1.words; spans = g.1.spans })
