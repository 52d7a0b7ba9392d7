-- A goal's obligations are the nodes of its shape, in preorder, that are still open: so a mask over these nodes is the goal.
--   is_open open_nodes
use mathlib.Core.Path.{◌≡◌, ◌∙◌}
use mathlib.Core.Bool.{Bool, true}
use mathlib.Core.List.{◌++◌, map}
use mathlib.Core.Option.{some}
use lib.ListN.{get_elem?}
use Rattle.kinds.specs.Lists.{filter}
use Rattle.kinds.specs.Positions.{Pos, strip}
use Rattle.kinds.proofs.Members.{in_filter, filter_in, on_map, map_in}
use Rattle.kinds.specs.Members.{◌∈◌}
use Rattle.kinds.proofs.Pairwise.{pairwise_filter, pairwise_map}
use Rattle.kinds.proofs.Prefixes.{◌≼◌, strip_join}
use Rattle.kinds.proofs.Ordered.{Before, before_append, ordered_unique}
use Rattle.term.specs.Terms.{Term, node}
use Rattle.term.specs.Places.{sub, dom}
use Rattle.automaton.specs.Goals.{Calculus, Goal, State, has}
use Rattle.automaton.specs.Walking.{Setting, calculus}
use Rattle.term.proofs.Subterms.{dom_in, dom_ordered}
use Rattle.automaton.proofs.Derivative.{has_owes, owes_has}
use Rattle.automaton.proofs.Sound.{Real, Sound}

module _ (S : Setting) (g : Goal Pos) (x : Term) where
  abbrev K : Calculus Pos
  K = calculus S

  -- is the node at r of the shape still owed
  abbrev pub is_open : Pos → Bool
  is_open r = has K (g.ann ++ r) g.obs

  pub open_nodes : (s : State Pos) → Sound S s → g ∈ s → get_elem? S.shapes g.shape ≡ some x
      → g.obs ≡ map (λ r. g.ann ++ r) (filter is_open (dom x))
  open_nodes s w m gx =
      ordered_unique g.obs (map (λ r. g.ann ++ r) (filter is_open (dom x))) (w.ordered g m)
      (pairwise_map Before Before (λ r. g.ann ++ r) (filter is_open (dom x)) (λ a b i j l. before_append g.ann a b ∙ l)
      (pairwise_filter Before is_open (dom x) (dom_ordered x)))
      (λ o i. into o i (w.low g m o i) (w.real g m o i))
      (λ o i. on_map (λ r. g.ann ++ r) (filter is_open (dom x)) i λ r j e. rw e (owes_has S (g.ann ++ r) g.obs (in_filter is_open (dom x) j).1))
    where
      into : (o : Pos) → o ∈ g.obs → o ≼ g.ann → Real S g o → o ∈ map (λ r. g.ann ++ r) (filter is_open (dom x))
      into o i low r =
          let same_shape : r.shape ≡ x = cc (r.is_shape, gx) in
          let e : g.ann ++ strip g.ann o ≡ o = strip_join g.ann o low in
          let sx : sub x (strip g.ann o) ≡ some (node r.head r.kids) = rw (← same_shape) r.is in
          let h : has K (g.ann ++ strip g.ann o) g.obs ≡ true = rw e (has_owes S o g.obs i) in
          let z : (g.ann ++ strip g.ann o) ∈ map (λ r. g.ann ++ r) (filter is_open (dom x)) =
          map_in (λ r. g.ann ++ r) (filter_in is_open (dom_in (strip g.ann o) x sx) h) in
          rw e at z
