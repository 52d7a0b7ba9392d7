-- What is explored from a setting, over bare positions.
--   explored_numbered        the states and blocks
--   label_small out_small succ_small   the ranges of what a plan says: positions have at most six numbers, shape and state numbers are in range
--   named links_go           the successors that a block names may go on for the items that follow
use mathlib.Core.Path.{◌≡◌, refl, ap}
use mathlib.Core.List.{List, [], ◌∷◌, ◌++◌, map}
use mathlib.Core.Option.{some}
use Prim.Native.Nat.{ℕ, ◌<◌}
use lib.ListN.{length, get_or, get_elem?}
use Rattle.kinds.specs.Positions.{Pos}
use Rattle.kinds.proofs.Members.{same_refl}
use Rattle.kinds.specs.Members.{◌∈◌, here, there, ◌⊆◌}
use Rattle.kinds.proofs.Places.{at_in, at_below, get_d_at}
use Rattle.kinds.proofs.Codes.{Small}
use Rattle.automaton.specs.Goals.{Calculus, State, label, deriv, Announcement, outputs}
use Rattle.automaton.specs.Classes.{classes, lift}
use Rattle.automaton.specs.Exploring.{construction, Succ, Block, made, explored}
use Rattle.automaton.specs.Walking.{Setting, calculus, Reachable, Alike, Item, goes_on, follows, Goes, none_go, one_goes}
use Rattle.automaton.proofs.Classes.{class_is, class_some}
use Rattle.automaton.proofs.Sound.{SoundState}
use Rattle.automaton.proofs.Apart.{label_owes}
use Rattle.automaton.proofs.Bounds.{ann_small, gcp_small}
use Rattle.automaton.proofs.Reachable.{deriv_sound, class_sound}
use Rattle.automaton.proofs.Alike.{same_alike}
use Rattle.automaton.proofs.Announced.{on_outputs}
use Rattle.automaton.proofs.Numbered.{Links, no_link, link, Says, Numbered, numbered}

module _ (S : Setting) where
  abbrev K : Calculus Pos
  K = calculus S

  pub explored_numbered : (ss : List (State Pos)) (bs : List Block) → explored (construction K) S.symbols ≡ made ss bs
      → Numbered K S.symbols ss bs
  explored_numbered ss bs e = numbered K same_refl S.symbols ss bs e

  pub label_small : (s : State Pos) → SoundState S s → Small (label K s)
  label_small s w = w.goals.small (label K s) (label_owes S s w)

  pub out_small : (s : State Pos) → SoundState S s → (f n : ℕ) (a : Announcement) → a ∈ outputs K s f n → (a.shape < length S.shapes)
      × Small a.at
  out_small s w f n a m = on_outputs S s f n m λ g j x z d.
      let o = w.goals.owing g j in
      let r = w.goals.real g j o.0 o.1 in
      rw d (at_below S.shapes g.shape r.is_shape, ann_small S s w.goals g j)

  module _ (ss : List (State Pos)) (bs : List Block) (num : Numbered K S.symbols ss bs) where
    abbrev pub named : Item → Succ → Item
    named it x = record { state = get_or ss x.to []; at = it.at ++ x.by }

    module _ (s : State Pos) (w : SoundState S s) (f n : ℕ) (arity : get_elem? S.symbols f ≡ some n) where
      links_small : (ks : List (State Pos)) (xs : List Succ) → ks ⊆ classes K (deriv K s f n) → Links K ss ks xs → (x : Succ) → x ∈ xs
          → (x.to < length ss) × Small x.by
      links_small [] [] h no_link x m = elim m [ ]
      links_small (k ∷ ks) (y ∷ xs) h (link few a b c l) x (here e) =
          let d = deriv_sound S s w f n arity in
          let g = class_some K (deriv K s f n) k (class_is K (deriv K s f n) k (h k (here refl))) in
          rw (e, c) (at_below ss y.to a, gcp_small S k (class_sound S (deriv K s f n) d k (h k (here refl))) g.0 g.1)
      links_small (k ∷ ks) (y ∷ xs) h (link few a b c l) x (there m) = links_small ks xs (λ z i. h z (there i)) l x m
      links_small [] (y ∷ xs) h x9 x m = elim x9 [ ]
      links_small (k ∷ ks) [] h x8 x m = elim x8 [ ]

      pub succ_small : (b : Block) → Says K ss s f n b → (x : Succ) → x ∈ b.succs → (x.to < length ss) × Small x.by
      succ_small b says x m = links_small (classes K (deriv K s f n)) b.succs (λ k i. i) says.succs_are x m

    go_links : (it : Item) (ks : List (State Pos)) (xs : List Succ) → Links K ss ks xs → Goes S (map (goes_on S it) ks) (map (named it) xs)
    go_links it [] [] no_link = none_go
    go_links it (k ∷ ks) (x ∷ xs) (link {s = s} few a b c l) =
        let e : get_or ss x.to [] ≡ s = get_d_at ss x.to [] a in
        let al : Alike (lift K k) (get_or ss x.to []) = rw e (same_alike S (lift K k) s b) in
        let re : Reachable S (get_or ss x.to []) = rw e (num.reach s (at_in ss x.to a)) in
        one_goes (ap (λ p. it.at ++ p) c) al re (go_links it ks xs l)
    go_links it [] (x ∷ xs) x3 = elim x3 [ ]
    go_links it (k ∷ ks) [] x3 = elim x3 [ ]

    pub links_go : (it : Item) (f n : ℕ) (b : Block) → Says K ss it.state f n b → Goes S (follows S it f n) (map (named it) b.succs)
    links_go it f n b s = go_links it (classes K (deriv K it.state f n)) b.succs s.succs_are
