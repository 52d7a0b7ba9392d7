-- Positions in a term: document 000, section 2.
--   child     child number i, from 1
--   sub       t[p]
--   hd        the head symbol
--   head_at   hd (t[p])
--   Matches   "ℓ matches term t on position p iff for all p' ∈ D(ℓ) such that ℓ[p'] ≠ ω we have that hd(t[p.p']) = hd(ℓ[p'])"
--   dom       D(t), in document order
--   edges     the positions of the blanks, in document order: document 002's E(t)
--   number    the number of the node at a position: its index in preorder
--   place     the position of a node's number
use Rattle.std.specs.Prelude.{◌≡◌, List, [], ◌∷◌, ◌++◌, map, cond, ℕ, zero, suc, ◌+◌, ◌-◌, ltb}
use Rattle.std.proofs.Math.Option
use Rattle.std.proofs.Math.Option.{Option, none, some}
use Rattle.kinds.specs.Lists.{bind}
use Rattle.kinds.specs.Positions.{Pos}
use Rattle.term.specs.Terms.{Term, blank, node, Terms, tnil, tcons, span}

-- child i of the list, from 0
abbrev pub nth : Terms → ℕ → Option Term
nth tnil i = none
nth (tcons t ts) zero = some t
nth (tcons t ts) (suc i) = nth ts i

abbrev pub child : Term → ℕ → Option Term
child (blank w) i = none
child (node f ts) zero = none
child (node f ts) (suc i) = nth ts i

abbrev pub sub : Term → Pos → Option Term
sub t [] = some t
sub t (i ∷ p) = bind (child t i) (λ u. sub u p)

abbrev pub hd : Term → Option ℕ
hd (blank w) = none
hd (node f ts) = some f

abbrev pub head_at : Term → Pos → Option ℕ
head_at t p = bind (sub t p) hd

abbrev pub Matches : Term → Term → Pos → Type 0
Matches ℓ t p = (q : Pos) (f : ℕ) → head_at ℓ q ≡ some f → head_at t (p ++ q) ≡ some f

abbrev mutual
  pub dom : Term → List Pos
  dom (blank w) = [] ∷ []
  dom (node f ts) = [] ∷ doms ts 1

  -- of children numbered from i on
  pub doms : Terms → ℕ → List Pos
  doms tnil i = []
  doms (tcons t ts) i = map (λ p. i ∷ p) (dom t) ++ doms ts (suc i)

abbrev mutual
  pub edges : Term → List Pos
  edges (blank w) = [] ∷ []
  edges (node f ts) = edgess ts 1

  -- of children numbered from i on
  pub edgess : Terms → ℕ → List Pos
  edgess tnil i = []
  edgess (tcons t ts) i = map (λ p. i ∷ p) (edges t) ++ edgess ts (suc i)

-- nodes before child i of the list, from 0
abbrev pub skip : Terms → ℕ → ℕ
skip tnil i = 0
skip (tcons t ts) zero = 0
skip (tcons t ts) (suc i) = span t + skip ts i

abbrev pub kids : Term → Terms
kids (blank w) = tnil
kids (node f ts) = ts

-- nodes before child i, from 1, the term's own counted
abbrev pub ahead : Term → ℕ → ℕ
ahead t zero = 0
ahead t (suc i) = suc (skip (kids t) i)

abbrev pub number : Term → Pos → Option ℕ
number t [] = some 0
number t (i ∷ p) = bind (child t i) (λ u. Option.map (λ k. ahead t i + k) (number u p))

abbrev mutual
  pub place : Term → ℕ → Option Pos
  place (blank w) zero = some []
  place (blank w) (suc k) = none
  place (node f ts) zero = some []
  place (node f ts) (suc k) = places ts 1 k

  -- node k of children numbered from i on
  pub places : Terms → ℕ → ℕ → Option Pos
  places tnil i k = none
  places (tcons t ts) i k =
      let further = places ts (suc i) (k - span t) in
      cond (ltb k (span t)) (Option.map (λ p. i ∷ p) (place t k)) further
