-- Document 002, section 2: "Replacing the subterm of t at position p by u is denoted by t[u]_p"; "the term obtained by replacing all variables x ∈ vars(t) by
-- σ(x) is denoted by t^σ". A blank's word is its variable.
--   on_child     a term with child number i, from 1, as h makes it; the term itself where it has none
--   put          t[u]_p
--   fill fills   t^σ
--   Names        every blank's word is below a number
--   named        the blanks' words are n, n + 1, …, from left to right
use Rattle.std.specs.Prelude.{[], ◌∷◌, ℕ, zero, suc, ◌+◌, ◌<◌, length}
use Rattle.kinds.specs.Positions.{Pos}
use Rattle.term.specs.Terms.{Term, blank, node, Terms, tnil, tcons}
use Rattle.term.specs.Places.{edges}

-- with child i of the list, from 0, as h makes it
abbrev pub on_nth : Terms → ℕ → (Term → Term) → Terms
on_nth tnil i h = tnil
on_nth (tcons t ts) zero h = tcons (h t) ts
on_nth (tcons t ts) (suc i) h = tcons t (on_nth ts i h)

abbrev pub on_child : Term → ℕ → (Term → Term) → Term
on_child (blank w) i h = blank w
on_child (node f ts) zero h = node f ts
on_child (node f ts) (suc i) h = node f (on_nth ts i h)

abbrev pub put : Term → Pos → Term → Term
put t [] u = u
put t (i ∷ p) u = on_child t i (λ v. put v p u)

abbrev mutual
  pub fill : (ℕ → Term) → Term → Term
  fill σ (blank w) = σ w
  fill σ (node f ts) = node f (fills σ ts)

  pub fills : (ℕ → Term) → Terms → Terms
  fills σ tnil = tnil
  fills σ (tcons t ts) = tcons (fill σ t) (fills σ ts)

abbrev mutual
  pub Names : ℕ → Term → Type 0
  Names n (blank w) = w < n
  Names n (node f ts) = Namess n ts

  pub Namess : ℕ → Terms → Type 0
  Namess n tnil = Unit {0}
  Namess n (tcons t ts) = Names n t × Namess n ts

abbrev mutual
  pub named : ℕ → Term → Term
  named n (blank w) = blank n
  named n (node f ts) = node f (nameds n ts)

  pub nameds : ℕ → Terms → Terms
  nameds n tnil = tnil
  nameds n (tcons t ts) = tcons (named n t) (nameds (n + length (edges t)) ts)
