-- "A score is a tree of symbols. A shape (the paper's pattern) is such a tree with blanks."
--   Term Terms   a term, and the list of its children; a blank keeps its word
--   count        how many children
--   span         how many nodes, blanks counted
--   depth        "the root is at depth 0"
--   flatten      the words in preorder
--   sizes        each node's span, in preorder
--   Fits         each symbol has the number of children that the list says; words from bl on are blanks
--   Whole        no blank in it
--   parse        the term that words begin with, and the words after it; at most d levels are read
--   parse_all    terms back to back, at most k of them
use Rattle.std.specs.Prelude.{◌≡◌, List, [], ◌∷◌, ◌++◌, cond, ℕ, zero, suc, ◌+◌, max, ◌<◌, ◌≤◌, leb}
use Rattle.std.proofs.Math.Option.{Option, none, some}
use Rattle.std.proofs.Math.ListN.{get_elem?}
use Rattle.kinds.specs.Lists.{bind}

mutual
  pub data Term : Type 0 where
    blank : ℕ → Term
    node : ℕ → Terms → Term

  pub data Terms : Type 0 where
    tnil : Terms
    tcons : Term → Terms → Terms

abbrev pub count : Terms → ℕ
count tnil = 0
count (tcons t ts) = suc (count ts)

abbrev mutual
  pub span : Term → ℕ
  span (blank w) = 1
  span (node f ts) = suc (spans ts)

  pub spans : Terms → ℕ
  spans tnil = 0
  spans (tcons t ts) = span t + spans ts

abbrev mutual
  pub depth : Term → ℕ
  depth (blank w) = 0
  depth (node f ts) = depths ts

  -- one more than the deepest child's depth
  pub depths : Terms → ℕ
  depths tnil = 0
  depths (tcons t ts) = max (suc (depth t)) (depths ts)

abbrev mutual
  pub flatten : Term → List ℕ
  flatten (blank w) = w ∷ []
  flatten (node f ts) = f ∷ flattens ts

  pub flattens : Terms → List ℕ
  flattens tnil = []
  flattens (tcons t ts) = flatten t ++ flattens ts

abbrev mutual
  pub sizes : Term → List ℕ
  sizes (blank w) = 1 ∷ []
  sizes (node f ts) = suc (spans ts) ∷ sizess ts

  pub sizess : Terms → List ℕ
  sizess tnil = []
  sizess (tcons t ts) = sizes t ++ sizess ts

abbrev mutual
  pub Fits : List ℕ → ℕ → Term → Type 0
  Fits ar bl (blank w) = bl ≤ w
  Fits ar bl (node f ts) = (f < bl) × (get_elem? ar f ≡ some (count ts)) × Fitss ar bl ts

  pub Fitss : List ℕ → ℕ → Terms → Type 0
  Fitss ar bl tnil = Unit {0}
  Fitss ar bl (tcons t ts) = Fits ar bl t × Fitss ar bl ts

abbrev mutual
  pub Whole : Term → Type 0
  Whole (blank w) = ⊥
  Whole (node f ts) = Wholes ts

  pub Wholes : Terms → Type 0
  Wholes tnil = Unit {0}
  Wholes (tcons t ts) = Whole t × Wholes ts

-- what is read, and the words after it
abbrev pub Read : Type 0 → Type 0
Read A = Option (A × List ℕ)

-- n terms, one after the other, by a reader of one
abbrev pub many : (List ℕ → Read Term) → ℕ → List ℕ → Read Terms
many r zero ws = some (tnil, ws)
many r (suc n) ws = bind (r ws) (λ a. bind (many r n a.1) (λ b. some (tcons a.0 b.0, b.1)))

abbrev pub parse : List ℕ → ℕ → ℕ → List ℕ → Read Term
parse ar bl zero ws = none
parse ar bl (suc d) [] = none
parse ar bl (suc d) (w ∷ ws) =
    let inner : Read Term = bind (get_elem? ar w) (λ n. bind (many (λ v. parse ar bl d v) n ws) (λ b. some (node w b.0, b.1))) in
    cond (leb bl w) (some (blank w, ws)) inner

abbrev pub and_more : Read Term → (List ℕ → List Term) → List Term
and_more none more = []
and_more (some a) more = a.0 ∷ more a.1

abbrev pub parse_all : List ℕ → ℕ → ℕ → ℕ → List ℕ → List Term
parse_all ar bl d zero ws = []
parse_all ar bl d (suc k) ws = and_more (parse ar bl d ws) (λ v. parse_all ar bl d k v)
