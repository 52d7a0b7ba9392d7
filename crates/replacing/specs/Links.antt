-- Document 02, wish 8, on terms: "A link carries a shape and a replacement tree in preorder words, whose leaves may name the shape's blanks, counted left to
-- right from 0; the word 65,504 plus j names blank j"; "the subtree at that node becomes the replacement with each named blank's subtree copied in".
--   IsLink     the words are those of exactly one tree of the symbols and of names of the shape's blanks
--   binding    σ of the match: what the blank that a word names covers; the word itself where it names none
--   replaced   document 002, section 2: t[r^σ]_p
--   Finished   "a match at or under a node bearing it"
use Rattle.std.specs.Prelude.{◌≡◌, List, ◌++◌, ℕ, ◌+◌, ◌-◌, length}
use Rattle.std.proofs.Math.Option.{some}
use Rattle.std.proofs.Math.ListN.{get_elem?}
use Rattle.kinds.specs.Limits.{first_name}
use Rattle.kinds.specs.Lists.{bind, otherwise}
use Rattle.kinds.specs.Positions.{Pos}
use Rattle.term.specs.Terms.{Term, blank, flatten, Fits}
use Rattle.term.specs.Places.{sub, head_at, edges}
use Rattle.term.specs.Replacing.{put, fill, Names}

pub record IsLink (ar : List ℕ) (ℓ : Term) (link : List ℕ) (r : Term) : Type 0 where
  pub fits : Fits ar first_name r
  pub names : Names (first_name + length (edges ℓ)) r
  pub words : link ≡ flatten r

abbrev pub binding : Term → Term → Pos → ℕ → Term
binding ℓ t p w = otherwise (bind (get_elem? (edges ℓ) (w - first_name)) (λ q. sub t (p ++ q))) (blank w)

abbrev pub replaced : Term → Term → Pos → Term → Term
replaced ℓ t p r = put t p (fill (binding ℓ t p) r)

pub record Finished (t : Term) (p : Pos) (f : ℕ) : Type 0 where
  pub above : Pos
  pub under : Pos
  pub is : p ≡ above ++ under
  pub bears : head_at t above ≡ some f
