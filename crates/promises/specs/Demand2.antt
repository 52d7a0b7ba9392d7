-- Demand 2: "the plan is the one that the paper's construction gives, and after a finished walk a shape is reported at a place exactly if it matches there".
--   is_folio           what opening read is a folio: the limits of document 01 hold of its symbols, shapes and score
--   shape_words_lem …  the tables that opening wrote are the preorder words, the shapes' starts and the nodes' spans
--   score_depth …      the depths that opening answered are the score's and the greatest of the shapes'
--   plan               the words that building wrote are the plan of the paper's construction with document 01's choices
--   construction       what computes that plan is what the paper says
--   exactly            a bit is set exactly if the shape matches at the node, by the paper's definition
--   no_other           no other bit is set
--   path               the path on a match's line is its node's position, for every node of the score
--   order              nodes are numbered in the document order of their positions
--   text               whatever tells which shape matches where, the whole text that find prints is `report_in` of it: the first line, then a line for each
--                      match, over the score's positions in document order and the shapes ascending
--   tested             such a test is there
use Rattle.std.specs.Prelude.{◌≡◌, Bool, true, List, map, ◌↔◌, ℕ, ◌<◌, length, get_or, Some}
use Rattle.std.proofs.Math.Option.{some}
use Rattle.std.proofs.Math.ListN.{get_elem?}
use Rattle.kinds.specs.Bits.{bit}
use Rattle.kinds.specs.Lists.{gather, greatest}
use Rattle.kinds.specs.Positions.{Pos}
use Rattle.term.specs.Terms.{Term, span, depth, flatten, sizes}
use Rattle.term.specs.Places.{Matches, dom, number}
use Rattle.folio.specs.Folio.{Folio}
use Rattle.automaton.specs.PlanWords.{plan_of_lem}
use Rattle.plan.specs.Building.{plan_of}
use Rattle.counting.specs.Counting.{match_at}
use Rattle.report.specs.Text.{line, match_line}
use Rattle.promises.specs.OneFile.{OpenFile, OneFile, symbols_in, words_in, nodes_in, spans_in, shapes_in, score_in, plan_in, after, reported}
use Rattle.promises.specs.Construction.{PaperSays}
use Rattle.promises.specs.Reported.{report_in}

-- a test of shapes and positions that says the paper's match
abbrev pub Says : (Term → Pos → Bool) → Term → Type 0
Says test t = (ℓ : Term) (p : Pos) → (test ℓ p ≡ true) ↔ Matches ℓ t p

pub record Demand2 {file : List ℕ} {O : OpenFile file} (S : OneFile O) : Type 0 where
  pub is_folio : Folio (symbols_in O) (shapes_in O) (score_in O)
  pub shape_words_lem : words_in O ≡ gather flatten (shapes_in O)
  pub score_words : nodes_in O ≡ flatten (score_in O)
  pub score_spans : spans_in O ≡ sizes (score_in O)
  pub score_depth : O.counts.depth ≡ depth (score_in O)
  pub shapes_depth : O.counts.deepest ≡ greatest (map depth (shapes_in O))
  pub plan : plan_of (symbols_in O) (shapes_in O) (length S.plan) ≡ plan_of_lem S.size.states (plan_in S)
  pub construction : PaperSays (symbols_in O) (shapes_in O)
  pub exactly : (choices : List ℕ) → (after S choices).count.waiting ≡ 0 → (j : ℕ) (ℓ : Term) → get_elem? (shapes_in O) j ≡ some ℓ → (n : ℕ) (p : Pos)
      → number (score_in O) p ≡ some n
      → (bit (get_or (after S choices).marks n 0) j ≡ 1) ↔ Matches ℓ (score_in O) p
  pub no_other : (choices : List ℕ) (j n : ℕ) → n < span (score_in O) → bit (get_or (after S choices).marks n 0) j ≡ 1 → (ℓ : Term)
      × (get_elem? (shapes_in O) j ≡ some ℓ)
  pub path : (n j : ℕ) → n < span (score_in O)
      → (p : Pos) × (number (score_in O) p ≡ some n) × (line (spans_in O) (match_at n j) ≡ some (match_line (match_at n j) p))
  pub order : (p : Pos) (n : ℕ) → number (score_in O) p ≡ some n → get_elem? (dom (score_in O)) n ≡ some p
  pub text : (test : Term → Pos → Bool) → Says test (score_in O) → (choices : List ℕ) → (after S choices).count.waiting ≡ 0
      → reported S choices ≡ report_in test (shapes_in O) (score_in O) (Some S.size.states)
  pub tested : (test : Term → Pos → Bool) × Says test (score_in O)
