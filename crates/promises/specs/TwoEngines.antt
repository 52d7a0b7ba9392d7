-- Document 02, wish 6: "For every opened folio it must leave the same marks as any finished walk whose build was accepted, and it also serves folios refused
-- 20, 21 or 22. State once, over all shapes and nodes, that the two agree." Of every file that opens, whether its build is accepted or not, and of any
-- marks lent for its nodes:
--   compared_in   the simple finder's call, lent what opening wrote
--   simple_text   the text that the program simple prints: it has no number of states, and the matches are the number answered
--   agrees        "the same marks as any finished walk": over the same file, by any choices and with any buffers
--   same_number   and the number answered is the one that the walk's record has
--   answers       it is the ones in the marks
--   exactly       a bit is set exactly if the shape matches at the node, by the paper's definition
--   no_other      no other bit is set
--   behind        the marks behind those of the nodes are as they were
--   text          the whole text is `report_in` of whatever tells which shape matches where
use Rattle.std.specs.Prelude.{◌≡◌, Bool, List, ◌↔◌, ℕ, ◌<◌, length, get_or, take, drop, None, Ok}
use Rattle.std.proofs.Math.Option.{some}
use Rattle.std.proofs.Math.ListN.{get_elem?}
use Rattle.kinds.specs.Bits.{bit}
use Rattle.kinds.specs.Positions.{Pos}
use Rattle.term.specs.Terms.{Term, span}
use Rattle.term.specs.Places.{Matches, number}
use Rattle.counting.specs.Counting.{total}
use Rattle.comparing.specs.Comparing.{CompareOutcome, compared}
use Rattle.report.specs.Text.{report}
use Rattle.promises.specs.OneFile.{OpenFile, OneFile, symbols_in, words_in, starts_in, nodes_in, spans_in, shapes_in, score_in, after}
use Rattle.promises.specs.Reported.{report_in, totals_of}
use Rattle.promises.specs.Demand2.{Says}

module _ {file : List ℕ} (O : OpenFile file) (marks : List ℕ) where
  abbrev pub compared_in : CompareOutcome
  compared_in = compared (symbols_in O) (words_in O) (starts_in O) (nodes_in O) (spans_in O) marks

  abbrev pub simple_text : ℕ → List ℕ
  simple_text k =
      let ms = compared_in.marks in
      report (totals_of (words_in O) (starts_in O) (spans_in O) O.counts.depth None k (take (length (spans_in O)) ms)) (spans_in O) ms

pub record TwoEngines {file : List ℕ} (O : OpenFile file) (marks : List ℕ) : Type 0 where
  pub agrees : {P : OpenFile file} (S : OneFile P) (choices : List ℕ) → (after S choices).count.waiting ≡ 0
      → take (span (score_in O)) (after S choices).marks ≡ take (span (score_in O)) (compared_in O marks).marks
  pub same_number : {P : OpenFile file} (S : OneFile P) (choices : List ℕ) → (after S choices).count.waiting ≡ 0
      → (compared_in O marks).answer ≡ Ok (after S choices).count.matches
  pub answers : (compared_in O marks).answer ≡ Ok (total (take (span (score_in O)) (compared_in O marks).marks))
  pub exactly : (j : ℕ) (ℓ : Term) → get_elem? (shapes_in O) j ≡ some ℓ → (n : ℕ) (p : Pos) → number (score_in O) p ≡ some n
      → (bit (get_or (compared_in O marks).marks n 0) j ≡ 1) ↔ Matches ℓ (score_in O) p
  pub no_other : (j n : ℕ) → n < span (score_in O) → bit (get_or (compared_in O marks).marks n 0) j ≡ 1 → (ℓ : Term) × (get_elem? (shapes_in O) j ≡ some ℓ)
  pub behind : drop (span (score_in O)) (compared_in O marks).marks ≡ drop (span (score_in O)) marks
  pub text : (test : Term → Pos → Bool) → Says test (score_in O) → (k : ℕ) → (compared_in O marks).answer ≡ Ok k
      → simple_text O marks k ≡ report_in test (shapes_in O) (score_in O) None
