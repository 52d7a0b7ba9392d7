-- Where a term that begins at a word goes wrong first, said by terms: "A term is read by descending into each child in turn, with the remaining depth falling at
-- every descent." The children that stand before the fault are whole terms.
--   Known     a word that is a blank or a symbol
--   FaultIn   with so many levels left, the term at a word has this fault at that word: at its own node, or under it, in the child behind whole ones
use Rattle.std.specs.Prelude.{◌≡◌, ◌⊎◌, List, ◌++◌, ℕ, zero, suc, ◌+◌, ◌<◌, ◌≤◌, length, get_or, drop}
use Rattle.std.proofs.Math.Option.{some}
use Rattle.std.proofs.Math.ListN.{get_elem?}
use Rattle.term.specs.Terms.{Terms, count, spans, depths, flattens, Fitss}
use Rattle.term.specs.declared.Limits.{Limits}
use Rattle.term.specs.declared.Fault.{Fault}
use Rattle.term.specs.declared.Fault.TheVariants.{Ends, NoSymbol, Many, Deep}

abbrev pub Known : List ℕ → Limits → ℕ → Type 0
Known ar l w = (l.blanks ≤ w) ⊎ (w < length ar)

pub data FaultIn (ar ws : List ℕ) (l : Limits) : ℕ → ℕ → Fault → ℕ → Type 0 where
  ends : (d at : ℕ) → length ws ≤ at → FaultIn ar ws l d at Ends at
  no_symbol : (d at : ℕ) → at < length ws → length ar ≤ get_or ws at 0 → get_or ws at 0 < l.blanks → FaultIn ar ws l d at NoSymbol at
  many : (d at : ℕ) → at < length ws → Known ar l (get_or ws at 0) → l.stop ≤ at → FaultIn ar ws l d at Many at
  deep : (at : ℕ) → at < length ws → Known ar l (get_or ws at 0) → at < l.stop → FaultIn ar ws l zero at Deep at
  under : (d at n : ℕ) (before : Terms) (next : ℕ) (f : Fault) (p : ℕ) → at < length ws → at < l.stop → get_or ws at 0 < l.blanks
      → get_elem? ar (get_or ws at 0) ≡ some n
      → count before < n → Fitss ar l.blanks before → depths before ≤ d → drop (at + 1) ws ≡ flattens before ++ drop next ws
      → next ≡ at + 1 + spans before → next ≤ l.stop
      → FaultIn ar ws l d next f p → FaultIn ar ws l (suc d) at f p
