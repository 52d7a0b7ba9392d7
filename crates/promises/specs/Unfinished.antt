-- Document 02, wish 7: "When a rehearsal starts we stop the finder and use what we have. Please prove what an unfinished list means." In demand 3's setting,
-- for any choices, refused ones among them, and whether items still wait or not:
--   so_far         a match is marked exactly if it is there and each of its symbols is read; if it is there and not marked, one of them is unread
--   kept           what is marked stays marked, whatever is chosen next
--   one_step       one step more is one choice more: both hold "after every accepted step"
--   lists_so_far lists_kept one_list   the same by lists of choices (wish 4), any lists one after the other
--   by_tables      on which nodes a match's symbols fall, by the tables that opening wrote: those that its shape's words touch, laid over the score's
use Rattle.std.specs.Prelude.{◌≡◌, List, [], ◌∷◌, ◌++◌, ◌↔◌, ℕ}
use Rattle.kinds.specs.Members.{◌∈◌}
use Rattle.counting.specs.Counting.{Match}
use Rattle.clashing.specs.Clashes.{nodes_in, nodes_of}
use Rattle.clashing.specs.Strays.{IsMatch}
use Rattle.promises.specs.OneFile.{OpenFile, OneFile, words_in, starts_in, spans_in, shapes_in, score_in, after, step_after, after_lists, list_after}
use Rattle.promises.specs.SoFar.{SoFar, Keeps}

pub record Unfinished {file : List ℕ} {O : OpenFile file} (S : OneFile O) : Type 0 where
  pub so_far : (choices : List ℕ) → SoFar (shapes_in O) (score_in O) (after S choices)
  pub kept : (choices more : List ℕ) → Keeps (after S choices) (after S (choices ++ more))
  pub one_step : (choices : List ℕ) (i : ℕ) → (step_after S choices i).walk ≡ after S (choices ++ (i ∷ []))
  pub lists_so_far : (ls : List (List ℕ)) → SoFar (shapes_in O) (score_in O) (after_lists S ls)
  pub lists_kept : (ls more : List (List ℕ)) → Keeps (after_lists S ls) (after_lists S (ls ++ more))
  pub one_list : (ls : List (List ℕ)) (choices : List ℕ) → (list_after S ls choices).walk ≡ after_lists S (ls ++ (choices ∷ []))
  pub by_tables : (m : Match) → IsMatch (shapes_in O) (score_in O) m → (x : ℕ)
      → (x ∈ nodes_of (words_in O) (starts_in O) (spans_in O) m) ↔ (x ∈ nodes_in (shapes_in O) (score_in O) m)
