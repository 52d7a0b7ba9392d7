-- What is written in scratch behind the states leaves blocks and rows as they are.
--   spared_successor spared_label    a state's number; its label
--   block_writable spared_put        a block of a row
--   spared_writable spared_written   a row
use mathlib.Core.Path.{◌≡◌, ap, ap₂, sym, subst, ◌∙◌}
use mathlib.Core.List.{List, [], ◌∷◌, map}
use Prim.Native.Nat.{ℕ, ◌+◌, ◌<◌, ◌≤◌}
use lib.ListN.{length, get_or}
use lib.Seq.{sets}
use Rattle.automaton.specs.PlanWords.{block_words}
use Rattle.automaton.specs.FinalBlocks.{block_of, blocks_of, SmallOn}
use Rattle.goals.specs.GoalWords.{GoalWords, goals_from, label_code}
use Rattle.decoding.specs.WordMachine.{words, place_in, state_in, states_in, Kept}
use Rattle.derivatives.specs.Passes.{Puts}
use Rattle.states.specs.Meeting.{place_of, Spared}
use Rattle.writing.specs.RowWords.{block_in, row_words, BlockWritable, RowWritable, RowWritten}
use Rattle.states.proofs.StateLaws.{spared_state, spared_states, spared_kept}
use Rattle.states.proofs.PartLaws.{on_symbol, label_there, spared_held}

module _ {m : ℕ} {sc new : List ℕ} (s : Spared m sc new) where
  -- where a successor's number is looked up
  pub spared_successor : Kept sc m → (l l' : List ℕ) (at d : ℕ) (k : List GoalWords)
      → l' ≡ sets l at (place_of (states_in new m) k ∷ d ∷ []) → l' ≡ sets l at (place_of (states_in sc m) k ∷ d ∷ [])
  spared_successor kept l l' at d k e = e ∙ ap (λ ss. sets l at (place_of ss k ∷ d ∷ [])) (spared_states s kept)

  pub spared_label : Kept sc m → (tab : List ℕ) {i : ℕ} → i < m → {at c : ℕ} → at ≡ place_in i → c ≡ label_code tab (goals_from new at (get_or new i 0))
      → c ≡ label_code tab (state_in sc i)
  spared_label kept tab {i} h e d = label_there tab new i e d ∙ ap (label_code tab) (spared_state s kept i h)

  module _ {ar tab : List ℕ} {n i c at : ℕ} {plan : List ℕ} (w : RowWritable ar tab n sc m i c at plan) where
    abbrev kept : Kept sc m
    kept = w.held.kept

    still : state_in new i ≡ state_in sc i
    still = spared_state s kept i w.inside

    spared_small : SmallOn (words tab n) (state_in new i) 0 ar
    spared_small = rw still w.small

    spared_block : (f : ℕ) → block_in ar tab n new m i f ≡ block_in ar tab n sc m i f
    spared_block f = ap₂ (λ ss t. block_words (block_of (words tab n) ss t f (get_or ar f 0))) (spared_states s kept) still

    -- a block of the row can be written
    pub block_writable : (f here : ℕ) (l : List ℕ) → f < length ar → here + length (block_in ar tab n sc m i f) ≤ length l
        → BlockWritable ar tab n new m i c f here l
    block_writable f here l h room = record {
      kept = spared_kept s kept;
      on = on_symbol (spared_held s w.held) w.inside c f (w.label ∙ ap (label_code tab) (sym still)) h;
      small = spared_small;
      room = subst (λ W. here + length W ≤ length l) (sym (spared_block f)) room;
    }

    pub spared_put : (f here next : ℕ) (l l' : List ℕ) → Puts (block_in ar tab n new m i f) here next l l'
        → Puts (block_in ar tab n sc m i f) here next l l'
    spared_put f here next l l' w = subst (λ W. Puts W here next l l') (spared_block f) w

    spared_row : row_words tab n new m i 0 ar ≡ row_words tab n sc m i 0 ar
    unfolding row_words
    spared_row = ap₂ (λ ss t. map block_words (blocks_of (words tab n) ss t 0 ar)) (spared_states s kept) still

    pub spared_writable : RowWritable ar tab n new m i c at plan
    spared_writable = record {
      held = spared_held s w.held;
      inside = w.inside;
      small = spared_small;
      label = w.label ∙ ap (label_code tab) (sym still);
      starts = w.starts;
      room = rw spared_row w.room;
      word = rw spared_row w.word;
    }

    pub spared_written : (r : ℕ) (l l' : List ℕ) → RowWritten ar tab n new m i at r l l' → RowWritten ar tab n sc m i at r l l'
    spared_written r l l' v = rw spared_row at v
