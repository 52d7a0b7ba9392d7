-- "Layout: number of states m, symbols k, shapes, length in words; m label codes; m times k block starts, counted from the plan's word 0, by state
-- then symbol; the blocks in that order. A block: count of announcements, then (shape, position code) pairs, by position in document order and then
-- shape; count of successors, then (state, displacement code) pairs in class order."
--   block_words  the words of a block
--   starts_from  where blocks back to back begin
--   plan_words   the whole plan
--   Plan         its words and the number of its states, or why there is none
--   planned      20 or 21; then 22, "plan longer than its buffer or than 65,535 words"
use Rattle.std.specs.Prelude.{List, [], ◌∷◌, ◌++◌, map, cond, ◌||◌, ℕ, ◌+◌, ◌*◌, ltb, length}
use Rattle.kinds.specs.Lists.{gather, concat}
use Rattle.kinds.specs.Positions.{code}
use Rattle.kinds.specs.declared.Reason.{Reason}
use Rattle.automaton.specs.Exploring.{Construction, Block, Made, refused, made, explored}

abbrev pub block_words : Block → List ℕ
block_words b =
    length b.out ∷ gather (λ a. a.shape ∷ code a.at ∷ []) b.out
    ++ (length b.succs ∷ gather (λ x. x.to ∷ code x.by ∷ []) b.succs)

abbrev pub starts_from : ℕ → List (List ℕ) → List ℕ
starts_from at [] = []
starts_from at (b ∷ bs) = at ∷ starts_from (at + length b) bs

-- 20 or 21 at the state derived; 22; or the number of states and the words
pub data Plan : Type 0 where
  halted : Reason → ℕ → Plan
  too_long : Plan
  plan_of_lem : ℕ → List ℕ → Plan

module _ {S : Type 0} (C : Construction S) where
  -- of k symbols and n shapes
  abbrev pub plan_words : ℕ → ℕ → List S → List Block → List ℕ
  plan_words k n ss bs =
      let m = length ss in
      let bw : List (List ℕ) = map block_words bs in
      let at = 4 + m + m * k in
      let all = concat bw in
      m ∷ k ∷ n ∷ (at + length all) ∷ map (λ s. code (C.label s)) ss ++ (starts_from at bw ++ all)

  abbrev pub to_plan : ℕ → ℕ → ℕ → Made S → Plan
  to_plan room k n (refused r p) = halted r p
  to_plan room k n (made ss bs) =
      let w = plan_words k n ss bs in
      cond (ltb room (length w) || ltb 65535 (length w)) too_long (plan_of_lem (length ss) w)

  -- for symbols with these numbers of children, n shapes, and a buffer of room words
  abbrev pub planned : List ℕ → ℕ → ℕ → Plan
  planned ar n room = to_plan room (length ar) n (explored C ar)
