-- Document 02, wish 8, on words. "Refusals, in this order: 19, 31, 40 the shape or node does not exist or the shape does not match there, 41 finished, 42 a named
-- blank does not exist or the replacement is not exactly one tree, 43 the result breaks the score limits, 44 the buffer is too short."
--   is_known     a word of a replacement: a symbol, or the name of one of n blanks
--   trees_in     the words are k trees, one after the other, and no more: each word is one of those still wanted, and wants its children
--   bears finished_at  a node bears the symbol, and x is it or under it; one of those up to x does
--   under        the words of the subtree at a node, by its span
--   piece_of      the words that a word of the replacement stands for: those of the subtree at the node of the blank it names, or itself
--   result_of     the new score: the words before the node, the replacement with each named blank's subtree, the words behind the node's subtree
--   PutOutcome   an answer, and the buffer as it is then; a refusal writes nothing
--   handed       43 and 44, or the result in the buffer
--   put_in put_of  42, and all from 19 on
use Rattle.std.specs.Prelude.{ℕ, zero, suc, ◌+◌, ◌-◌, List, [], ◌∷◌, ◌++◌, Bool, false, cond, not, ◌&&◌, ◌||◌, eqb, ltb, leb, length, get_or, take, drop, Err, Ok, Result, is_ok}
use Rattle.kinds.specs.Limits.{blank_word, first_name}
use Rattle.kinds.specs.Lists.{unless, any, gather, range, onto}
use Rattle.kinds.specs.declared.Reason.{Reason}
use Rattle.kinds.specs.declared.Reason.TheVariants.{BadShapes, BadScore, NotThere, IsFinished, NoTree, PastLimits, ShortScore}
use Rattle.contents.specs.Tables.{score_of}
use Rattle.checks.specs.Again.{shapes_good, score_good}
use Rattle.counting.specs.Counting.{match_at}
use Rattle.matching.specs.Shapes.{part, shape_at}
use Rattle.matching.specs.Falling.{covered}
use Rattle.clashing.specs.Strays.{matched}

-- ---- 42
unfoldable pub is_known : List ℕ → ℕ → ℕ → Bool
is_known ar n w = ltb w (length ar) || (leb first_name w && ltb w (first_name + n))

unfoldable pub trees_in : List ℕ → ℕ → ℕ → List ℕ → Bool
trees_in ar n k [] = eqb k 0
trees_in ar n zero (w ∷ ws) = false
trees_in ar n (suc k) (w ∷ ws) = is_known ar n w && trees_in ar n (k + get_or ar w 0) ws

module _ (score spans : List ℕ) where
  -- ---- 41
  unfoldable pub bears : ℕ → ℕ → ℕ → Bool
  bears x f y = eqb (get_or score y 0) f && ltb x (y + get_or spans y 0)

  unfoldable pub finished_at : ℕ → ℕ → Bool
  finished_at x f = any (bears x f) (range 0 (suc x))

  -- ---- the result
  unfoldable pub under : ℕ → List ℕ
  under y = part score y (y + get_or spans y 0)

  unfoldable pub piece_of : List ℕ → ℕ → List ℕ
  piece_of nodes w = cond (ltb w first_name) (w ∷ []) (under (get_or nodes (w - first_name) 0))

  unfoldable pub result_of : ℕ → List ℕ → List ℕ → List ℕ
  result_of x nodes link = take x score ++ (gather (piece_of nodes) link ++ drop (x + get_or spans x 0) score)

-- ---- what is answered, and written
pub record PutOutcome : Type 0 where
  pub answer : Result ℕ Reason
  pub score : List ℕ

abbrev pub put_out : Result ℕ Reason → List ℕ → PutOutcome
put_out a new = record { answer = a; score = new }

abbrev pub refused : Reason → List ℕ → PutOutcome
refused r new = put_out (Err r) new

unfoldable pub handed : List ℕ → List ℕ → List ℕ → PutOutcome
handed ar result new =
    unless (is_ok (score_of ar result)) (refused PastLimits new)
    (unless (leb (length result) (length new)) (refused ShortScore new)
    (put_out (Ok (length result)) (onto result new)))

unfoldable pub put_in : List ℕ → List ℕ → List ℕ → List ℕ → ℕ → List ℕ → List ℕ → PutOutcome
put_in ar shape score spans x link new =
    let nodes = covered blank_word spans shape x in
    unless (trees_in ar (length nodes) 1 link) (refused NoTree new) (handed ar (result_of score spans x nodes link) new)

unfoldable pub put_of : List ℕ → List ℕ → List ℕ → List ℕ → List ℕ → ℕ → ℕ → List ℕ → ℕ → List ℕ → PutOutcome
put_of ar ws st score spans j x link f new =
    unless (shapes_good ar ws st) (refused BadShapes new)
    (unless (score_good ar score spans) (refused BadScore new)
    (unless (ltb x (length score) && matched ws st score spans (match_at x j)) (refused NotThere new)
    (unless (not (finished_at score spans x f)) (refused IsFinished new)
    (put_in ar (shape_at ws st j) score spans x link new))))
