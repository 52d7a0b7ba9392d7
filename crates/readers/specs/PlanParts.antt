-- A plan's words, read as they stand: header, labels, block starts, blocks. Whatever is not there or out of its range is none, which stands for 34.
--   within       1 to a most
--   counts_good  "there are 1 to 128 states, 1 to 32 symbols and 1 to 16 shapes", and the header is there
--   pairs        that many pairs at the head of the words, and the words after them
--   counted_pairs     a count and that many pairs
--   block_at      a block at the head of the words: announcements and successors
--   label_word   the label of a state, in a plan of m states
--   block_of      the block of a state and symbol, in a plan of m states and k symbols
--   pair_at       a pair of a list, its number below a limit and its code a good one; pair_in: one of a block
--   label_of …   the plan readers, over the words and the view's counts of states and symbols
use Rattle.kinds.specs.declared.Position.{Position}
use Rattle.kinds.specs.declared.Reason.{Reason}
use Rattle.kinds.specs.declared.Shape.{Shape}
use Rattle.kinds.specs.declared.State.{State}
use Rattle.readers.specs.declared.Lengths.{Lengths}
use Rattle.std.specs.Prelude.{ℕ, zero, suc, ◌+◌, ◌*◌, List, [], ◌∷◌, Bool, true, false, cond, ◌&&◌, eqb, ltb, leb, length, get_or, drop, Err, Ok, Result}
use Rattle.std.proofs.Math.Option.{Option, none, some}
use Rattle.std.proofs.Math.ListN.{get_elem?}
use Rattle.kinds.specs.Limits.{most_states, most_symbols, most_shapes}
use Rattle.kinds.specs.Lists.{bind, need, gather}
use Rattle.kinds.specs.Positions.{code_good}
use Rattle.kinds.specs.Kinds.{position}
use Rattle.kinds.specs.Reasons.{Says, gives, refuses}
use Rattle.kinds.specs.declared.Reason.TheVariants.{OutOfRange}

abbrev pub within : ℕ → ℕ → Bool
within most n = ltb 0 n && leb n most

abbrev pub counts_good : List ℕ → Bool
counts_good plan = leb 4 (length plan) &&
    (within most_states (get_or plan 0 0) && (within most_symbols (get_or plan 1 0) && within most_shapes (get_or plan 2 0)))

unfoldable pub pairs : ℕ → List ℕ → Option (List (ℕ × ℕ) × List ℕ)
pairs zero ws = some ([], ws)
pairs (suc n) [] = none
pairs (suc n) (a ∷ []) = none
pairs (suc n) (a ∷ b ∷ ws) = bind (pairs n ws) (λ r. some ((a, b) ∷ r.0, r.1))

abbrev pub pair_words : List (ℕ × ℕ) → List ℕ
pair_words xs = gather (λ x. x.0 ∷ x.1 ∷ []) xs

unfoldable pub counted_pairs : List ℕ → Option (List (ℕ × ℕ) × List ℕ)
counted_pairs [] = none
counted_pairs (n ∷ ws) = pairs n ws

unfoldable pub block_at : List ℕ → Option (List (ℕ × ℕ) × List (ℕ × ℕ))
block_at ws = bind (counted_pairs ws) (λ a. bind (counted_pairs a.1) (λ b. some (a.0, b.0)))

unfoldable pub label_word : List ℕ → ℕ → ℕ → Option ℕ
label_word plan m s = need (ltb s m) (get_elem? plan (4 + s))

unfoldable pub block_of : List ℕ → ℕ → ℕ → ℕ → ℕ → Option (List (ℕ × ℕ) × List (ℕ × ℕ))
block_of plan m k s f =
    need (ltb s m)
    (need (ltb f k)
    (bind (get_elem? plan (4 + m + (s * k + f))) (λ b. block_at (drop b plan))))

unfoldable pub pair_at : ℕ → List (ℕ × ℕ) → ℕ → Option (ℕ × ℕ)
pair_at limit xs i = bind (get_elem? xs i) (λ x. need (ltb x.0 limit) (need (code_good x.1) (some x)))

-- the view's counts are the header's, and in range
abbrev pub view_good : List ℕ → ℕ → ℕ → Bool
view_good plan m k = counts_good plan && (eqb m (get_or plan 0 0) && eqb k (get_or plan 1 0))

abbrev pub to_label : Option ℕ → Result Position Reason
to_label none = Err OutOfRange
to_label (some c) = Ok (position c)

unfoldable pub label_of : List ℕ → ℕ → ℕ → ℕ → Result Position Reason
label_of plan m k s = to_label (need (view_good plan m k) (bind (label_word plan m s) (λ c. need (code_good c) (some c))))

abbrev pub to_lengths : Option (List (ℕ × ℕ) × List (ℕ × ℕ)) → Result Lengths Reason
to_lengths none = Err OutOfRange
to_lengths (some b) = Ok (record { announcements = length b.0; successors = length b.1 })

unfoldable pub lengths_of : List ℕ → ℕ → ℕ → ℕ → ℕ → Result Lengths Reason
lengths_of plan m k s f = to_lengths (need (view_good plan m k) (block_of plan m k s f))

-- pair i of a block: of its announcements, whose numbers are shapes; or of its successors, whose numbers are states
unfoldable pub pair_in : Bool → List ℕ → ℕ → ℕ → ℕ → ℕ → ℕ → Option (ℕ × ℕ)
pair_in nexts plan m k s f i = need (view_good plan m k)
    (bind (block_of plan m k s f) (λ b. cond nexts (pair_at m b.1 i) (pair_at (get_or plan 2 0) b.0 i)))

abbrev pub to_announcement : Option (ℕ × ℕ) → Result (Shape × Position) Reason
to_announcement none = Err OutOfRange
to_announcement (some x) = Ok (record { 0 = x.0 }, position x.1)

unfoldable pub announcement_of : List ℕ → ℕ → ℕ → ℕ → ℕ → ℕ → Result (Shape × Position) Reason
announcement_of plan m k s f i = to_announcement (pair_in false plan m k s f i)

abbrev pub to_successor : Option (ℕ × ℕ) → Result (State × Position) Reason
to_successor none = Err OutOfRange
to_successor (some x) = Ok (record { 0 = x.0 }, position x.1)

unfoldable pub successor_of : List ℕ → ℕ → ℕ → ℕ → ℕ → ℕ → Result (State × Position) Reason
successor_of plan m k s f i = to_successor (pair_in true plan m k s f i)

-- the answers in document 01's numbers
abbrev pub label_says : Result Position Reason → Says
label_says (Ok p) = gives (p.0 ∷ [])
label_says (Err r) = refuses r 0

abbrev pub block_says : Result Lengths Reason → Says
block_says (Ok l) = gives (l.announcements ∷ l.successors ∷ [])
block_says (Err r) = refuses r 0

abbrev pub announcement_says : Result (Shape × Position) Reason → Says
announcement_says (Ok (j, p)) = gives (j.0 ∷ p.0 ∷ [])
announcement_says (Err r) = refuses r 0

abbrev pub successor_says : Result (State × Position) Reason → Says
successor_says (Ok (s, p)) = gives (s.0 ∷ p.0 ∷ [])
successor_says (Err r) = refuses r 0
