-- Inside: the words of the five tables, each by itself, from child counts, shape words and starts.
--   word_at                 a word, a blank past the end
--   span_at                 the nodes of a term, at most 16
--   seek_from               from node to node: down to the first child, or on to the next sibling
--   kids_at                 the mask of a node's children that are no blanks
--   Seekable                what code asks where it goes from node to node
--   node_word entry_in      a word for a node, by area; 0 where there is no such node
--   area_words table_words  the words of one table, and of the five
--   entry_w entries_from    the tables' words, one by one
use Rattle.std.specs.Prelude.{List, [], ◌∷◌, cond, ℕ, zero, suc, ◌+◌, ◌*◌, ◌/◌, ◌%◌, ◌^◌, ◌≤◌, eqb, ltb, leb, length, get_or}

-- a word, a blank past the end
abbrev pub word_at : List ℕ → ℕ → ℕ
word_at ws i = get_or ws i 65535

-- the nodes of `need` terms from `at` on, at most k
unfoldable pub span_from : List ℕ → List ℕ → ℕ → ℕ → ℕ → ℕ
span_from ar ws zero at need = 0
span_from ar ws (suc k) at zero = 0
span_from ar ws (suc k) at (suc need) = suc (span_from ar ws k (suc at) (need + get_or ar (word_at ws at) 0))

abbrev pub span_at : List ℕ → List ℕ → ℕ → ℕ
span_at ar ws at = span_from ar ws 16 at 1

-- from node c to node r of the term at st: down to the first child, or on to the next sibling
unfoldable pub seek_from : List ℕ → List ℕ → ℕ → ℕ → ℕ → ℕ → ℕ → ℕ → ℕ
seek_from ar ws st r one zero c v = v
seek_from ar ws st r one (suc k) c v =
    let down = seek_from ar ws st r one k (c + 1) ((5 * v + one) % 65536) in
    let on = seek_from ar ws st r one k (c + span_at ar ws (st + c)) ((v + one) % 65536) in
    cond (ltb c r) (cond (ltb r (c + span_at ar ws (st + c))) down on) v

-- from the shape at st, with v at its root, and `one` added for each sibling passed
pub record Seekable (st one v : ℕ) : Type 0 where
  pub start : st ≤ 65535
  pub step : one ≤ 1
  pub root : v ≤ 65535

-- the mask of the nodes that are no blanks among c and its siblings before e
unfoldable pub kids_from : List ℕ → List ℕ → ℕ → ℕ → ℕ → ℕ → ℕ → ℕ
kids_from ar ws st e zero c m = m
kids_from ar ws st e (suc k) c m =
    let on = kids_from ar ws st e k (c + span_at ar ws (st + c)) (cond (leb 65535 (word_at ws (st + c))) m ((m + 2 ^ c) % 65536)) in
    cond (ltb c e) on m

abbrev pub kids_at : List ℕ → List ℕ → ℕ → ℕ → ℕ
kids_at ar ws st r = kids_from ar ws st (r + span_at ar ws (st + r)) 16 (r + 1) 0

-- area x, node r of the shape at st
unfoldable pub node_word : List ℕ → List ℕ → ℕ → ℕ → ℕ → ℕ
node_word ar ws st x r =
    cond (eqb x 0) (seek_from ar ws st r 1 16 0 0)
    (cond (eqb x 1) (seek_from ar ws st r 0 16 0 1)
    (cond (eqb x 2) (span_at ar ws (st + r))
    (cond (eqb x 3) (word_at ws (st + r)) (kids_at ar ws st r))))

abbrev pub entry_in : List ℕ → List ℕ → ℕ → ℕ → ℕ → ℕ
entry_in ar ws st x r = cond (ltb r (span_at ar ws st)) (node_word ar ws st x r) 0

-- the words of one table, 16 shapes by 16 nodes
abbrev pub area_words : ℕ
area_words = 256

-- the words of the five tables
abbrev pub table_words : ℕ
table_words = 1280

-- word k of the tables: 0 where there is no such shape or node
unfoldable pub entry_w : List ℕ → List ℕ → List ℕ → ℕ → ℕ
entry_w ar ws ss k = cond (ltb (k / 16 % 16) (length ss)) (entry_in ar ws (get_or ss (k / 16 % 16) 0) (k / area_words) (k % 16)) 0

-- n words of the tables from word k on
unfoldable pub entries_from : List ℕ → List ℕ → List ℕ → ℕ → ℕ → List ℕ
entries_from ar ws ss k zero = []
entries_from ar ws ss k (suc n) = entry_w ar ws ss k ∷ entries_from ar ws ss (k + 1) n
