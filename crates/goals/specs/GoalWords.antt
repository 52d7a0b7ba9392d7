-- Inside: goals as three words, and the tables of the shapes that they lean on.
--   GoalWords    shape number, code of the announcement position, mask of the open nodes of the shape
--   code_of …    the five tables, 16 shapes by 16 nodes each: code of a node's position, five to the power of its depth, span, word, mask of the children that are no blanks
--   powers_at …  where each of the five begins after the codes, which stand first
--   Tabled       what code asks of the tables
--   NodeIn       what it asks of a node of a shape; Owable: where it lists obligations; BothIn: of two shapes
--   code_at      the code of a node of a shape announced at a code: a · 5^depth + code
--   owed_by      the codes of a goal's obligations, in document order
--   node_at      the open node that stands at a code, 16 where none does
--   mask_after   the mask without a node, with its children that are no blanks
--   pad          a code padded to six digits; first_code: the first in document order
--   goals_from   the goals that words hold; flat: the words of goals
--   no_code      65,535: past every code, for none
--   label_code   the label's code, no_code where no goal announces at the root
--   GoalsIn      n goals lie in words, at most so many; Stored: and their shapes in the tables
use Rattle.std.specs.Prelude.{List, [], ◌∷◌, ◌++◌, cond, ℕ, zero, suc, ◌+◌, ◌*◌, ◌/◌, ◌%◌, ◌^◌, ◌≤◌, ◌<◌, eqb, ltb, length, get_or}
use Rattle.std.specs.Int.Bits.{bit_or, bit_xor}
use Rattle.tables.specs.ShapeTables.{area_words, table_words}

-- shape number, code of the announcement position, mask of the open nodes of the shape
pub record GoalWords : Type 0 where
  pub sh : ℕ
  pub an : ℕ
  pub mask : ℕ

-- where the tables begin, after that of the codes: five to the power of a node's depth, its span, its word, the mask of its children
abbrev pub powers_at : ℕ
powers_at = area_words

abbrev pub sizes_at : ℕ
sizes_at = 2 * area_words

abbrev pub symbols_at : ℕ
symbols_at = 3 * area_words

abbrev pub children_at : ℕ
children_at = 4 * area_words

-- the tables: five areas of 16 shapes by 16 nodes
abbrev pub code_of : List ℕ → ℕ → ℕ → ℕ
code_of tab s r = get_or tab (16 * s + r) 0

abbrev pub pow_of : List ℕ → ℕ → ℕ → ℕ
pow_of tab s r = get_or tab (powers_at + (16 * s + r)) 0

-- the nodes of shape s
abbrev pub size_of : List ℕ → ℕ → ℕ
size_of tab s = get_or tab (sizes_at + 16 * s) 0

abbrev pub sym_of : List ℕ → ℕ → ℕ → ℕ
sym_of tab s r = get_or tab (symbols_at + (16 * s + r)) 0

abbrev pub kids_of : List ℕ → ℕ → ℕ → ℕ
kids_of tab s r = get_or tab (children_at + (16 * s + r)) 0

pub record Tabled (tab : List ℕ) : Type 0 where
  pub long : table_words ≤ length tab
  pub sizes : (s : ℕ) → s < 16 → size_of tab s ≤ 16

-- node r of shape s, both in the tables
pub record NodeIn (tab : List ℕ) (s r : ℕ) : Type 0 where
  pub tabled : Tabled tab
  pub shape : s < 16
  pub node : r < 16

-- shape s in the tables, and room for the codes of its nodes
pub record Owable (tab : List ℕ) (s : ℕ) (out : List ℕ) : Type 0 where
  pub tabled : Tabled tab
  pub shape : s < 16
  pub room : 16 ≤ length out

-- two shapes, both in the tables
pub record BothIn (tab : List ℕ) (s t : ℕ) : Type 0 where
  pub tabled : Tabled tab
  pub one : s < 16
  pub other : t < 16

-- the code of node r of shape s announced at code a: a · 5^depth + code
abbrev pub code_at : List ℕ → ℕ → ℕ → ℕ → ℕ
code_at tab s a r = a * pow_of tab s r + code_of tab s r

-- the codes of the obligations: k nodes from r on, m the mask from there
unfoldable pub owed_from : List ℕ → ℕ → ℕ → ℕ → ℕ → ℕ → List ℕ
owed_from tab s a zero r m = []
owed_from tab s a (suc k) r m =
    let rest = owed_from tab s a k (suc r) (m / 2) in
    cond (eqb (m % 2) 1) (code_at tab s a r ∷ rest) rest

abbrev pub owed_codes : List ℕ → ℕ → ℕ → ℕ → List ℕ
owed_codes tab s a m = owed_from tab s a (size_of tab s) 0 m

abbrev pub owed_by : List ℕ → GoalWords → List ℕ
owed_by tab g = owed_codes tab g.sh g.an g.mask

-- the open node that stands at code c, 16 where none does
unfoldable pub node_from : List ℕ → ℕ → ℕ → ℕ → ℕ → ℕ → ℕ → ℕ
node_from tab s a c zero r m = 16
node_from tab s a c (suc k) r m =
    let rest = node_from tab s a c k (suc r) (m / 2) in
    cond (eqb (m % 2) 1) (cond (eqb (code_at tab s a r) c) r rest) rest

abbrev pub node_at : List ℕ → ℕ → ℕ → ℕ → ℕ → ℕ
node_at tab s a m c = node_from tab s a c (size_of tab s) 0 m

-- the mask without node r, with its children that are no blanks
abbrev pub mask_after : ℕ → ℕ → ℕ → ℕ
mask_after m r k = bit_or (bit_xor m (2 ^ r)) k

-- a code of at most six digits, padded to six
abbrev pub pad : ℕ → ℕ
pad c =
    cond (ltb c 5) (c * 3125)
    (cond (ltb c 25) (c * 625) (cond (ltb c 125) (c * 125) (cond (ltb c 625) (c * 25) (cond (ltb c 3125) (c * 5) c))))

-- the first in document order
unfoldable pub first_code : ℕ → List ℕ → ℕ
first_code best [] = best
first_code best (c ∷ cs) = first_code (cond (ltb (pad c) (pad best)) c best) cs

abbrev pub goal_w : ℕ → ℕ → ℕ → GoalWords
goal_w s a m = record { sh = s; an = a; mask = m }

-- the goals of k triples of words from at on
abbrev pub goal_at : List ℕ → ℕ → GoalWords
goal_at ws at = record { sh = get_or ws at 0; an = get_or ws (at + 1) 0; mask = get_or ws (at + 2) 0 }

unfoldable pub goals_from : List ℕ → ℕ → ℕ → List GoalWords
goals_from ws at zero = []
goals_from ws at (suc k) = goal_at ws at ∷ goals_from ws (at + 3) k

-- n goals in words from `at` on, at most so many
pub record GoalsIn (most : ℕ) (ws : List ℕ) (at n : ℕ) : Type 0 where
  pub few : n ≤ most
  pub room : at + 3 * n ≤ length ws

-- each goal's shape is below 16
abbrev pub Low : List GoalWords → Type 0
Low [] = Unit {0}
Low (g ∷ gs) = (g.sh < 16) × Low gs

-- n goals in words from `at` on, of shapes that the tables have
pub record Stored (tab ws : List ℕ) (at n : ℕ) : Type 0 where
  pub tabled : Tabled tab
  pub few : n ≤ 96
  pub room : at + 3 * n ≤ length ws
  pub low : Low (goals_from ws at n)

unfoldable pub root_codes : List ℕ → List GoalWords → List ℕ
root_codes tab [] = []
root_codes tab (g ∷ gs) = let rest = root_codes tab gs in cond (eqb g.an 0) (owed_by tab g ++ rest) rest

-- past every code: no label, no announcement
abbrev pub no_code : ℕ
no_code = 65535

abbrev pub label_code : List ℕ → List GoalWords → ℕ
label_code tab gs = first_code no_code (root_codes tab gs)

-- the words of goals
unfoldable pub flat : List GoalWords → List ℕ
flat [] = []
flat (g ∷ gs) = g.sh ∷ g.an ∷ g.mask ∷ flat gs
