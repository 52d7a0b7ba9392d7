-- Calls that answer what stands in the words lent, or 34 where nothing does: the subtree, whose "empty part stands for 34", the plan readers, and a position's child.
--   FoundRow         34 exactly where there is nothing to find; else its values
--   part_says pair_values  a part, and a pair, in document 01's numbers
--   InShape          "within a shape's limits (blanks are leaves)"; a blank alone counts too
--   Standing         the words of a term stand at the place asked, within its table's limits, and opening accepts the symbols
--   PairFound        a pair of those counted at a word: its number below a limit, its code in use
--   View             the view's counts are the header's: "1 to 128 states, 1 to 32 symbols and 1 to 16 shapes"
--   LabelFound       the label's code of a state
--   BlockFound       where the block of a state and symbol begins, all of it "within the plan words lent"
--   Reaches          the node that a code leads to from a node, over spans
--   ChildFound       the code of a position's child: "the largest code in use" is not passed
--   AnnouncementFound SuccessorFound   a pair of a block: shape and position, state and displacement
use Rattle.std.specs.Prelude.{◌≡◌, true, List, [], ◌∷◌, ◌++◌, ℕ, ◌+◌, ◌*◌, ◌<◌, ◌≤◌, length, get_or, drop}
use Rattle.std.proofs.Math.Option.{some}
use Rattle.std.proofs.Math.ListN.{get_elem?}
use Rattle.kinds.specs.Positions.{decode, code_good}
use Rattle.kinds.specs.Reasons.{Says, gives, refusal}
use Rattle.kinds.specs.declared.Position.{Position}
use Rattle.kinds.specs.declared.Node.{Node}
use Rattle.term.specs.Terms.{Term, span, depth, flatten, Fits}
use Rattle.kinds.specs.Limits.{blank_word}
use Rattle.term.specs.Admitted.{GoodSymbols, IsScore}
use Rattle.checks.specs.declared.Asked.{Asked}
use Rattle.checks.specs.declared.Asked.TheVariants as asked
use Rattle.following.specs.Following.{follow}
use Rattle.readers.specs.BlockWords.{middle}

pub data FoundRow {A : Type 0} (Found : A → Type 0) (values : A → List ℕ) : Says → Type 0 where
  nothing : ((a : A) → Found a → ⊥) → FoundRow Found values (refusal 34 0)
  finds : (a : A) → Found a → FoundRow Found values (gives (values a))

-- a part of a table in document 01's numbers: "an empty part, which stands for 34"
abbrev pub part_says : List ℕ → Says
part_says [] = refusal 34 0
part_says (w ∷ ws) = gives (w ∷ ws)

abbrev pub pair_values : ℕ × ℕ → List ℕ
pair_values x = x.0 ∷ x.1 ∷ []

-- ---- a subtree
pub record InShape (ar : List ℕ) (t : Term) : Type 0 where
  pub fits : Fits ar blank_word t
  pub flat : depth t ≤ 5
  pub small : span t ≤ 16

-- the words from a place on begin with those of a term
abbrev pub Begins : List ℕ → ℕ → Term → Type 0
Begins words at t = (after : List ℕ) × (drop at words ≡ flatten t ++ after)

pub data Standing (ar shapes score : List ℕ) : Asked → Term → Type 0 where
  in_shapes : (at : ℕ) (t : Term) → GoodSymbols ar → InShape ar t → Begins shapes at t → Standing ar shapes score (asked.Shapes at) t
  in_score : (x : Node) (t : Term) → GoodSymbols ar → IsScore ar t → Begins score x.0 t → Standing ar shapes score (asked.Score x) t

-- ---- the plan readers
pub record PairFound (plan : List ℕ) (at limit i : ℕ) (x : ℕ × ℕ) : Type 0 where
  pub counted : i < get_or plan at 0
  pub number : x.0 ≡ get_or plan (at + 1 + 2 * i) 0
  pub code : x.1 ≡ get_or plan (at + 2 + 2 * i) 0
  pub number_in : x.0 < limit
  pub code_in : code_good x.1 ≡ true

module _ (plan : List ℕ) (states symbols : ℕ) where
  pub record View : Type 0 where
    pub header : 4 ≤ length plan
    pub states_are : states ≡ get_or plan 0 0
    pub symbols_are : symbols ≡ get_or plan 1 0
    pub states_in_lem : (1 ≤ states) × (states ≤ 128)
    pub symbols_in_lem : (1 ≤ symbols) × (symbols ≤ 32)
    pub shapes_in_lem : (1 ≤ get_or plan 2 0) × (get_or plan 2 0 ≤ 16)

  pub record LabelFound (s c : ℕ) : Type 0 where
    pub view : View
    pub state : s < states
    pub word : get_elem? plan (4 + s) ≡ some c
    pub code : code_good c ≡ true

  pub record BlockFound (s f b : ℕ) : Type 0 where
    pub view : View
    pub state : s < states
    pub symbol : f < symbols
    pub start : get_elem? plan (4 + states + (s * symbols + f)) ≡ some b
    pub inside : middle plan b + 1 + 2 * get_or plan (middle plan b) 0 ≤ length plan

  pub record AnnouncementFound (s f i : ℕ) (x : ℕ × ℕ) : Type 0 where
    pub begin : ℕ
    pub block : BlockFound s f begin
    pub pair : PairFound plan begin (get_or plan 2 0) i x

  pub record SuccessorFound (s f i : ℕ) (x : ℕ × ℕ) : Type 0 where
    pub begin : ℕ
    pub block : BlockFound s f begin
    pub pair : PairFound plan (middle plan begin) states i x

-- ---- a position followed from a node: "each node reached … below their counts (nodes: the score words lent, and 65,536)"
pub record Reaches (spans : List ℕ) (n from code x : ℕ) : Type 0 where
  pub code_in : code_good code ≡ true
  pub way : follow spans (decode code) from ≡ some x
  pub node_in : (x < n) × (x < 65536)

-- ---- a child of a position
pub record ChildFound (p : Position) (i c : ℕ) : Type 0 where
  pub position : code_good p.0 ≡ true
  pub number : (1 ≤ i) × (i ≤ 4)
  pub code : c ≡ 5 * p.0 + i
  pub in_use : c ≤ 15624
