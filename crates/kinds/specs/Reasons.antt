-- The refusal numbers of document 01's table and of document 02, and what an answer says in its numbers.
--   refused_at  a reason and the place at which it is given
--   number_of  the number of each reason
--   Says       number 0 and the values answered (gives), or a refusal's number and its place (refusal; refuses: by its reason), and the values
--              that a call answers with a refusal too (refusal_with)
use Rattle.std.specs.Prelude.{ℕ, List, [], ◌∷◌}
use Rattle.kinds.specs.declared.Reason.{Reason}
use Rattle.kinds.specs.declared.Refusal.{Refusal}
use Rattle.kinds.specs.declared.Reason.TheVariants.{Short, Long, EndBytes, Trailer, Symbols, Children, ShapeWord, ShapeEnds, LoneBlank, ShapeNodes, ShapeDepth, Shapes, ScoreWord, ScoreEnds, ScoreDepth, Surplus, ScoreNodes, Tables}
use Rattle.kinds.specs.declared.Reason.TheVariants.{BadShapes, ManyGoals, ManyStates, LongPlan, ShortScratch, ShortBuffers, BadScore, NoSuchItem, OutOfRange, NoSuchMatch, NotThere, IsFinished, NoTree, PastLimits, ShortScore}

pattern abbrev pub refused_at : Reason → ℕ → Refusal
refused_at r p = record { 0 = r; 1 = p }

abbrev pub number_of : Reason → ℕ
number_of Short = 1
number_of Long = 2
number_of EndBytes = 3
number_of Trailer = 4
number_of Symbols = 5
number_of Children = 6
number_of ShapeWord = 7
number_of ShapeEnds = 8
number_of LoneBlank = 9
number_of ShapeNodes = 10
number_of ShapeDepth = 11
number_of Shapes = 12
number_of ScoreWord = 13
number_of ScoreEnds = 14
number_of ScoreDepth = 15
number_of Surplus = 16
number_of ScoreNodes = 17
number_of Tables = 18
number_of BadShapes = 19
number_of ManyGoals = 20
number_of ManyStates = 21
number_of LongPlan = 22
number_of ShortScratch = 23
number_of ShortBuffers = 30
number_of BadScore = 31
number_of NoSuchItem = 32
number_of OutOfRange = 34
number_of NoSuchMatch = 35
number_of NotThere = 40
number_of IsFinished = 41
number_of NoTree = 42
number_of PastLimits = 43
number_of ShortScore = 44

pub record Says : Type 0 where
  pub number : ℕ
  pub values : List ℕ

abbrev pub gives : List ℕ → Says
gives vs = record { number = 0; values = vs }

-- a refusal by its number in the table, and its place
abbrev pub refusal : ℕ → ℕ → Says
refusal n p = record { number = n; values = p ∷ [] }

abbrev pub refusal_with : ℕ → ℕ → List ℕ → Says
refusal_with n p vs = record { number = n; values = p ∷ vs }

abbrev pub refuses : Reason → ℕ → Says
refuses r p = refusal (number_of r) p
