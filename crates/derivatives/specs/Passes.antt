-- Inside: what a pass over goals writes.
--   passed     the words that k goals from `at` on give, each one's after the other
--   Puts       words are put from a place on: the answer is the place after them
--   PutsFirst  words are put at the start: the answer is how many
--   Bearable   what code asks where it puts what is born: positions that are codes, and room for the goals
--   Derivable  the same where it derives
--   Lifts      a class is put from a place on, lifted: the answer is its displacement
--   Arranged   numbers are put at the start, in ascending order: the answer is how many
use Rattle.std.specs.Prelude.{◌≡◌, List, ℕ, ◌+◌, ◌*◌, ◌≤◌, ltb, length}
use Rattle.std.proofs.lemmas.List.Edits.{sets}
use Rattle.kinds.specs.Lists.{gather, sort}
use Rattle.goals.specs.GoalWords.{GoalWords, goals_from, flat}
use Rattle.goals.specs.WordStages.{born_w, deriv_w, displacement_w, lifted_w}

abbrev pub passed : (GoalWords → List GoalWords) → List ℕ → ℕ → ℕ → List ℕ
passed e ws at k = flat (gather e (goals_from ws at k))

abbrev pub Puts : List ℕ → ℕ → ℕ → List ℕ → List ℕ → Type 0
Puts xs to r old new = (r ≡ to + length xs) × (new ≡ sets old to xs)

abbrev pub PutsFirst : List ℕ → ℕ → List ℕ → List ℕ → Type 0
PutsFirst xs r old new = (r ≡ length xs) × (new ≡ sets old 0 xs)

-- what is born at the k children of code c, for n shapes
pub record Bearable (n c k to : ℕ) (out : List ℕ) : Type 0 where
  pub shapes : n ≤ 16
  pub codes : 5 * c + k ≤ 65535
  pub room : to + length (flat (born_w n c k)) ≤ length out

-- the derivative at code c by symbol f of k children, for n shapes
pub record Derivable (tab : List ℕ) (n c f k : ℕ) (gs : List GoalWords) (out : List ℕ) : Type 0 where
  pub shapes : n ≤ 16
  pub codes : 5 * c + k ≤ 65535
  pub room : length (flat (deriv_w tab n c f k gs)) ≤ length out

abbrev pub Lifts : List GoalWords → ℕ → ℕ → List ℕ → List ℕ → Type 0
Lifts gs to top old new = (top ≡ displacement_w gs) × (new ≡ sets old to (flat (lifted_w gs)))

abbrev pub Arranged : List ℕ → ℕ → List ℕ → List ℕ → Type 0
Arranged xs k old new = (k ≡ length xs) × (new ≡ sets old 0 (sort ltb xs))
