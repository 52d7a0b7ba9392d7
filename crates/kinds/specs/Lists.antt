-- Lists and tests that compute.
--   unless           go on where the test holds, else refuse
--   same             are two lists of numbers equal
--   filter any all   by a test
--   insert sort      by an order
--   find             the place of the first that passes, counted from a number
--   gather concat    lists put one after the other
--   map_at range     each with its place; numbers in a row
--   sum greatest     of numbers; of none 0
--   bind need        go on with what there is; go on only if the test holds
--   or_else          a number that there is, or another
--   otherwise        what there is, or another
--   perhaps          what there is, as a list
--   onto             words in front, the others as they were
use Rattle.std.specs.Prelude.{List, [], ◌∷◌, ◌++◌, Bool, true, false, cond, ◌&&◌, ◌||◌, ℕ, zero, suc, ◌+◌, max, eqb, length, drop}
use Rattle.std.proofs.Math.Option.{Option, none, some}

abbrev pub unless {ℓ} : {A : Type ℓ} → Bool → A → A → A
unless true refused on = on
unless false refused on = refused

abbrev pub same : List ℕ → List ℕ → Bool
same [] [] = true
same [] (j ∷ q) = false
same (i ∷ p) [] = false
same (i ∷ p) (j ∷ q) = eqb i j && same p q

module _ {ℓ} {A : Type ℓ} where
  abbrev pub filter : (A → Bool) → List A → List A
  filter f [] = []
  filter f (x ∷ xs) = let rest = filter f xs in cond (f x) (x ∷ rest) rest

  abbrev pub any : (A → Bool) → List A → Bool
  any f [] = false
  any f (x ∷ xs) = f x || any f xs

  abbrev pub all : (A → Bool) → List A → Bool
  all f [] = true
  all f (x ∷ xs) = f x && all f xs

  -- put in before the first that does not come before it
  abbrev pub insert : (A → A → Bool) → A → List A → List A
  insert lt a [] = a ∷ []
  insert lt a (x ∷ xs) = cond (lt x a) (x ∷ insert lt a xs) (a ∷ x ∷ xs)

  abbrev pub sort : (A → A → Bool) → List A → List A
  sort lt [] = []
  sort lt (x ∷ xs) = insert lt x (sort lt xs)

  abbrev pub find : (A → Bool) → List A → ℕ → Option ℕ
  find f [] i = none
  find f (x ∷ xs) i = cond (f x) (some i) (find f xs (suc i))

  abbrev pub concat : List (List A) → List A
  concat [] = []
  concat (x ∷ xs) = x ++ concat xs

  abbrev pub perhaps : Option A → List A
  perhaps none = []
  perhaps (some a) = a ∷ []

  abbrev pub otherwise : Option A → A → A
  otherwise (some a) d = a
  otherwise none d = d

  abbrev pub is_nil : List A → Bool
  is_nil [] = true
  is_nil (x ∷ xs) = false

  abbrev pub need : Bool → Option A → Option A
  need true o = o
  need false o = none

module _ {ℓ κ} {A : Type ℓ} {B : Type κ} where
  abbrev pub gather : (A → List B) → List A → List B
  gather f [] = []
  gather f (x ∷ xs) = f x ++ gather f xs

  -- each element with its place, counted from i
  abbrev pub map_at : (ℕ → A → B) → ℕ → List A → List B
  map_at f i [] = []
  map_at f i (x ∷ xs) = f i x ∷ map_at f (suc i) xs

  abbrev pub bind : Option A → (A → Option B) → Option B
  bind none f = none
  bind (some a) f = f a

abbrev pub or_else : Option ℕ → ℕ → ℕ
or_else (some i) d = i
or_else none d = d

-- i, i + 1, …: n numbers
abbrev pub range : ℕ → ℕ → List ℕ
range i zero = []
range i (suc n) = i ∷ range (suc i) n

abbrev pub sum : List ℕ → ℕ
sum [] = 0
sum (x ∷ xs) = x + sum xs

abbrev pub greatest : List ℕ → ℕ
greatest [] = 0
greatest (x ∷ xs) = max x (greatest xs)

abbrev pub onto : List ℕ → List ℕ → List ℕ
onto new ws = new ++ drop (length new) ws
