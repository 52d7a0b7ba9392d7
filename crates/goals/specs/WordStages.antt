-- Inside: the stages of the construction on goals of three words. Each is the construction's own under the decoding of Decoding.
--   deriv_w       the derivative: what stays, what moves on, what is born
--   same_state_w  equality of states
--   dep_w         direct dependency: a shared code; closed_w: the square of it, closed
--   least_code    the shortest announcement, in a class the greatest common prefix
--   lift_w        a goal lifted: only its announcement changes; displacement_w, lifted_w: of a class
--   classes_w     the classes, by the padded code of their first obligation position
--   outputs_w     the goals that are announced, by padded code and then shape
use Rattle.std.specs.Prelude.{List, [], ◌∷◌, ◌++◌, map, Bool, true, false, cond, ◌&&◌, ◌||◌, ℕ, zero, suc, ◌+◌, ◌*◌, ◌/◌, ◌%◌, eqb, ltb, length}
use Rattle.kinds.specs.Lists.{gather, range, sort}
use Rattle.automaton.specs.Classes.{Square, close, rows_from, picked}
use Rattle.goals.specs.GoalWords.{GoalWords, sym_of, kids_of, owed_by, node_at, mask_after, pad, no_code, first_code}

-- what a goal puts into the derivative at code c by symbol f: itself, where it has no open node there
abbrev pub stays : List ℕ → ℕ → GoalWords → List GoalWords
stays tab c g = cond (eqb (node_at tab g.sh g.an g.mask c) 16) (g ∷ []) []

-- past every mask: the symbol is not expected
abbrev pub unexpected : ℕ
unexpected = 65536

-- its mask after reducing; unexpected where f is not expected at c
abbrev pub reduct : List ℕ → ℕ → ℕ → GoalWords → ℕ
reduct tab c f g =
    let r = node_at tab g.sh g.an g.mask c in
    cond (eqb r 16) unexpected (cond (eqb (sym_of tab g.sh r) f) (mask_after g.mask r (kids_of tab g.sh r)) unexpected)

abbrev pub with_mask : GoalWords → ℕ → GoalWords
with_mask g x = record { sh = g.sh; an = g.an; mask = x }

-- or itself reduced, where something is open still
abbrev pub goes_on : ℕ → GoalWords → List GoalWords
goes_on x g = cond (eqb x 0) [] (cond (ltb x unexpected) (with_mask g x ∷ []) [])

abbrev pub moves : List ℕ → ℕ → ℕ → GoalWords → List GoalWords
moves tab c f g = goes_on (reduct tab c f g) g

-- the fresh goals of n shapes at code a
abbrev pub fresh_w : ℕ → ℕ → GoalWords
fresh_w a j = record { sh = j; an = a; mask = 1 }

abbrev pub freshes_w : ℕ → ℕ → List GoalWords
freshes_w n a = map (fresh_w a) (range 0 n)

-- and those at the k children of c
abbrev pub born_w : ℕ → ℕ → ℕ → List GoalWords
born_w n c k = gather (λ i. freshes_w n (5 * c + i)) (range 1 k)

-- the derivative at code c by symbol f of k children
unfoldable pub deriv_w : List ℕ → ℕ → ℕ → ℕ → ℕ → List GoalWords → List GoalWords
deriv_w tab n c f k gs = gather (stays tab c) gs ++ (gather (moves tab c f) gs ++ born_w n c k)

-- equality of goals and of states in words
abbrev pub same_w : GoalWords → GoalWords → Bool
same_w g h = eqb g.sh h.sh && (eqb g.an h.an && eqb g.mask h.mask)

unfoldable pub among_w : GoalWords → List GoalWords → Bool
among_w g [] = false
among_w g (h ∷ hs) = same_w g h || among_w g hs

unfoldable pub within_w : List GoalWords → List GoalWords → Bool
within_w [] hs = true
within_w (g ∷ gs) hs = among_w g hs && within_w gs hs

abbrev pub same_state_w : List GoalWords → List GoalWords → Bool
same_state_w gs hs = within_w gs hs && within_w hs gs

-- direct dependency in words: a shared code
abbrev pub has_code : ℕ → List ℕ → Bool
has_code x [] = false
has_code x (y ∷ ys) = eqb y x || has_code x ys

unfoldable pub sharing : List ℕ → List ℕ → Bool
sharing [] ys = false
sharing (x ∷ xs) ys = has_code x ys || sharing xs ys

abbrev pub dep_w : List ℕ → GoalWords → GoalWords → Bool
dep_w tab g h = sharing (owed_by tab g) (owed_by tab h)

-- the shortest announcement, in a class the greatest common prefix: the least code
unfoldable pub least_code : ℕ → List GoalWords → ℕ
least_code best [] = best
least_code best (g ∷ gs) = least_code (cond (ltb g.an best) g.an best) gs

-- what is left of code c below code g, of at most k digits
unfoldable pub under_from : ℕ → ℕ → ℕ → ℕ → ℕ → ℕ
under_from zero g c t w = c % w
under_from (suc k) g c t w = let up = under_from k g c (t / 5) (w * 5) in cond (ltb g t) up (c % w)

abbrev pub under_code : ℕ → ℕ → ℕ
under_code g c = under_from 7 g c c 1

-- a class lifted: only the announcements change
abbrev pub lift_w : ℕ → GoalWords → GoalWords
lift_w c g = record { sh = g.sh; an = under_code c g.an; mask = g.mask }

-- a class's displacement, and the class lifted by it
abbrev pub displacement_w : List GoalWords → ℕ
displacement_w gs = least_code no_code gs

abbrev pub lifted_w : List GoalWords → List GoalWords
lifted_w gs = map (lift_w (displacement_w gs)) gs

-- the goals that a row says yes to
unfoldable pub picked_w : List Bool → List GoalWords → List GoalWords
picked_w bs gs = picked bs gs

-- the square of direct dependency, closed under going through a third
unfoldable pub closed_w : List ℕ → List GoalWords → Square
closed_w tab gs = close (range 0 (length gs)) (map (λ g. map (dep_w tab g) gs) gs)

-- what a class is ordered by
unfoldable pub class_key : List ℕ → List GoalWords → ℕ
class_key tab gs = pad (first_code no_code (gather (owed_by tab) gs))

abbrev pub class_before_w : List ℕ → List GoalWords → List GoalWords → Bool
class_before_w tab a b = ltb (class_key tab a) (class_key tab b)

unfoldable pub classes_w : List ℕ → List GoalWords → List (List GoalWords)
classes_w tab gs = sort (class_before_w tab) (map (λ r. picked_w r gs) (rows_from 0 (closed_w tab gs)))

-- a goal that is reduced to nothing is announced
abbrev pub announces : List ℕ → ℕ → ℕ → GoalWords → List GoalWords
announces tab c f g = cond (eqb (reduct tab c f g) 0) (g ∷ []) []

abbrev pub ann_key : GoalWords → ℕ
ann_key g = 16 * pad g.an + g.sh

unfoldable pub outputs_w : List ℕ → ℕ → ℕ → List GoalWords → List GoalWords
outputs_w tab c f gs = sort (λ g h. ltb (ann_key g) (ann_key h)) (gather (announces tab c f) gs)
