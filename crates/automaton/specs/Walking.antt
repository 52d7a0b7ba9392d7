-- Reachable states, and the walk over the positions of a score, for any choice at each step.
--   Reach          a state is the initial one, or the lifting of a class of a derivative of a reachable one
--   Setting        symbols and shapes within the limits of document 01; setting_of: they are one
--   Scored         a setting and a score of its symbols
--   calculus Reachable   bare positions, for the setting's shapes; the states reachable with its symbols
--   Partner Alike  states that are equal as sets: each goal has one of the same shape, announcement and obligations in the other
--   Item           a state, and the position of the score where it stands
--   covers sees    a state covers the positions at and under those that it owes; an item sees them from where it stands
--   one waits times   how many items see a position, how often it was read
--   looks          the position that an item reads next: where it stands, followed by its state's label
--   goes_on follows the items that come of an item after a symbol of n children was read, one for each class of the derivative
--   placed announces   what it announces then, and where
--   Goes           items that go on for these: at the same places, with states that are equal as sets and reachable
--   Walked         "a step takes item i; later ones close up": what waits, the positions read, and what was announced where
use Rattle.std.specs.Prelude.{◌≡◌, Bool, true, false, List, [], ◌∷◌, ◌++◌, map, ℕ}
use Rattle.std.proofs.Math.Option.{some}
use Rattle.std.proofs.Math.ListN.{get_elem?}
use Rattle.kinds.specs.Positions.{Pos, prefix}
use Rattle.kinds.specs.Lists.{same, any, sum}
use Rattle.kinds.specs.Members.{◌∈◌, ◌⊆◌}
use Rattle.term.specs.Terms.{Term, node, Terms, count}
use Rattle.term.specs.Admitted.{Limits, IsScore}
use Rattle.term.specs.Places.{sub}
use Rattle.automaton.specs.Goals.{Goal, State, Calculus, Announcement, all_obs, initial, label, deriv, outputs}
use Rattle.automaton.specs.Classes.{classes, gcp, lift}
use Rattle.automaton.specs.Bare.{bare}

-- for symbols with these numbers of children
pub data Reach {O : Type 0} (K : Calculus O) (ar : List ℕ) : State O → Type 0 where
  init : Reach K ar (initial K)
  next : {s k : State O} (f n : ℕ) → Reach K ar s → get_elem? ar f ≡ some n → k ∈ classes K (deriv K s f n) → Reach K ar (lift K k)

pub record Setting : Type 0 where
  -- the symbols' numbers of children
  pub symbols : List ℕ
  pub shapes : List Term
  pub limits : Limits symbols shapes

abbrev pub setting_of : {ar : List ℕ} {shapes : List Term} → Limits ar shapes → Setting
setting_of {ar} {shapes} limits = record { symbols = ar; shapes = shapes; limits = limits }

pub record Scored : Type 0 where
  pub setting : Setting
  pub score : Term
  pub is_score : IsScore setting.symbols score

abbrev pub calculus : Setting → Calculus Pos
calculus S = bare S.shapes

abbrev pub Reachable : Setting → State Pos → Type 0
Reachable S s = Reach (calculus S) S.symbols s

pub record Partner (s : State Pos) (g : Goal Pos) : Type 0 where
  pub goal : Goal Pos
  pub inside : goal ∈ s
  pub shape : goal.shape ≡ g.shape
  pub ann : goal.ann ≡ g.ann
  pub less : goal.obs ⊆ g.obs
  pub more : g.obs ⊆ goal.obs

pub record Alike (s s' : State Pos) : Type 0 where
  pub to : (g : Goal Pos) → g ∈ s → Partner s' g
  pub fro : (g : Goal Pos) → g ∈ s' → Partner s g

pub record Item : Type 0 where
  pub state : State Pos
  pub at : Pos

abbrev pub covers : State Pos → Pos → Bool
covers s q = any (λ o. prefix o q) (all_obs s)

abbrev pub sees : Item → Pos → Bool
sees it q = any (λ o. prefix (it.at ++ o) q) (all_obs it.state)

abbrev pub one : Bool → ℕ
one true = 1
one false = 0

abbrev pub waits : Pos → List Item → ℕ
waits q items = sum (map (λ j. one (sees j q)) items)

abbrev pub times : Pos → List Pos → ℕ
times q read = sum (map (λ p. one (same p q)) read)

module _ (S : Setting) where
  abbrev pub looks : Item → Pos
  looks it = it.at ++ label (calculus S) it.state

  -- a class of the derivative, lifted, where its greatest common prefix leads
  abbrev pub goes_on : Item → State Pos → Item
  goes_on it k = record { state = lift (calculus S) k; at = it.at ++ gcp k }

  abbrev pub follows : Item → ℕ → ℕ → List Item
  follows it f n = map (goes_on it) (classes (calculus S) (deriv (calculus S) it.state f n))

  abbrev pub placed : Item → Announcement → Announcement
  placed it a = record { shape = a.shape; at = it.at ++ a.at }

  -- what an item announces where a symbol of n children is read
  abbrev pub announces : Item → ℕ → ℕ → List Announcement
  announces it f n = map (placed it) (outputs (calculus S) it.state f n)

  pub data Goes : List Item → List Item → Type 0 where
    none_go : Goes [] []
    one_goes : {j j' : Item} {js js' : List Item} → j'.at ≡ j.at → Alike j.state j'.state → Reachable S j'.state → Goes js js'
        → Goes (j ∷ js) (j' ∷ js')

pub data Walked (C : Scored) : List Item → List Pos → List Announcement → Type 0 where
  begin : Walked C (record { state = initial (calculus C.setting); at = [] } ∷ []) [] []
  step : (before after : List Item) (read : List Pos) (told : List Announcement) (it : Item) (f : ℕ) (ts : Terms) (js : List Item)
      → Walked C (before ++ (it ∷ after)) read told
      → sub C.score (looks C.setting it) ≡ some (node f ts)
      → Goes C.setting (follows C.setting it f (count ts)) js
      → Walked C (before ++ (after ++ js)) (read ++ (looks C.setting it ∷ [])) (told ++ announces C.setting it f (count ts))
