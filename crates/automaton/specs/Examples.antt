-- Inside: document 000's running example, ℓ = f(f(ω, g(ω)), g(ω)), computed: Examples 4.1 to 4.6. The paper takes the second of two labels in state s₁ where
-- document 01 takes the first, so its examples stand here with f's arguments turned round.
use Rattle.std.specs.Prelude.{◌≡◌, refl, [], ◌∷◌, map, length, get_or}
use Rattle.kinds.specs.Positions.{Pos}
use Rattle.term.specs.Terms.{Term, blank, node, tnil, tcons}
use Rattle.automaton.specs.Goals.{Goal, State, Calculus, label, initial, deriv, outputs}
use Rattle.automaton.specs.Classes.{classes, lift}
use Rattle.automaton.specs.Paper.{Ob, paper}

-- f(x, y) and g(ω); f is symbol 0, g is symbol 1
abbrev f : Term → Term → Term
f x y = node 0 (tcons x (tcons y tnil))

abbrev ω : Term
ω = blank 65535

abbrev g : Term
g = node 1 (tcons ω tnil)

abbrev ℓ : Term
ℓ = f (f ω g) g

abbrev turned : Term
turned = f g (f g ω)

abbrev K : Calculus Ob
K = paper (turned ∷ [])

-- t@q → ℓ@p
abbrev goal : Term → Pos → Pos → Goal Ob
goal t q p = record { shape = 0; ann = p; obs = record { pat = t; pos = q } ∷ [] }

-- t@q, u@r → ℓ@p
abbrev goal₂ : Term → Pos → Term → Pos → Pos → Goal Ob
goal₂ t q u r p = record { shape = 0; ann = p; obs = record { pat = t; pos = q } ∷ record { pat = u; pos = r } ∷ [] }

abbrev s₁ : State Ob
s₁ = get_or (classes K (deriv K (initial K) 0 2)) 0 []

-- the root goal, and a fresh goal at each argument
first_state : s₁ ≡ goal₂ g (1 ∷ []) (f g ω) (2 ∷ []) [] ∷ goal turned (1 ∷ []) (1 ∷ []) ∷ goal turned (2 ∷ []) (2 ∷ []) ∷ []
first_state = refl

-- Example 4.2: unchanged, reduced and fresh; the goal at 1 disappears, what stands below it does not
example_4_2 : deriv K s₁ 1 1 ≡ goal turned (2 ∷ []) (2 ∷ []) ∷ goal (f g ω) (2 ∷ []) [] ∷ goal turned (1 ∷ 1 ∷ []) (1 ∷ 1 ∷ []) ∷ []
example_4_2 = refl

-- a mismatch of every goal leaves the fresh ones
all_mismatched : deriv K (initial K) 1 1 ≡ goal turned (1 ∷ []) (1 ∷ []) ∷ []
all_mismatched = refl

-- Example 4.3: two classes, in the order of their first obligation positions, 1.1 and 2
example_4_3 : classes K (deriv K s₁ 1 1) ≡ (goal turned (1 ∷ 1 ∷ []) (1 ∷ 1 ∷ []) ∷ []) ∷
    (goal turned (2 ∷ []) (2 ∷ []) ∷ goal (f g ω) (2 ∷ []) [] ∷ []) ∷ []
example_4_3 = refl

abbrev s₂ : State Ob
s₂ = get_or (classes K (deriv K s₁ 1 1)) 1 []

-- Example 4.4: the goals at 2.1 and 2.2 are dependent through a third, so all four goals are one class
example_4_4 : map length (classes K (deriv K s₂ 0 2)) ≡ 4 ∷ []
example_4_4 = refl

-- Example 4.5: the class at 1.1 is lifted to the initial state, the other one is lifted by nothing
example_4_5 : lift K (get_or (classes K (deriv K s₁ 1 1)) 0 []) ≡ initial K
example_4_5 = refl

-- Example 4.6: the last goal's obligation is met, and it is announced
example_4_6 : outputs K (get_or (classes K (deriv K s₂ 0 2)) 0 []) 1 1 ≡ record { shape = 0; at = [] } ∷ []
example_4_6 = refl

-- ℓ as the paper has it, after f and f again
abbrev twice : State Ob
twice = let p = paper (ℓ ∷ []) in deriv p (deriv p (initial p) 0 2) 0 2

-- Example 4.1, of labels: the first position of a root goal is 1.2, though another goal has an obligation at 1.1
example_4_1 : label (paper (ℓ ∷ [])) twice ≡ 1 ∷ 2 ∷ []
example_4_1 = refl
