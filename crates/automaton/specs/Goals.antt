-- Match goals and derivatives: document 000, sections 4.1, 4.2, 4.5 and 4.6, over any kind of obligation that stands at a position.
-- The paper's own kind is in Paper; Bare has the kind that words hold. A set of goals is a list.
--   Goal           mo → ℓ@p: "in order to announce a match for pattern ℓ at position p, we are obliged to observe" mo; ℓ by its number
--   Calculus       how a kind of obligation is placed, made, met, lifted and compared
--   is_root        "a match goal of the form mo → ℓ@ε is called a root goal"
--   has            is p among the positions of an obligation
--   first          the first position in document order
--   label          "the first position, in document order, among the obligations of its goals that announce at the root"
--   initial        s₀ = { ℓ@ε → ℓ@ε | ℓ ∈ L }
--   met            the goals that expect f at p, reduced
--   deriv          deriv(s, f) = unchanged ∪ reduced ∪ fresh, f a symbol of n children
--   Announcement   ℓ@p
--   outputs        η(s, f), "by position in document order and then shape"
use Rattle.std.specs.Prelude.{List, [], ◌∷◌, ◌++◌, map, Bool, true, false, cond, not, ◌&&◌, ◌||◌, ℕ, ltb}
use Rattle.kinds.specs.Lists.{same, filter, any, sort, gather, range, is_nil}
use Rattle.kinds.specs.Positions.{Pos, before}

pub record Goal (O : Type 0) : Type 0 where
  pub shape : ℕ
  pub ann : Pos
  pub obs : List O

abbrev pub State : Type 0 → Type 0
State O = List (Goal O)

pub record Calculus (O : Type 0) : Type 0 where
  -- where it stands
  pub at : O → Pos
  -- the fresh goals ℓ@p → ℓ@p
  pub fresh : Pos → List (Goal O)
  -- is a pattern owed at p that begins with f
  pub expects : ℕ → Pos → Goal O → Bool
  -- what is owed after a symbol of n children was observed at p
  pub reduce : Pos → ℕ → Goal O → List O
  -- without the prefix c
  pub lifted : Pos → O → O
  pub alike : O → O → Bool

abbrev pub is_root : Pos → Bool
is_root [] = true
is_root (i ∷ p) = false

pub record Announcement : Type 0 where
  pub shape : ℕ
  pub at : Pos

abbrev pub ann_before : Announcement → Announcement → Bool
ann_before a b = before a.at b.at || (same a.at b.at && ltb a.shape b.shape)

module _ {O : Type 0} where
  abbrev pub all_obs : State O → List O
  all_obs s = gather (λ g. g.obs) s

  abbrev pub announcement : Goal O → Announcement
  announcement g = record { shape = g.shape; at = g.ann }

module _ {O : Type 0} (K : Calculus O) where
  abbrev pub has : Pos → List O → Bool
  has p os = any (λ o. same p (K.at o)) os

  abbrev pub first_from : Pos → List O → Pos
  first_from p [] = p
  first_from p (o ∷ os) = first_from (cond (before (K.at o) p) (K.at o) p) os

  abbrev pub first : List O → Pos
  first [] = []
  first (o ∷ os) = first_from (K.at o) os

  abbrev pub label : State O → Pos
  label s = first (all_obs (filter (λ g. is_root g.ann) s))

  abbrev pub initial : State O
  initial = K.fresh []

  abbrev pub reduced : Pos → ℕ → Goal O → Goal O
  reduced p n g = record { shape = g.shape; ann = g.ann; obs = K.reduce p n g }

  abbrev pub met : State O → ℕ → ℕ → State O
  met s f n = let p = label s in map (reduced p n) (filter (K.expects f p) s)

  abbrev pub deriv : State O → ℕ → ℕ → State O
  deriv s f n =
      let p = label s in
      filter (λ g. not (has p g.obs)) s
      ++ (filter (λ g. not (is_nil g.obs)) (met s f n)
      ++ gather (λ i. K.fresh (p ++ (i ∷ []))) (range 1 n))

  abbrev pub outputs : State O → ℕ → ℕ → List Announcement
  outputs s f n = sort ann_before (map announcement (filter (λ g. is_nil g.obs) (met s f n)))
