-- The greatest common prefix of a class in words: the least announcement code.
use mathlib.Core.Path.{◌≡◌, refl, ap, ap₂, sym, ◌∙◌}
use mathlib.Core.List.{List, [], ◌∷◌, ◌++◌, append-nil}
use mathlib.Core.Bool.{cond}
use mathlib.Core.Logic.{◌⊎◌, inl, inr}
use Prim.Native.Nat.{ℕ, ◌≤◌, ◌<◌}
use native.Mathlib.Omega.{arith}
use native.Mathlib.Decide.{dec_lt}
use borrow.Author.Tests.{lt-ltb, le-ltb, eq-eqb}
use lib.Dec.{ltb}
use Rattle.automaton.specs.Classes.{gcp, gcp_from}
use Rattle.automaton.specs.Goals.{Goal, State}
use Rattle.kinds.proofs.Codes.{code_of_lem, code_le}
use Rattle.kinds.specs.Members.{◌∈◌, here, there}
use Rattle.kinds.specs.Positions.{Pos, code, common_prefix}
use Rattle.decoding.specs.Decoding.{state_meant, codes_end}
use Rattle.goals.specs.GoalWords.{GoalWords, no_code}
use Rattle.goals.specs.WordStages.{least_code, displacement_w}
use Rattle.term.specs.Terms.{Term}

-- a number that is met, and no number is less
pub record Met (t : ℕ) (gs : List GoalWords) : Type 0 where
  pub who : GoalWords
  pub at : who ∈ gs
  pub is : who.an ≡ t

pub least_is : (t best : ℕ) (gs : List GoalWords) → t ≤ best → ((g : GoalWords) → g ∈ gs → t ≤ g.an) → (best ≡ t) ⊎ Met t gs
    → least_code best gs ≡ t
unfolding least_code
least_is t best [] l f (inl e) = e
least_is t best [] l f (inr m) = elim m.at [ ]
least_is t best (g ∷ gs) l f w = go (dec_lt g.an best) w (λ b l' w'. least_is t b gs l' (λ h i. f h (there i)) w')
  where
    a : t ≤ g.an
    a = f g (here refl)

    later : (who : GoalWords) → who ∈ (g ∷ gs) → who.an ≡ t → (b : ℕ) → ((g.an ≡ t) → b ≡ t) → (b ≡ t) ⊎ Met t gs
    later who (here e) z b k = inl (k (ap (λ h. h.an) (sym e) ∙ z))
    later who (there m) z b k = inr (record { who = who; at = m; is = z })

    go : Dec (g.an < best) → (best ≡ t) ⊎ Met t (g ∷ gs) → ((b : ℕ) → t ≤ b → (b ≡ t) ⊎ Met t gs → least_code b gs ≡ t)
        → least_code (cond (ltb g.an best) g.an best) gs ≡ t
    go (yes d) (inl e) ih = absurd (omega (arith, a, d, e))
    go (yes d) (inr m) ih =
        ap (λ b. least_code (cond b g.an best) gs) (lt-ltb g.an best d)
        ∙ ih g.an a (later m.who m.at m.is g.an (λ z. z))
    go (no d) (inl e) ih = ap (λ b. least_code (cond b g.an best) gs) (le-ltb g.an best (omega arith)) ∙ ih best l (inl e)
    go (no d) (inr m) ih =
        ap (λ b. least_code (cond b g.an best) gs) (le-ltb g.an best (omega arith))
        ∙ ih best l (later m.who m.at m.is best (λ z. omega (arith, z, l, d)))

-- ---- on positions
join_append : (a p q : Pos) → common_prefix (a ++ p) (a ++ q) ≡ a ++ common_prefix p q
join_append [] p q = refl
join_append (i ∷ a) p q = rw (eq-eqb i i refl) (ap (λ x. i ∷ x) (join_append a p q))

join_nil : (p : Pos) → common_prefix p [] ≡ []
join_nil [] = refl
join_nil (i ∷ p) = refl

-- a state all of whose announcements lie at or below T, and one at T
pub data Tops (T : Pos) : (State Pos) → Type 0 where
  none : Tops T []
  more : {g : (Goal Pos)} {s : (State Pos)} (q : Pos) → g.ann ≡ T ++ q → Tops T s → Tops T (g ∷ s)

pub data TopIn (T : Pos) : (State Pos) → Type 0 where
  now : {g : (Goal Pos)} {s : (State Pos)} → g.ann ≡ T → TopIn T (g ∷ s)
  late : {g : (Goal Pos)} {s : (State Pos)} → TopIn T s → TopIn T (g ∷ s)

from_top : (T : Pos) (s : (State Pos)) → Tops T s → gcp_from T s ≡ T
from_top T [] none = refl
from_top T (g ∷ s) (more q e m) =
    ap (λ p. gcp_from p s) (ap₂ common_prefix (sym (append-nil T)) e ∙ join_append T [] q ∙ append-nil T) ∙ from_top T s m

from_any : (T q : Pos) (s : (State Pos)) → Tops T s → TopIn T s → gcp_from (T ++ q) s ≡ T
from_any T q [] _ x3 = elim x3 [ ]
from_any T q (g ∷ s) (more r e m) (now z) =
    ap (λ p. gcp_from p s) (ap (common_prefix (T ++ q)) (z ∙ sym (append-nil T)) ∙ join_append T q [] ∙ ap (λ x. T ++ x) (join_nil q) ∙ append-nil T)
    ∙ from_top T s m
from_any T q (g ∷ s) (more r e m) (late i) =
    ap (λ p. gcp_from p s) (ap (common_prefix (T ++ q)) e ∙ join_append T q r) ∙ from_any T (common_prefix q r) s m i

pub top_is_gcp : (T : Pos) (s : (State Pos)) → Tops T s → TopIn T s → gcp s ≡ T
top_is_gcp T [] _ x3 = elim x3 [ ]
top_is_gcp T (g ∷ s) (more q e m) (now z) = ap (λ p. gcp_from p s) z ∙ from_top T s m
top_is_gcp T (g ∷ s) (more q e m) (late i) = ap (λ p. gcp_from p s) e ∙ from_any T q s m i

module _ (shapes : List Term) (T : Pos) where
  above : (gs : List GoalWords) → ((g : GoalWords) → g ∈ gs → g.an < codes_end) → Tops T (state_meant shapes gs) → (g : GoalWords) → g ∈ gs
      → code T ≤ g.an
  above [] s _ g x4 = elim x4 [ ]
  above (h ∷ gs) s (more q e m) g (here z) =
      let c = code_of_lem 7 h.an (s h (here refl)) in
      let d = ap code e in
      let l = code_le T q in
      rw z (omega (arith, c, d, l))
  above (h ∷ gs) s (more q e m) g (there i) = above gs (λ k j. s k (there j)) m g i

  met : (gs : List GoalWords) → ((g : GoalWords) → g ∈ gs → g.an < codes_end) → TopIn T (state_meant shapes gs) → Met (code T) gs
  met [] s x'' = elim x'' [ ]
  met (h ∷ gs) s (now z) = record { who = h; at = here refl; is = sym (code_of_lem 7 h.an (s h (here refl))) ∙ ap code z }
  met (h ∷ gs) s (late i) = let w = met gs (λ k j. s k (there j)) i in record { who = w.who; at = there w.at; is = w.is }

  -- in words the greatest common prefix is the least code
  pub gcp_is : (gs : List GoalWords) → ((g : GoalWords) → g ∈ gs → g.an < codes_end) → Tops T (state_meant shapes gs)
      → TopIn T (state_meant shapes gs) → code T ≤ 65535
      → displacement_w gs ≡ code (gcp (state_meant shapes gs))
  gcp_is gs s m i l =
      least_is (code T) no_code gs l (above gs s m) (inr (met gs s i)) ∙ ap code (sym (top_is_gcp T (state_meant shapes gs) m i))
