-- The states that scratch holds.
--   states_length states_at                       how many; each by its number
--   place_all place_here place_next place_end     the first that is equal to one
--   sets_in                                       a run, read again
--   spared_…                                      words written behind the states: these stay
--   states_more kept_more more_behind             one more state
use mathlib.Core.Path.{◌≡◌, refl, ap, ap₂, sym, ◌∙◌}
use mathlib.Core.List.{List, [], ◌∷◌, ◌++◌, map}
use mathlib.Core.Bool.{Bool, true, false}
use Prim.Native.Nat.{ℕ, zero, suc, ◌+◌, ◌-◌, ◌<◌, ◌≤◌}
use native.Mathlib.Omega.{arith}
use native.Mathlib.Nat.{sub-zero, zero-add}
use native.Mathlib.Numerals.{add-one}
use native.Mathlib.Decide.{ℕ_discrete}
use lib.ListN.{length, get_or, set, length-set, length-map}
use lib.Seq.{sets, length-sets, drop-set-lt, get_or-set_same, get_or-set_other, get_or-take}
use Rattle.kinds.specs.Lists.{find, range, or_else}
use Rattle.kinds.proofs.Members.{length_range, in_range}
use Rattle.kinds.proofs.ListLaws.{map_append, map_same, range_next, range_at, sets_at, sets_before, sets_behind}
use Rattle.goals.specs.GoalWords.{GoalWords, goals_from}
use Rattle.goals.specs.WordStages.{same_state_w}
use Rattle.decoding.specs.WordMachine.{place_in, used_words, state_in, states_in, Kept}
use Rattle.states.specs.Meeting.{Behind, Spared, place_of}
use Rattle.goals.proofs.GoalLaws.{goals_same}

pub states_length : (sc : List ℕ) (m : ℕ) → length (states_in sc m) ≡ m
unfolding states_in
states_length sc m = length-map (range 0 m) (state_in sc) ∙ length_range 0 m

-- ---- the first that is equal to one
-- the test at places that are these two states'
pub same_there : (sc : List ℕ) (a b p q k n : ℕ) → p ≡ a → q ≡ b → (t : Bool) → t ≡ same_state_w (goals_from sc p k) (goals_from sc q n)
    → t ≡ same_state_w (goals_from sc a k) (goals_from sc b n)
same_there sc a b p q k n e d t h = h ∙ ap₂ (λ x y. same_state_w (goals_from sc x k) (goals_from sc y n)) e d

abbrev pub place_from : List GoalWords → List ℕ → ℕ → ℕ → ℕ
place_from k sc m i = or_else (find (same_state_w k) (map (state_in sc) (range i (m - i))) i) m

module _ (k : List GoalWords) (sc : List ℕ) (m : ℕ) where
  pub place_all : place_of (states_in sc m) k ≡ place_from k sc m 0
  unfolding place_of states_in
  place_all =
      ap (or_else (find (same_state_w k) (map (state_in sc) (range 0 m)) 0)) (length-map (range 0 m) (state_in sc) ∙ length_range 0 m)
      ∙ rw (sub-zero m) refl

  module _ (i : ℕ) where
    pub place_here : i < m → same_state_w k (state_in sc i) ≡ true → place_from k sc m i ≡ i
    place_here h e = let d : m - i ≡ suc (m - (i + 1)) = omega arith in rw (d, e) refl

    pub place_next : i < m → same_state_w k (state_in sc i) ≡ false → place_from k sc m i ≡ place_from k sc m (i + 1)
    place_next h e = let d : m - i ≡ suc (m - (i + 1)) = omega arith in rw (d, e, add-one i) refl

    pub place_end : m ≤ i → place_from k sc m i ≡ m
    place_end h = let d : m - i ≡ 0 = omega arith in rw d refl

pub sets_in : (vs l : List ℕ) (i x : ℕ) → i + length vs ≤ length l → x < length vs → get_or (sets l i vs) (i + x) 0 ≡ get_or vs x 0
sets_in [] l i x h g = absurd (omega arith)
sets_in (v ∷ vs) l i zero h g =
    let e : i + 0 ≡ i = omega arith in
    ap (λ n. get_or (sets (set l i v) (suc i) vs) n 0) e
    ∙ sets_at vs (set l i v) (suc i) i (omega arith)
    ∙ get_or-set_same l i v 0 (omega arith)
sets_in (v ∷ vs) l i (suc x) h g =
    let e : i + suc x ≡ suc i + x = omega arith in
    ap (λ n. get_or (sets (set l i v) (suc i) vs) n 0) e
    ∙ sets_in vs (set l i v) (suc i) x (rw (length-set l i v) (omega arith)) (omega arith)

-- ---- words written behind the states
pub spared_on : {m : ℕ} {a b c : List ℕ} → Spared m a b → Spared m b c → Spared m a c
spared_on s t = record { long = t.long ∙ s.long; states = t.states ∙ s.states; behind = t.behind ∙ s.behind }

pub spared_run : (m : ℕ) (sc xs : List ℕ) → place_in m + length xs ≤ used_words → Spared m sc (sets sc (place_in m) xs)
spared_run m sc xs h = record {
  long = length-sets sc (place_in m) xs;
  states = sets_before xs sc (place_in m) (place_in m) (omega arith);
  behind = sets_behind xs sc (place_in m) used_words h;
}

module _ {m : ℕ} {old new : List ℕ} (s : Spared m old new) (kept : Kept old m) where
  spared_word : (x : ℕ) → x < place_in m → get_or new x 0 ≡ get_or old x 0
  spared_word x h = sym (get_or-take (place_in m) new x 0 h) ∙ ap (λ l. get_or l x 0) s.states ∙ get_or-take (place_in m) old x 0 h

  pub spared_state : (i : ℕ) → i < m → state_in new i ≡ state_in old i
  spared_state i h =
      let few = kept.few in
      let count = kept.counts i h in
      ap (goals_from new (place_in i)) (spared_word i (omega arith))
      ∙ goals_same new old (place_in i) (place_in i) (get_or old i 0) (λ x g. spared_word (place_in i + x) (omega arith))

  pub spared_states : states_in new m ≡ states_in old m
  unfolding states_in
  spared_states = map_same (state_in new) (state_in old) (range 0 m) (λ i j. let h = in_range m 0 i j in spared_state i (omega arith))

  pub spared_kept : Kept new m
  spared_kept = record {
    long = rw s.long kept.long;
    few = kept.few;
    counts = λ i h. let few = kept.few in rw (spared_word i (omega arith)) (kept.counts i h);
  }

-- ---- one more state: its words are there, and its count is stored
module _ {sc : List ℕ} {m : ℕ} (kept : Kept sc m) (room : m < 128) (k : ℕ) where
  past_count : (x : ℕ) → (x ≡ m → ⊥) → get_or (set sc m k) x 0 ≡ get_or sc x 0
  past_count x d = get_or-set_other sc m x k 0 d

  count_here : get_or (set sc m k) m 0 ≡ k
  count_here = let long = kept.long in get_or-set_same sc m k 0 (omega arith)

  goals_stay : (i n : ℕ) → goals_from (set sc m k) (place_in i) n ≡ goals_from sc (place_in i) n
  goals_stay i n = goals_same (set sc m k) sc (place_in i) (place_in i) n (λ x h. past_count (place_in i + x) (λ e. omega arith))

  pub states_more : states_in (set sc m k) (m + 1) ≡ states_in sc m ++ (goals_from sc (place_in m) k ∷ [])
  unfolding states_in
  states_more =
      ap (λ n. map (state_in (set sc m k)) (range 0 n)) (add-one m)
      ∙ ap (map (state_in (set sc m k))) (range_next 0 m)
      ∙ map_append (state_in (set sc m k)) (range 0 m) ((0 + m) ∷ [])
      ∙ ap₂ (λ a b. a ++ (b ∷ []))
      (map_same (state_in (set sc m k)) (state_in sc) (range 0 m) (λ i j. let h = in_range m 0 i j in before i (omega arith)))
      (ap (state_in (set sc m k)) (zero-add m) ∙ ap (goals_from (set sc m k) (place_in m)) count_here ∙ goals_stay m k)
    where
      before : (i : ℕ) → i < m → state_in (set sc m k) i ≡ state_in sc i
      before i h = ap (goals_from (set sc m k) (place_in i)) (past_count i (λ e. omega arith)) ∙ goals_stay i (get_or sc i 0)

  pub kept_more : k ≤ 32 → Kept (set sc m k) (m + 1)
  kept_more few = record {
    long = rw (length-set sc m k) kept.long;
    few = omega arith;
    counts = λ i h. go i h (ℕ_discrete i m);
  }
    where
      go : (i : ℕ) → i < m + 1 → Dec (i ≡ m) → get_or (set sc m k) i 0 ≤ 32
      go i h (yes e) = rw (e, count_here) few
      go i h (no e) = rw (past_count i e) (kept.counts i (omega (arith, e)))

  -- what lies behind the used words stays
  pub more_behind : Behind sc (set sc m k)
  more_behind = drop-set-lt used_words sc m k (omega arith)

pub states_at : (sc : List ℕ) (m i : ℕ) (d : List GoalWords) → i < m → get_or (states_in sc m) i d ≡ state_in sc i
unfolding states_in
states_at sc m i d h = range_at (state_in sc) d m 0 i h ∙ ap (state_in sc) (zero-add i)
