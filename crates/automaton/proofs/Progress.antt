-- How far building has come is what exploring computes, for any construction.
--   drop_at drop_all at_middle find_some find_absent   laws of lists
--   meet_over meet_full meet_known meet_new   one class
--   Rest rest                             where building has come, what is explored is what going on from there computes
--   over_goals over_states all_met        so the stops and the end are those that are computed
--   Ends ends                             and what is computed is such a stop, or the end
--   plan_over_goals plan_over_states plan_too_long plan_made   the same for the plan, in words, where a state is the same as itself
--   PlanEnd plan_end
use mathlib.Core.Path.{◌≡◌, refl, ap, sym, ◌∙◌}
use mathlib.Core.Bool.{Bool, true, false, cond, ◌||◌}
use mathlib.Core.List.{List, [], ◌∷◌, ◌++◌, append_assoc, append-nil}
use mathlib.Core.Option.{Option, none, some}
use mathlib.Core.Logic.{◌⊎◌, inl, inr}
use Prim.Native.Nat.{ℕ, zero, suc, ◌+◌, ◌<◌, ◌≤◌}
use native.Mathlib.Omega.{arith}
use native.Mathlib.Decide.{dec_lt}
use lib.Dec.{ltb, leb}
use borrow.Author.Tests.{le-ltb}
use lib.ListN.{length, get_or, get_elem?, drop, length-append}
use Rattle.kinds.specs.Lists.{find}
use Rattle.kinds.specs.Members.{◌∈◌, here, there}
use Rattle.kinds.specs.declared.Reason.{Reason}
use Rattle.kinds.specs.declared.Reason.TheVariants.{ManyGoals, ManyStates}
use Rattle.kinds.proofs.Bools.{is_ltb, ltb_is, ltb_not, is_leb, leb_is, ltb_irrefl, not_true, false_true, or_l, or_r, neither}
use Rattle.kinds.proofs.Options.{none_not}
use Rattle.kinds.proofs.Places.{at_below, at_in, at_left, at_get_d, get_d_at, find_at, find_none}
use Rattle.automaton.specs.Exploring.{Construction, Succ, Block, Met, stopped, met, Made, refused, made}
use Rattle.automaton.specs.Exploring.{and_then, then_block, then_more, meet, meets, row, run, explored}
use Rattle.automaton.specs.FinalBlocks.{all_blocks}
use Rattle.automaton.specs.PlanWords.{Plan, halted, too_long, plan_of_lem, to_plan, planned}
use Rattle.automaton.specs.Progress.{Known, New, ClassAt, Reached, AllMet, NextClass, OverGoals, OverStates, words_of, TooLong, Fits}
use Rattle.automaton.specs.Progress as progress
use Rattle.automaton.proofs.BlocksAgain.{blocks_again}

-- ---- lists
drop_at : {A : Type 0} (xs : List A) (c : ℕ) {x : A} → get_elem? xs c ≡ some x → drop c xs ≡ x ∷ drop (suc c) xs
drop_at [] c e = none_not e
drop_at (y ∷ xs) zero {x} e = let z : y ≡ x = cc in rw z
drop_at (y ∷ xs) (suc c) e = drop_at xs c e

drop_all : {A : Type 0} (xs : List A) → drop (length xs) xs ≡ []
drop_all [] = refl
drop_all (x ∷ xs) = drop_all xs

at_middle : {A : Type 0} (a : List A) (x : A) (b : List A) → get_elem? (a ++ (x ∷ b)) (length a) ≡ some x
at_middle [] x b = refl
at_middle (y ∷ a) x b = at_middle a x b

find_some : {A : Type 0} (p : A → Bool) (s : List A) (c : ℕ) {x : A} → x ∈ s → p x ≡ true → (j : ℕ) × (find p s c ≡ some j)
find_some p (y ∷ s) c {x} m e = go (p y) refl m (λ i. find_some p s (suc c) i e)
  where
    go : (b : Bool) → p y ≡ b → x ∈ (y ∷ s) → (x ∈ s → (j : ℕ) × (find p s (suc c) ≡ some j)) → (j : ℕ)
        × (cond b (some c) (find p s (suc c)) ≡ some j)
    go true d i ih = (c, refl)
    go false d (here z) ih = false_true (sym d ∙ rw (← z) e)
    go false d (there i) ih = ih i
find_some {A = A} p [] c {x = x} m e = elim m [ ]

find_absent : {A : Type 0} (p : A → Bool) (s : List A) (c : ℕ) → ((x : A) → x ∈ s → p x ≡ false) → find p s c ≡ none
find_absent p [] c h = refl
find_absent p (y ∷ s) c h = rw (h y (here refl)) (find_absent p s (suc c) (λ x m. h x (there m)))

module _ {S : Type 0} (C : Construction S) where
  -- ---- one class
  module _ (ss : List S) (k : S) where
    pub meet_over : 32 < C.size k → meet C ss k ≡ stopped ManyGoals
    meet_over h = rw (is_ltb 32 (C.size k) h)

    small : C.size k ≤ 32 → ltb 32 (C.size k) ≡ false
    small h = not_true (ltb 32 (C.size k)) (λ e. let l = ltb_is 32 (C.size k) e in omega arith)

    pub meet_full : C.size k ≤ 32 → New C ss k → length ss ≡ 128 → meet C ss k ≡ stopped ManyStates
    meet_full h n l = rw (small h, find_absent (C.same (C.lift k)) ss 0 n, is_leb 128 (length ss) (omega arith))

    pub meet_new : C.size k ≤ 32 → New C ss k → length ss < 128
        → meet C ss k ≡ met (ss ++ (C.lift k ∷ [])) (record { to = length ss; by = C.gcp k } ∷ [])
    meet_new h n l =
        rw (small h, find_absent (C.same (C.lift k)) ss 0 n, not_true (leb 128 (length ss)) (λ e. let z = leb_is 128 (length ss) e in omega arith))

    pub meet_known : C.size k ≤ 32 → Known C ss k → (xs : List Succ) × (meet C ss k ≡ met ss xs)
    meet_known h n = let j = find_some (C.same (C.lift k)) ss 0 n.met n.equal in
        (record { to = j.0; by = C.gcp k } ∷ [], rw (small h, j.1))

  abbrev pub after : List Succ → Met S → Met S
  after xs m = and_then m (λ ss ys. met ss (xs ++ ys))

  after_none : (m : Met S) → after [] m ≡ m
  after_none (stopped r) = refl
  after_none (met ss ys) = refl

  after_after : (xs zs : List Succ) (m : Met S) → after xs (after zs m) ≡ after (xs ++ zs) m
  after_after xs zs (stopped r) = refl
  after_after xs zs (met ss ys) = ap (met ss) (sym (append_assoc xs zs ys))

  meets_on : (ss : List S) (k : S) (ks ss' : List S) (zs : List Succ) → meet C ss k ≡ met ss' zs → meets C ss (k ∷ ks) ≡ after zs (meets C ss' ks)
  meets_on ss k ks ss' zs e = ap (λ m. and_then m (λ a ys. after ys (meets C a ks))) e

  meets_stop : (ss : List S) (k : S) (ks : List S) (r : Reason) → meet C ss k ≡ stopped r → meets C ss (k ∷ ks) ≡ stopped r
  meets_stop ss k ks r e = ap (λ m. and_then m (λ a ys. after ys (meets C a ks))) e

  module _ (ar : List ℕ) where
    few : {ss : List S} {i f c : ℕ} → Reached C ar ss i f c → length ss ≤ 128
    few progress.begin = omega arith
    few (progress.known k r a h n) = few r
    few (progress.new {ss} k r a h n l) = let z = length-append ss (C.lift k ∷ []) in omega arith
    few (progress.next_symbol s n r a b e) = few r
    few (progress.next_state r l e) = few r

    -- ---- going on from there
    abbrev onward : ℕ → ℕ → Made S → Made S
    onward fuel i m = then_more m (λ ss bs. run C ar fuel (suc i) ss bs)

    -- the classes ks are left, of those before xs was made
    abbrev from_class : ℕ → S → ℕ → ℕ → List Block → Met S → Made S
    from_class i s f n bs m = then_block i (C.outputs s f n) bs m (λ ss bs₁. row C i s (suc f) (drop (suc f) ar) ss bs₁)

    record OnSymbol (ss : List S) (i f : ℕ) (s : S) : Type 0 where
      pub fuel : ℕ
      pub blocks : List Block
      pub left : fuel + suc i ≡ 128
      pub is : explored C ar ≡ onward fuel i (row C i s f (drop f ar) ss blocks)

    record OnClass (ss : List S) (i f c : ℕ) (s : S) (n : ℕ) : Type 0 where
      pub fuel : ℕ
      pub blocks : List Block
      pub succs : List Succ
      pub left : fuel + suc i ≡ 128
      pub is : explored C ar ≡ onward fuel i (from_class i s f n blocks (after succs (meets C ss (drop c (C.classes s f n)))))

    data Rest (ss : List S) (i : ℕ) : ℕ → ℕ → Type 0 where
      at_state : (fuel : ℕ) (bs : List Block) → fuel + i ≡ 128 → explored C ar ≡ run C ar fuel i ss bs → Rest ss i 0 0
      at_symbol : {f : ℕ} (s : S) → get_elem? ss i ≡ some s → OnSymbol ss i f s → Rest ss i f 0
      at_class : {f c : ℕ} (s : S) (n : ℕ) → get_elem? ss i ≡ some s → get_elem? ar f ≡ some n → OnClass ss i f c s n → Rest ss i f c

    state_on : (ss : List S) (i : ℕ) (s : S) (fuel : ℕ) (bs : List Block) → length ss ≤ 128 → get_elem? ss i ≡ some s → fuel + i ≡ 128
        → explored C ar ≡ run C ar fuel i ss bs → OnSymbol ss i 0 s
    state_on ss i s zero bs l a fi e = let h = at_below ss i a in absurd (omega arith)
    state_on ss i s (suc fuel) bs l a fi e =
        let h = at_below ss i a in
        record { fuel = fuel; blocks = bs; left = omega arith; is = e ∙ rw (is_ltb i (length ss) h, get_d_at ss i C.start a) }

    symbol_on : (ss : List S) (i f : ℕ) (s : S) (n : ℕ) → get_elem? ar f ≡ some n → OnSymbol ss i f s → OnClass ss i f 0 s n
    symbol_on ss i f s n b o = record {
      fuel = o.fuel;
      blocks = o.blocks;
      succs = [];
      left = o.left;
      is = o.is ∙ ap (λ l. onward o.fuel i (row C i s f l ss o.blocks)) (drop_at ar f b)
          ∙ ap (λ m. onward o.fuel i (from_class i s f n o.blocks m)) (sym (after_none (meets C ss (C.classes s f n))));
    }

    to_class : {ss : List S} {i f c : ℕ} → length ss ≤ 128 → Rest ss i f c → (s : S) (n : ℕ) → get_elem? ss i ≡ some s → get_elem? ar f ≡ some n
        → OnClass ss i f c s n
    to_class {ss} {i} l (at_state fuel bs fi e) s n a b = symbol_on ss i 0 s n b (state_on ss i s fuel bs l a fi e)
    to_class {ss} {i} l (at_symbol {f} s' a' o) s n a b = let z : s' ≡ s = cc in symbol_on ss i f s n b (rw z at o)
    to_class {ss} {i} l (at_class {f} {c} s' n' a' b' o) s n a b =
        let z : s' ≡ s = cc in
        let y : n' ≡ n = cc in
        rw (z, y) at o

    from_class_lem : {ss : List S} {i f c : ℕ} {k : S} → length ss ≤ 128 → Rest ss i f c → (a : ClassAt C ar ss i f c k)
        → OnClass ss i f c a.state a.children
    from_class_lem l x a = to_class l x a.state a.children a.state_is a.children_are

    class_on : {ss : List S} {i f c : ℕ} (s : S) (n : ℕ) (k : S) (ss' : List S) (zs : List Succ) → get_elem? (C.classes s f n) c ≡ some k
        → meet C ss k ≡ met ss' zs → OnClass ss i f c s n → OnClass ss' i f (suc c) s n
    class_on {ss} {i} {f} {c} s n k ss' zs a e o = record {
      fuel = o.fuel;
      blocks = o.blocks;
      succs = o.succs ++ zs;
      left = o.left;
      is = o.is ∙ ap (λ m. onward o.fuel i (from_class i s f n o.blocks m))
          (ap (λ l. after o.succs (meets C ss l)) (drop_at (C.classes s f n) c a)
          ∙ ap (after o.succs) (meets_on ss k (drop (suc c) (C.classes s f n)) ss' zs e)
          ∙ after_after o.succs zs (meets C ss' (drop (suc c) (C.classes s f n))));
    }

    class_stop : {ss : List S} {i f c : ℕ} (s : S) (n : ℕ) (k : S) (r : Reason) → get_elem? (C.classes s f n) c ≡ some k → meet C ss k ≡ stopped r
        → OnClass ss i f c s n → explored C ar ≡ refused r i
    class_stop {ss} {i} {f} {c} s n k r a e o =
        o.is ∙ ap (λ m. onward o.fuel i (from_class i s f n o.blocks m))
        (ap (λ l. after o.succs (meets C ss l)) (drop_at (C.classes s f n) c a)
        ∙ ap (after o.succs) (meets_stop ss k (drop (suc c) (C.classes s f n)) r e))

    class_end : {ss : List S} {i f c : ℕ} (s : S) (n : ℕ) → c ≡ length (C.classes s f n) → OnClass ss i f c s n → OnSymbol ss i (suc f) s
    class_end {ss} {i} {f} {c} s n e o = record {
      fuel = o.fuel;
      blocks = o.blocks ++ (record { out = C.outputs s f n; succs = o.succs ++ [] } ∷ []);
      left = o.left;
      is = o.is ∙ ap (λ l. onward o.fuel i (from_class i s f n o.blocks (after o.succs (meets C ss l))))
          (ap (λ x. drop x (C.classes s f n)) e ∙ drop_all (C.classes s f n));
    }

    symbol_end : {ss : List S} {i f : ℕ} (s : S) → f ≡ length ar → OnSymbol ss i f s → Rest ss (suc i) 0 0
    symbol_end {ss} {i} {f} s e o = at_state o.fuel o.blocks o.left
        (o.is ∙ ap (λ l. onward o.fuel i (row C i s f l ss o.blocks)) (ap (λ x. drop x ar) e ∙ drop_all ar))

    next_rest : {ss : List S} {i f : ℕ} → length ss ≤ 128 → i < length ss → f ≡ length ar → Rest ss i f 0 → Rest ss (suc i) 0 0
    next_rest {ss} {i} l h e (at_state fuel bs fi d) =
        let s = get_or ss i C.start in
        symbol_end s e (state_on ss i s fuel bs l (at_get_d ss i C.start h) fi d)
    next_rest l h e (at_symbol s a o) = symbol_end s e o
    next_rest l h e (at_class {f} s n a b o) = let z = at_below ar f b in absurd (omega arith)

    rest : {ss : List S} {i f c : ℕ} → Reached C ar ss i f c → Rest ss i f c
    rest progress.begin = at_state 128 [] (omega arith) refl
    rest (progress.known {ss} k r a h n) =
        let m = meet_known ss k h n in
        at_class a.state a.children a.state_is a.children_are
        (class_on a.state a.children k ss m.0 a.class_is m.1 (from_class_lem (few r) (rest r) a))
    rest (progress.new {ss} {i} k r a h n l) =
        at_class a.state a.children (at_left ss (C.lift k ∷ []) i a.state_is) a.children_are
        (class_on a.state a.children k (ss ++ (C.lift k ∷ [])) _ a.class_is (meet_new ss k h n l) (from_class_lem (few r) (rest r) a))
    rest (progress.next_symbol s n r a b e) = at_symbol s a (class_end s n e (to_class (few r) (rest r) s n a b))
    rest (progress.next_state r l e) = next_rest (few r) l e (rest r)

    next_stop : {i : ℕ} (r : Reason) (k : NextClass C ar i) → meet C k.states k.part ≡ stopped r → explored C ar ≡ refused r i
    next_stop r k e =
        let a = k.is in
        class_stop a.state a.children k.part r a.class_is e (from_class_lem (few k.reached) (rest k.reached) a)

    pub over_goals : (i : ℕ) → OverGoals C ar i → explored C ar ≡ refused ManyGoals i
    over_goals i o = next_stop ManyGoals o.class (meet_over o.class.states o.class.part o.over)

    pub over_states : (i : ℕ) → OverStates C ar i → explored C ar ≡ refused ManyStates i
    over_states i o = next_stop ManyStates o.class (meet_full o.class.states o.class.part o.few o.is_new o.full)

    pub all_met : (ss : List S) → AllMet C ar ss → (bs : List Block) × (explored C ar ≡ made ss bs)
    all_met ss r = go (rest r)
      where
        stays : (fuel : ℕ) (bs : List Block) → run C ar fuel (length ss) ss bs ≡ made ss bs
        stays zero bs = refl
        stays (suc fuel) bs = rw (ltb_irrefl (length ss))

        go : Rest ss (length ss) 0 0 → (bs : List Block) × (explored C ar ≡ made ss bs)
        go (at_state fuel bs fi e) = (bs, e ∙ stays fuel bs)
        go (at_symbol s a o) = let h = at_below ss (length ss) a in absurd (omega arith)
        go (at_class s n a b o) = let h = at_below ss (length ss) a in absurd (omega arith)

    -- ---- what is computed
    pub data Ends : Made S → Type 0 where
      at_goals : {i : ℕ} → OverGoals C ar i → Ends (refused ManyGoals i)
      at_states : {i : ℕ} → OverStates C ar i → Ends (refused ManyStates i)
      at_end : {ss : List S} {bs : List Block} → AllMet C ar ss → Ends (made ss bs)

    data MeetsEnd (i : ℕ) (s : S) (f n : ℕ) : Met S → Type 0 where
      meets_halt : {r : Reason} → Ends (refused r i) → MeetsEnd i s f n (stopped r)
      meets_done : {ss : List S} {xs : List Succ} {c : ℕ} → c ≡ length (C.classes s f n) → Reached C ar ss i f c → get_elem? ss i ≡ some s
          → MeetsEnd i s f n (met ss xs)

    meets_after : {i : ℕ} {s : S} {f n : ℕ} (zs : List Succ) {m : Met S} → MeetsEnd i s f n m → MeetsEnd i s f n (after zs m)
    meets_after zs (meets_halt e) = meets_halt e
    meets_after zs (meets_done e r a) = meets_done e r a

    meets_end : (i : ℕ) (s : S) (f n : ℕ) → get_elem? ar f ≡ some n → (ks pre : List S) (c : ℕ) (ss : List S) → c ≡ length pre
        → C.classes s f n ≡ pre ++ ks → Reached C ar ss i f c → get_elem? ss i ≡ some s → MeetsEnd i s f n (meets C ss ks)
    meets_end i s f n b [] pre c ss ec e r a = meets_done (ec ∙ ap length (sym (e ∙ append-nil pre))) r a
    meets_end i s f n b (k ∷ ks) pre c ss ec e r a =
        let z = length-append pre (k ∷ []) in
        goals (dec_lt 32 (C.size k)) (λ ss' r' a'. meets_end i s f n b ks (pre ++ (k ∷ [])) (suc c) ss' (omega arith)
        (e ∙ sym (append_assoc pre (k ∷ []) ks)) r' a')
      where
        at : ClassAt C ar ss i f c k
        at =
            let here-is = ap (λ l. get_elem? l c) e ∙ ap (get_elem? (pre ++ (k ∷ ks))) ec ∙ at_middle pre k ks in
            record { state = s; children = n; state_is = a; children_are = b; class_is = here-is }

        next : NextClass C ar i
        next = record { states = ss; symbol = f; number = c; part = k; reached = r; is = at }

        on : (ss' : List S) (zs : List Succ) → meet C ss k ≡ met ss' zs → MeetsEnd i s f n (meets C ss' ks) → MeetsEnd i s f n (meets C ss (k ∷ ks))
        on ss' zs d m = rw (meets_on ss k ks ss' zs d) (meets_after zs m)

        states : C.size k ≤ 32 → New C ss k → Dec (length ss < 128)
            → ((ss' : List S) → Reached C ar ss' i f (suc c) → get_elem? ss' i ≡ some s → MeetsEnd i s f n (meets C ss' ks))
            → MeetsEnd i s f n (meets C ss (k ∷ ks))
        states h w (yes l) ih =
            on (ss ++ (C.lift k ∷ [])) _ (meet_new ss k h w l)
            (ih (ss ++ (C.lift k ∷ [])) (progress.new k r at h w l) (at_left ss (C.lift k ∷ []) i a))
        states h w (no l) ih =
            let z = few r in
            let full : length ss ≡ 128 = omega arith in
            rw (meets_stop ss k ks ManyStates (meet_full ss k h w full))
            (meets_halt (at_states (record { class = next; few = h; is_new = w; full = full })))

        placed : C.size k ≤ 32 → (o : Option ℕ) → find (C.same (C.lift k)) ss 0 ≡ o
            → ((ss' : List S) → Reached C ar ss' i f (suc c) → get_elem? ss' i ≡ some s → MeetsEnd i s f n (meets C ss' ks))
            → MeetsEnd i s f n (meets C ss (k ∷ ks))
        placed h none d ih = states h (find_none (C.same (C.lift k)) ss 0 d) (dec_lt (length ss) 128) ih
        placed h (some j) d ih =
            let t = find_at (C.same (C.lift k)) ss 0 j d in
            let w : Known C ss k = record { state = t.2.0; met = at_in ss t.0 t.2.1; equal = t.2.2 } in
            let m = meet_known ss k h w in
            on ss m.0 m.1 (ih ss (progress.known k r at h w) a)

        goals : Dec (32 < C.size k) → ((ss' : List S) → Reached C ar ss' i f (suc c) → get_elem? ss' i ≡ some s → MeetsEnd i s f n (meets C ss' ks))
            → MeetsEnd i s f n (meets C ss (k ∷ ks))
        goals (yes h) ih =
            rw (meets_stop ss k ks ManyGoals (meet_over ss k h))
            (meets_halt (at_goals (record { class = next; over = h })))
        goals (no h) ih = placed (omega arith) (find (C.same (C.lift k)) ss 0) refl ih

    data RowEnd (i : ℕ) : Made S → Type 0 where
      row_halt : {r : Reason} → Ends (refused r i) → RowEnd i (refused r i)
      row_done : {ss : List S} {bs : List Block} {f : ℕ} → f ≡ length ar → Reached C ar ss i f 0 → i < length ss → RowEnd i (made ss bs)

    row_end : (i : ℕ) (s : S) (ns pre : List ℕ) (f : ℕ) (ss : List S) (bs : List Block) → f ≡ length pre → ar ≡ pre ++ ns → Reached C ar ss i f 0
        → get_elem? ss i ≡ some s → RowEnd i (row C i s f ns ss bs)
    row_end i s [] pre f ss bs ef e r a = row_done (ef ∙ ap length (sym (e ∙ append-nil pre))) r (at_below ss i a)
    row_end i s (n ∷ ns) pre f ss bs ef e r a =
        go (meets_end i s f n b (C.classes s f n) [] 0 ss refl refl r a)
        (λ ss₁ bs₁ r₁ a₁. row_end i s ns (pre ++ (n ∷ [])) (suc f) ss₁ bs₁ (longer f ef) (e ∙ sym (append_assoc pre (n ∷ []) ns)) r₁ a₁)
      where
        longer : (f : ℕ) → f ≡ length pre → suc f ≡ length (pre ++ (n ∷ []))
        longer f d = let z = length-append pre (n ∷ []) in omega arith

        b : get_elem? ar f ≡ some n
        b = ap (λ l. get_elem? l f) e ∙ ap (get_elem? (pre ++ (n ∷ ns))) ef ∙ at_middle pre n ns

        go : {m : Met S} → MeetsEnd i s f n m
            → ((ss₁ : List S) (bs₁ : List Block) → Reached C ar ss₁ i (suc f) 0 → get_elem? ss₁ i ≡ some s → RowEnd i (row C i s (suc f) ns ss₁ bs₁))
            → RowEnd i (then_block i (C.outputs s f n) bs m (λ ss₁ bs₁. row C i s (suc f) ns ss₁ bs₁))
        go (meets_halt d) ih = row_halt d
        go (meets_done {ss = ss₁} {xs = xs} d r₁ a₁) ih =
            ih ss₁ (bs ++ (record { out = C.outputs s f n; succs = xs } ∷ [])) (progress.next_symbol s n r₁ a₁ b d) a₁

    run_end : (fuel i : ℕ) (ss : List S) (bs : List Block) → fuel + i ≡ 128 → Reached C ar ss i 0 0 → i ≤ length ss → Ends (run C ar fuel i ss bs)
    run_end zero i ss bs fi r l = let z = few r in let e : i ≡ length ss = omega arith in at_end (rw e at r)
    run_end (suc fuel) i ss bs fi r l = go (ltb i (length ss)) refl (λ ss₁ bs₁ r₁ l₁. run_end fuel (suc i) ss₁ bs₁ (omega arith) r₁ l₁)
      where
        more : {m : Made S} → RowEnd i m
            → ((ss₁ : List S) (bs₁ : List Block) → Reached C ar ss₁ (suc i) 0 0 → suc i ≤ length ss₁ → Ends (run C ar fuel (suc i) ss₁ bs₁))
            → Ends (then_more m (λ ss₁ bs₁. run C ar fuel (suc i) ss₁ bs₁))
        more (row_halt d) ih = d
        more (row_done {ss = ss₁} {bs = bs₁} e r₁ h) ih = ih ss₁ bs₁ (progress.next_state r₁ h e) h

        go : (b : Bool) → ltb i (length ss) ≡ b
            → ((ss₁ : List S) (bs₁ : List Block) → Reached C ar ss₁ (suc i) 0 0 → suc i ≤ length ss₁ → Ends (run C ar fuel (suc i) ss₁ bs₁))
            → Ends (cond b (then_more (row C i (get_or ss i C.start) 0 ar ss bs) (λ ss₁ bs₁. run C ar fuel (suc i) ss₁ bs₁)) (made ss bs))
        go true e ih = more (row_end i (get_or ss i C.start) ar [] 0 ss bs refl refl r (at_get_d ss i C.start (ltb_is i (length ss) e))) ih
        go false e ih = let h = ltb_not i (length ss) e in let z : i ≡ length ss = omega arith in at_end (rw z at r)

    pub ends : Ends (explored C ar)
    ends = run_end 128 0 (C.start ∷ []) [] (omega arith) progress.begin (omega arith)

-- ---- plans
long_is : (room : ℕ) (w : List ℕ) → TooLong room w → (ltb room (length w) || ltb 65535 (length w)) ≡ true
long_is room w (inl h) = or_l _ (is_ltb room (length w) h)
long_is room w (inr h) = or_r (ltb room (length w)) (is_ltb 65535 (length w) h)

fits_is : (room : ℕ) (w : List ℕ) → Fits room w → (ltb room (length w) || ltb 65535 (length w)) ≡ false
fits_is room w h = neither (le-ltb room (length w) h.0) (le-ltb 65535 (length w) h.1)

long_or_fits : (room : ℕ) (w : List ℕ) → TooLong room w ⊎ Fits room w
long_or_fits room w = go (dec_lt room (length w)) (dec_lt 65535 (length w))
  where
    go : Dec (room < length w) → Dec (65535 < length w) → TooLong room w ⊎ Fits room w
    go (yes h) e = inl (inl h)
    go (no h) (yes g) = inl (inr g)
    go (no h) (no g) = inr (omega arith, omega arith)

module _ {S : Type 0} (C : Construction S) (alike : (s : S) → C.same s s ≡ true) (ar : List ℕ) (n room : ℕ) where
  made_words : (ss : List S) → AllMet C ar ss → explored C ar ≡ made ss (all_blocks C ss ar)
  made_words ss r = let x = all_met C ar ss r in x.1 ∙ ap (made ss) (blocks_again C alike ar ss x.0 x.1).0

  -- the plan of states and blocks, by the test of its length
  abbrev tested : List S → Bool → Plan
  tested ss b = cond b too_long (plan_of_lem (length ss) (words_of C ar n ss))

  pub plan_over_goals : (i : ℕ) → OverGoals C ar i → planned C ar n room ≡ halted ManyGoals i
  plan_over_goals i o = ap (to_plan C room (length ar) n) (over_goals C ar i o)

  pub plan_over_states : (i : ℕ) → OverStates C ar i → planned C ar n room ≡ halted ManyStates i
  plan_over_states i o = ap (to_plan C room (length ar) n) (over_states C ar i o)

  pub plan_too_long : (ss : List S) → AllMet C ar ss → TooLong room (words_of C ar n ss) → planned C ar n room ≡ too_long
  plan_too_long ss r h = ap (to_plan C room (length ar) n) (made_words ss r) ∙ ap (tested ss) (long_is room (words_of C ar n ss) h)

  pub plan_made : (ss : List S) → AllMet C ar ss → Fits room (words_of C ar n ss) → planned C ar n room ≡ plan_of_lem (length ss) (words_of C ar n ss)
  plan_made ss r h = ap (to_plan C room (length ar) n) (made_words ss r) ∙ ap (tested ss) (fits_is room (words_of C ar n ss) h)

  pub data PlanEnd : Plan → Type 0 where
    plan_goals : {i : ℕ} → OverGoals C ar i → PlanEnd (halted ManyGoals i)
    plan_states : {i : ℕ} → OverStates C ar i → PlanEnd (halted ManyStates i)
    plan_long : (ss : List S) → AllMet C ar ss → TooLong room (words_of C ar n ss) → PlanEnd too_long
    plan_fits : (ss : List S) → AllMet C ar ss → Fits room (words_of C ar n ss) → PlanEnd (plan_of_lem (length ss) (words_of C ar n ss))

  pub plan_end : PlanEnd (planned C ar n room)
  plan_end = go (ends C ar)
    where
      whole : (ss : List S) → AllMet C ar ss → TooLong room (words_of C ar n ss) ⊎ Fits room (words_of C ar n ss) → PlanEnd (planned C ar n room)
      whole ss r (inl h) = rw (plan_too_long ss r h) (plan_long ss r h)
      whole ss r (inr h) = rw (plan_made ss r h) (plan_fits ss r h)

      go : {m : Made S} → Ends C ar m → PlanEnd (planned C ar n room)
      go (at_goals {i} o) = rw (plan_over_goals i o) (plan_goals o)
      go (at_states {i} o) = rw (plan_over_states i o) (plan_states o)
      go (at_end {ss = ss} r) = whole ss r (long_or_fits room (words_of C ar n ss))
