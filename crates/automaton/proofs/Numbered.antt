-- The numbered states and blocks, for any kind of obligation that is alike itself.
--   same_state_refl same_state_sym Unlike
--   targets all_succs   the numbers that successors name; the successors of blocks
--   Firsts              numbers in the order of first meeting: each is one met before, or the next
--   Links               successors name the states that the classes lift to, and the displacements
--   Says                what a block says: the announcements and the successors of a state on a symbol
--   Numbered numbered   what is explored: reachable states, no two equal as sets, numbered as first met; and the block of each state and symbol
use mathlib.Core.Path.{◌≡◌, refl, ap, sym, ◌∙◌}
use mathlib.Core.Bool.{Bool, true, false, cond, ◌&&◌}
use mathlib.Core.List.{List, [], ◌∷◌, ◌++◌, map, append_assoc, append-nil}
use mathlib.Core.Option.{Option, none, some}
use mathlib.Core.Logic.{◌⊎◌, inl, inr, ⊎_elim}
use Prim.Native.Nat.{ℕ, zero, suc, ◌+◌, ◌*◌, ◌<◌, ◌≤◌}
use native.Mathlib.Omega.{arith}
use native.Mathlib.Nat.{add-zero, zero-add, zero-mul, suc-mul}
use lib.Dec.{ltb, leb}
use lib.ListN.{length, get_or, get_elem?, drop, length-append, length-map, drop_of_length-le}
use lib.Seq.{drop-cons}
use Rattle.kinds.specs.Lists.{find, gather, any, all}
use Rattle.kinds.specs.declared.Reason.{Reason}
use Rattle.kinds.specs.declared.Reason.TheVariants.{ManyGoals, ManyStates}
use Rattle.kinds.proofs.Bools.{both, is_eqb, ltb_is, ltb_not, leb_not}
use Rattle.kinds.proofs.Options.{none_not}
use Rattle.kinds.proofs.Members.{∈_append, all_of_lem, any_of, same_refl}
use Rattle.kinds.specs.Members.{◌∈◌, here, there, Pairwise}
use Rattle.kinds.proofs.Pairwise.{pairwise_append}
use Rattle.kinds.proofs.ListLaws.{map_append, gather_append}
use Rattle.kinds.proofs.Places.{at_below, at_left, at_right, at_end, get_d_in, find_at, find_none, Ext, ext_refl, ext_trans, at_ext, ext_length, get_d_ext}
use Rattle.automaton.specs.Goals.{Goal, State, Calculus, initial, deriv, outputs}
use Rattle.automaton.specs.Classes.{classes, gcp, lift, lift_goal, same_goal, same_state}
use Rattle.automaton.specs.Exploring.{construction, Succ, Block, Met, stopped, Made, refused, made, and_then, then_block, then_more, meet, meets, row, run, explored}
use Rattle.automaton.specs.Exploring.{met as found, numbered as placed}
use Rattle.automaton.specs.Walking.{Reach, init, next}

-- each number is one met before, those below n, or n itself, which is then met; m are met in the end
pub data Firsts : ℕ → List ℕ → ℕ → Type 0 where
  no_more : {n : ℕ} → Firsts n [] n
  known : {n x m : ℕ} {xs : List ℕ} → x < n → Firsts n xs m → Firsts n (x ∷ xs) m
  first_met : {n m : ℕ} {xs : List ℕ} → Firsts (suc n) xs m → Firsts n (n ∷ xs) m

firsts_append : {a b c : ℕ} {xs ys : List ℕ} → Firsts a xs b → Firsts b ys c → Firsts a (xs ++ ys) c
firsts_append no_more q = q
firsts_append (known h p) q = known h (firsts_append p q)
firsts_append (first_met p) q = first_met (firsts_append p q)

-- the numbers that successors name
abbrev pub targets : List Succ → List ℕ
targets xs = map (λ x. x.to) xs

abbrev pub all_succs : List Block → List Succ
all_succs bs = gather (λ b. b.succs) bs

module _ {O : Type 0} (K : Calculus O) where
  pub same_state_sym : (s t : State O) → same_state K s t ≡ same_state K t s
  same_state_sym s t = swap (all (λ g. any (same_goal K g) t) s) (all (λ g. any (same_goal K g) s) t)
    where
      swap : (a b : Bool) → (a && b) ≡ (b && a)
      swap true true = refl
      swap true false = refl
      swap false true = refl
      swap false false = refl

  abbrev pub Unlike : State O → State O → Type 0
  Unlike s t = same_state K s t ≡ false

  pub data Links (ss : List (State O)) : List (State O) → List Succ → Type 0 where
    no_link : Links ss [] []
    link : {k s : State O} {x : Succ} {ks : List (State O)} {xs : List Succ} → length k ≤ 32 → get_elem? ss x.to ≡ some s
        → same_state K (lift K k) s ≡ true → x.by ≡ gcp k → Links ss ks xs → Links ss (k ∷ ks) (x ∷ xs)

  links_ext : {ss ss' ks : List (State O)} {xs : List Succ} → Ext ss ss' → Links ss ks xs → Links ss' ks xs
  links_ext p no_link = no_link
  links_ext p (link {x = x} few a b c l) = link few (at_ext p x.to a) b c (links_ext p l)

  links_append : {ss ks ks' : List (State O)} {xs ys : List Succ} → Links ss ks xs → Links ss ks' ys → Links ss (ks ++ ks') (xs ++ ys)
  links_append no_link l = l
  links_append (link few a b c r) l = link few a b c (links_append r l)

  pub record Says (ss : List (State O)) (s : State O) (f n : ℕ) (b : Block) : Type 0 where
    pub out_is : b.out ≡ outputs K s f n
    pub succs_are : Links ss (classes K (deriv K s f n)) b.succs

  -- the blocks of one state, from symbol f on; and of states, one after the other
  data Rows (ss : List (State O)) (s : State O) : ℕ → List ℕ → List Block → Type 0 where
    no_row : {f : ℕ} → Rows ss s f [] []
    add_row : {f n : ℕ} {ns : List ℕ} {b : Block} {bs : List Block} → Says ss s f n b → Rows ss s (suc f) ns bs → Rows ss s f (n ∷ ns) (b ∷ bs)

  data Table (ar : List ℕ) (ss : List (State O)) : List (State O) → List Block → Type 0 where
    no_state : Table ar ss [] []
    add_state : {s : State O} {sts : List (State O)} {rs bs : List Block} → Rows ss s 0 ar rs → Table ar ss sts bs → Table ar ss (s ∷ sts) (rs ++ bs)

  rows_ext : {ss ss' : List (State O)} {s : State O} {f : ℕ} {ns : List ℕ} {bs : List Block} → Ext ss ss' → Rows ss s f ns bs → Rows ss' s f ns bs
  rows_ext p no_row = no_row
  rows_ext p (add_row h r) = add_row (record { out_is = h.out_is; succs_are = links_ext p h.succs_are }) (rows_ext p r)

  rows_length : {ss : List (State O)} {s : State O} {f : ℕ} {ns : List ℕ} {bs : List Block} → Rows ss s f ns bs → length bs ≡ length ns
  rows_length no_row = refl
  rows_length (add_row h r) = ap suc (rows_length r)

  rows_at : {ss : List (State O)} {s : State O} {f : ℕ} {ns : List ℕ} {bs : List Block} → Rows ss s f ns bs
      → (g n : ℕ) → get_elem? ns g ≡ some n → (b : Block) × (get_elem? bs g ≡ some b) × Says ss s (f + g) n b
  rows_at no_row g n e = none_not e
  rows_at {ss} {s} {f} (add_row {n = m} {b = b} h r) zero n e = let z : m ≡ n = cc in (b, refl, rw (add-zero, ← z) h)
  rows_at {ss} {s} {f} (add_row h r) (suc g) n e = let u = rows_at r g n e in let z : suc f + g ≡ f + suc g = omega arith in
      (u.0, u.1, rw (← z) u.2)

  table_length : {ar : List ℕ} {ss sts : List (State O)} {bs : List Block} → Table ar ss sts bs → length bs ≡ length sts * length ar
  table_length {ar} no_state = sym (zero-mul (length ar))
  table_length {ar} (add_state {sts = sts} {rs = rs} {bs = bs} r t) = let a = rows_length r in let b = table_length t in let c =
      length-append rs bs in let d = suc-mul (length sts) (length ar) in omega arith

  table_at : {ar : List ℕ} {ss sts : List (State O)} {bs : List Block} → Table ar ss sts bs → (i f : ℕ) (s : State O) (n : ℕ)
      → get_elem? sts i ≡ some s → get_elem? ar f ≡ some n
      → (b : Block) × (get_elem? bs (i * length ar + f) ≡ some b) × Says ss s f n b
  table_at no_state i f s n e a = none_not e
  table_at {ar} (add_state {s = x} {rs = rs} {bs = bs} r t) zero f s n e a =
      let u = rows_at r f n a in
      let z : x ≡ s = cc in
      let y : 0 * length ar + f ≡ f = rw (zero-mul (length ar), zero-add f) in
      (u.0, rw y (at_left rs bs f u.1), rw (← z) (rw zero-add at u.2))
  table_at {ar} (add_state {rs = rs} {bs = bs} r t) (suc i) f s n e a =
      let u = table_at t i f s n e a in
      let y : suc i * length ar + f ≡ length rs + (i * length ar + f) = omega (arith, suc-mul i (length ar), rows_length r) in
      (u.0, rw (y, at_right rs bs (i * length ar + f)) u.1, u.2)

never : {S : Type 0} {C : Type 0} {r : Reason} {ss : List S} {xs : List Succ} → stopped r ≡ found ss xs → C
never e = let z : ◌≡◌ {A = ℕ} 0 1 = cc in absurd (omega arith)

never_made : {S : Type 0} {C : Type 0} {r : Reason} {i : ℕ} {ss : List S} {bs : List Block} → refused r i ≡ made ss bs → C
never_made e = let z : ◌≡◌ {A = ℕ} 0 1 = cc in absurd (omega arith)

on_and_then {κ} : {S : Type 0} {C : Type κ} (m : Met S) (f : List S → List Succ → Met S) (ss : List S) (xs : List Succ)
    → and_then m f ≡ found ss xs → ((a : List S) (b : List Succ) → m ≡ found a b → f a b ≡ found ss xs → C) → C
on_and_then (stopped r) f ss xs e k = absurd (never e)
on_and_then (found a b) f ss xs e k = k a b refl e

module _ {O : Type 0} (K : Calculus O) (Alike-self : (o : O) → K.alike o o ≡ true) where
  same_goal_refl : (g : Goal O) → same_goal K g g ≡ true
  same_goal_refl g = both (both (both (is_eqb g.shape g.shape refl) (same_refl g.ann)) inner) inner
    where
      inner : all (λ o. any (K.alike o) g.obs) g.obs ≡ true
      inner = all_of_lem (λ o. any (K.alike o) g.obs) g.obs (λ o m. any_of (K.alike o) m (Alike-self o))

  pub same_state_refl : (s : State O) → same_state K s s ≡ true
  same_state_refl s = both inner inner
    where
      inner : all (λ g. any (same_goal K g) s) s ≡ true
      inner = all_of_lem (λ g. any (same_goal K g) s) s (λ g m. any_of (same_goal K g) m (same_goal_refl g))

  -- what meeting classes ks adds
  record Met-ok (ss ks ss' : List (State O)) (xs : List Succ) : Type 0 where
    pub ext : Ext ss ss'
    pub links : Links K ss' ks xs
    pub from : (s : State O) → s ∈ ss' → (s ∈ ss) ⊎ ((k : State O) × (k ∈ ks) × (s ≡ lift K k) × (length k ≤ 32))
    pub few : length ss ≤ 128 → length ss' ≤ 128
    pub differ : Pairwise (Unlike K) ss → Pairwise (Unlike K) ss'
    pub order : Firsts (length ss) (targets xs) (length ss')

  meet_ok : (ss : List (State O)) (k : State O) (ss' : List (State O)) (xs : List Succ) → meet (construction K) ss k ≡ found ss' xs
      → Met-ok ss (k ∷ []) ss' xs
  meet_ok ss k ss' xs e = big (ltb 32 (length k)) refl e
    where
      new : length k ≤ 32 → find (same_state K (lift K k)) ss 0 ≡ none → (b : Bool) → leb 128 (length ss) ≡ b
          → cond b (stopped ManyStates) (found (ss ++ (lift K k ∷ [])) (record { to = length ss; by = gcp k } ∷ [])) ≡ found ss' xs
          → Met-ok ss (k ∷ []) ss' xs
      new small none_is true h d = never d
      new small none_is false h d =
          let a : ss ++ (lift K k ∷ []) ≡ ss' = cc in
          let b : record { to = length ss; by = gcp k } ∷ [] ≡ xs = cc in
          rw (← a, ← b) (record {
            ext = record { more = lift K k ∷ []; eq = refl };
            links = link small (at_end ss (lift K k)) (same_state_refl (lift K k)) refl no_link;
            from = λ s m. ⊎_elim inl (λ i. inr (k, here refl, single i, small)) (∈_append ss m);
            few = λ l. rw length-append (let z = leb_not 128 (length ss) h in omega arith);
            differ = λ p. pairwise_append (Unlike K) ss (lift K k ∷ []) p (λ y m. elim m [ ], tt)
                (λ x y i j. rw (single j) (same_state_sym K x (lift K k) ∙ find_none (same_state K (lift K k)) ss 0 none_is x i));
            order = rw one_more_lem (first_met no_more);
          })
        where
          single : {s : State O} → s ∈ (lift K k ∷ []) → s ≡ lift K k
          single (here c) = c
          single {s = s} (there x6) = elim x6 [ ]

          one_more_lem : length (ss ++ (lift K k ∷ [])) ≡ suc (length ss)
          one_more_lem = let z = length-append ss (lift K k ∷ []) in omega arith

      place : length k ≤ 32 → (o : Option ℕ) → find (same_state K (lift K k)) ss 0 ≡ o → placed o ss (lift K k) (gcp k) ≡ found ss' xs
          → Met-ok ss (k ∷ []) ss' xs
      place small none h d = new small h (leb 128 (length ss)) refl d
      place small (some i) h d =
          let f = find_at (same_state K (lift K k)) ss 0 i h in
          at f.0 f.1 f.2.0 f.2.1 f.2.2
        where
          at : (j : ℕ) → i ≡ 0 + j → (s : State O) → get_elem? ss j ≡ some s → same_state K (lift K k) s ≡ true → Met-ok ss (k ∷ []) ss' xs
          at j ij s es t =
              let a : ss ≡ ss' = cc in
              let b : record { to = i; by = gcp k } ∷ [] ≡ xs = cc in
              let ij' : i ≡ j = omega arith in
              let es' : get_elem? ss i ≡ some s = rw ij' es in
              rw (← a, ← b) (record {
                ext = ext_refl ss;
                links = link small es' t refl no_link;
                from = λ y m. inl m;
                few = λ l. l;
                differ =
                    λ p. p;
                order = known (at_below ss i es') no_more;
              })

      big : (b : Bool) → ltb 32 (length k) ≡ b
          → cond b (stopped ManyGoals) (placed (find (same_state K (lift K k)) ss 0) ss (lift K k) (gcp k)) ≡ found ss' xs → Met-ok ss (k ∷ []) ss' xs
      big true h d = never d
      big false h d = place (ltb_not 32 (length k) h) (find (same_state K (lift K k)) ss 0) refl d

  meets_ok : (ks ss ss' : List (State O)) (xs : List Succ) → meets (construction K) ss ks ≡ found ss' xs → Met-ok ss ks ss' xs
  meets_ok [] ss ss' xs e =
      let a : ss ≡ ss' = cc in
      let b : [] ≡ xs = cc in
      rw (← a, ← b) (record { ext = ext_refl ss; links = no_link; from = λ s m. inl m; few = λ l. l; differ = λ p. p; order = no_more })
  meets_ok (k ∷ ks) ss ss' xs e =
      on_and_then (meet (construction K) ss k) _ ss' xs e λ a b em e₁.
      on_and_then (meets (construction K) a ks) _ ss' xs e₁ λ a₂ b₂ em₂ e₂.
      let r₁ = meet_ok ss k a b em in
      let r₂ = meets_ok ks a a₂ b₂ em₂ in
      let u : a₂ ≡ ss' = cc in
      let v : b ++ b₂ ≡ xs = cc in
      rw (← u, ← v) (record {
        ext = ext_trans r₁.ext r₂.ext;
        links = links_append K (links_ext K r₂.ext r₁.links) r₂.links;
        from = λ s m. ⊎_elim (λ i. ⊎_elim inl (λ w. inr (w.0, first w.1, w.2, w.3)) (r₁.from s i)) (λ w. inr (w.0, there w.1, w.2, w.3))
            (r₂.from s m);
        few = λ l. r₂.few (r₁.few l);
        differ = λ p. r₂.differ (r₁.differ p);
        order = rw (map_append (λ x. x.to) b b₂) (firsts_append r₁.order r₂.order);
      })
    where
      first : {y : State O} → y ∈ (k ∷ []) → y ∈ (k ∷ ks)
      first (here c) = here c
      first {y = y} (there x5) = elim x5 [ ]

  -- a state that is explored: reachable, and of at most 32 goals but for the initial one
  abbrev Fine : List ℕ → State O → Type 0
  Fine ar s = Reach K ar s × ((s ≡ initial K) ⊎ (length s ≤ 32))

  -- what going over the symbols of a state adds
  record Row-ok (ar : List ℕ) (s : State O) (f : ℕ) (ns : List ℕ) (ss : List (State O)) (bs : List Block) (ss' : List (State O)) (bs' : List Block) :
      Type 0 where
    pub more : List Block
    pub blocks : bs' ≡ bs ++ more
    pub rows : Rows K ss' s f ns more
    pub ext : Ext ss ss'
    pub few : length ss ≤ 128 → length ss' ≤ 128
    pub fine : ((y : State O) → y ∈ ss → Fine ar y) → (y : State O) → y ∈ ss' → Fine ar y
    pub differ : Pairwise (Unlike K) ss → Pairwise (Unlike K) ss'
    pub order : Firsts (length ss) (targets (all_succs more)) (length ss')

  row_ok : (ar : List ℕ) (i : ℕ) (s : State O) → Reach K ar s → (f : ℕ) (ns : List ℕ)
      → ((g n : ℕ) → get_elem? ns g ≡ some n → get_elem? ar (f + g) ≡ some n)
      → (ss : List (State O)) (bs : List Block) (ss' : List (State O)) (bs' : List Block) → row (construction K) i s f ns ss bs ≡ made ss' bs'
      → Row-ok ar s f ns ss bs ss' bs'
  row_ok ar i s rs f [] h ss bs ss' bs' e =
      let a : ss ≡ ss' = cc in
      let b : bs ≡ bs' = cc in
      rw (← a, ← b) (record {
        more = [];
        blocks = sym (append-nil bs);
        rows = no_row;
        ext = ext_refl ss;
        few = λ l. l;
        fine = λ r. r;
        differ =
            λ p. p;
        order = no_more;
      })
  row_ok ar i s rs f (n ∷ ns) h ss bs ss' bs' e =
      go (meets (construction K) ss (classes K (deriv K s f n))) refl e
      (λ ss₁ bs₁ d. row_ok ar i s rs (suc f) ns (λ g m a. let z : suc f + g ≡ f + suc g = omega arith in rw z (h (suc g) m a)) ss₁ bs₁ ss' bs' d)
    where
      go : (m : Met (State O)) → meets (construction K) ss (classes K (deriv K s f n)) ≡ m
          → then_block i (outputs K s f n) bs m (λ ss₁ bs₁. row (construction K) i s (suc f) ns ss₁ bs₁) ≡ made ss' bs'
          → ((ss₁ : List (State O)) (bs₁ : List Block) → row (construction K) i s (suc f) ns ss₁ bs₁ ≡ made ss' bs'
          → Row-ok ar s (suc f) ns ss₁ bs₁ ss' bs') → Row-ok ar s f (n ∷ ns) ss bs ss' bs'
      go (stopped c) em d ih = never_made d
      go (found ss₁ xs) em d ih = both_of (meets_ok (classes K (deriv K s f n)) ss ss₁ xs em) (ih ss₁ _ d)
        where
          b : Block
          b = record { out = outputs K s f n; succs = xs }

          both_of : Met-ok ss (classes K (deriv K s f n)) ss₁ xs → Row-ok ar s (suc f) ns ss₁ (bs ++ (b ∷ [])) ss' bs'
              → Row-ok ar s f (n ∷ ns) ss bs ss' bs'
          both_of o r = record {
            more = b ∷ r.more;
            blocks = r.blocks ∙ simp append_assoc;
            rows = add_row (record { out_is = refl; succs_are = links_ext K r.ext o.links }) r.rows;
            ext = ext_trans o.ext r.ext;
            few = λ l. r.few (o.few l);
            fine = λ old. r.fine (λ y m. ⊎_elim (λ k. old y k) (λ w. new y w.0 w.1 w.2 w.3) (o.from y m));
            differ = λ p. r.differ (o.differ p);
            order = rw (map_append (λ x. x.to) xs (all_succs r.more)) (firsts_append o.order r.order);
          }
            where
              new : (y k : State O) → k ∈ classes K (deriv K s f n) → y ≡ lift K k → length k ≤ 32 → Fine ar y
              new y k m e l = rw e (next f n rs (rw add-zero at (h 0 n refl)) m, inr (rw (length-map k (lift_goal K (gcp k))) l))

  record Run-ok (ar : List ℕ) (i : ℕ) (ss : List (State O)) (bs : List Block) (ss' : List (State O)) (bs' : List Block) : Type 0 where
    pub more : List Block
    pub blocks : bs' ≡ bs ++ more
    pub table : Table K ar ss' (drop i ss') more
    pub ext : Ext ss ss'
    pub few : length ss' ≤ 128
    pub fine : (y : State O) → y ∈ ss' → Fine ar y
    pub differ : Pairwise (Unlike K) ss'
    pub order : Firsts (length ss) (targets (all_succs more)) (length ss')

  run_ok : (ar : List ℕ) (fuel i : ℕ) (ss : List (State O)) (bs : List Block) (ss' : List (State O)) (bs' : List Block)
      → fuel + i ≡ 128 → length ss ≤ 128 → ((y : State O) → y ∈ ss → Fine ar y) → Pairwise (Unlike K) ss
      → run (construction K) ar fuel i ss bs ≡ made ss' bs' → Run-ok ar i ss bs ss' bs'
  run_ok ar zero i ss bs ss' bs' fi few fine differ e =
      let a : ss ≡ ss' = cc in
      let b : bs ≡ bs' = cc in
      rw (← a, ← b) (record {
        more = [];
        blocks = sym (append-nil bs);
        table = rw (drop_of_length-le ss {i = i} (omega arith)) no_state;
        ext =
            ext_refl ss;
        few = few;
        fine = fine;
        differ = differ;
        order = no_more;
      })
  run_ok ar (suc fuel) i ss bs ss' bs' fi few fine differ e =
      go (ltb i (length ss)) refl e (λ ss₁ bs₁ l r q d. run_ok ar fuel (suc i) ss₁ bs₁ ss' bs' (omega arith) l r q d)
    where
      Rest : Type 0
      Rest = (ss₁ : List (State O)) (bs₁ : List Block) → length ss₁ ≤ 128 → ((y : State O) → y ∈ ss₁ → Fine ar y) → Pairwise (Unlike K) ss₁
          → run (construction K) ar fuel (suc i) ss₁ bs₁ ≡ made ss' bs' → Run-ok ar (suc i) ss₁ bs₁ ss' bs'

      both_of : i < length ss → (ss₁ : List (State O)) (bs₁ : List Block) → Row-ok ar (get_or ss i (initial K)) 0 ar ss bs ss₁ bs₁
          → Run-ok ar (suc i) ss₁ bs₁ ss' bs' → Run-ok ar i ss bs ss' bs'
      both_of h ss₁ bs₁ o r = record {
        more = o.more ++ r.more;
        blocks = r.blocks ∙ rw (o.blocks, append_assoc);
        table = rw (drop-cons ss' i (initial K) (omega (arith, ext_length whole)), get_d_ext whole i (initial K) h)
            (add_state (rows_ext K r.ext o.rows) r.table);
        ext = whole;
        few = r.few;
        fine = r.fine;
        differ = r.differ;
        order = rw (gather_append (λ b. b.succs) o.more r.more, map_append (λ x. x.to) (all_succs o.more) (all_succs r.more))
            (firsts_append o.order r.order);
      }
        where
          whole : Ext ss ss'
          whole = ext_trans o.ext r.ext

      inner : i < length ss → (m : Made (State O)) → row (construction K) i (get_or ss i (initial K)) 0 ar ss bs ≡ m
          → then_more m (λ ss₁ bs₁. run (construction K) ar fuel (suc i) ss₁ bs₁) ≡ made ss' bs' → Rest → Run-ok ar i ss bs ss' bs'
      inner h (refused c p) em d rest = never_made d
      inner h (made ss₁ bs₁) em d rest =
          let o = row_ok ar i (get_or ss i (initial K)) (fine (get_or ss i (initial K)) (get_d_in ss i (initial K) h)).0 0 ar (λ g n a. rw zero-add a)
          ss bs ss₁ bs₁ em in
          both_of h ss₁ bs₁ o (rest ss₁ bs₁ (o.few few) (o.fine fine) (o.differ differ) d)

      go : (b : Bool) → ltb i (length ss) ≡ b
          → cond b (then_more (row (construction K) i (get_or ss i (initial K)) 0 ar ss bs) (λ ss₁ bs₁. run (construction K) ar fuel (suc i) ss₁ bs₁))
          (made ss bs) ≡ made ss' bs' → Rest → Run-ok ar i ss bs ss' bs'
      go true h d rest = inner (ltb_is i (length ss) h) (row (construction K) i (get_or ss i (initial K)) 0 ar ss bs) refl d rest
      go false h d rest =
          let a : ss ≡ ss' = cc in
          let b : bs ≡ bs' = cc in
          rw (← a, ← b) (record {
            more = [];
            blocks = sym (append-nil bs);
            table =
                rw (drop_of_length-le ss {i = i} (ltb_not i (length ss) h)) no_state;
            ext = ext_refl ss;
            few = few;
            fine = fine;
            differ =
                differ;
            order = no_more;
          })

-- what is explored: m states and their blocks
pub record Numbered {O : Type 0} (K : Calculus O) (ar : List ℕ) (ss : List (State O)) (bs : List Block) : Type 0 where
  pub first : get_elem? ss 0 ≡ some (initial K)
  pub few : length ss ≤ 128
  pub reach : (s : State O) → s ∈ ss → Reach K ar s
  -- of at most 32 goals
  pub small : (s : State O) → s ∈ ss → (s ≡ initial K) ⊎ (length s ≤ 32)
  -- no two are equal as sets
  pub differ : Pairwise (Unlike K) ss
  -- numbers are those of first meeting, as the blocks name them in their order
  pub order : Firsts 1 (targets (all_succs bs)) (length ss)
  -- one block for each state and symbol, by state then symbol
  pub blocks : length bs ≡ length ss * length ar
  pub block : (i f : ℕ) (s : State O) (n : ℕ) → get_elem? ss i ≡ some s → get_elem? ar f ≡ some n → (b : Block)
      × (get_elem? bs (i * length ar + f) ≡ some b) × Says K ss s f n b

pub numbered : {O : Type 0} (K : Calculus O) → ((o : O) → K.alike o o ≡ true) → (ar : List ℕ) (ss : List (State O)) (bs : List Block)
    → explored (construction K) ar ≡ made ss bs → Numbered K ar ss bs
numbered {O} K Alike-self ar ss bs e =
    let r = run_ok K Alike-self ar 128 0 (initial K ∷ []) [] ss bs (omega arith) (omega arith) only (λ y m. elim m [ ], tt) e in
    let t : Table K ar ss ss bs = rw r.blocks r.table in
    record {
      first = at_ext r.ext 0 refl;
      few = r.few;
      reach = λ s m. (r.fine s m).0;
      small = λ s m. (r.fine s m).1;
      differ = r.differ;
      order = rw r.blocks r.order;
      blocks = table_length K t;
      block = table_at K t;
    }
  where
    only : (y : State O) → y ∈ (initial K ∷ []) → Reach K ar y × ((y ≡ initial K) ⊎ (length y ≤ 32))
    only y (here d) = rw d (init, inl refl)
    only y (there x4) = elim x4 [ ]
