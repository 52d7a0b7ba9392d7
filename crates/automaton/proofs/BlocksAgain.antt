-- The blocks that exploring makes, made again from the final states alone, for any construction in which a state is the same as itself.
--   Found meet_found meets_found   what meeting classes adds
--   meets_again                    their successors
--   RowAgain row_again             a state's blocks
--   RunAgain run_again             the blocks of the states from one on
--   blocks_again                   all blocks; and each class is of at most 32 goals
use mathlib.Core.Path.{◌≡◌, refl, ap, ap₂, sym, ◌∙◌}
use mathlib.Core.List.{List, [], ◌∷◌, ◌++◌, map, append_assoc, append-nil}
use mathlib.Core.Bool.{Bool, true, false, cond}
use mathlib.Core.Option.{Option, none, some}
use mathlib.Core.Logic.{◌⊎◌, inl, inr, ⊎_elim}
use Prim.Native.Nat.{ℕ, zero, suc, ◌+◌, ◌<◌, ◌≤◌}
use native.Mathlib.Omega.{arith}
use native.Mathlib.Nat.{add-zero, zero-add}
use lib.Dec.{ltb, leb}
use lib.ListN.{length, get_or, drop, length-append, drop_of_length-le}
use lib.Seq.{drop-cons}
use Rattle.kinds.specs.Lists.{find, gather, or_else}
use Rattle.kinds.specs.declared.Reason.TheVariants.{ManyGoals, ManyStates}
use Rattle.kinds.proofs.Bools.{ltb_is, ltb_not, leb_not}
use Rattle.kinds.proofs.Options.{none_not}
use Rattle.kinds.proofs.Members.{in_one, ∈_append}
use Rattle.kinds.specs.Members.{◌∈◌, here, there}
use Rattle.kinds.proofs.Places.{find_more, find_new, Ext, ext_refl, ext_trans, ext_length, get_d_ext}
use Rattle.automaton.specs.Exploring.{Construction, Succ, Block, Met, stopped, met, Made, refused, made, and_then, then_block, then_more, numbered, meet, meets, row, run, explored}
use Rattle.automaton.specs.FinalBlocks.{succ_of, blocks_of, all_blocks, SmallOn}

module _ {S : Type 0} (C : Construction S) where
  -- ---- what meeting classes adds
  pub record Found (ss ks ss' : List S) (xs : List Succ) : Type 0 where
    pub ext : Ext ss ss'
    pub few : length ss ≤ 128 → length ss' ≤ 128
    pub count : length xs ≡ length ks
    pub from : (s : S) → s ∈ ss' → (s ∈ ss) ⊎ ((k : S) × (k ∈ ks) × (s ≡ C.lift k))
    pub small : (k : S) → k ∈ ks → C.size k ≤ 32

  module _ (ss : List S) (k : S) (ss' : List S) (xs : List Succ) where
    pub meet_found : meet C ss k ≡ met ss' xs → Found ss (k ∷ []) ss' xs
    meet_found e = big (ltb 32 (C.size k)) refl e
      where
        new : C.size k ≤ 32 → (b : Bool) → leb 128 (length ss) ≡ b
            → cond b (stopped ManyStates) (met (ss ++ (C.lift k ∷ [])) (record { to = length ss; by = C.gcp k } ∷ [])) ≡ met ss' xs
            → Found ss (k ∷ []) ss' xs
        new small true h d = let z : ◌≡◌ {A = ℕ} 0 1 = cc in absurd (omega arith)
        new small false h d =
            let a : ss ++ (C.lift k ∷ []) ≡ ss' = cc in
            let b : record { to = length ss; by = C.gcp k } ∷ [] ≡ xs = cc in
            rw (← a, ← b) (record {
              ext = record { more = C.lift k ∷ []; eq = refl };
              few = λ l. rw length-append (let z = leb_not 128 (length ss) h in omega arith);
              count = refl;
              from = λ s m. ⊎_elim inl (λ i. inr (k, here refl, in_one i)) (∈_append ss m);
              small = λ x m. rw (in_one m) small;
            })

        placed : C.size k ≤ 32 → (o : Option ℕ) → numbered o ss (C.lift k) (C.gcp k) ≡ met ss' xs → Found ss (k ∷ []) ss' xs
        placed small none d = new small (leb 128 (length ss)) refl d
        placed small (some i) d =
            let a : ss ≡ ss' = cc in
            let b : record { to = i; by = C.gcp k } ∷ [] ≡ xs = cc in
            rw (← a, ← b) (record { ext = ext_refl ss; few = λ l. l; count = refl; from = λ s m. inl m; small = λ x m. rw (in_one m) small })

        big : (b : Bool) → ltb 32 (C.size k) ≡ b
            → cond b (stopped ManyGoals) (numbered (find (C.same (C.lift k)) ss 0) ss (C.lift k) (C.gcp k)) ≡ met ss' xs
            → Found ss (k ∷ []) ss' xs
        big true h d = let z : ◌≡◌ {A = ℕ} 0 1 = cc in absurd (omega arith)
        big false h d = placed (ltb_not 32 (C.size k) h) (find (C.same (C.lift k)) ss 0) d

  pub meets_found : (ks ss ss' : List S) (xs : List Succ) → meets C ss ks ≡ met ss' xs → Found ss ks ss' xs
  meets_found [] ss ss' xs e =
      let a : ss ≡ ss' = cc in
      let b : ◌≡◌ {A = List Succ} [] xs = cc in
      rw (← a, ← b) (record { ext = ext_refl ss; few = λ l. l; count = refl; from = λ s m. inl m; small = λ x m. elim m [ ] })
  meets_found (k ∷ ks) ss ss' xs e = go (meet C ss k) refl e (meets_found ks)
    where
      common_prefix : (ss₁ : List S) (ys : List Succ) (zs : List Succ) → Found ss (k ∷ []) ss₁ ys → Found ss₁ ks ss' zs
          → Found ss (k ∷ ks) ss' (ys ++ zs)
      common_prefix ss₁ ys zs a b = record {
        ext = ext_trans a.ext b.ext;
        few = λ l. b.few (a.few l);
        count = let x = a.count in let y = b.count in length-append ys zs ∙ omega arith;
        from = λ s m. ⊎_elim (λ i. ⊎_elim inl (λ r. inr (r.0, here (in_one r.1), r.2)) (a.from s i)) (λ r. inr (r.0, there r.1, r.2))
            (b.from s m);
        small = small;
      }
        where
          small : (x : S) → x ∈ (k ∷ ks) → C.size x ≤ 32
          small x (here i) = a.small x (here i)
          small x (there i) = b.small x i

      last : (ss₁ : List S) (ys : List Succ) → Found ss (k ∷ []) ss₁ ys → (m : Met S) → meets C ss₁ ks ≡ m
          → and_then m (λ ss₂ zs. met ss₂ (ys ++ zs)) ≡ met ss' xs
          → ((ss ss' : List S) (xs : List Succ) → meets C ss ks ≡ met ss' xs → Found ss ks ss' xs) → Found ss (k ∷ ks) ss' xs
      last ss₁ ys a (stopped r) h d ih = let z : ◌≡◌ {A = ℕ} 0 1 = cc in absurd (omega arith)
      last ss₁ ys a (met ss₂ zs) h d ih =
          let x : ss₂ ≡ ss' = cc in
          let y : ys ++ zs ≡ xs = cc in
          rw (← y) (common_prefix ss₁ ys zs a (ih ss₁ ss' zs (h ∙ ap (λ l. met l zs) x)))

      go : (m : Met S) → meet C ss k ≡ m → and_then m (λ ss₁ ys. and_then (meets C ss₁ ks) (λ ss₂ zs. met ss₂ (ys ++ zs))) ≡ met ss' xs
          → ((ss ss' : List S) (xs : List Succ) → meets C ss ks ≡ met ss' xs → Found ss ks ss' xs) → Found ss (k ∷ ks) ss' xs
      go (stopped r) h d ih = let z : ◌≡◌ {A = ℕ} 0 1 = cc in absurd (omega arith)
      go (met ss₁ ys) h d ih = last ss₁ ys (meet_found ss k ss₁ ys h) (meets C ss₁ ks) refl d ih

module _ {S : Type 0} (C : Construction S) (alike : (s : S) → C.same s s ≡ true) where
  -- ---- one class
  meet_again : (ss : List S) (k : S) (ss' : List S) (xs : List Succ) → meet C ss k ≡ met ss' xs → (t : List S) → Ext ss' t → xs ≡ succ_of C t k ∷ []
  meet_again ss k ss' xs e t x = big (ltb 32 (C.size k)) e
    where
      new : find (C.same (C.lift k)) ss 0 ≡ none → (b : Bool)
          → cond b (stopped ManyStates) (met (ss ++ (C.lift k ∷ [])) (record { to = length ss; by = C.gcp k } ∷ [])) ≡ met ss' xs
          → xs ≡ succ_of C t k ∷ []
      new none_is true d = let z : ◌≡◌ {A = ℕ} 0 1 = cc in absurd (omega arith)
      new none_is false d =
          let a : ss ++ (C.lift k ∷ []) ≡ ss' = cc in
          let b : record { to = length ss; by = C.gcp k } ∷ [] ≡ xs = cc in
          let whole : t ≡ ss ++ (C.lift k ∷ x.more) = x.eq ∙ ap (λ l. l ++ x.more) (sym a) ∙ append_assoc ss (C.lift k ∷ []) x.more in
          let at : find (C.same (C.lift k)) t 0 ≡ some (length ss) =
          ap (λ l. find (C.same (C.lift k)) l 0) whole ∙ find_new (C.same (C.lift k)) ss (C.lift k) x.more 0 none_is (alike (C.lift k))
          ∙ ap some (zero-add (length ss)) in
          sym b ∙ ap (λ o. record { to = or_else o (length t); by = C.gcp k } ∷ []) (sym at)

      placed : (o : Option ℕ) → find (C.same (C.lift k)) ss 0 ≡ o → numbered o ss (C.lift k) (C.gcp k) ≡ met ss' xs → xs ≡ succ_of C t k ∷ []
      placed none h d = new h (leb 128 (length ss)) d
      placed (some i) h d =
          let a : ss ≡ ss' = cc in
          let b : record { to = i; by = C.gcp k } ∷ [] ≡ xs = cc in
          let at : find (C.same (C.lift k)) t 0 ≡ some i =
          ap (λ l. find (C.same (C.lift k)) l 0) (x.eq ∙ ap (λ l. l ++ x.more) (sym a))
          ∙ find_more (C.same (C.lift k)) ss x.more 0 i h in
          sym b ∙ ap (λ o. record { to = or_else o (length t); by = C.gcp k } ∷ []) (sym at)

      big : (b : Bool) → cond b (stopped ManyGoals) (numbered (find (C.same (C.lift k)) ss 0) ss (C.lift k) (C.gcp k)) ≡ met ss' xs
          → xs ≡ succ_of C t k ∷ []
      big true d = let z : ◌≡◌ {A = ℕ} 0 1 = cc in absurd (omega arith)
      big false d = placed (find (C.same (C.lift k)) ss 0) refl d

  -- ---- classes in turn
  meets_again : (ks ss ss' : List S) (xs : List Succ) → meets C ss ks ≡ met ss' xs → (t : List S) → Ext ss' t → xs ≡ map (succ_of C t) ks
  meets_again [] ss ss' xs e t x = let b : ◌≡◌ {A = List Succ} [] xs = cc in sym b
  meets_again (k ∷ ks) ss ss' xs e t x = go (meet C ss k) refl e (meets_again ks)
    where
      last : (ss₁ : List S) (ys : List Succ) → meet C ss k ≡ met ss₁ ys → (m : Met S) → meets C ss₁ ks ≡ m
          → and_then m (λ ss₂ zs. met ss₂ (ys ++ zs)) ≡ met ss' xs
          → ((ss ss' : List S) (xs : List Succ) → meets C ss ks ≡ met ss' xs → (t : List S) → Ext ss' t → xs ≡ map (succ_of C t) ks)
          → xs ≡ map (succ_of C t) (k ∷ ks)
      last ss₁ ys a (stopped r) h d ih = let z : ◌≡◌ {A = ℕ} 0 1 = cc in absurd (omega arith)
      last ss₁ ys a (met ss₂ zs) h d ih =
          let u : ss₂ ≡ ss' = cc in
          let y : ys ++ zs ≡ xs = cc in
          let h' : meets C ss₁ ks ≡ met ss' zs = h ∙ ap (λ l. met l zs) u in
          sym y ∙ ap₂ (λ l r. l ++ r) (meet_again ss k ss₁ ys a t (ext_trans (meets_found C ks ss₁ ss' zs h').ext x)) (ih ss₁ ss' zs h' t x)

      go : (m : Met S) → meet C ss k ≡ m → and_then m (λ ss₁ ys. and_then (meets C ss₁ ks) (λ ss₂ zs. met ss₂ (ys ++ zs))) ≡ met ss' xs
          → ((ss ss' : List S) (xs : List Succ) → meets C ss ks ≡ met ss' xs → (t : List S) → Ext ss' t → xs ≡ map (succ_of C t) ks)
          → xs ≡ map (succ_of C t) (k ∷ ks)
      go (stopped r) h d ih = let z : ◌≡◌ {A = ℕ} 0 1 = cc in absurd (omega arith)
      go (met ss₁ ys) h d ih = last ss₁ ys h (meets C ss₁ ks) refl d ih

  -- ---- symbols in turn
  record RowAgain (s : S) (f : ℕ) (ns : List ℕ) (ss : List S) (bs : List Block) (ss' : List S) (bs' : List Block) : Type 0 where
    pub ext : Ext ss ss'
    pub few : length ss ≤ 128 → length ss' ≤ 128
    pub is : (t : List S) → Ext ss' t → bs' ≡ bs ++ blocks_of C t s f ns
    pub small : SmallOn C s f ns

  row_again : (i : ℕ) (s : S) (f : ℕ) (ns : List ℕ) (ss : List S) (bs : List Block) (ss' : List S) (bs' : List Block)
      → row C i s f ns ss bs ≡ made ss' bs' → RowAgain s f ns ss bs ss' bs'
  row_again i s f [] ss bs ss' bs' e =
      let a : ss ≡ ss' = cc in
      let b : bs ≡ bs' = cc in
      rw (← a, ← b) (record { ext = ext_refl ss; few = λ l. l; is = λ t x. sym (append-nil bs); small = λ g n h k m. none_not h })
  row_again i s f (n ∷ ns) ss bs ss' bs' e = go (meets C ss (C.classes s f n)) refl e (λ ss₁ bs₁ d. row_again i s (suc f) ns ss₁ bs₁ ss' bs' d)
    where
      common_prefix : (ss₁ : List S) (xs : List Succ) → meets C ss (C.classes s f n) ≡ met ss₁ xs
          → RowAgain s (suc f) ns ss₁ (bs ++ (record { out = C.outputs s f n; succs = xs } ∷ [])) ss' bs' → RowAgain s f (n ∷ ns) ss bs ss' bs'
      common_prefix ss₁ xs h r = record {
        ext = ext_trans (meets_found C (C.classes s f n) ss ss₁ xs h).ext r.ext;
        few = λ l. r.few ((meets_found C (C.classes s f n) ss ss₁ xs h).few l);
        is = λ t x.
            r.is t x ∙ append_assoc bs (record { out = C.outputs s f n; succs = xs } ∷ []) (blocks_of C t s (suc f) ns)
            ∙ ap (λ ys. bs ++ (record { out = C.outputs s f n; succs = ys } ∷ blocks_of C t s (suc f) ns))
            (meets_again (C.classes s f n) ss ss₁ xs h t (ext_trans r.ext x));
        small = small;
      }
        where
          small : SmallOn C s f (n ∷ ns)
          small zero m d k j = let z : n ≡ m = cc in (meets_found C (C.classes s f n) ss ss₁ xs h).small k (rw (add-zero f, ← z) at j)
          small (suc g) m d k j = let z : f + suc g ≡ suc f + g = omega arith in r.small g m d k (rw z at j)

      go : (m : Met S) → meets C ss (C.classes s f n) ≡ m
          → then_block i (C.outputs s f n) bs m (λ ss₁ bs₁. row C i s (suc f) ns ss₁ bs₁) ≡ made ss' bs'
          → ((ss₁ : List S) (bs₁ : List Block) → row C i s (suc f) ns ss₁ bs₁ ≡ made ss' bs' → RowAgain s (suc f) ns ss₁ bs₁ ss' bs')
          → RowAgain s f (n ∷ ns) ss bs ss' bs'
      go (stopped r) h d ih = let z : ◌≡◌ {A = ℕ} 0 1 = cc in absurd (omega arith)
      go (met ss₁ xs) h d ih = common_prefix ss₁ xs h (ih ss₁ (bs ++ (record { out = C.outputs s f n; succs = xs } ∷ [])) d)

  -- ---- states in turn
  record RunAgain (ar : List ℕ) (i : ℕ) (ss : List S) (bs : List Block) (ss' : List S) (bs' : List Block) : Type 0 where
    pub ext : Ext ss ss'
    pub is : bs' ≡ bs ++ gather (λ s. blocks_of C ss' s 0 ar) (drop i ss')
    pub small : (s : S) → s ∈ drop i ss' → SmallOn C s 0 ar

  run_done : (ar : List ℕ) (i : ℕ) (ss : List S) (bs : List Block) (ss' : List S) (bs' : List Block) → length ss ≤ i → made ss bs ≡ made ss' bs'
      → RunAgain ar i ss bs ss' bs'
  run_done ar i ss bs ss' bs' h e =
      let a : ss ≡ ss' = cc in
      let b : bs ≡ bs' = cc in
      let z : drop i ss ≡ [] = drop_of_length-le ss h in
      rw (← a, ← b) (record {
        ext = ext_refl ss;
        is = sym (ap (λ l. bs ++ gather (λ s. blocks_of C ss s 0 ar) l) z ∙ append-nil bs);
        small =
            λ s m. elim (rw z at m) [ ];
      })

  run_again : (ar : List ℕ) (fuel i : ℕ) (ss : List S) (bs : List Block) (ss' : List S) (bs' : List Block) → fuel + i ≡ 128 → length ss ≤ 128
      → run C ar fuel i ss bs ≡ made ss' bs' → RunAgain ar i ss bs ss' bs'
  run_again ar zero i ss bs ss' bs' fi few e = run_done ar i ss bs ss' bs' (omega arith) e
  run_again ar (suc fuel) i ss bs ss' bs' fi few e =
      go (ltb i (length ss)) refl e (λ ss₁ bs₁ l d. run_again ar fuel (suc i) ss₁ bs₁ ss' bs' (omega arith) l d)
    where
      common_prefix : i < length ss → (ss₁ : List S) (bs₁ : List Block) → RowAgain (get_or ss i C.start) 0 ar ss bs ss₁ bs₁
          → RunAgain ar (suc i) ss₁ bs₁ ss' bs' → RunAgain ar i ss bs ss' bs'
      common_prefix inside ss₁ bs₁ a b =
          let x : Ext ss ss' = ext_trans a.ext b.ext in
          let l = ext_length x in
          let here-is : get_or ss' i C.start ≡ get_or ss i C.start = get_d_ext x i C.start inside in
          let next : drop i ss' ≡ get_or ss i C.start ∷ drop (suc i) ss' =
          drop-cons ss' i C.start (omega arith) ∙ ap (λ s. s ∷ drop (suc i) ss') here-is in
          record {
            ext = x;
            is = b.is ∙ ap (λ l. l ++ gather (λ s. blocks_of C ss' s 0 ar) (drop (suc i) ss')) (a.is ss' b.ext)
                ∙ append_assoc bs (blocks_of C ss' (get_or ss i C.start) 0 ar) (gather (λ s. blocks_of C ss' s 0 ar) (drop (suc i) ss'))
                ∙ ap (λ l. bs ++ gather (λ s. blocks_of C ss' s 0 ar) l) (sym next);
            small = λ s m. small s (rw next at m);
          }
        where
          small : (s : S) → s ∈ (get_or ss i C.start ∷ drop (suc i) ss') → SmallOn C s 0 ar
          small s (here e) = rw e a.small
          small s (there m) = b.small s m

      inner : i < length ss → (m : Made S) → row C i (get_or ss i C.start) 0 ar ss bs ≡ m
          → then_more m (λ ss₁ bs₁. run C ar fuel (suc i) ss₁ bs₁) ≡ made ss' bs'
          → ((ss₁ : List S) (bs₁ : List Block) → length ss₁ ≤ 128 → run C ar fuel (suc i) ss₁ bs₁ ≡ made ss' bs'
          → RunAgain ar (suc i) ss₁ bs₁ ss' bs') → RunAgain ar i ss bs ss' bs'
      inner inside (refused r p) q d ih = let z : ◌≡◌ {A = ℕ} 0 1 = cc in absurd (omega arith)
      inner inside (made ss₁ bs₁) q d ih = let o = row_again i (get_or ss i C.start) 0 ar ss bs ss₁ bs₁ q in
          common_prefix inside ss₁ bs₁ o (ih ss₁ bs₁ (o.few few) d)

      go : (b : Bool) → ltb i (length ss) ≡ b
          → cond b (then_more (row C i (get_or ss i C.start) 0 ar ss bs) (λ ss₁ bs₁. run C ar fuel (suc i) ss₁ bs₁)) (made ss bs) ≡ made ss' bs'
          → ((ss₁ : List S) (bs₁ : List Block) → length ss₁ ≤ 128 → run C ar fuel (suc i) ss₁ bs₁ ≡ made ss' bs'
          → RunAgain ar (suc i) ss₁ bs₁ ss' bs') → RunAgain ar i ss bs ss' bs'
      go true q d ih = inner (ltb_is i (length ss) q) (row C i (get_or ss i C.start) 0 ar ss bs) refl d ih
      go false q d ih = run_done ar i ss bs ss' bs' (ltb_not i (length ss) q) d

  pub blocks_again : (ar : List ℕ) (ss : List S) (bs : List Block) → explored C ar ≡ made ss bs → (bs ≡ all_blocks C ss ar)
      × ((s : S) → s ∈ ss → SmallOn C s 0 ar)
  blocks_again ar ss bs e = let r = run_again ar 128 0 (C.start ∷ []) [] ss bs (omega arith) (omega arith) e in (r.is, r.small)
