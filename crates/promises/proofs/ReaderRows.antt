-- The plan readers answer what is found, or 34.
--   view_good_lem good_view       the view's counts
--   pair_of_lem of_pair               a pair of those counted at a word
--   block_of_lem of_block         a block's start
--   by_label by_lengths by_announcement by_successor   the readers
use Rattle.kinds.specs.declared.Reason.{Reason}
use Rattle.readers.specs.declared.Lengths.{Lengths}
use Rattle.std.specs.Prelude.{Err, Ok, Result}
use mathlib.Core.Path.{◌≡◌, refl, ap, sym, ◌∙◌}
use mathlib.Core.Bool.{true, false, ◌&&◌}
use mathlib.Core.List.{List, ◌∷◌, []}
use mathlib.Core.Logic.{◌⊎◌, inl, inr}
use mathlib.Core.Option.{Option, none, some}
use Prim.Native.Nat.{ℕ, ◌+◌, ◌*◌, ◌<◌, ◌≤◌}
use native.Mathlib.Omega.{arith}
use borrow.Author.Tests.{lt-ltb, le-leb, eq-eqb, ltb-true, leb-true, eqb-true}
use lib.Dec.{eqb, ltb, leb}
use lib.ListN.{length, get_or, get_elem?}
use Rattle.kinds.specs.Lists.{bind, need}
use Rattle.kinds.specs.Positions.{code_good}
use Rattle.kinds.specs.Kinds.{position}
use Rattle.kinds.specs.declared.Reason.TheVariants.{OutOfRange}
use Rattle.kinds.proofs.Bools.{test, both, and_l, and_r}
use Rattle.kinds.proofs.Options.{on_bind, on_need}
use Rattle.kinds.proofs.Places.{at_below}
use Rattle.readers.specs.PlanParts.{within, view_good, label_word, to_label, pair_at, label_of, label_says, lengths_of, block_says, to_announcement, announcement_of, announcement_says, to_successor, successor_of, successor_says}
use Rattle.readers.specs.BlockWords.{middle, pair_list, outs_at, nexts_at, block_fits, block_start}
use Rattle.readers.proofs.LawsPairs.{pair_list_length, pair_list_at, fits_in}
use Rattle.readers.proofs.LawsParts as laws
use Rattle.promises.specs.Found.{FoundRow, View, PairFound, LabelFound, BlockFound, AnnouncementFound, SuccessorFound, pair_values}
use Rattle.promises.specs.Told.{By}
use Rattle.promises.proofs.FoundRows.{by_found}

-- ---- a pair
module _ (plan : List ℕ) (at limit i : ℕ) (x : ℕ × ℕ) where
  pub pair_of_lem : PairFound plan at limit i x → pair_at limit (pair_list plan (at + 1) (get_or plan at 0)) i ≡ some x
  pair_of_lem p = laws.pair_some plan (at + 1) limit (get_or plan at 0) i x.0 x.1 p.counted p.number
      (p.code ∙ ap (λ k. get_or plan k 0) (laws.second at i)) p.number_in p.code_in

  pub of_pair : pair_at limit (pair_list plan (at + 1) (get_or plan at 0)) i ≡ some x → PairFound plan at limit i x
  unfolding pair_at
  of_pair e =
      on_bind (get_elem? (pair_list plan (at + 1) (get_or plan at 0)) i) _ e λ a ea d.
      on_need (ltb a.0 limit) _ d λ t d₁.
      on_need (code_good a.1) _ d₁ λ t₁ d₂.
      let z : a ≡ x = cc in
      let n = at_below (pair_list plan (at + 1) (get_or plan at 0)) i ea in
      let h : i < get_or plan at 0 = omega (arith, n, pair_list_length (get_or plan at 0) plan (at + 1)) in
      let w : some x ≡ some (get_or plan (at + 1 + 2 * i) 0, get_or plan (at + 1 + 2 * i + 1) 0) =
      ap some (sym z) ∙ sym ea ∙ pair_list_at (get_or plan at 0) plan (at + 1) i h in
      let y : x ≡ (get_or plan (at + 1 + 2 * i) 0, get_or plan (at + 1 + 2 * i + 1) 0) = cc in
      record {
        counted = h;
        number = ap (λ (q : ℕ × ℕ). q.0) y;
        code = ap (λ (q : ℕ × ℕ). q.1) y ∙ ap (λ k. get_or plan k 0) (sym (laws.second at i));
        number_in = rw (← z) (ltb-true a.0 limit t);
        code_in = rw (← z) t₁;
      }

-- ---- the view
module _ (plan : List ℕ) (m k : ℕ) where
  is_within : (most n : ℕ) → (1 ≤ n) × (n ≤ most) → within most n ≡ true
  is_within most n h = both (lt-ltb 0 n (omega arith)) (le-leb n most h.1)

  within_is : (most n : ℕ) → within most n ≡ true → (1 ≤ n) × (n ≤ most)
  within_is most n e = let h = ltb-true 0 n (and_l _ e) in (omega arith, leb-true n most (and_r (ltb 0 n) e))

  pub view_good_lem : View plan m k → view_good plan m k ≡ true
  view_good_lem v =
      let a = rw v.states_are at v.states_in_lem in
      let b = rw v.symbols_are at v.symbols_in_lem in
      both (both (le-leb 4 (length plan) v.header)
      (both (is_within 128 (get_or plan 0 0) a) (both (is_within 32 (get_or plan 1 0) b) (is_within 16 (get_or plan 2 0) v.shapes_in_lem))))
      (both (eq-eqb m (get_or plan 0 0) v.states_are) (eq-eqb k (get_or plan 1 0) v.symbols_are))

  pub good_view : view_good plan m k ≡ true → View plan m k
  good_view e =
      let c = and_l {a = leb 4 (length plan) && (within 128 (get_or plan 0 0) && (within 32 (get_or plan 1 0) && within 16 (get_or plan 2 0)))} _ e in
      let d = and_r (leb 4 (length plan)) c in
      let d₁ = and_r (within 128 (get_or plan 0 0)) d in
      let v = and_r (leb 4 (length plan) && (within 128 (get_or plan 0 0) && (within 32 (get_or plan 1 0) && within 16 (get_or plan 2 0)))) e in
      let a : m ≡ get_or plan 0 0 = eqb-true m (get_or plan 0 0) (and_l _ v) in
      let b : k ≡ get_or plan 1 0 = eqb-true k (get_or plan 1 0) (and_r (eqb m (get_or plan 0 0)) v) in
      record {
        header = leb-true 4 (length plan) (and_l _ c);
        states_are = a;
        symbols_are = b;
        states_in_lem = rw a (within_is 128 (get_or plan 0 0) (and_l _ d));
        symbols_in_lem = rw b (within_is 32 (get_or plan 1 0) (and_l _ d₁));
        shapes_in_lem = within_is 16 (get_or plan 2 0) (and_r (within 32 (get_or plan 1 0)) d₁);
      }

  -- ---- a label
  module _ (s : ℕ) where
    label_is : (c : ℕ) → LabelFound plan m k s c → label_of plan m k s ≡ Ok (position c)
    unfolding label_of label_word
    label_is c h = rw (view_good_lem h.view, lt-ltb s m h.state, h.word, h.code) refl

    label_either : ((c : ℕ) × LabelFound plan m k s c) ⊎ (label_of plan m k s ≡ Err OutOfRange)
    unfolding label_of label_word
    label_either = go (need (view_good plan m k) (bind (label_word plan m s) (λ c. need (code_good c) (some c)))) refl
      where
        go : (o : Option ℕ) → need (view_good plan m k) (bind (label_word plan m s) (λ c. need (code_good c) (some c))) ≡ o
            → ((c : ℕ) × LabelFound plan m k s c) ⊎ (label_of plan m k s ≡ Err OutOfRange)
        go none e = inr (ap to_label e)
        go (some c) e =
            on_need (view_good plan m k) _ e λ t d.
            on_bind (label_word plan m s) _ d λ w ew d₁.
            on_need (code_good w) _ d₁ λ t₁ d₂.
            on_need (ltb s m) _ ew λ t₂ d₃.
            inl (w, record { view = good_view t; state = ltb-true s m t₂; word = d₃; code = t₁ })

    pub by_label : By (FoundRow (LabelFound plan m k s) (λ c. c ∷ [])) (label_says (label_of plan m k s))
    by_label = by_found (LabelFound plan m k s) (λ c. c ∷ []) label_says (Err OutOfRange) (λ c. Ok (position c)) (label_of plan m k s)
        refl (λ c. refl) label_is label_either

  -- ---- a block
  module _ (s f : ℕ) where
    pub block_of_lem : (b : ℕ) → BlockFound plan m k s f b → block_start plan m k s f ≡ some b
    unfolding block_start block_fits
    block_of_lem b h = rw (
      lt-ltb s m h.state,
      lt-ltb f k h.symbol,
      h.start,
      le-leb (middle plan b + 1 + 2 * get_or plan (middle plan b) 0)
          (length plan) h.inside,
    ) refl

    pub of_block : (b : ℕ) → view_good plan m k ≡ true → block_start plan m k s f ≡ some b → BlockFound plan m k s f b
    unfolding block_start
    of_block b good e =
        on_need (ltb s m) _ e λ t d.
        on_need (ltb f k) _ d λ t₁ d₁.
        on_bind (get_elem? plan (4 + m + (s * k + f))) _ d₁ λ a ea d₂.
        on_need (block_fits plan a) _ d₂ λ t₂ d₃.
        let z : a ≡ b = cc in
        record {
          view = good_view good;
          state = ltb-true s m t;
          symbol = ltb-true f k t₁;
          start = ea ∙ ap some z;
          inside =
              rw (← z) (fits_in plan a t₂);
        }

    -- a block is found, or one of the two laws for a refusal applies
    on_block {κ} : {C : Type κ} → ((b : ℕ) → BlockFound plan m k s f b → C) → (view_good plan m k ≡ false → C)
        → (view_good plan m k ≡ true → block_start plan m k s f ≡ none → C) → C
    on_block {C = C} found bad out = go (test (view_good plan m k)) (block_start plan m k s f) refl
      where
        go : (view_good plan m k ≡ true) ⊎ (view_good plan m k ≡ false) → (o : Option ℕ) → block_start plan m k s f ≡ o → C
        go (inr n) o e = bad n
        go (inl g) none e = out g e
        go (inl g) (some b) e = found b (of_block b g e)

    abbrev lengths : ℕ → Result Lengths Reason
    lengths b = Ok (record { announcements = get_or plan b 0; successors = get_or plan (middle plan b) 0 })

    pub by_lengths : By (FoundRow (BlockFound plan m k s f) (λ b. get_or plan b 0 ∷ get_or plan (middle plan b) 0 ∷ []))
        (block_says (lengths_of plan m k s f))
    by_lengths =
        by_found (BlockFound plan m k s f) (λ b. get_or plan b 0 ∷ get_or plan (middle plan b) 0 ∷ []) block_says (Err OutOfRange) lengths
        (lengths_of plan m k s f)
        refl (λ b. refl)
        (λ b h. laws.lengths_some plan m k (view_good_lem h.view) s f b (block_of_lem b h))
        (on_block (λ b h. inl (b, h)) (λ n. inr (laws.lengths_view plan m k s f n)) (λ g e. inr (laws.lengths_none plan m k g s f e)))

    -- ---- a pair of a block
    module _ (i : ℕ) where
      pub by_announcement : By (FoundRow (AnnouncementFound plan m k s f i) pair_values) (announcement_says (announcement_of plan m k s f i))
      unfolding announcement_of
      by_announcement =
          by_found (AnnouncementFound plan m k s f i) pair_values announcement_says (Err OutOfRange)
          (λ x. Ok (record { 0 = x.0 }, position x.1)) (announcement_of plan m k s f i)
          refl (λ x. refl)
          (λ x h. ap to_announcement (laws.pair_in_lem plan m k (view_good_lem h.block.view) s f h.begin (block_of_lem h.begin h.block) false i
          ∙ pair_of_lem plan h.begin (get_or plan 2 0) i x h.pair))
          (on_block (λ b h. in_block b h (pair_at (get_or plan 2 0) (outs_at plan b) i) refl)
          (λ n. inr (ap to_announcement (laws.pair_view plan m k false s f i n)))
          (λ g e. inr (ap to_announcement (laws.pair_start plan m k g s f false i e))))
        where
          in_block : (b : ℕ) → BlockFound plan m k s f b → (o : Option (ℕ × ℕ)) → pair_at (get_or plan 2 0) (outs_at plan b) i ≡ o
              → ((x : ℕ × ℕ) × AnnouncementFound plan m k s f i x) ⊎ (announcement_of plan m k s f i ≡ Err OutOfRange)
          in_block b h none e = inr (ap to_announcement (laws.pair_in_lem plan m k (view_good_lem h.view) s f b (block_of_lem b h) false i ∙ e))
          in_block b h (some x) e = inl (x, record { begin = b; block = h; pair = of_pair plan b (get_or plan 2 0) i x e })

      pub by_successor : By (FoundRow (SuccessorFound plan m k s f i) pair_values) (successor_says (successor_of plan m k s f i))
      unfolding successor_of
      by_successor =
          by_found (SuccessorFound plan m k s f i) pair_values successor_says (Err OutOfRange)
          (λ x. Ok (record { 0 = x.0 }, position x.1)) (successor_of plan m k s f i)
          refl (λ x. refl)
          (λ x h. ap to_successor (laws.pair_in_lem plan m k (view_good_lem h.block.view) s f h.begin (block_of_lem h.begin h.block) true i
          ∙ pair_of_lem plan (middle plan h.begin) m i x h.pair))
          (on_block (λ b h. in_block b h (pair_at m (nexts_at plan b) i) refl) (λ n. inr (ap to_successor (laws.pair_view plan m k true s f i n)))
          (λ g e. inr (ap to_successor (laws.pair_start plan m k g s f true i e))))
        where
          in_block : (b : ℕ) → BlockFound plan m k s f b → (o : Option (ℕ × ℕ)) → pair_at m (nexts_at plan b) i ≡ o
              → ((x : ℕ × ℕ) × SuccessorFound plan m k s f i x) ⊎ (successor_of plan m k s f i ≡ Err OutOfRange)
          in_block b h none e = inr (ap to_successor (laws.pair_in_lem plan m k (view_good_lem h.view) s f b (block_of_lem b h) true i ∙ e))
          in_block b h (some x) e = inl (x, record { begin = b; block = h; pair = of_pair plan (middle plan b) m i x e })
