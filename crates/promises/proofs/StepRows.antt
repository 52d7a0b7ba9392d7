-- Rows 32 and 34: a step's outcome is the one that they give.
--   item_look look_item            what an item finds
--   found_tried tried_found        the walk after the step
--   step_32 step_34 step_takes     what a step comes to
--   StepIs step_is                 it is one of these
--   by_step                        the rows
use mathlib.Core.Path.{◌≡◌, refl, ap, sym, ◌∙◌}
use mathlib.Core.Bool.{true}
use mathlib.Core.List.{List}
use mathlib.Core.Option.{Option, none, some}
use Prim.Native.Nat.{ℕ, ◌+◌, ◌*◌, ◌^◌, ◌<◌, ◌≤◌}
use native.Mathlib.Omega.{arith}
use native.Mathlib.Decide.{dec_lt, dec_le}
use borrow.Author.Tests.{lt-ltb, le-ltb, le-leb, eq-eqb, ltb-true, leb-true}
use lib.Dec.{ltb, leb}
use lib.ListN.{length, get_or, get_elem?, drop}
use Rattle.kinds.specs.Lists.{bind, need}
use Rattle.kinds.specs.Positions.{code_good}
use Rattle.kinds.specs.declared.Reason.TheVariants.{NoSuchItem, OutOfRange}
use Rattle.kinds.proofs.Bools.{both, and_l, and_r}
use Rattle.kinds.proofs.Members.{all_at, all_of_lem}
use Rattle.kinds.proofs.Options.{none_not, on_bind, on_need}
use Rattle.kinds.proofs.Places.{at_in, on_in}
use Rattle.following.specs.Following.{target}
use Rattle.readers.specs.PlanParts.{counts_good, view_good, pairs, label_word, block_of}
use Rattle.readers.specs.BlockWords.{pair_list, middle, outs_at, nexts_at, block_start}
use Rattle.readers.proofs.LawsPairs.{pair_list_at, pairs_list, pairs_none}
use Rattle.readers.proofs.LawsParts.{block_start_lem}
use Rattle.queue.specs.Targets.{targets}
use Rattle.walk.specs.Starting.{Walk, refuse_walk, go_on}
use Rattle.walk.specs.Stepping.{Finding, look, onward, numbered, roomy, moved, tried, stepped}
use Rattle.walking.proofs.StepParts.{look_of, tried_of}
use Rattle.promises.specs.StepFound.{ItemFound, StepFound}
use Rattle.promises.specs.Demand1 as rows
use Rattle.promises.specs.Demand1.{StepRow, walk_told}
use Rattle.promises.specs.Told.{By, Told}
use Rattle.promises.proofs.ReaderRows.{view_good_lem, good_view, block_of_lem, of_block}
use Rattle.promises.proofs.LeadRows.{lead_targets, targets_lead}

-- ---- what an item finds
module _ (plan score spans : List ℕ) (state node : ℕ) (found : Finding) where
  abbrev states : ℕ
  states = get_or plan 0 0

  abbrev symbols : ℕ
  symbols = get_or plan 1 0

  abbrev to : ℕ → Option ℕ
  to = target (length score) spans node

  code_good_lem : (c y : ℕ) → to c ≡ some y → code_good c ≡ true
  unfolding target
  code_good_lem c y e = on_need (code_good c) _ e λ t d. t

  pub item_look : ItemFound plan score spans state node found → look plan score spans (state, node) ≡ some found
  unfolding label_word
  item_look h =
      look_of plan score spans states symbols (get_or plan 2 0) (and_l _ (view_good_lem plan states symbols h.label.view)) refl refl refl
      state node h.code found.node h.symbol (outs_at plan h.begin) (nexts_at plan h.begin) found.outs found.nexts
      (rw (lt-ltb state states h.label.state) h.label.word)
      h.node_read h.symbol_read
      (block_start_lem plan states symbols state h.symbol ∙ rw (block_of_lem plan states symbols state h.symbol h.begin h.block) refl)
      (lead_targets (get_or plan 2 0) to plan h.begin found.outs h.announcements)
      (lead_targets states to plan (middle plan h.begin) found.nexts h.successors)

  look_item : look plan score spans (state, node) ≡ some found → ItemFound plan score spans state node found
  unfolding look label_word
  look_item e =
      on_need (counts_good plan) _ e λ t d.
      on_bind (label_word plan states state) _ d λ c ec d₁.
      on_need (ltb state states) _ ec λ t₁ ew.
      on_bind (to c) _ d₁ λ x ex d₂.
      on_bind (get_elem? score x) _ d₂ λ f ef d₃.
      on_bind (block_of plan states symbols state f) _ d₃ λ p ep d₄.
      on_bind (block_start plan states symbols state f) _ (sym (block_start_lem plan states symbols state f) ∙ ep) λ b eb d₅.
      on_bind (targets (get_or plan 2 0) to p.0) _ d₄ λ os eo d₆.
      on_bind (targets states to p.1) _ d₆ λ ns en d₇.
      let z : record { node = x; outs = os; nexts = ns } ≡ found = cc in
      let q : (outs_at plan b, nexts_at plan b) ≡ p = cc in
      let view : view_good plan states symbols ≡ true = both t (both (eq-eqb states states refl) (eq-eqb symbols symbols refl)) in
      rw (← z) (record {
        code = c;
        label = record { view = good_view plan states symbols view; state = ltb-true state states t₁; word = ew; code = code_good_lem c x ex };
        node_read = ex;
        symbol = f;
        symbol_read = ef;
        begin = b;
        block = of_block plan states symbols state f b view eb;
        announcements = targets_lead (get_or plan 2 0) to plan b os code_good_lem (rw (← q) at eo);
        successors = targets_lead states to plan (middle plan b) ns code_good_lem (rw (← q) at en);
      })

-- ---- the walk after the step
module _ (plan score spans : List ℕ) (i : ℕ) (w : Walk) where
  abbrev its : List (ℕ × ℕ)
  its = pair_list w.items 0 w.count.waiting

  abbrev item : ℕ × ℕ
  item = (get_or w.items (2 * i) 0, get_or w.items (2 * i + 1) 0)

  module _ (waits : i < w.count.waiting) where
    all_items : 2 * w.count.waiting ≤ length w.items
        → pairs w.count.waiting w.items ≡ some (its, drop (0 + 2 * w.count.waiting) w.items)
    all_items h = pairs_list w.count.waiting w.items 0 (omega arith)

    the_item : get_elem? its i ≡ some item
    the_item =
        let z : 0 + 2 * i ≡ 2 * i = omega arith in
        pair_list_at w.count.waiting w.items 0 i waits ∙ ap (λ (k : ℕ). some (get_or w.items k 0, get_or w.items (k + 1) 0)) z

    found_tried : (v : Walk) → StepFound plan score spans i w v → tried plan score spans i w ≡ some v
    found_tried v s =
        let found = s.found in
        let its' = onward i its found.nexts in
        let after = rw s.after at s.room_after in
        tried_of plan score spans i w its (drop (0 + 2 * w.count.waiting) w.items) item found
        (both (le-leb w.count.matches (16 * length score) s.number_in) (le-leb w.count.matches (2 ^ 63) s.number_held))
        (all_items s.room_before) the_item
        (item_look plan score spans item.0 item.1 found s.item)
        (both (lt-ltb w.count.logged (length w.log) s.log_room)
        (both (le-leb (2 * length its') (length w.items) after)
        (all_of_lem (λ x. ltb x.1 (length w.marks)) found.outs
        (λ y m. on_in m (λ j e. lt-ltb y.1 (length w.marks) (s.marks_there j y e))))))
        ∙ ap some (sym s.after)

    tried_found : (v : Walk) → tried plan score spans i w ≡ some v → StepFound plan score spans i w v
    unfolding tried
    tried_found v e = on_need (numbered (length score) w.count) _ e λ k d. go (dec_le (2 * w.count.waiting) (length w.items)) d k
      where
        then : List (ℕ × ℕ) → Finding → Option Walk
        then l found = need (roomy w found (onward i l found.nexts)) (some (moved w found (onward i l found.nexts)))

        -- where the number may stand
        tried_on : Option Walk
        tried_on = bind (pairs w.count.waiting w.items) (λ l. bind (get_elem? l.0 i) (λ it. bind (look plan score spans it) (then l.0)))

        go : Dec (2 * w.count.waiting ≤ length w.items) → tried_on ≡ some v → numbered (length score) w.count ≡ true
            → StepFound plan score spans i w v
        go (no h) e k = none_not (sym (rw (pairs_none w.count.waiting w.items (omega arith)) refl) ∙ e)
        go (yes h) e k =
            let e₁ : bind (look plan score spans item) (then its) ≡ some v = rw (all_items h, the_item) at e in
            on_bind (look plan score spans item) (then its) e₁ λ found ef d.
            on_need (roomy w found (onward i its found.nexts)) _ d λ t d₁.
            let its' = onward i its found.nexts in
            let z : v ≡ moved w found its' = cc in
            let a = and_r (ltb w.count.logged (length w.log)) t in
            let b = leb-true (2 * length its') (length w.items) (and_l _ a) in
            let c = and_r (leb (2 * length its') (length w.items)) a in
            record {
              found = found;
              item = look_item plan score spans item.0 item.1 found ef;
              number_in = leb-true w.count.matches (16 * length score) (and_l _ k);
              number_held = leb-true w.count.matches (2 ^ 63) (and_r (leb w.count.matches (16 * length score)) k);
              log_room = ltb-true w.count.logged (length w.log) (and_l _ t);
              room_before = h;
              room_after = rw z b;
              marks_there = λ j y ey. ltb-true y.1 (length w.marks) (all_at (λ x. ltb x.1 (length w.marks)) c (at_in found.outs j ey));
              after = z;
            }

  -- ---- the rows
  pub step_32 : w.count.waiting ≤ i → stepped plan score spans i w ≡ refuse_walk NoSuchItem w
  unfolding stepped
  step_32 h = rw (le-ltb i w.count.waiting h) refl

  pub step_34 : i < w.count.waiting → ((v : Walk) → StepFound plan score spans i w v → ⊥) → stepped plan score spans i w ≡ refuse_walk OutOfRange w
  unfolding stepped
  step_34 h n = rw (lt-ltb i w.count.waiting h, nothing (tried plan score spans i w) refl) refl
    where
      nothing : (o : Option Walk) → tried plan score spans i w ≡ o → tried plan score spans i w ≡ none
      nothing none e = e
      nothing (some v) e = absurd (n v (tried_found h v e))

  pub step_takes : i < w.count.waiting → (v : Walk) → StepFound plan score spans i w v → stepped plan score spans i w ≡ go_on v
  unfolding stepped
  step_takes h v s = rw (lt-ltb i w.count.waiting h, found_tried h v s) refl

  pub data StepIs : Type 0 where
    is_32 : w.count.waiting ≤ i → StepIs
    is_34 : i < w.count.waiting → ((v : Walk) → StepFound plan score spans i w v → ⊥) → StepIs
    is_taken : i < w.count.waiting → (v : Walk) → StepFound plan score spans i w v → StepIs

  pub step_is : StepIs
  step_is = go (dec_lt i w.count.waiting) (tried plan score spans i w) refl
    where
      go : Dec (i < w.count.waiting) → (o : Option Walk) → tried plan score spans i w ≡ o → StepIs
      go (no h) o e = is_32 (omega arith)
      go (yes h) none e = is_34 h (λ v s. none_not (sym e ∙ found_tried h v s))
      go (yes h) (some v) e = is_taken h v (tried_found h v e)

  step_row : StepRow plan score spans i w (walk_told (stepped plan score spans i w))
  step_row = go step_is
    where
      go : StepIs → StepRow plan score spans i w (walk_told (stepped plan score spans i w))
      go (is_32 h) = rw (step_32 h) (rows.step_32 h)
      go (is_34 h n) = rw (step_34 h n) (rows.step_34 h n)
      go (is_taken h v s) = rw (step_takes h v s) (rows.takes h v s)

  step_only : (o : Told Walk) → StepRow plan score spans i w o → walk_told (stepped plan score spans i w) ≡ o
  step_only _ (rows.step_32 h) = ap walk_told (step_32 h)
  step_only _ (rows.step_34 h n) = ap walk_told (step_34 h n)
  step_only _ (rows.takes h v s) = ap walk_told (step_takes h v s)

  pub by_step : By (StepRow plan score spans i w) (walk_told (stepped plan score spans i w))
  by_step = (step_row, step_only)
