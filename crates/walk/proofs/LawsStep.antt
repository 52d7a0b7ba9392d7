-- A step, way by way through the code.
--   step_number step_few                     the refusals that need no look
--   symbol head_good head_fits               what an item finds
--   Sighted sighted_is sight_outs sight_fits sight_new   what a step sees
--   step_nothing step_unseen step_done done_waiting done_items   the step
--   Clauses tells_34 tells_on       what the code answers and leaves is what the definition says
use Rattle.std.specs.Prelude.{Err, Ok, Result}
use mathlib.Core.Path.{◌≡◌, refl, ap, sym, ◌∙◌}
use mathlib.Core.Bool.{Bool, true, false, ◌&&◌}
use mathlib.Core.List.{List}
use mathlib.Core.Option.{Option, none, some}
use mathlib.Core.Logic.{◌⊎◌, inl, inr, ⊎_elim}
use Prim.Native.Nat.{ℕ, ◌+◌, ◌*◌, ◌-◌, ◌^◌, ◌<◌, ◌≤◌}
use native.Mathlib.Omega.{arith}
use native.Mathlib.Decide.{dec_le}
use native.Mathlib.Numerals.{add-one}
use borrow.Author.Tests.{lt-ltb, le-leb}
use lib.Dec.{ltb, leb}
use lib.ListN.{length, get_or, get_elem?, drop, set}
use lib.Seq.{sets}
use Rattle.kinds.specs.Lists.{bind, need, all}
use Rattle.kinds.specs.declared.Reason.{Reason}
use Rattle.kinds.specs.declared.Reason.TheVariants.{OutOfRange}
use Rattle.kinds.proofs.Bools.{test, and_l, and_r, both, and_false, false_true, ltb_is, leb_is}
use Rattle.kinds.proofs.Options.{none_not, on_bind, on_need, bind_along, need_along}
use Rattle.kinds.proofs.Places.{get_elem_some}
use Rattle.following.specs.Following.{target}
use Rattle.following.proofs.LawsFollowing.{target_in}
use Rattle.readers.specs.PlanParts.{counts_good, pairs, pair_words, label_word, block_of}
use Rattle.walk.specs.Starting.{Walk, walk_of, counting, refuse_walk, go_on, outcome}
use Rattle.walk.specs.declared.Record.{Record}
use Rattle.walk.proofs.LawsStart.{on_is}
use Rattle.walk.specs.Stepping.{Finding, look, onward, numbered, roomy, moved, tried, or_refuse, stepped}
use Rattle.queue.specs.Targets.{targets, marked, newly, fine, landed, closed_up}
use Rattle.walk.specs.ByIndex.{look_head, record_fits, leads_fine, room_left, sighted}
use Rattle.readers.specs.BlockWords.{pair_list, middle, outs_at, nexts_at, block_fits, block_start}
use Rattle.readers.proofs.LawsPairs.{fits_in, pair_list_length, pair_list_at, pairs_list, pairs_none}
use Rattle.walk.proofs.LawsOnward.{onward_length, onward_words}
use Rattle.readers.proofs.LawsParts.{counts_of_lem, block_start_lem, start_fits}
use Rattle.queue.proofs.LawsTargets.{all_wider, fine_split, fine_fail, fine_small, landed_length, newly_most}

-- ---- the refusals that need no look
module _ (plan score spans : List ℕ) (i : ℕ) (w : Walk) where
  pub step_number : i < w.count.waiting → numbered (length score) w.count ≡ false → stepped plan score spans i w ≡ refuse_walk OutOfRange w
  unfolding stepped tried
  step_number h k = rw (lt-ltb _ _ h, k)

  pub step_few : i < w.count.waiting → numbered (length score) w.count ≡ true → length w.items < 2 * w.count.waiting
      → stepped plan score spans i w ≡ refuse_walk OutOfRange w
  unfolding stepped tried
  step_few h k l = rw (lt-ltb _ _ h, k, pairs_none w.count.waiting w.items l)

-- ---- the look
module _ (plan score spans : List ℕ) (it : ℕ × ℕ) where
  abbrev rest : ℕ × ℕ → Option Finding
  rest h =
      bind (targets (get_or plan 2 0) (target (length score) spans it.1) (outs_at plan h.1)) (λ os.
      bind (targets (get_or plan 0 0) (target (length score) spans it.1) (nexts_at plan h.1)) (λ ns.
      some (record { node = h.0; outs = os; nexts = ns })))

  look_head_lem : look plan score spans it ≡ bind (look_head plan score spans it) rest
  unfolding look look_head
  look_head_lem =
      need_along (counts_good plan) _ _ rest
      (bind_along (label_word plan (get_or plan 0 0) it.0) _ _ rest (λ c.
      bind_along (target (length score) spans it.1 c) _ _ rest (λ x.
      bind_along (get_elem? score x) _ _ rest (λ f. block x f))))
    where
      from : ℕ → List (ℕ × ℕ) × List (ℕ × ℕ) → Option Finding
      from x b =
          bind (targets (get_or plan 2 0) (target (length score) spans it.1) b.0) (λ os.
          bind (targets (get_or plan 0 0) (target (length score) spans it.1) b.1) (λ ns.
          some (record { node = x; outs = os; nexts = ns })))

      go : (x : ℕ) (o : Option ℕ) → bind (bind o (λ b. some (outs_at plan b, nexts_at plan b))) (from x) ≡ bind (bind o (λ b. some (x, b))) rest
      go x none = refl
      go x (some b) = refl

      block : (x f : ℕ) → bind (block_of plan (get_or plan 0 0) (get_or plan 1 0) it.0 f) (from x) ≡ bind
          (bind (block_start plan (get_or plan 0 0) (get_or plan 1 0) it.0 f) (λ b. some (x, b))) rest
      block x f = ap (λ (o : Option (List (ℕ × ℕ) × List (ℕ × ℕ))). bind o (from x)) (block_start_lem plan (get_or plan 0 0) (get_or plan 1 0) it.0 f)
          ∙ go x (block_start plan (get_or plan 0 0) (get_or plan 1 0) it.0 f)

-- ---- what an item finds
pub symbol : (score spans : List ℕ) (at c x : ℕ) → target (length score) spans at c ≡ some x → get_elem? score x ≡ some (get_or score x 0)
symbol score spans at c x e = get_elem_some score x (target_in (length score) spans at c x e).0

module _ (plan score spans : List ℕ) (it : ℕ × ℕ) (x b : ℕ) (e : look_head plan score spans it ≡ some (x, b)) where
  pub head_good : counts_good plan ≡ true
  unfolding look_head
  head_good = on_need (counts_good plan) _ e λ t d. t

  pub head_fits : block_fits plan b ≡ true
  unfolding look_head
  head_fits =
      on_need (counts_good plan) _ e λ t d.
      on_bind (label_word plan (get_or plan 0 0) it.0) _ d λ c ec d₁.
      on_bind (target (length score) spans it.1 c) _ d₁ λ y ey d₂.
      on_bind (get_elem? score y) _ d₂ λ f ef d₃.
      on_bind (block_start plan (get_or plan 0 0) (get_or plan 1 0) it.0 f) _ d₃ λ a ea d₄.
      let yb : ◌≡◌ {A = ℕ × ℕ} (y, a) (x, b) = cc in
      let ab : a ≡ b = ap (λ q. q.1) yb in
      rw ab at (start_fits plan (get_or plan 0 0) (get_or plan 1 0) it.0 f ea)

-- ---- what a step sees
module _ (plan score spans items : List ℕ) (log marks : ℕ) (r : Record) (i : ℕ) where
  pub record Sighted (from x b : ℕ) : Type 0 where
    pub fits : 2 * r.waiting ≤ length items
    pub number : numbered (length score) r ≡ true
    pub is_from : from ≡ get_or items (2 * i + 1) 0
    pub head : look_head plan score spans (get_or items (2 * i) 0, from) ≡ some (x, b)
    pub outs : all (fine (get_or plan 2 0) marks (target (length score) spans from)) (outs_at plan b) ≡ true
    pub nexts : all (fine (get_or plan 0 0) 65536 (target (length score) spans from)) (nexts_at plan b) ≡ true
    pub log_room : r.logged < log
    pub room : 2 * (r.waiting - 1 + get_or plan (middle plan b) 0) ≤ length items

module _ {plan score spans items : List ℕ} {log marks : ℕ} {r : Record} {i : ℕ} where
  pub sighted_is : {from x b : ℕ} → sighted plan score spans items log marks r i ≡ some (from, x, b) → Sighted plan score spans items log marks r i from x b
  unfolding sighted record_fits leads_fine room_left
  sighted_is {from} {x} {b} e =
      on_need (leb (2 * r.waiting) (length items) && numbered (length score) r) _ e λ t₁ e₁.
      on_bind (look_head plan score spans (get_or items (2 * i) 0, get_or items (2 * i + 1) 0)) _ e₁ λ h eh e₂.
      on_need (all (fine (get_or plan 2 0) marks (target (length score) spans (get_or items (2 * i + 1) 0))) (outs_at plan h.1) && all
      (fine (get_or plan 0 0) 65536 (target (length score) spans (get_or items (2 * i + 1) 0))) (nexts_at plan h.1)) _ e₂ λ t₃ e₃.
      on_need (ltb r.logged log && leb (2 * (r.waiting - 1 + get_or plan (middle plan h.1) 0)) (length items)) _ e₃ λ t₄ e₄.
      let z : ◌≡◌ {A = ℕ × ℕ × ℕ} (get_or items (2 * i + 1) 0, h.0, h.1) (from, x, b) = cc in
      parts h eh (ap (λ q. q.0) z) (ap (λ q. q.1) z) (ap (λ q. q.2) z) t₁ t₃ t₄
    where
      parts : (h : ℕ × ℕ) → look_head plan score spans (get_or items (2 * i) 0, get_or items (2 * i + 1) 0) ≡ some h → get_or items (2 * i + 1) 0 ≡ from
          → h.0 ≡ x → h.1 ≡ b → (leb (2 * r.waiting) (length items) && numbered (length score) r) ≡ true
          → (all (fine (get_or plan 2 0) marks (target (length score) spans (get_or items (2 * i + 1) 0))) (outs_at plan h.1) && all
          (fine (get_or plan 0 0) 65536 (target (length score) spans (get_or items (2 * i + 1) 0))) (nexts_at plan h.1)) ≡ true
          → (ltb r.logged log && leb (2 * (r.waiting - 1 + get_or plan (middle plan h.1) 0)) (length items)) ≡ true → Sighted plan score spans items log marks r i from x b
      parts h eh ef ex eb t₁ t₃ t₄ = rw (← ef, ← ex, ← eb) (record {
        fits = leb_is _ _ (and_l _ t₁);
        number = and_r (leb (2 * r.waiting) (length items)) t₁;
        is_from = refl;
        head = eh;
        outs = and_l _ t₃;
        nexts = and_r (all (fine (get_or plan 2 0) marks (target (length score) spans (get_or items (2 * i + 1) 0))) (outs_at plan h.1)) t₃;
        log_room = ltb_is _ _ (and_l _ t₄);
        room = leb_is _ _ (and_r (ltb r.logged log) t₄);
      })

  module _ {from x b : ℕ} (d : Sighted plan score spans items log marks r i from x b) where
    -- as the marks' writer asks it
    pub sight_outs : all (fine 16 marks (target (length score) spans from)) (outs_at plan b) ≡ true
    sight_outs = all_wider (get_or plan 2 0) 16 marks (target (length score) spans from) (outs_at plan b)
        (counts_of_lem plan (head_good plan score spans (get_or items (2 * i) 0, from) x b d.head)).3 d.outs

    pub sight_fits : block_fits plan b ≡ true
    sight_fits = head_fits plan score spans (get_or items (2 * i) 0, from) x b d.head

    -- a record has room for the bits newly set
    pub sight_new : (ms : List ℕ) → r.matches + newly (landed (target (length score) spans from) (outs_at plan b)) ms ≤ 2 ^ 63 + length plan
    sight_new ms =
        let h : r.matches ≤ 2 ^ 63 = leb_is _ _ (and_r (leb r.matches (16 * length score)) d.number) in
        let l = newly_most (landed (target (length score) spans from) (outs_at plan b)) ms in
        let m = landed_length (target (length score) spans from) (outs_at plan b) in
        let k = pair_list_length (get_or plan b 0) plan (b + 1) in
        let f = fits_in plan b sight_fits in
        omega arith

-- ---- the step
module _ (plan score spans : List ℕ) (i : ℕ) (w : Walk) (h : i < w.count.waiting) (k : numbered (length score) w.count ≡ true)
    (g : 2 * w.count.waiting ≤ length w.items) where
  abbrev item : ℕ × ℕ
  item = (get_or w.items (2 * i) 0, get_or w.items (2 * i + 1) 0)

  abbrev its : List (ℕ × ℕ)
  its = pair_list w.items 0 w.count.waiting

  -- what is found, put to use
  abbrev then : Finding → Option Walk
  then found = need (roomy w found (onward i its found.nexts)) (some (moved w found (onward i its found.nexts)))

  step_by : stepped plan score spans i w ≡ or_refuse w (bind (look plan score spans item) then)
  unfolding stepped tried
  step_by =
      let p : pairs w.count.waiting w.items ≡ some (its, drop (0 + 2 * w.count.waiting) w.items) =
      pairs_list w.count.waiting w.items 0 (omega arith) in
      let z : 0 + 2 * i ≡ 2 * i = omega arith in
      let q : get_elem? its i ≡ some item =
      pair_list_at w.count.waiting w.items 0 i h ∙ ap (λ (k : ℕ). some (get_or w.items k 0, get_or w.items (k + 1) 0)) z in
      rw (lt-ltb _ _ h, k, p, q)

  pub step_nothing : look_head plan score spans item ≡ none → stepped plan score spans i w ≡ refuse_walk OutOfRange w
  step_nothing e = step_by ∙ rw (look_head_lem plan score spans item, e)

  module _ (x b : ℕ) (e : look_head plan score spans item ≡ some (x, b)) where
    abbrev to : ℕ → Option ℕ
    to = target (length score) spans (get_or w.items (2 * i + 1) 0)

    abbrev outs : List (ℕ × ℕ)
    outs = landed to (outs_at plan b)

    abbrev nexts : List (ℕ × ℕ)
    nexts = landed to (nexts_at plan b)

    abbrev found : Finding
    found = record { node = x; outs = outs; nexts = nexts }

    step_found : stepped plan score spans i w ≡ or_refuse w (bind (rest plan score spans item (x, b)) then)
    step_found = step_by ∙ ap (λ (o : Option Finding). or_refuse w (bind o then))
        (look_head_lem plan score spans item ∙ ap (λ (o : Option (ℕ × ℕ)). bind o (rest plan score spans item)) e)

    after_many : length (onward i its nexts) ≡ w.count.waiting - 1 + get_or plan (middle plan b) 0
    after_many =
        onward_length i w.count.waiting its nexts h (pair_list_length w.count.waiting w.items 0)
        ∙ ap (λ (k : ℕ). w.count.waiting - 1 + k)
        (landed_length to (nexts_at plan b) ∙ pair_list_length (get_or plan (middle plan b) 0) plan (middle plan b + 1))

    -- nothing stands against it
    module _ (d : Sighted plan score spans w.items (length w.log) (length w.marks) w.count i (get_or w.items (2 * i + 1) 0) x b) where
      is_roomy : roomy w found (onward i its nexts) ≡ true
      is_roomy =
          let s = fine_split (get_or plan 2 0) (length w.marks) to (outs_at plan b) d.outs in
          let r : 2 * length (onward i its nexts) ≤ length w.items = (let a = d.room in let m = after_many in omega arith) in
          both (lt-ltb _ _ d.log_room) (both (le-leb _ _ r) s.1)

      pub step_done : stepped plan score spans i w ≡ go_on (moved w found (onward i its nexts))
      step_done =
          let s₁ = fine_split (get_or plan 2 0) (length w.marks) to (outs_at plan b) d.outs in
          let s₂ = fine_split (get_or plan 0 0) 65536 to (nexts_at plan b) d.nexts in
          step_found ∙ rw (s₁.0, s₂.0, is_roomy)

      pub done_waiting : (moved w found (onward i its nexts)).count.waiting ≡ w.count.waiting - 1 + get_or plan (middle plan b) 0
      done_waiting = after_many

      pub done_items : (moved w found (onward i its nexts)).items ≡ sets (closed_up w.items (2 * i) (2 * w.count.waiting))
          (2 * w.count.waiting - 2) (pair_words nexts)
      done_items = onward_words i w.count.waiting w.items nexts h g
          (let a = d.room in let m = landed_length to (nexts_at plan b) in let k =
          pair_list_length (get_or plan (middle plan b) 0) plan (middle plan b + 1) in omega arith)

    -- something does
    no_room : (os ns : List (ℕ × ℕ)) → roomy w (record { node = x; outs = os; nexts = ns }) (onward i its ns) ≡ false
        → then (record { node = x; outs = os; nexts = ns }) ≡ none
    no_room os ns r = rw r

    bad_outs : all (fine (get_or plan 2 0) (length w.marks) to) (outs_at plan b) ≡ false → bind (rest plan score spans item (x, b)) then ≡ none
    bad_outs a = ⊎_elim
        (λ (t : targets (get_or plan 2 0) to (outs_at plan b) ≡ none). rw t)
        (λ (t : (targets (get_or plan 2 0) to (outs_at plan b) ≡ some outs) × (all (λ y. ltb y.1 (length w.marks)) outs ≡ false)). rw t.0
        (go (targets (get_or plan 0 0) to (nexts_at plan b)) t.1))
        (fine_fail (get_or plan 2 0) (length w.marks) to (outs_at plan b) a)
      where
        go : (o : Option (List (ℕ × ℕ))) → all (λ y. ltb y.1 (length w.marks)) outs ≡ false
            → bind (bind o (λ ns. some (record { node = x; outs = outs; nexts = ns }))) then ≡ none
        go none q = refl
        go (some ns) q = no_room outs ns (and_false (ltb w.count.logged (length w.log))
            (and_false (leb (2 * length (onward i its ns)) (length w.items)) q))

    bad_nexts : all (fine (get_or plan 2 0) (length w.marks) to) (outs_at plan b) ≡ true
        → all (fine (get_or plan 0 0) 65536 to) (nexts_at plan b) ≡ false → bind (rest plan score spans item (x, b)) then ≡ none
    bad_nexts a c = rw (
      (fine_split (get_or plan 2 0) (length w.marks) to (outs_at plan b) a).0,
      fine_small (get_or plan 0 0) to
          (λ k y d. (target_in (length score) spans (get_or w.items (2 * i + 1) 0) k y d).1) (nexts_at plan b) c,
    )

    bad_room : all (fine (get_or plan 2 0) (length w.marks) to) (outs_at plan b) ≡ true → all (fine (get_or plan 0 0) 65536 to) (nexts_at plan b) ≡ true
        → (ltb w.count.logged (length w.log) && leb (2 * (w.count.waiting - 1 + get_or plan (middle plan b) 0)) (length w.items)) ≡ false
        → bind (rest plan score spans item (x, b)) then ≡ none
    bad_room a c r =
        rw ((fine_split (get_or plan 2 0) (length w.marks) to (outs_at plan b) a).0, (fine_split (get_or plan 0 0) 65536 to (nexts_at plan b) c).0)
        (no_room outs nexts (rw after_many
        (three (ltb w.count.logged (length w.log)) (leb (2 * (w.count.waiting - 1 + get_or plan (middle plan b) 0)) (length w.items))
        (all (λ y. ltb y.1 (length w.marks)) outs) r)))
      where
        three : (p q s : Bool) → (p && q) ≡ false → (p && (q && s)) ≡ false
        three true true s k = false_true (sym k)
        three true false s k = refl
        three false q s k = refl

    bad_leads : leads_fine plan (length score) spans (get_or w.items (2 * i + 1) 0) b (length w.marks) ≡ false
        → bind (rest plan score spans item (x, b)) then ≡ none
    unfolding leads_fine
    bad_leads k = go (all (fine (get_or plan 2 0) (length w.marks) to) (outs_at plan b)) refl k
      where
        go : (a : Bool) → all (fine (get_or plan 2 0) (length w.marks) to) (outs_at plan b) ≡ a
            → (a && all (fine (get_or plan 0 0) 65536 to) (nexts_at plan b)) ≡ false → bind (rest plan score spans item (x, b)) then ≡ none
        go false ea k = bad_outs ea
        go true ea k = bad_nexts ea k

    bad_left : leads_fine plan (length score) spans (get_or w.items (2 * i + 1) 0) b (length w.marks) ≡ true
        → room_left plan b (length w.items) (length w.log) w.count ≡ false → bind (rest plan score spans item (x, b)) then ≡ none
    unfolding leads_fine room_left
    bad_left l k = bad_room (and_l _ l) (and_r (all (fine (get_or plan 2 0) (length w.marks) to) (outs_at plan b)) l) k

  -- no step without a sight
  pub step_unseen : sighted plan score spans w.items (length w.log) (length w.marks) w.count i ≡ none
      → stepped plan score spans i w ≡ refuse_walk OutOfRange w
  unfolding sighted record_fits
  step_unseen e = go (look_head plan score spans item) refl (rw (le-leb _ _ g, k) at e)
    where
      left : (x b : ℕ) → look_head plan score spans item ≡ some (x, b) → (l m : Bool)
          → leads_fine plan (length score) spans (get_or w.items (2 * i + 1) 0) b (length w.marks) ≡ l
          → room_left plan b (length w.items) (length w.log) w.count ≡ m
          → need {A = ℕ × ℕ × ℕ} l (need m (some (get_or w.items (2 * i + 1) 0, x, b))) ≡ none
          → stepped plan score spans i w ≡ refuse_walk OutOfRange w
      left x b eh true true el em d = none_not (sym d)
      left x b eh true false el em d = step_found x b eh ∙ ap (or_refuse w) (bad_left x b eh el em)
      left x b eh false m el em d = step_found x b eh ∙ ap (or_refuse w) (bad_leads x b eh el)

      go : (o : Option (ℕ × ℕ)) → look_head plan score spans item ≡ o
          → bind o (λ h. need {A = ℕ × ℕ × ℕ} (leads_fine plan (length score) spans (get_or w.items (2 * i + 1) 0) h.1 (length w.marks))
          (need (room_left plan h.1 (length w.items) (length w.log) w.count) (some (get_or w.items (2 * i + 1) 0, h.0, h.1)))) ≡ none
          → stepped plan score spans i w ≡ refuse_walk OutOfRange w
      go none eh d = step_nothing eh
      go (some h) eh d = left h.0 h.1 eh (leads_fine plan (length score) spans (get_or w.items (2 * i + 1) 0) h.1 (length w.marks))
          (room_left plan h.1 (length w.items) (length w.log) w.count) refl refl d

-- ---- as the code tells it
module _ (plan score spans items log marks : List ℕ) (r : Record) (i : ℕ) where
  abbrev W : Walk
  W = walk_of items log marks r

  abbrev pub Clauses : Result Record Reason → List ℕ → List ℕ → List ℕ → Type 0
  Clauses a items' log' marks' =
      outcome a r items' log' marks' ≡ stepped plan score spans i W

  pub tells_34 : i < r.waiting → sighted plan score spans items (length log) (length marks) r i ≡ none → Clauses (Err OutOfRange) items log marks
  tells_34 h e = go (test (numbered (length score) r)) (dec_le (2 * r.waiting) (length items))
    where
      go : (numbered (length score) r ≡ true) ⊎ (numbered (length score) r ≡ false) → Dec (2 * r.waiting ≤ length items)
          → Clauses (Err OutOfRange) items log marks
      go (inl k) (yes g) = sym (step_unseen plan score spans i W h k g e)
      go (inl k) (no g) = sym (step_few plan score spans i W h k (omega arith))
      go (inr k) d = sym (step_number plan score spans i W h k)

  pub tells_on : {items' up marks' : List ℕ} {from x b new : ℕ} → i < r.waiting
      → sighted plan score spans items (length log) (length marks) r i ≡ some (from, x, b)
      → up ≡ closed_up items (2 * i) (2 * r.waiting)
      → items' ≡ sets up (2 * r.waiting - 2) (pair_words (landed (target (length score) spans from) (nexts_at plan b)))
      → new ≡ newly (landed (target (length score) spans from) (outs_at plan b)) marks
      → marks' ≡ marked (landed (target (length score) spans from) (outs_at plan b)) marks
      → Clauses (Ok (counting (r.waiting - 1 + get_or plan (middle plan b) 0) (r.logged + 1) (r.matches + new))) items' (set log r.logged x) marks'
  tells_on {items'} {up} {marks'} {from} {x} {b} {new} h e eu it ne ma = let d = sighted_is e in
      go from d.is_from d it ne ma
    where
      -- from the item's node
      here : Sighted plan score spans items (length log) (length marks) r i (get_or items (2 * i + 1) 0) x b
          → items' ≡ sets up (2 * r.waiting - 2) (pair_words (landed (target (length score) spans (get_or items (2 * i + 1) 0)) (nexts_at plan b)))
          → new ≡ newly (landed (target (length score) spans (get_or items (2 * i + 1) 0)) (outs_at plan b)) marks
          → marks' ≡ marked (landed (target (length score) spans (get_or items (2 * i + 1) 0)) (outs_at plan b)) marks
          → Clauses (Ok (counting (r.waiting - 1 + get_or plan (middle plan b) 0) (r.logged + 1) (r.matches + new))) items' (set log r.logged x) marks'
      here d it ne ma =
          let lw = sym (done_waiting plan score spans i W h d.number d.fits x b d.head d) in
          let li = ap (λ (l : List ℕ). sets l (2 * r.waiting - 2)
          (pair_words (landed (target (length score) spans (get_or items (2 * i + 1) 0)) (nexts_at plan b)))) eu
          ∙ sym (done_items plan score spans i W h d.number d.fits x b d.head d) in
          on_is (set log r.logged x) (λ j. counting (lw j) (add-one r.logged j) (r.matches + ne j)) (it ∙ li) ma
          ∙ sym (step_done plan score spans i W h d.number d.fits x b d.head d)

      go : (from : ℕ) → from ≡ get_or items (2 * i + 1) 0 → Sighted plan score spans items (length log) (length marks) r i from x b
          → items' ≡ sets up (2 * r.waiting - 2) (pair_words (landed (target (length score) spans from) (nexts_at plan b)))
          → new ≡ newly (landed (target (length score) spans from) (outs_at plan b)) marks
          → marks' ≡ marked (landed (target (length score) spans from) (outs_at plan b)) marks
          → Clauses (Ok (counting (r.waiting - 1 + get_or plan (middle plan b) 0) (r.logged + 1) (r.matches + new))) items' (set log r.logged x) marks'
      go from z d it ne ma = here (rw z at d) (rw z at it) (rw z at ne) (rw z at ma)
