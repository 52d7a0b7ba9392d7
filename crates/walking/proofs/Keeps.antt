-- Starting and stepping, on any words: a refusal changes nothing, lengths stay, and words past those written stay.
--   marks_there            each mark that a step announces is there
--   on_tried               what a step that is taken has found
--   Cases cases            a step is taken, or refused 34, or refused 32
--   step_refusal_keeps     a refused step changes nothing
--   step_counts            the record answered is the walk's
--   Kept taken_keeps       what a step that is taken keeps; bits that are set stay set
--   step_marks run_marks   so after any choices
--   start_refusal_keeps    a refused start changes nothing
--   start_any              whatever record the walk had before
use Rattle.std.specs.Prelude.{Err, Ok}
use mathlib.Core.Path.{◌≡◌, refl, ap, sym, ◌∙◌}
use mathlib.Core.Bool.{Bool, true, false}
use mathlib.Core.List.{List, [], ◌∷◌}
use mathlib.Core.Option.{Option, none, some}
use mathlib.Core.Logic.{inl}
use Prim.Native.Nat.{ℕ, ◌*◌, ◌<◌, ◌≤◌}
use native.Mathlib.Omega.{arith}
use lib.Dec.{ltb, leb}
use lib.ListN.{length, get_or, get_elem?, drop, length-set}
use lib.Seq.{get_or-set_other}
use Rattle.kinds.specs.Lists.{unless, all}
use Rattle.kinds.specs.Members.{◌∈◌}
use Rattle.kinds.specs.declared.Reason.{Reason}
use Rattle.kinds.specs.declared.Reason.TheVariants.{ShortBuffers, BadScore, NoSuchItem, OutOfRange}
use Rattle.kinds.proofs.Bools.{and_l, and_r, leb_is, ltb_is, ltb_not}
use Rattle.kinds.proofs.Members.{all_at}
use Rattle.kinds.proofs.Options.{on_bind, on_need}
use Rattle.kinds.proofs.ListLaws.{length_onto, drop_onto}
use Rattle.checks.specs.Again.{score_good}
use Rattle.walk.specs.declared.Record.{Record}
use Rattle.readers.specs.PlanParts.{pairs, pair_words}
use Rattle.walk.specs.Starting.{Walk, WalkOutcome, walk_of, refuse_walk, go_on, begun, room_for, started}
use Rattle.walk.specs.Stepping.{Finding, look, onward, numbered, roomy, moved, tried, stepped, run}
use Rattle.readers.proofs.LawsPairs.{pair_words_length}
use Rattle.walking.proofs.MarkLaws.{Marked, marked_length, marked_is}

not_refused {κ} : {Z : Type κ} {c : Record} {r : Reason} → Ok c ≡ Err r → Z
not_refused e = let z : ◌≡◌ {A = ℕ} 0 1 = cc in absurd (omega arith)

-- where there is room, each mark that is announced is there
pub marks_there : (w : Walk) (found : Finding) (ns : List (ℕ × ℕ)) → roomy w found ns ≡ true → (x : ℕ × ℕ) → x ∈ found.outs → x.1 < length w.marks
marks_there w found ns t x m = ltb_is _ _ (all_at (λ y. ltb y.1 (length w.marks))
    (and_r (leb (2 * length ns) (length w.items)) (and_r (ltb w.count.logged (length w.log)) t)) m)

module _ (plan score spans : List ℕ) (i : ℕ) (w : Walk) where
  pub on_tried {κ} : {Z : Type κ} (v : Walk) → tried plan score spans i w ≡ some v
      → ((its : List (ℕ × ℕ)) (it : ℕ × ℕ) (found : Finding) → look plan score spans it ≡ some found → roomy w found (onward i its found.nexts) ≡ true
      → v ≡ moved w found (onward i its found.nexts) → Z) → Z
  unfolding tried
  on_tried v e k =
      on_need (numbered (length score) w.count) _ e λ n d₀.
      on_bind (pairs w.count.waiting w.items) _ d₀ λ its e₁ d₁.
      on_bind (get_elem? its.0 i) _ d₁ λ it e₂ d₂.
      on_bind (look plan score spans it) _ d₂ λ found e₃ d₃.
      on_need (roomy w found (onward i its.0 found.nexts)) _ d₃ λ t d₄.
      let z : v ≡ moved w found (onward i its.0 found.nexts) = cc in
      k its.0 it found e₃ t z

  pub data Cases : Type 0 where
    is_taken : (v : Walk) → tried plan score spans i w ≡ some v → stepped plan score spans i w ≡ go_on v → Cases
    is_34 : tried plan score spans i w ≡ none → stepped plan score spans i w ≡ refuse_walk OutOfRange w → Cases
    is_32 : w.count.waiting ≤ i → stepped plan score spans i w ≡ refuse_walk NoSuchItem w → Cases

  pub cases : Cases
  unfolding stepped
  cases = go (ltb i w.count.waiting) refl (tried plan score spans i w) refl
    where
      go : (b : Bool) → ltb i w.count.waiting ≡ b → (o : Option Walk) → tried plan score spans i w ≡ o → Cases
      go true e (some v) d = is_taken v d (rw (e, d))
      go true e none d = is_34 d (rw (e, d))
      go false e o d = is_32 (ltb_not i w.count.waiting e) (rw e)

  pub step_refusal_keeps : (r : Reason) → (stepped plan score spans i w).answer ≡ Err r → (stepped plan score spans i w).walk ≡ w
  step_refusal_keeps r e = go cases
    where
      go : Cases → (stepped plan score spans i w).walk ≡ w
      go (is_taken v d h) = not_refused (sym (ap (λ (o : WalkOutcome). o.answer) h) ∙ e)
      go (is_34 d h) = ap (λ (o : WalkOutcome). o.walk) h
      go (is_32 l h) = ap (λ (o : WalkOutcome). o.walk) h

  pub step_counts : (c : Record) → (stepped plan score spans i w).answer ≡ Ok c → c ≡ (stepped plan score spans i w).walk.count
  step_counts c e = go cases
    where
      go : Cases → c ≡ (stepped plan score spans i w).walk.count
      go (is_taken v d h) =
          let z : Ok c ≡ Ok v.count = sym e ∙ ap (λ (o : WalkOutcome). o.answer) h in
          let y : c ≡ v.count = cc in
          y ∙ sym (ap (λ (o : WalkOutcome). o.walk.count) h)
      go (is_34 d h) = not_refused (sym e ∙ ap (λ (o : WalkOutcome). o.answer) h)
      go (is_32 l h) = not_refused (sym e ∙ ap (λ (o : WalkOutcome). o.answer) h)

  pub record Kept (v : Walk) : Type 0 where
    pub items_long : length v.items ≡ length w.items
    pub log_long : length v.log ≡ length w.log
    pub marks_long : length v.marks ≡ length w.marks
    pub items_rest : drop (2 * v.count.waiting) v.items ≡ drop (2 * v.count.waiting) w.items
    pub log_rest : (n : ℕ) → (n ≡ w.count.logged → ⊥) → get_or v.log n 0 ≡ get_or w.log n 0
    pub marks_stay : (y : ℕ × ℕ) → Marked w.marks y → Marked v.marks y

  pub taken_keeps : (v : Walk) → tried plan score spans i w ≡ some v → Kept v
  taken_keeps v e = on_tried v e λ its it found l t z. rw z (go (onward i its found.nexts) found t)
    where
      go : (ns : List (ℕ × ℕ)) (found : Finding) → roomy w found ns ≡ true → Kept (moved w found ns)
      go ns found t =
          let r : leb (2 * length ns) (length w.items) ≡ true =
          and_l (all (λ x. ltb x.1 (length w.marks)) found.outs) (and_r (ltb w.count.logged (length w.log)) t) in
          let h = leb_is (2 * length ns) (length w.items) r in
          let l = pair_words_length ns in
          record {
            items_long = length_onto (pair_words ns) w.items (omega arith);
            log_long = length-set w.log w.count.logged found.node;
            marks_long = marked_length found.outs w.marks;
            items_rest = rw (← l) (drop_onto (pair_words ns) w.items);
            log_rest = λ n h. get_or-set_other w.log w.count.logged n found.node 0 h;
            marks_stay = λ y b. (marked_is found.outs w.marks (marks_there w found ns t) y).1 (inl b);
          }

-- ---- any choices
module _ (plan score spans : List ℕ) where
  step_marks : (i : ℕ) (w : Walk) (y : ℕ × ℕ) → Marked w.marks y → Marked (stepped plan score spans i w).walk.marks y
  step_marks i w y b = go (cases plan score spans i w)
    where
      go : Cases plan score spans i w → Marked (stepped plan score spans i w).walk.marks y
      go (is_taken v d h) = rw h ((taken_keeps plan score spans i w v d).marks_stay y b)
      go (is_34 d h) = rw h b
      go (is_32 l h) = rw h b

  pub run_marks : (is : List ℕ) (w : Walk) (y : ℕ × ℕ) → Marked w.marks y → Marked (run plan score spans is w).marks y
  unfolding run
  run_marks [] w y b = b
  run_marks (i ∷ is) w y b = run_marks is (stepped plan score spans i w).walk y (step_marks i w y b)

module _ (ar score spans : List ℕ) where
  pub start_refusal_keeps : (w : Walk) (r : Reason) → (started ar score spans w).answer ≡ Err r → (started ar score spans w).walk ≡ w
  unfolding started
  start_refusal_keeps w r e = go (score_good ar score spans) refl (room_for (length score) w) refl
    where
      go : (a : Bool) → score_good ar score spans ≡ a → (b : Bool) → room_for (length score) w ≡ b → (started ar score spans w).walk ≡ w
      go false ea b eb = rw ea
      go true ea false eb = rw (ea, eb)
      go true ea true eb = not_refused (sym (whole ea eb) ∙ e)
        where
          whole : score_good ar score spans ≡ true → room_for (length score) w ≡ true
              → (started ar score spans w).answer ≡ Ok (begun (length score) w).count
          whole p q = rw (p, q)

  -- the record that the walk had before is not looked at
  pub start_any : (items log marks : List ℕ) (c d : Record)
      → ((started ar score spans (walk_of items log marks c)).answer ≡ (started ar score spans (walk_of items log marks d)).answer)
      × ((started ar score spans (walk_of items log marks c)).walk.items ≡ (started ar score spans (walk_of items log marks d)).walk.items)
      × ((started ar score spans (walk_of items log marks c)).walk.log ≡ (started ar score spans (walk_of items log marks d)).walk.log)
      × ((started ar score spans (walk_of items log marks c)).walk.marks ≡ (started ar score spans (walk_of items log marks d)).walk.marks)
  unfolding started
  start_any items log marks c d = go (score_good ar score spans) (room_for (length score) (walk_of items log marks c))
    where
      tell : Bool → Bool → Record → WalkOutcome
      tell a b r = unless a (refuse_walk BadScore (walk_of items log marks r))
          (unless b (refuse_walk ShortBuffers (walk_of items log marks r)) (go_on (begun (length score) (walk_of items log marks r))))

      go : (a b : Bool) → ((tell a b c).answer ≡ (tell a b d).answer) × ((tell a b c).walk.items ≡ (tell a b d).walk.items)
          × ((tell a b c).walk.log ≡ (tell a b d).walk.log) × ((tell a b c).walk.marks ≡ (tell a b d).walk.marks)
      go false b = (refl, refl, refl, refl)
      go true false = (refl, refl, refl, refl)
      go true true = (refl, refl, refl, refl)
