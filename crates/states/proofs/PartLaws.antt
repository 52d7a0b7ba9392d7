-- A state on a symbol, in arrays.
--   state_in_lem held_… on_symbol  a state of those that scratch holds
--   label_there                    its label
--   spared_held                    words written behind the states
--   state_stored derivable         what announcing and deriving ask
--   Derived derived                the derivative in an array
--   parted                         the whole
use mathlib.Core.Path.{◌≡◌, ap, sym, ◌∙◌}
use mathlib.Core.List.{List, []}
use mathlib.Core.Bool.{Bool}
use mathlib.Core.Option.{some}
use Prim.Native.Nat.{ℕ, ◌+◌, ◌/◌, ◌%◌, ◌<◌, ◌≤◌}
use native.Mathlib.Omega.{arith}
use lib.Dec.{ltb}
use lib.ListN.{length, get_or, get_elem?, length-map}
use lib.Seq.{length-sets}
use Rattle.kinds.specs.Lists.{sort}
use Rattle.kinds.specs.Chains.{Yes}
use Rattle.kinds.specs.Members.{◌∈◌}
use Rattle.kinds.proofs.ListLaws.{run_whole}
use Rattle.kinds.proofs.Places.{get_elem_some, get_d_in}
use Rattle.automaton.specs.Classes.{Square}
use Rattle.goals.specs.GoalWords.{GoalWords, goals_from, flat, label_code, Low, Stored}
use Rattle.goals.specs.WordStages.{deriv_w, classes_w, class_key, ann_key, outputs_w}
use Rattle.derivatives.specs.Orders.{keyed, class_at, begins, lead_items, goal_on, goes_out, out_items}
use Rattle.derivatives.specs.Passes.{PutsFirst, Derivable, Arranged}
use Rattle.derivatives.proofs.SortLaws.{sort_length}
use Rattle.derivatives.proofs.OrderLaws.{keyed_count}
use Rattle.classes.specs.Squares.{shares, Closes}
use Rattle.decoding.specs.WordMachine.{place_in, state_in, states_in}
use Rattle.decoding.specs.GoodStates.{GoodState}
use Rattle.decoding.proofs.Room.{flat_length}
use Rattle.decoding.proofs.GoodLaws.{ready_few, good_low, good_label, deriv_low, deriv_room}
use Rattle.states.specs.Meeting.{Held, Spared}
use Rattle.states.specs.Parting.{derived_words, OnSymbol, firsts, Named, goals_by, classes_by, Lent, Parted}
use Rattle.states.proofs.StateLaws.{states_length, states_at, spared_states, spared_kept}
use Rattle.states.proofs.WordArrays.{flat_back, flat_thirds}
use Rattle.states.proofs.InOrder.{classes_in_order, outputs_in_order, items_low}

pub state_in_lem : (sc : List ℕ) (m i : ℕ) → i < m → state_in sc i ∈ states_in sc m
state_in_lem sc m i h = rw (← (states_at sc m i [] h)) (get_d_in (states_in sc m) i [] (rw (states_length sc m) h))

module _ {ar tab : List ℕ} {n : ℕ} {sc : List ℕ} {m i : ℕ} (held : Held ar tab n sc m) (h : i < m) where
  pub held_good : GoodState ar tab n (state_in sc i)
  held_good = held.good (state_in sc i) (state_in_lem sc m i h)

  pub held_count : get_or sc i 0 ≤ 32
  held_count = held.kept.counts i h

  pub held_number : i < 128
  held_number = let few = held.kept.few in omega arith

  pub on_symbol : (c f : ℕ) → c ≡ label_code tab (state_in sc i) → f < length ar → OnSymbol ar tab n sc i c f
  on_symbol c f e l = record { long = held.kept.long; number = held_number; count = held_count; good = held_good; label = e; symbol = l }

  pub held_stored : {at : ℕ} → at ≡ place_in i → Stored tab sc at (get_or sc i 0)
  held_stored {at} e =
      let count = held_count in
      let number = held_number in
      let long = held.kept.long in
      record { tabled = held_good.ready.tabled; few = omega arith; room = omega arith; low = rw e (good_low held_good) }

-- a label that was taken at a state's place
pub label_there : (tab sc : List ℕ) (i : ℕ) {at c : ℕ} → at ≡ place_in i → c ≡ label_code tab (goals_from sc at (get_or sc i 0))
    → c ≡ label_code tab (state_in sc i)
label_there tab sc i e h = h ∙ ap (λ a. label_code tab (goals_from sc a (get_or sc i 0))) e

pub spared_held : {ar tab : List ℕ} {n m : ℕ} {sc new : List ℕ} → Spared m sc new → Held ar tab n sc m → Held ar tab n new m
spared_held s held = record { kept = spared_kept s held.kept; good = rw (spared_states s held.kept) held.good }

-- ---- ordered places in an array, read again
module _ (p : ℕ → Bool) (key : ℕ → ℕ) (n : ℕ) (few : n ≤ 96) (k : ℕ) (old new : List ℕ) (room : n ≤ length old)
    (a : Arranged (keyed p key 0 n) k old new) where
  ordered_count : k ≤ n
  ordered_count = let c = keyed_count p key 0 n in omega (arith, a.0)

  ordered_are : firsts k new ≡ sort ltb (keyed p key 0 n)
  ordered_are =
      let c = keyed_count p key 0 n in
      let e = sort_length (keyed p key 0 n) in
      run_whole old new (sort ltb (keyed p key 0 n)) k (omega (arith, a.0)) (omega arith) a.1

  ordered_named : Named n (firsts k new)
  ordered_named =
      let c = keyed_count p key 0 n in
      let xs = sort ltb (keyed p key 0 n) in
      record {
        short = rw (ordered_are, sort_length (keyed p key 0 n)) (omega arith);
        low = λ j h. rw ordered_are (items_low p key n few (get_or xs j 0) (get_d_in xs j 0 (rw ordered_are at h)));
      }

named_wider : {a b : ℕ} {xs : List ℕ} → a ≤ b → Named a xs → Named b xs
named_wider le s = record { short = s.short; low = λ j h. let l = s.low j h in omega arith }

pub record Derived (tab goals : List ℕ) (d : ℕ) (D : List GoalWords) : Type 0 where
  pub stored : Stored tab goals 0 d
  pub is : goals_from goals 0 d ≡ D

module _ {ar tab : List ℕ} {n : ℕ} {sc : List ℕ} {i c f : ℕ} (o : OnSymbol ar tab n sc i c f) where
  abbrev k : ℕ
  k = get_or ar f 0

  abbrev gs : List GoalWords
  gs = state_in sc i

  abbrev D : List GoalWords
  D = deriv_w tab n c f k gs

  children : get_elem? ar f ≡ some k
  children = get_elem_some ar f o.symbol

  -- at a place that is the state's
  module _ {at : ℕ} (e : at ≡ place_in i) where
    pub state_room : at + 96 ≤ length sc
    state_room = omega (arith, o.number, o.long)

    pub state_stored : Stored tab sc at (get_or sc i 0)
    state_stored =
        let room = state_room in
        record { tabled = o.good.ready.tabled; few = omega (arith, o.count); room = omega (arith, o.count); low = rw e (good_low o.good) }

    state_there : goals_from sc at (get_or sc i 0) ≡ gs
    state_there = ap (λ a. goals_from sc a (get_or sc i 0)) e

  few_derived : length D ≤ 96
  few_derived = rw o.label (deriv_room o.good f k children)

  low_derived : Low D
  low_derived = rw o.label (deriv_low o.good f k children)

  -- what deriving asks
  pub derivable : {at : ℕ} → at ≡ place_in i → (out : List ℕ) → derived_words ≤ length out
      → Derivable tab n c f k (goals_from sc at (get_or sc i 0)) out
  derivable e out room =
      let label = good_label o.good in
      let few = o.good.ready.limits.symbols.children f k children in
      let words = flat_length D in
      rw (state_there e) (record { shapes = ready_few o.good.ready; codes = omega (arith, o.label); room = omega (arith, few_derived) })

  abbrev Puts_derived : ℕ → ℕ → List ℕ → List ℕ → Type 0
  Puts_derived at r old goals = PutsFirst (flat (deriv_w tab n c f k (goals_from sc at (get_or sc i 0)))) r old goals

  pub derived : {at : ℕ} → at ≡ place_in i → (old goals : List ℕ) (r : ℕ) → Puts_derived at r old goals → derived_words ≤ length old
      → Derived tab goals (r / 3) D
  derived e old goals r there room =
      let puts : PutsFirst (flat D) r old goals = rw (state_there e) at there in
      let few = few_derived in
      let many : r / 3 ≡ length D = flat_thirds D r puts.0 in
      let back : goals_from goals 0 (r / 3) ≡ D = flat_back old goals 0 D (r / 3) puts.1 many (omega arith) in
      let long : length goals ≡ length old = ap length puts.1 ∙ length-sets old 0 (flat D) in
      record {
        stored = record { tabled = o.good.ready.tabled; few = omega arith; room = omega arith; low = rw back low_derived };
        is = back;
      }

  abbrev out_key : ℕ → ℕ
  out_key x = ann_key (goal_on sc (place_in i) x)

  pub parted : {at : ℕ} → at ≡ place_in i → {out₀ goals₀ order₀ : List ℕ} {dep₀ : Square} → Lent out₀ goals₀ dep₀ order₀
      → (out goals order : List ℕ) (dep : Square) (outs r classes : ℕ)
      → Arranged (out_items tab sc at c f (get_or sc i 0)) outs out₀ out → Puts_derived at r goals₀ goals
      → Closes (r / 3) (Yes (shares tab goals)) dep
      → Arranged (lead_items tab dep goals (r / 3)) classes order₀ order
      → Parted tab n sc i f k (record { announced = outs; goals = r / 3; classes = classes }) out goals dep order
  parted e {out₀} {goals₀} {order₀} lent out goals order dep outs r classes there puts closes ordered =
      let announced : Arranged (out_items tab sc (place_in i) c f (get_or sc i 0)) outs out₀ out = rw e at there in
      let count = o.count in
      let few96 : get_or sc i 0 ≤ 96 = omega arith in
      let p = goes_out tab sc (place_in i) c f in
      let room : get_or sc i 0 ≤ length out₀ = omega (arith, lent.outs) in
      let d = derived e goals₀ goals r puts lent.room in
      let few = d.stored.few in
      let b = begins dep in
      let key : ℕ → ℕ = λ x. class_key tab (class_at dep goals (r / 3) x) in
      let room₂ : r / 3 ≤ length order₀ = omega (arith, lent.rows) in
      let outs-are = ordered_are p out_key (get_or sc i 0) few96 outs out₀ out room announced in
      let these : goals_by sc (place_in i) (firsts outs out) ≡ outputs_w tab (label_code tab gs) f gs =
      ap (goals_by sc (place_in i)) outs-are
      ∙ outputs_in_order tab sc (place_in i) c f (get_or sc i 0) few96
      ∙ ap (λ t. outputs_w tab t f gs) o.label in
      let many : outs ≡ length (outputs_w tab (label_code tab gs) f gs) =
      announced.0
      ∙ sym (sort_length (out_items tab sc (place_in i) c f (get_or sc i 0)))
      ∙ ap length (sym outs-are)
      ∙ sym (length-map (firsts outs out) (λ x. goal_on sc (place_in i) (x % 128)))
      ∙ ap length these in
      record {
        outs = many;
        few_outs = let w = ordered_count p out_key (get_or sc i 0) few96 outs out₀ out room announced in omega arith;
        out_named = named_wider count (ordered_named p out_key (get_or sc i 0) few96 outs out₀ out room announced);
        announced = these;
        squared = record { few = few; room = let s = d.stored.room in omega arith; square = closes.square };
        few_classes = let w = ordered_count b key (r / 3) few classes order₀ order room₂ ordered in omega arith;
        rows_named = named_wider few (ordered_named b key (r / 3) few classes order₀ order room₂ ordered);
        classes = ap (classes_by dep goals (r / 3)) (ordered_are b key (r / 3) few classes order₀ order room₂ ordered)
            ∙ classes_in_order tab goals (r / 3) dep few closes
            ∙ ap (classes_w tab) (d.is ∙ ap (λ t. deriv_w tab n t f k gs) o.label);
      }
