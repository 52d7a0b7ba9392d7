-- Exploring, turn by turn.
--   Meeting meeting_…                   classes in turn
--   block_length words_more             how many words blocks take
--   Rowing rowing_…                     symbols in turn
--   Running running_…                   states in turn
use Rattle.std.specs.Prelude.{Err, Ok, Result}
use mathlib.Core.Path.{◌≡◌, refl, ap, ap₂, sym, ◌∙◌}
use mathlib.Core.List.{List, [], ◌∷◌, ◌++◌, map, append_assoc, append-nil}
use mathlib.Core.Bool.{Bool, true, false, cond}
use mathlib.Core.Logic.{⊎_elim}
use Prim.Native.Nat.{ℕ, suc, ◌+◌, ◌-◌, ◌*◌, ◌%◌, ◌<◌, ◌≤◌}
use native.Mathlib.Omega.{arith}
use native.Mathlib.Numerals.{add-one}
use lib.Dec.{eqb, ltb}
use lib.ListN.{length, get_or, drop, set, length-append, length-map}
use lib.Seq.{sets}
use Rattle.kinds.specs.Lists.{gather, concat, range}
use Rattle.kinds.specs.declared.Reason.{Reason}
use Rattle.kinds.specs.Positions.{code}
use Rattle.kinds.proofs.Members.{in_one, length_range, perm_length, sort_perm}
use Rattle.kinds.proofs.ListLaws.{map_append, concat_append, from, from_end}
use Rattle.kinds.proofs.Places.{get_elem_some, get_d_ext, ext_length}
use Rattle.automaton.specs.Exploring.{Succ, Block, Met, met, refused, meet, meets, row, run, explored}
use Rattle.automaton.specs.PlanWords.{block_words}
use Rattle.automaton.proofs.BlocksAgain.{meet_found, meets_found}
use Rattle.goals.specs.GoalWords.{GoalWords, goals_from, flat, label_code}
use Rattle.goals.specs.WordStages.{freshes_w, fresh_w, reduct, ann_key, announces, outputs_w}
use Rattle.decoding.specs.WordMachine.{words, announcement_w, place_in, state_in, states_in, used_words, Kept}
use Rattle.decoding.specs.GoodStates.{Ready, GoodState}
use Rattle.derivatives.specs.Orders.{class_at}
use Rattle.automaton.specs.Classes.{Square}
use Rattle.states.specs.Meeting.{Held, Behind, Spared, blocks_length, row_most, ClassesMet, MetIs, SymbolIs, RowIs, ExploredIs}
use Rattle.states.specs.Parting.{OnSymbol, classes_by}
use Rattle.decoding.proofs.Room.{flat_length}
use Rattle.states.proofs.WordArrays.{flat_back}
use Rattle.states.proofs.PartLaws.{held_good, on_symbol}
use Rattle.states.proofs.StateLaws.{states_length, states_at, spared_run, spared_kept, states_more, kept_more, more_behind}
use Rattle.states.proofs.MeetLaws.{onto, meets_on, row_on, run_stop, run_on, run_end}
use Rattle.decoding.proofs.GoodLaws.{ready_few, good_start, good_next}

-- one class has one successor
meets_one_length : (ss : List (List GoalWords)) (K : List GoalWords) (ss' : List (List GoalWords)) (ys : List Succ)
    → meet (words [] 0) ss K ≡ met ss' ys → length ys ≡ 1
meets_one_length ss K ss' ys e = (meet_found (words [] 0) ss K ss' ys e).count

-- ---- classes in turn
pub record Meeting (d : Square) (ws : List ℕ) (n : ℕ) (order : List ℕ) (base : ℕ) (sc₀ : List ℕ) (m : ℕ) (sc : List ℕ) (states count j : ℕ) : Type 0
  where
    pub below : j ≤ length order
    pub kept : Kept sc states
    pub behind : Behind sc₀ sc
    pub sum : count ≡ base + 2 * j
    pub xs : List Succ
    pub many : length xs ≡ j
    pub is : meets (words [] 0) (states_in sc₀ m) (classes_by d ws n order) ≡ onto (words [] 0) xs
        (meets (words [] 0) (states_in sc states) (classes_by d ws n (drop j order)))

module _ {d : Square} {ws : List ℕ} {n : ℕ} {order : List ℕ} {base : ℕ} {sc₀ : List ℕ} {m : ℕ} where
  module _ {sc : List ℕ} {states count j : ℕ} (s : Meeting d ws n order base sc₀ m sc states count j) where
    ahead : j < length order
        → classes_by d ws n (drop j order) ≡ class_at d ws n (get_or order j 0 % 128) ∷ classes_by d ws n (drop (j + 1) order)
    ahead h = ap (classes_by d ws n) (from order j h)

    pub meeting_on : j < length order → (sc' : List ℕ) (g : Result (ℕ × ℕ) Reason) (all more : ℕ) → g ≡ Ok (all, more)
        → MetIs g sc' 0 (meet (words [] 0) (states_in sc states) (class_at d ws n (get_or order j 0 % 128)))
        → Behind sc sc' → Meeting d ws n order base sc₀ m sc' all (count + more) (j + 1)
    meeting_on h sc' g all more e w b = go (rw e at w)
      where
        go : MetIs (Ok (all, more)) sc' 0 (meet (words [] 0) (states_in sc states) (class_at d ws n (get_or order j 0 % 128)))
            → Meeting d ws n order base sc₀ m sc' all (count + more) (j + 1)
        go r =
            let ys = r.succs in
            let two = r.sum in
            let one : length ys ≡ 1 =
            meets_one_length (states_in sc states) (class_at d ws n (get_or order j 0 % 128)) (states_in sc' all) ys r.is in
            let c = s.sum in
            let y = s.many in
            record {
              below = omega arith;
              kept = r.kept;
              behind = b ∙ s.behind;
              sum = omega arith;
              xs = s.xs ++ ys;
              many = length-append s.xs ys ∙ omega arith;
              is = s.is ∙ ap (λ ks. onto (words [] 0) s.xs (meets (words [] 0) (states_in sc states) ks)) (ahead h)
                  ∙ meets_on (words [] 0) s.xs (states_in sc states) (class_at d ws n (get_or order j 0 % 128)) (classes_by d ws n (drop (j + 1) order))
                  (states_in sc' all) ys r.is;
            }

pub met_same : (g : Result (ℕ × ℕ) Reason) (sc : List ℕ) (a b : ℕ) (x y : Met (List GoalWords)) → a ≡ b → x ≡ y → MetIs g sc a x → MetIs g sc b y
met_same g sc a b x y e d w = rw (← e, ← d) w

-- ---- how many words blocks take
pub pairs_length : {A : Type 0} (F G : A → ℕ) (xs : List A) → length (gather (λ x. F x ∷ G x ∷ []) xs) ≡ 2 * length xs
pairs_length F G [] = refl
pairs_length F G (x ∷ xs) = let e = pairs_length F G xs in omega arith

pub block_length : (b : Block) → length (block_words b) ≡ 2 + 2 * length b.out + 2 * length b.succs
block_length b =
    let x = length-append (gather (λ a. a.shape ∷ code a.at ∷ []) b.out)
    (length b.succs ∷ gather (λ s. s.to ∷ code s.by ∷ []) b.succs) in
    let y = pairs_length (λ a. a.shape) (λ a. code a.at) b.out in
    let z = pairs_length (λ s. s.to) (λ s. code s.by) b.succs in
    omega arith

pub words_more : (bs cs : List Block) → blocks_length (bs ++ cs) ≡ blocks_length bs + blocks_length cs
words_more bs cs =
    ap (λ l. length (concat l)) (map_append block_words bs cs)
    ∙ ap length (concat_append (map block_words bs) (map block_words cs))
    ∙ length-append (concat (map block_words bs)) (concat (map block_words cs))

words_one : (b : Block) → blocks_length (b ∷ []) ≡ length (block_words b)
words_one b = ap length (append-nil (block_words b))

-- no more announcements than goals
announces_few : (tab : List ℕ) (c f : ℕ) (gs : List GoalWords) → length (gather (announces tab c f) gs) ≤ length gs
announces_few tab c f [] = omega arith
announces_few tab c f (g ∷ gs) = go (eqb (reduct tab c f g) 0) (announces_few tab c f gs)
  where
    go : (b : Bool) → length (gather (announces tab c f) gs) ≤ length gs
        → length (cond b (g ∷ []) [] ++ gather (announces tab c f) gs) ≤ suc (length gs)
    go true h = omega arith
    go false h = omega arith

pub outputs_few : (tab : List ℕ) (c f : ℕ) (gs : List GoalWords) → length gs ≤ 32 → length (outputs_w tab c f gs) ≤ 32
unfolding outputs_w
outputs_few tab c f gs h =
    let e = perm_length (sort_perm (λ a b. ltb (ann_key a) (ann_key b)) (gather (announces tab c f) gs)) in
    let a = announces_few tab c f gs in omega arith

-- ---- symbols in turn
pub record Rowing (ar tab : List ℕ) (n : ℕ) (sc₀ : List ℕ) (m i : ℕ) (sc : List ℕ) (states count f : ℕ) : Type 0 where
  pub below : f ≤ length ar
  pub held : Held ar tab n sc states
  pub behind : Behind sc₀ sc
  pub inside : i < states
  pub still : state_in sc i ≡ state_in sc₀ i
  pub sum : count ≤ 300 * f
  pub more : List Block
  pub many : count ≡ blocks_length more
  pub is : (bs : List Block)
      → row (words tab n) i (state_in sc₀ i) 0 ar (states_in sc₀ m) bs ≡ row (words tab n) i (state_in sc₀ i) f (drop f ar) (states_in sc states)
      (bs ++ more)

module _ {ar tab : List ℕ} {n : ℕ} {sc₀ : List ℕ} {m i : ℕ} where
  module _ {sc : List ℕ} {states count f : ℕ} (s : Rowing ar tab n sc₀ m i sc states count f) (h : f < length ar) where
    here_good : GoodState ar tab n (state_in sc₀ i)
    here_good = rw (← s.still) (held_good s.held s.inside)

    pub rowing_symbol : (c : ℕ) → c ≡ label_code tab (state_in sc₀ i) → OnSymbol ar tab n sc i c f
    rowing_symbol c e = on_symbol s.held s.inside c f (e ∙ ap (label_code tab) (sym s.still)) h

    pub rowing_on : (sc' : List ℕ) (g : Result (ℕ × ℕ) Reason) (all more : ℕ) → g ≡ Ok (all, more) → SymbolIs g ar tab n sc states i f sc'
        → Behind sc sc' → Rowing ar tab n sc₀ m i sc' all (count + more) (f + 1)
    rowing_on sc' g all more e w b = go (rw (e, s.still) at w)
      where
        outs_few : length (outputs_w tab (label_code tab (state_in sc₀ i)) f (state_in sc₀ i)) ≤ 32
        outs_few = outputs_few tab (label_code tab (state_in sc₀ i)) f (state_in sc₀ i) here_good.few

        go : ClassesMet all more sc' (2 + 2 * length ((words tab n).outputs (state_in sc₀ i) f (get_or ar f 0)))
            (meets (words tab n) (states_in sc states) ((words tab n).classes (state_in sc₀ i) f (get_or ar f 0)))
            → Rowing ar tab n sc₀ m i sc' all (count + more) (f + 1)
        go r =
            let xs = r.succs in
            let block : Block = record { out = (words tab n).outputs (state_in sc₀ i) f (get_or ar f 0); succs = xs } in
            let found =
            meets_found (words tab n) ((words tab n).classes (state_in sc₀ i) f (get_or ar f 0)) (states_in sc states) (states_in sc' all) xs
            r.is in
            let outs : length block.out ≡ length (outputs_w tab (label_code tab (state_in sc₀ i)) f (state_in sc₀ i)) =
            length-map (outputs_w tab (label_code tab (state_in sc₀ i)) f (state_in sc₀ i)) announcement_w in
            let w2 = r.sum in
            let w3 = r.few in
            let few = outs_few in
            let bl = block_length block in
            let c0 = s.many in
            let c1 = s.sum in
            let len = ext_length found.ext in
            let a = states_length sc states in
            let b' = states_length sc' all in
            let ins = s.inside in
            let inn : i < all = omega arith in
            record {
              below = omega arith;
              held = record {
                kept = r.kept;
                good = λ t j. ⊎_elim (s.held.good t)
                    (λ q. rw q.2 (good_next here_good f (get_or ar f 0) (get_elem_some ar f h) q.0 q.1 (found.small q.0 q.1)))
                    (found.from t j);
              };
              behind = b ∙ s.behind;
              inside = inn;
              still = sym (states_at sc' all i [] inn) ∙ get_d_ext found.ext i [] (rw a ins) ∙ states_at sc states i [] ins ∙ s.still;
              sum = omega (arith, outs, few);
              more = s.more ++ (block ∷ []);
              many = sym (words_more s.more (block ∷ []) ∙ omega (arith, words_one block, outs));
              is = λ bs. s.is bs ∙ ap (λ ns. row (words tab n) i (state_in sc₀ i) f ns (states_in sc states) (bs ++ s.more)) (from ar f h)
                  ∙ row_on (words tab n) i (state_in sc₀ i) f (get_or ar f 0) (drop (f + 1) ar) (states_in sc states) (bs ++ s.more)
                  (states_in sc' all) xs r.is
                  ∙ ap₂ (λ g bs₁. row (words tab n) i (state_in sc₀ i) g (drop (f + 1) ar) (states_in sc' all) bs₁) (sym (add-one f))
                  (append_assoc bs s.more (block ∷ []));
            }

  pub rowing_end : {sc : List ℕ} {states count f : ℕ} → Rowing ar tab n sc₀ m i sc states count f → length ar ≤ f → length ar ≤ 32
      → (bs : List Block) → RowIs (Ok (states, count)) ar tab n sc i bs (row (words tab n) i (state_in sc₀ i) 0 ar (states_in sc₀ m) bs)
  rowing_end {sc} {states} {count} {f} s h few bs =
      let a = s.sum in
      let b = s.below in
      record {
        held = s.held;
        inside = s.inside;
        more = s.more;
        is = s.is bs ∙ ap (λ ns. row (words tab n) i (state_in sc₀ i) f ns (states_in sc states) (bs ++ s.more)) (from_end ar f h);
        sum = s.many;
        small = omega arith;
      }

pub fresh_room : (sc : List ℕ) (n : ℕ) {at : ℕ} → used_words ≤ length sc → n ≤ 16 → at ≡ place_in 0 → at + length (flat (freshes_w n 0)) ≤ length sc
fresh_room sc n long h e =
    let a = length-map (range 0 n) (fresh_w 0) in
    let b = length_range 0 n in
    let c = flat_length (freshes_w n 0) in
    omega arith

no_state : (sc : List ℕ) → states_in sc 0 ≡ []
unfolding states_in
no_state sc = refl

-- ---- states in turn
pub record Running (ar tab : List ℕ) (n : ℕ) (sc₀ sc : List ℕ) (m count i : ℕ) : Type 0 where
  pub below : i ≤ m
  pub held : Held ar tab n sc m
  pub behind : Behind sc₀ sc
  pub sum : count ≤ row_most * i
  pub blocks : List Block
  pub many : count ≡ blocks_length blocks
  pub is : explored (words tab n) ar ≡ run (words tab n) ar (128 - i) i (states_in sc m) blocks

module _ {ar tab : List ℕ} {n : ℕ} (sc₀ : List ℕ) where
  pub running_begin : Ready ar tab n → used_words ≤ length sc₀ → {at : ℕ} → at ≡ place_in 0 → (sc : List ℕ)
      → sc ≡ sets sc₀ at (flat (freshes_w n 0)) → Running ar tab n (set sc 0 n) (set sc 0 n) 1 0 0 × (Behind sc₀ (set sc 0 n))
  running_begin ready long first sc there =
      let e : sc ≡ sets sc₀ (place_in 0) (flat (freshes_w n 0)) = there ∙ ap (λ a. sets sc₀ a (flat (freshes_w n 0))) first in
      let few = ready_few ready in
      let many : length (freshes_w n 0) ≡ n = length-map (range 0 n) (fresh_w 0) ∙ length_range 0 n in
      let size = flat_length (freshes_w n 0) in
      let none : Kept sc₀ 0 = record { long = long; few = omega arith; counts = λ j l. absurd (omega arith) } in
      let apart : Spared 0 sc₀ sc = rw e (spared_run 0 sc₀ (flat (freshes_w n 0)) (omega arith)) in
      let kept : Kept sc 0 = spared_kept apart none in
      let is : goals_from sc (place_in 0) n ≡ freshes_w n 0 = flat_back sc₀ sc (place_in 0) (freshes_w n 0) n e (sym many) (omega arith) in
      let states : states_in (set sc 0 n) 1 ≡ freshes_w n 0 ∷ [] =
      states_more kept (omega arith) n
      ∙ ap₂ (λ ss g. ss ++ (g ∷ [])) (no_state sc) is in (
        record {
          below = omega arith;
          held = record {
            kept = kept_more kept (omega arith) n (omega arith);
            good = λ s j. rw (in_one (rw states at j)) (good_start ready);
          };
          behind = refl;
          sum = omega arith;
          blocks = [];
          many = refl;
          is = ap (λ ss. run (words tab n) ar 128 0 ss []) (sym states);
        },
        more_behind kept (omega arith) n ∙ apart.behind,
      )

module _ {ar tab : List ℕ} {n : ℕ} {sc₀ : List ℕ} where
  module _ {sc : List ℕ} {m count i : ℕ} (s : Running ar tab n sc₀ sc m count i) where
    module _ (h : i < m) where
      abbrev Turn : Result (ℕ × ℕ) Reason → List ℕ → Type 0
      Turn g sc' = (bs : List Block) → RowIs g ar tab n sc' i bs (row (words tab n) i (state_in sc i) 0 ar (states_in sc m) bs)

      the_state : get_or (states_in sc m) i (words tab n).start ≡ state_in sc i
      the_state = states_at sc m i (words tab n).start h

      inside : i < length (states_in sc m)
      inside = rw (states_length sc m) h

      few : i < 128
      few = let k = s.held.kept.few in omega arith

      pub running_on : (sc' : List ℕ) (g : Result (ℕ × ℕ) Reason) (all more : ℕ) → g ≡ Ok (all, more) → Turn g sc' → Behind sc sc'
          → Running ar tab n sc₀ sc' all (count + more) (i + 1)
      running_on sc' g all more e w b = go (rw e at (w s.blocks))
        where
          go : RowIs (Ok (all, more)) ar tab n sc' i s.blocks (row (words tab n) i (state_in sc i) 0 ar (states_in sc m) s.blocks)
              → Running ar tab n sc₀ sc' all (count + more) (i + 1)
          go r =
              let bs = r.more in
              let c0 = s.many in
              let c1 = s.sum in
              let c2 = r.sum in
              let c3 = r.small in
              let inn = r.inside in
              record {
                below = omega arith;
                held = r.held;
                behind = b ∙ s.behind;
                sum = omega arith;
                blocks = s.blocks ++ bs;
                many = sym (words_more s.blocks bs ∙ omega arith);
                is = s.is ∙ run_on (words tab n) ar i (states_in sc m) s.blocks inside few (states_in sc' all) (s.blocks ++ bs)
                    (ap (λ t. row (words tab n) i t 0 ar (states_in sc m) s.blocks) the_state ∙ r.is);
              }

      pub running_stop : (sc' : List ℕ) (g : Result (ℕ × ℕ) Reason) (r : Reason) → g ≡ Err r → Turn g sc'
          → explored (words tab n) ar ≡ refused r i
      running_stop sc' g r e w =
          s.is ∙ run_stop (words tab n) ar i (states_in sc m) s.blocks inside few r
          (ap (λ t. row (words tab n) i t 0 ar (states_in sc m) s.blocks) the_state ∙ (rw e at (w s.blocks)))

    pub running_end : m ≤ i → ExploredIs (Ok (m, count)) ar tab n sc (explored (words tab n) ar)
    running_end h =
        let a = s.sum in
        let b = s.below in
        let c = s.held.kept.few in
        record {
          held = s.held;
          blocks = s.blocks;
          is = s.is ∙ run_end (words tab n) ar i (states_in sc m) s.blocks (rw (states_length sc m) h);
          sum = s.many;
          small = omega arith;
        }
