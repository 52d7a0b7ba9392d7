-- Writing a plan, part by part.
--   two_stores Paired paired_…          a count and pairs of words
--   sets_swap                           two runs that lie apart, in either order
--   place_le place_small                a state's number
--   out_room succ_room block_put        a block from its parts; class_small: its classes are small
--   Rowed rowed_…                       the blocks of a state and their starts, in step
--   Planned planned_…                   labels, starts and blocks, in step
use mathlib.Core.Path.{◌≡◌, refl, ap, ap₂, sym, subst, ◌∙◌}
use mathlib.Core.List.{List, [], ◌∷◌, ◌++◌, map}
use mathlib.Core.Option.{Option, none, some}
use Prim.Native.Nat.{ℕ, suc, ◌+◌, ◌-◌, ◌*◌, ◌%◌, ◌<◌, ◌≤◌}
use native.Mathlib.Omega.{arith}
use native.Mathlib.Nat.{add-zero, zero-add, sub-zero, suc-mul, add-mul, mul-le-mul}
use native.Mathlib.Numerals.{add-one}
use lib.ListN.{length, get_or, drop, set, length-set, length-append, length-map, length-drop, drop_of_length-le}
use lib.Seq.{sets, length-sets, drop-cons}
use Rattle.kinds.specs.Lists.{find, gather, concat, or_else}
use Rattle.kinds.specs.Positions.{code, decode}
use Rattle.kinds.proofs.Members.{map_in, gather_length}
use Rattle.kinds.proofs.ListLaws.{sets_append, set_before, from, from_end, gather_map, gather_same, map_append, concat_append}
use Rattle.kinds.proofs.Places.{get_d_in, find_at, at_below, get_elem_some}
use Rattle.automaton.specs.Exploring.{Block}
use Rattle.automaton.specs.PlanWords.{block_words, starts_from}
use Rattle.automaton.specs.Classes.{Square}
use Rattle.automaton.specs.FinalBlocks.{succ_of, block_of, blocks_of, SmallOn}
use Rattle.goals.specs.GoalWords.{GoalWords, label_code}
use Rattle.goals.specs.WordStages.{outputs_w, same_state_w, displacement_w, lifted_w}
use Rattle.decoding.specs.WordMachine.{words, announcement_w, place_in, state_in, states_in, Kept}
use Rattle.decoding.specs.GoodStates.{GoodState}
use Rattle.derivatives.specs.Orders.{class_at, goal_on}
use Rattle.derivatives.specs.Passes.{Puts}
use Rattle.states.specs.Meeting.{place_of}
use Rattle.states.specs.Parting.{OnSymbol, firsts, Parted}
use Rattle.states.specs.declared.Parts.{Parts}
use Rattle.writing.specs.RowWords.{block_in, row_words, row_all, plan_in, pairs, out_words, succ_words, SmallBy, RowWritable, RowWritten, Writable}
use Rattle.states.proofs.StateLaws.{states_length, states_at}
use Rattle.states.proofs.PartLaws.{state_in_lem}
use Rattle.decoding.proofs.GoodLaws.{output_back, least_back, label_back}
use Rattle.states.proofs.BehindLaws.{place_in_lem}
use Rattle.states.proofs.ExploreLaws.{pairs_length}

-- ---- a count and pairs of words
pub two_stores : (l : List ℕ) (i a b : ℕ) → set (set l i a) (i + 1) b ≡ sets l i (a ∷ b ∷ [])
two_stores l i a b = ap (λ k. set (set l i a) k b) (add-one i)

pub record Paired (F G : ℕ → ℕ) (xs l₀ l : List ℕ) (at here j : ℕ) : Type 0 where
  pub below : j ≤ length xs
  pub long : length l ≡ length l₀
  pub stands : here ≡ at + 1 + 2 * j
  pub is : sets l₀ (at + 1) (pairs F G xs) ≡ sets l here (pairs F G (drop j xs))

module _ {F G : ℕ → ℕ} {xs l₀ : List ℕ} {at : ℕ} where
  module _ {l : List ℕ} {here j : ℕ} (s : Paired F G xs l₀ l at here j) where
    -- where the count stands in l₁ already
    pub paired_room : j < length xs → (l₁ : List ℕ) → l₀ ≡ set l₁ at (length xs) → at + (1 + 2 * length xs) ≤ length l₁
        → here + 2 ≤ length l
    paired_room h l₁ e room = let p = s.stands in omega (arith, s.long, ap length e, length-set l₁ at (length xs))

    pub paired_on : j < length xs → (l' : List ℕ) → l' ≡ sets l here (F (get_or xs j 0) ∷ G (get_or xs j 0) ∷ [])
        → Paired F G xs l₀ l' at (here + 2) (j + 1)
    paired_on h l' e =
        let x = get_or xs j 0 in
        let p = s.stands in
        let two : suc (suc here) ≡ here + 2 = omega arith in
        record {
          below = omega arith;
          long = ap length e ∙ length-sets l here (F x ∷ G x ∷ []) ∙ s.long;
          stands = omega arith;
          is = s.is ∙ ap (λ ys. sets l here (pairs F G ys)) (from xs j h) ∙ ap₂ (λ m k. sets m k (pairs F G (drop (j + 1) xs))) (sym e) two;
        }

    pub paired_end : length xs ≤ j → (l₁ : List ℕ) → l₀ ≡ set l₁ at (length xs) → Puts (length xs ∷ pairs F G xs) at here l₁ l
    paired_end h l₁ e =
        let p = s.stands in
        let b = s.below in
        let q = pairs_length F G xs in (
          omega arith,
          sym (ap₂ (λ m k. sets m k (pairs F G xs)) (sym e) (sym (add-one at)) ∙ s.is ∙ ap (λ ys. sets l here (pairs F G ys)) (from_end xs j h)),
        )

-- ---- two runs that lie apart
pub sets_swap : (xs l : List ℕ) (i j : ℕ) (ys : List ℕ) → i + length xs ≤ j → sets (sets l i xs) j ys ≡ sets (sets l j ys) i xs
sets_swap [] l i j ys h = refl
sets_swap (x ∷ xs) l i j ys h =
    sets_swap xs (set l i x) (suc i) j ys (omega arith) ∙ ap (λ m. sets m (suc i) xs) (sym (set_before l i j x ys (omega arith)))

-- ---- numbers of states
pub place_le : (ss : List (List GoalWords)) (k : List GoalWords) → place_of ss k ≤ length ss
unfolding place_of
place_le ss k = go (find (same_state_w k) ss 0) refl
  where
    go : (o : Option ℕ) → find (same_state_w k) ss 0 ≡ o → or_else o (length ss) ≤ length ss
    go (some i) e = let r = find_at (same_state_w k) ss 0 i e in let b = at_below ss r.0 r.2.1 in let z = r.1 in omega arith
    go none e = omega arith

pub place_small : {sc : List ℕ} {m : ℕ} → Kept sc m → (k : List GoalWords) (x : ℕ) → x ≡ place_of (states_in sc m) k → x ≤ 128
place_small {sc} {m} kept k x e = let a = place_le (states_in sc m) k in let b = states_length sc m in omega (arith, kept.few)

-- ---- a block
module _ {ar tab : List ℕ} {n : ℕ} {sc : List ℕ} {i c f : ℕ} (o : OnSymbol ar tab n sc i c f) (m : ℕ) {r : Parts} {out goals order : List ℕ}
    {dep : Square}
    (p : Parted tab n sc i f (get_or ar f 0) r out goals dep order) where
  abbrev items : List ℕ
  items = firsts r.announced out

  abbrev rows : List ℕ
  rows = firsts r.classes order

  abbrev ss : List (List GoalWords)
  ss = states_in sc m

  abbrev block : Block
  block = block_of (words tab n) ss (state_in sc i) f (get_or ar f 0)

  abbrev outs : List GoalWords
  outs = outputs_w tab (label_code tab (state_in sc i)) f (state_in sc i)

  out_words_lem : (length block.out ∷ gather (λ x. x.shape ∷ code x.at ∷ []) block.out) ≡ out_words sc (place_in i) items
  out_words_lem = ap₂ (λ x l. x ∷ l)
      (length-map outs announcement_w ∙ ap length (sym p.announced) ∙ length-map items (λ x. goal_on sc (place_in i) (x % 128)))
      (gather_map (λ x. x.shape ∷ code x.at ∷ []) announcement_w outs
      ∙ gather_same (λ g. g.sh ∷ code (decode g.an) ∷ []) (λ g. g.sh ∷ g.an ∷ []) outs
      (λ g q. ap (λ x. g.sh ∷ x ∷ []) (output_back o.good f g q))
      ∙ ap (gather (λ g. g.sh ∷ g.an ∷ [])) (sym p.announced)
      ∙ gather_map (λ g. g.sh ∷ g.an ∷ []) (λ x. goal_on sc (place_in i) (x % 128)) items)

  abbrev ks : List (List GoalWords)
  ks = (words tab n).classes (state_in sc i) f (get_or ar f 0)

  abbrev row_class : ℕ → List GoalWords
  row_class x = class_at dep goals r.goals (x % 128)

  succ_words_lem : (length block.succs ∷ gather (λ x. x.to ∷ code x.by ∷ []) block.succs) ≡ succ_words dep goals r.goals ss rows
  succ_words_lem = ap₂ (λ x l. x ∷ l)
      (length-map ks (succ_of (words tab n) ss) ∙ ap length (sym p.classes) ∙ length-map rows row_class)
      (gather_map (λ x. x.to ∷ code x.by ∷ []) (succ_of (words tab n) ss) ks
      ∙ gather_same (λ K. (succ_of (words tab n) ss K).to ∷ code (decode (displacement_w K)) ∷ [])
      (λ K. place_of ss (lifted_w K) ∷ displacement_w K ∷ []) ks
      (λ K q. ap₂ (λ x y. x ∷ y ∷ []) (sym (place_in_lem tab n ss K)) (least_back o.good f (get_or ar f 0) (get_elem_some ar f o.symbol) K q))
      ∙ ap (gather (λ K. place_of ss (lifted_w K) ∷ displacement_w K ∷ [])) (sym p.classes)
      ∙ gather_map (λ K. place_of ss (lifted_w K) ∷ displacement_w K ∷ []) row_class rows)

  block_is : block_in ar tab n sc m i f ≡ out_words sc (place_in i) items ++ succ_words dep goals r.goals ss rows
  block_is = ap₂ (λ x y. x ++ y) out_words_lem succ_words_lem

  block_size : length (block_in ar tab n sc m i f) ≡ (1 + 2 * length items) + (1 + 2 * length rows)
  block_size =
      ap length block_is ∙ length-append (out_words sc (place_in i) items) (succ_words dep goals r.goals ss rows)
      ∙ (let x = pairs_length (λ x. (goal_on sc (place_in i) (x % 128)).sh) (λ x. (goal_on sc (place_in i) (x % 128)).an) items in
      let y = pairs_length (λ x. place_of ss (lifted_w (row_class x))) (λ x. displacement_w (row_class x)) rows in
      omega arith)

  pub class_small : SmallOn (words tab n) (state_in sc i) 0 ar → SmallBy dep goals r.goals rows
  class_small small j l =
      small f (get_or ar f 0) (get_elem_some ar f o.symbol) (row_class (get_or rows j 0))
      (rw (zero-add f) (rw p.classes at (map_in row_class (get_d_in rows j 0 l))))

  module _ (plan : List ℕ) (at : ℕ) (room : at + length (block_in ar tab n sc m i f) ≤ length plan) where
    -- the announcements have room, and then the successors
    pub out_room : at + (1 + 2 * length items) ≤ length plan
    out_room = let z = block_size in omega arith

    module _ {from : ℕ} (e : from ≡ place_in i) (plan₁ : List ℕ) (next : ℕ) (there : Puts (out_words sc from items) at next plan plan₁) where
      w : Puts (out_words sc (place_in i) items) at next plan plan₁
      w = subst (λ x. Puts (out_words sc x items) at next plan plan₁) e there

      pub succ_room : next + (1 + 2 * length rows) ≤ length plan₁
      succ_room =
          let z = block_size in
          let y = pairs_length (λ x. (goal_on sc (place_in i) (x % 128)).sh) (λ x. (goal_on sc (place_in i) (x % 128)).an) items in
          omega (arith, w.0, ap length w.1, length-sets plan at (out_words sc (place_in i) items))

      pub block_put : (plan₂ : List ℕ) (last : ℕ) → Puts (succ_words dep goals r.goals ss rows) next last plan₁ plan₂
          → Puts (block_in ar tab n sc m i f) at last plan plan₂
      block_put plan₂ last v =
          let A = out_words sc (place_in i) items in
          let B = succ_words dep goals r.goals ss rows in (
            omega (arith, w.0, v.0, ap length block_is, length-append A B),
            v.1 ∙ ap₂ (λ l t. sets l t B) w.1 w.0 ∙ sym (sets_append plan at A B) ∙ ap (sets plan at) (sym block_is),
          )

-- ---- starts and blocks
starts_length : (at : ℕ) (bs : List (List ℕ)) → length (starts_from at bs) ≡ length bs
starts_length at [] = refl
starts_length at (b ∷ bs) = ap suc (starts_length (at + length b) bs)

starts_append : (at : ℕ) (bs cs : List (List ℕ)) → starts_from at (bs ++ cs) ≡ starts_from at bs ++ starts_from (at + length (concat bs)) cs
starts_append at [] cs = ap (λ k. starts_from k cs) (sym (add-zero at))
starts_append at (b ∷ bs) cs =
    ap (λ l. at ∷ l)
    (starts_append (at + length b) bs cs ∙ ap (λ k. starts_from (at + length b) bs ++ starts_from k cs)
    (let z = length-append b (concat bs) in omega arith))

module _ (tab : List ℕ) (n : ℕ) (sc : List ℕ) (m i : ℕ) (ar : List ℕ) where
  abbrev block_words_on : ℕ → List ℕ
  block_words_on f = block_in ar tab n sc m i f

  rest_next : (f : ℕ) → f < length ar
      → row_words tab n sc m i f (drop f ar) ≡ block_words_on f ∷ row_words tab n sc m i (f + 1) (drop (f + 1) ar)
  unfolding row_words
  rest_next f h =
      ap (λ ns. map block_words (blocks_of (words tab n) (states_in sc m) (state_in sc i) f ns)) (from ar f h)
      ∙ ap (λ g. block_words_on f ∷ map block_words (blocks_of (words tab n) (states_in sc m) (state_in sc i) g (drop (f + 1) ar)))
      (sym (add-one f))

  rest_end : (f : ℕ) → length ar ≤ f → row_words tab n sc m i f (drop f ar) ≡ []
  unfolding row_words
  rest_end f h = ap (λ ns. map block_words (blocks_of (words tab n) (states_in sc m) (state_in sc i) f ns)) (from_end ar f h)

  blocks_length_lem : (f : ℕ) (ns : List ℕ) → length (blocks_of (words tab n) (states_in sc m) (state_in sc i) f ns) ≡ length ns
  blocks_length_lem f [] = refl
  blocks_length_lem f (k ∷ ns) = ap suc (blocks_length_lem (suc f) ns)

  pub row_length : (f : ℕ) (ns : List ℕ) → length (row_words tab n sc m i f ns) ≡ length ns
  unfolding row_words
  row_length f ns = length-map (blocks_of (words tab n) (states_in sc m) (state_in sc i) f ns) block_words ∙ blocks_length_lem f ns

  pub record Rowed (S at : ℕ) (l₀ l : List ℕ) (here f : ℕ) : Type 0 where
    pub below : f ≤ length ar
    pub long : length l ≡ length l₀
    pub past : at ≤ here
    pub stands : here + length (concat (row_words tab n sc m i f (drop f ar))) ≡ at + length (row_all ar tab n sc m i)
    pub is : sets (sets l₀ S (starts_from at (row_words tab n sc m i 0 ar))) at (row_all ar tab n sc m i) ≡ sets
        (sets l (S + f) (starts_from here (row_words tab n sc m i f (drop f ar)))) here (concat (row_words tab n sc m i f (drop f ar)))

module _ {tab : List ℕ} {n : ℕ} {sc : List ℕ} {m i : ℕ} {ar : List ℕ} {S at : ℕ} {l₀ : List ℕ} where
  module _ {l : List ℕ} {here f : ℕ} (s : Rowed tab n sc m i ar S at l₀ l here f) where
    pub rowed_room : f < length ar → here + length (block_in ar tab n sc m i f) ≤ at + length (row_all ar tab n sc m i)
    rowed_room h =
        let e = ap (λ r. length (concat r)) (rest_next tab n sc m i ar f h) in
        let d = length-append (block_in ar tab n sc m i f) (concat (row_words tab n sc m i (f + 1) (drop (f + 1) ar))) in
        let z = s.stands in
        omega arith

    pub rowed_fits : f < length ar → at + length (row_all ar tab n sc m i) ≤ length l₀
        → here + length (block_in ar tab n sc m i f) ≤ length (set l (S + f) here)
    rowed_fits h room = let r = rowed_room h in omega (arith, s.long, length-set l (S + f) here)

    pub rowed_on : f < length ar → S + length ar ≤ at → (l₂ : List ℕ) (next : ℕ)
        → Puts (block_in ar tab n sc m i f) here next (set l (S + f) here) l₂ → Rowed tab n sc m i ar S at l₀ l₂ next (f + 1)
    rowed_on h room l₂ next w =
        let e = w.1 in
        let d = w.0 in
        let W = block_in ar tab n sc m i f in
        let R = row_words tab n sc m i (f + 1) (drop (f + 1) ar) in
        let more = concat R in
        let starts = starts_from (here + length W) R in
        let l₁ = set l (S + f) here in
        let p = s.past in
        let c = length-append W more in
        let count : length starts ≡ length ar - (f + 1) =
        starts_length (here + length W) R ∙ row_length tab n sc m i ar (f + 1) (drop (f + 1) ar) ∙ length-drop (f + 1) ar in
        let apart : suc (S + f) + length starts ≤ here = omega arith in
        let z = s.stands in
        let q = ap (λ r. length (concat r)) (rest_next tab n sc m i ar f h) in
        let one : S + (f + 1) ≡ suc (S + f) = omega arith in
        record {
          below = omega arith;
          long = ap length e ∙ length-sets l₁ here W ∙ length-set l (S + f) here ∙ s.long;
          past = omega arith;
          stands = omega arith;
          is = s.is ∙ ap (λ r. sets (sets l (S + f) (starts_from here r)) here (concat r)) (rest_next tab n sc m i ar f h)
              ∙ sets_append (sets l₁ (suc (S + f)) starts) here W more
              ∙ ap (λ x. sets x (here + length W) more) (sets_swap starts l₁ (suc (S + f)) here W apart)
              ∙ ap₂ (λ x k. sets (sets x k starts) (here + length W) more) (sym e) (sym one)
              ∙ ap (λ k. sets (sets l₂ (S + (f + 1)) (starts_from k R)) k more) (sym d);
        }

    pub rowed_end : length ar ≤ f
        → (here ≡ at + length (row_all ar tab n sc m i))
        × (l ≡ sets (sets l₀ S (starts_from at (row_words tab n sc m i 0 ar))) at (row_all ar tab n sc m i))
    rowed_end h =
        let e = rest_end tab n sc m i ar f h in
        let z = s.stands in
        let q = ap (λ r. length (concat r)) e in
        (omega arith, sym (s.is ∙ ap (λ r. sets (sets l (S + f) (starts_from here r)) here (concat r)) e))

pub head_length : (l : List ℕ) (a b c d : ℕ) → length (set (set (set (set l 0 a) 1 b) 2 c) 3 d) ≡ length l
head_length l a b c d =
    length-set (set (set (set l 0 a) 1 b) 2 c) 3 d ∙ length-set (set (set l 0 a) 1 b) 2 c ∙ length-set (set l 0 a) 1 b ∙ length-set l 0 a

-- ---- labels, starts and blocks
module _ (ar tab : List ℕ) (n : ℕ) (sc : List ℕ) (m : ℕ) where
  abbrev pub labels_from : ℕ → List ℕ
  labels_from i = map (λ s. code ((words tab n).label s)) (drop i (states_in sc m))

  abbrev pub words_from : ℕ → List (List ℕ)
  words_from i = map block_words (gather (λ s. blocks_of (words tab n) (states_in sc m) s 0 ar) (drop i (states_in sc m)))

  abbrev pub base : ℕ
  base = 4 + m + m * length ar

  states_from : (i : ℕ) → i < m → drop i (states_in sc m) ≡ state_in sc i ∷ drop (i + 1) (states_in sc m)
  states_from i h =
      rw (add-one i) (drop-cons (states_in sc m) i [] (rw (states_length sc m) h))
      ∙ ap (λ s. s ∷ drop (i + 1) (states_in sc m)) (states_at sc m i [] h)

  labels_next : (i : ℕ) → i < m → GoodState ar tab n (state_in sc i) → labels_from i ≡ label_code tab (state_in sc i) ∷ labels_from (i + 1)
  labels_next i h good = ap (map (λ s. code ((words tab n).label s))) (states_from i h) ∙ ap (λ x. x ∷ labels_from (i + 1)) (label_back good)

  words_next : (i : ℕ) → i < m → words_from i ≡ row_words tab n sc m i 0 ar ++ words_from (i + 1)
  unfolding row_words
  words_next i h = ap (λ ss. map block_words (gather (λ s. blocks_of (words tab n) (states_in sc m) s 0 ar) ss)) (states_from i h)
      ∙ map_append block_words (blocks_of (words tab n) (states_in sc m) (state_in sc i) 0 ar)
      (gather (λ s. blocks_of (words tab n) (states_in sc m) s 0 ar) (drop (i + 1) (states_in sc m)))

  none_left : (i : ℕ) → m ≤ i → drop i (states_in sc m) ≡ []
  none_left i h = drop_of_length-le (states_in sc m) {i = i} (rw (states_length sc m) h)

  labels_length : (i : ℕ) → length (labels_from i) ≡ m - i
  labels_length i = length-map (drop i (states_in sc m)) _ ∙ length-drop i (states_in sc m) ∙ ap (λ x. x - i) (states_length sc m)

  rows_count : (ss : List (List GoalWords))
      → length (map block_words (gather (λ s. blocks_of (words tab n) (states_in sc m) s 0 ar) ss)) ≡ length ss * length ar
  rows_count ss =
      length-map (gather (λ s. blocks_of (words tab n) (states_in sc m) s 0 ar) ss) block_words
      ∙ gather_length (λ s. blocks_of (words tab n) (states_in sc m) s 0 ar) (length ar) ss (λ s. blocks_count s 0 ar)
    where
      blocks_count : (s : List GoalWords) (f : ℕ) (ns : List ℕ) → length (blocks_of (words tab n) (states_in sc m) s f ns) ≡ length ns
      blocks_count s f [] = refl
      blocks_count s f (k ∷ ns) = ap suc (blocks_count s (suc f) ns)

  words_count : (i : ℕ) → length (words_from i) ≡ (m - i) * length ar
  words_count i =
      rows_count (drop i (states_in sc m)) ∙ ap (λ x. x * length ar) (length-drop i (states_in sc m) ∙ ap (λ x. x - i) (states_length sc m))

  -- how long a plan is
  pub plan_length : length (plan_in ar tab n sc m) ≡ 4 + length (states_in sc m) + length (states_in sc m) * length ar + length (concat (words_from 0))
  plan_length =
      let x =
      length-append (labels_from 0)
      (starts_from (4 + length (states_in sc m) + length (states_in sc m) * length ar) (words_from 0) ++ concat (words_from 0)) in
      let y =
      length-append (starts_from (4 + length (states_in sc m) + length (states_in sc m) * length ar) (words_from 0)) (concat (words_from 0)) in
      let a = length-map (states_in sc m) (λ s. code ((words tab n).label s)) in
      let b = starts_length (4 + length (states_in sc m) + length (states_in sc m) * length ar) (words_from 0) in
      let c = rows_count (states_in sc m) in
      omega arith

  pub plan_total : (total : ℕ) → total ≡ length (plan_in ar tab n sc m) → base + length (concat (words_from 0)) ≡ total
  plan_total total e = sym (e ∙ plan_length ∙ ap (λ x. 4 + x + x * length ar + length (concat (words_from 0))) (states_length sc m))

  pub record Planned (l₀ l : List ℕ) (at i : ℕ) : Type 0 where
    pub below : i ≤ m
    pub long : length l ≡ length l₀
    pub past : base ≤ at
    pub stands : at + length (concat (words_from i)) ≡ base + length (concat (words_from 0))
    pub is : sets (sets (sets l₀ 4 (labels_from 0)) (4 + m) (starts_from base (words_from 0))) base (concat (words_from 0))
        ≡ sets (sets (sets l (4 + i) (labels_from i)) (4 + m + i * length ar) (starts_from at (words_from i))) at (concat (words_from i))

module _ {ar tab : List ℕ} {n : ℕ} {sc : List ℕ} {m : ℕ} where
  module _ {l₀ l : List ℕ} {at i : ℕ} (s : Planned ar tab n sc m l₀ l at i) where
    -- what is left of the rows lies within
    within : i < m → 4 + m + i * length ar + length ar ≤ (base ar tab n sc m)
    within h =
        let a = suc-mul i (length ar) in
        let b : suc i * length ar ≤ m * length ar =
        mul-le-mul {n₁ = suc i} {m₁ = length ar} {n₂ = m} {m₂ = length ar} (omega arith) (omega arith) in
        omega arith

    rest_within : i < m → 4 + m + i * length ar + length ar + (m - (i + 1)) * length ar ≡ (base ar tab n sc m)
    rest_within h =
        let a = suc-mul i (length ar) in
        let b = add-mul (suc i) (m - (i + 1)) (length ar) in
        let e : suc i + (m - (i + 1)) ≡ m = omega arith in
        let d = ap (λ x. x * length ar) e in
        omega arith

    pub planned_below : i < m → 4 + m + i * length ar + length ar ≤ at
    planned_below h = let a = within h in let p = s.past in omega arith

    pub planned_room : i < m → at + length (row_all ar tab n sc m i) ≤ (base ar tab n sc m) + length (concat (words_from ar tab n sc m 0))
    planned_room h =
        let e = ap (λ r. length (concat r)) (words_next ar tab n sc m i h) in
        let d = ap length (concat_append (row_words tab n sc m i 0 ar) (words_from ar tab n sc m (i + 1))) in
        let c = length-append (row_all ar tab n sc m i) (concat (words_from ar tab n sc m (i + 1))) in
        let z = s.stands in
        omega arith

    pub planned_on : i < m → GoodState ar tab n (state_in sc i) → (c : ℕ) → c ≡ label_code tab (state_in sc i) → (l₂ : List ℕ) (next : ℕ)
        → RowWritten ar tab n sc m i at next (set l (4 + i) c) l₂ → Planned ar tab n sc m l₀ l₂ next (i + 1)
    planned_on h good c e l₂ next w =
        let d = w.1 in
        let q = w.0 in
        let R = row_words tab n sc m i 0 ar in
        let rest = words_from ar tab n sc m (i + 1) in
        let l₁ = set l (4 + i) c in
        let labels = labels_from ar tab n sc m (i + 1) in
        let S = 4 + m + i * length ar in
        let SR = starts_from at R in
        let CR = concat R in
        let SB = starts_from (at + length CR) rest in
        let CB = concat rest in
        let p = s.past in
        let z = s.stands in
        let w1 = ap (λ r. length (concat r)) (words_next ar tab n sc m i h) in
        let w2 = ap length (concat_append R rest) in
        let w3 = length-append CR CB in
        let many : length labels ≡ m - (i + 1) = labels_length ar tab n sc m (i + 1) in
        let rows : length SR ≡ length ar = starts_length at R ∙ row_length tab n sc m i ar 0 ar in
        let others : length SB ≡ (m - (i + 1)) * length ar = starts_length (at + length CR) rest ∙ words_count ar tab n sc m (i + 1) in
        let total = rest_within h in
        let front : suc (4 + i) + length labels ≤ S = omega arith in
        let one : 4 + (i + 1) ≡ suc (4 + i) = omega arith in
        let two : 4 + m + (i + 1) * length ar ≡ S + length SR = let k = suc-mul i (length ar) in
        let t : (i + 1) * length ar ≡ suc i * length ar = ap (λ x. x * length ar) (add-one i) in omega arith in
        record {
          below = omega arith;
          long = ap length d ∙ length-sets (sets l₁ S SR) at CR ∙ length-sets l₁ S SR ∙ length-set l (4 + i) c ∙ s.long;
          past = omega arith;
          stands = omega arith;
          is = s.is
              ∙ ap₂ (λ a r. sets (sets (sets l (4 + i) a) S (starts_from at r)) at (concat r))
              (labels_next ar tab n sc m i h good ∙ ap (λ x. x ∷ labels) (sym e)) (words_next ar tab n sc m i h)
              ∙ ap₂ (λ a b. sets (sets (sets l₁ (suc (4 + i)) labels) S a) at b) (starts_append at R rest) (concat_append R rest)
              ∙ sets_append (sets (sets l₁ (suc (4 + i)) labels) S (SR ++ SB)) at CR CB
              ∙ ap (λ x. sets (sets x at CR) (at + length CR) CB) (sets_append (sets l₁ (suc (4 + i)) labels) S SR SB)
              ∙ ap (λ x. sets (sets (sets x (S + length SR) SB) at CR) (at + length CR) CB) (sets_swap labels l₁ (suc (4 + i)) S SR front)
              ∙ ap (λ x. sets x (at + length CR) CB)
              (sets_swap SB (sets (sets l₁ S SR) (suc (4 + i)) labels) (S + length SR) at CR (omega arith))
              ∙ ap (λ x. sets (sets x (S + length SR) SB) (at + length CR) CB)
              (sets_swap labels (sets l₁ S SR) (suc (4 + i)) at CR (omega arith))
              ∙ ap (λ x. sets (sets (sets x (suc (4 + i)) labels) (S + length SR) SB) (at + length CR) CB) (sym d)
              ∙ ap₂ (λ x y. sets (sets (sets l₂ x labels) y SB) (at + length CR) CB) (sym one) (sym two)
              ∙ ap (λ x. sets (sets (sets l₂ (4 + (i + 1)) labels) (4 + m + (i + 1) * length ar) (starts_from x rest)) x CB) (sym q);
        }

    pub planned_end : m ≤ i → (plan : List ℕ) (total : ℕ) → total ≡ length (plan_in ar tab n sc m)
        → l₀ ≡ set (set (set (set plan 0 m) 1 (length ar)) 2 n) 3 total → l ≡ sets plan 0 (plan_in ar tab n sc m)
    planned_end h plan total e d =
        let head : 4 + length (states_in sc m) + length (states_in sc m) * length ar + length (concat (words_from ar tab n sc m 0)) ≡ total =
        sym (e ∙ plan_length ar tab n sc m) in
        let gone = none_left ar tab n sc m i h in
        let mm = states_length sc m in
        sym (
        ap₂
        (λ x y. sets plan 0 (x ∷ length ar ∷ n ∷ y ∷ labels_from ar tab n sc m 0 ++
        (starts_from (4 + x + x * length ar) (words_from ar tab n sc m 0) ++ concat (words_from ar tab n sc m 0))))
        mm head
        ∙ ap
        (λ x. sets x 4 (labels_from ar tab n sc m 0 ++
        (starts_from (base ar tab n sc m) (words_from ar tab n sc m 0) ++ concat (words_from ar tab n sc m 0))))
        (sym d)
        ∙ sets_append l₀ 4 (labels_from ar tab n sc m 0)
        (starts_from (base ar tab n sc m) (words_from ar tab n sc m 0) ++ concat (words_from ar tab n sc m 0))
        ∙ ap
        (λ x. sets (sets l₀ 4 (labels_from ar tab n sc m 0)) x
        (starts_from (base ar tab n sc m) (words_from ar tab n sc m 0) ++ concat (words_from ar tab n sc m 0)))
        (ap (λ x. 4 + x) (labels_length ar tab n sc m 0 ∙ sub-zero m))
        ∙ sets_append (sets l₀ 4 (labels_from ar tab n sc m 0)) (4 + m) (starts_from (base ar tab n sc m) (words_from ar tab n sc m 0))
        (concat (words_from ar tab n sc m 0))
        ∙ ap
        (λ x. sets (sets (sets l₀ 4 (labels_from ar tab n sc m 0)) (4 + m) (starts_from (base ar tab n sc m) (words_from ar tab n sc m 0))) x
        (concat (words_from ar tab n sc m 0)))
        (ap (λ x. 4 + m + x) (starts_length (base ar tab n sc m) (words_from ar tab n sc m 0) ∙ words_count ar tab n sc m 0
        ∙ ap (λ x. x * length ar) (sub-zero m)))
        ∙ s.is
        ∙ ap
        (λ ss. sets (sets (sets l (4 + i) (map (λ t. code ((words tab n).label t)) ss)) (4 + m + i * length ar)
        (starts_from at (map block_words (gather (λ t. blocks_of (words tab n) (states_in sc m) t 0 ar) ss)))) at
        (concat (map block_words (gather (λ t. blocks_of (words tab n) (states_in sc m) t 0 ar) ss))))
        gone)

  module _ {total : ℕ} {plan : List ℕ} (w : Writable ar tab n sc m total plan) where
    plan_sum : base ar tab n sc m + length (concat (words_from ar tab n sc m 0)) ≡ total
    plan_sum = plan_total ar tab n sc m total w.sum

    -- the whole plan has room
    pub plan_room : 4 + m + m * length ar + length (concat (words_from ar tab n sc m 0)) ≤ length plan
    plan_room = let e = plan_sum in omega (arith, w.room)

    pub row_writable : {l₀ l : List ℕ} {at i : ℕ} → Planned ar tab n sc m l₀ l at i → i < m → length l₀ ≡ length plan → (c : ℕ)
        → c ≡ label_code tab (state_in sc i)
        → RowWritable ar tab n sc m i c at (set l (4 + i) c)
    row_writable {l₀} {l} {at} {i} s h long c e =
        let room = planned_room s h in
        let sum = plan_sum in
        record {
          held = w.held;
          inside = h;
          small = w.small (state_in sc i) (state_in_lem sc m i h);
          label = e;
          starts = planned_below s h;
          room = omega (arith, w.room, s.long, length-set l (4 + i) c);
          word = omega (arith, w.word);
        }
