-- Words and positions: a step over the words of a plan and a score is a step of the walk over positions, item by item and bit by bit.
--   word_item pos_item succ_item  an item by its state's number: as words, over positions; and one that goes on
--   Tied                          the words lent to a walk are those of a walk over positions
--   Next                          what a step makes of them: it is not refused, the words stay tied, and each bit that it sets was clear
--   step_tied                     a choice below the number waiting makes such a step
use mathlib.Core.Path.{◌≡◌, refl, ap, sym, ◌∙◌, subst}
use mathlib.Core.Bool.{true}
use mathlib.Core.List.{List, [], ◌∷◌, ◌++◌, map, append_assoc}
use mathlib.Core.Option.{some}
use mathlib.Core.Logic.{inl, inr, ⊎_elim, ◌↔◌}
use Prim.Native.Nat.{ℕ, suc, ◌+◌, ◌*◌, ◌<◌, ◌≤◌}
use native.Mathlib.Omega.{arith}
use lib.Dec.{ltb}
use lib.ListN.{length, get_or, get_elem?, take, drop, set, length-append, length-map, length-set, length-drop}
use Rattle.kinds.specs.Positions.{Pos, code}
use Rattle.kinds.specs.Bits.{bit}
use Rattle.kinds.proofs.Bools.{both, is_ltb, is_leb}
use Rattle.kinds.proofs.Members.{∈_left, ∈_right, ∈_append, on_map, map_in, all_of_lem, Distinct}
use Rattle.kinds.specs.Members.{◌∈◌, here, there, Pairwise}
use Rattle.kinds.proofs.Pairwise.{pairwise_map, pairwise_distinct}
use Rattle.kinds.proofs.ListLaws.{map_append, map_map, take_map, drop_map, take_set}
use Rattle.kinds.proofs.Places.{at_in, at_below, at_some, at_get_d, at_map, split_at}
use Rattle.kinds.proofs.Prefixes.{◌≼◌}
use Rattle.kinds.proofs.Codes.{Small}
use Rattle.kinds.proofs.BitLaws.{clear_or_set}
use Rattle.term.specs.Terms.{Term, node, Terms, count, span, flatten, sizes}
use Rattle.term.specs.Places.{sub}
use Rattle.following.specs.Following.{target}
use Rattle.following.proofs.FollowTree.{word_at_lem}
use Rattle.following.proofs.NodeNumbers.{num, num_is, num_below, num_inj, target_num}
use Rattle.automaton.specs.Goals.{Calculus, Goal, State, label, Announcement, outputs, announcement}
use Rattle.automaton.specs.Exploring.{Succ, Block}
use Rattle.automaton.specs.Walking.{Setting, Scored, calculus, Item, looks, placed, announces, Walked, step}
use Rattle.automaton.proofs.Derivative.{expects_owes}
use Rattle.automaton.proofs.Sound.{SoundState}
use Rattle.term.proofs.Sizes.{length_flatten}
use Rattle.term.proofs.Subterms.{sub_prefix}
use Rattle.automaton.proofs.Within.{score_arity}
use Rattle.automaton.proofs.Reachable.{reachable_sound}
use Rattle.automaton.proofs.Announced.{on_outputs, announces_differ}
use Rattle.automaton.proofs.Numbered.{Says, Numbered}
use Rattle.automaton.proofs.Explored.{explored_numbered, label_small, out_small, succ_small, links_go}
use Rattle.automaton.proofs.Invariant.{announced}
use Rattle.automaton.proofs.Steps.{walked_invariant, new_only}
use Rattle.automaton.proofs.Counts.{can_look, waiting_unread}
use Rattle.readers.specs.PlanParts.{pair_words}
use Rattle.walk.specs.Starting.{Walk}
use Rattle.walk.specs.Stepping.{Finding, look, onward, roomy, moved, tried}
use Rattle.queue.specs.Targets.{marked}
use Rattle.walking.specs.OneFolio.{out_pair, succ_pair, OneFolio, plan_in}
use Rattle.readers.proofs.LawsPairs.{pairs_words}
use Rattle.walking.proofs.MarkLaws.{Marked, marked_is, marked_length}
use Rattle.walking.proofs.StepParts.{targets_of, look_of, tried_of}
use Rattle.walking.proofs.Numbers.{ones, Grows, moved_grows, number_kept, numbered_in}

-- the number of a state, and a position
abbrev pub word_item : Term → ℕ × Pos → ℕ × ℕ
word_item t y = (y.0, num t y.1)

abbrev pub pos_item : List (State Pos) → ℕ × Pos → Item
pos_item ss y = record { state = get_or ss y.0 []; at = y.1 }

abbrev pub succ_item : Pos → Succ → ℕ × Pos
succ_item p x = (x.to, p ++ x.by)

abbrev out_word : Term → Pos → Announcement → ℕ × ℕ
out_word t p a = (a.shape, num t (p ++ a.at))

-- an announcement from p: its shape's number, its node, and where it stands
record OutOk (S : Setting) (t : Term) (p : Pos) (a : Announcement) : Type 0 where
  below : a.shape < length S.shapes
  to : target (length (flatten t)) (sizes t) (num t p) (code a.at) ≡ some (num t (p ++ a.at))
  there_is : Term
  stands : sub t (p ++ a.at) ≡ some there_is

module _ {C : Scored} (F : OneFolio C) where
  abbrev S : Setting
  S = C.setting

  abbrev K : Calculus Pos
  K = calculus S

  abbrev t : Term
  t = C.score

  abbrev ss : List (State Pos)
  ss = F.states

  abbrev bs : List Block
  bs = F.blocks

  made : Numbered K S.symbols ss bs
  made = explored_numbered S ss bs F.is_explored

  arity_at : (p : Pos) (f : ℕ) (us : Terms) → sub t p ≡ some (node f us) → get_elem? S.symbols f ≡ some (count us)
  arity_at p f us e = score_arity C p f us e

  -- one item of a walk, at symbol f
  module _ (cs ds : List Item) (read : List Pos) (told : List Announcement) (y : ℕ × Pos) (w : Walked C (cs ++ (pos_item ss y ∷ ds)) read told)
      (known : y.0 < length ss) (f : ℕ) (ts : Terms) (seen : sub t (looks S (pos_item ss y)) ≡ some (node f ts)) where
    abbrev st : State Pos
    st = get_or ss y.0 []

    sound : SoundState S st
    sound = reachable_sound S ((walked_invariant C w).reach (pos_item ss y) (∈_right cs (here refl)))

    arity : get_elem? S.symbols f ≡ some (count ts)
    arity = arity_at (looks S (pos_item ss y)) f ts seen

    blk : (b : Block) × (get_elem? bs (y.0 * length S.symbols + f) ≡ some b) × Says K ss st f (count ts) b
    blk = made.block y.0 f st (count ts) (at_get_d ss y.0 [] known) arity

    in_outputs : (a : Announcement) → a ∈ blk.0.out → a ∈ outputs K st f (count ts)
    in_outputs a m = rw blk.2.out_is at m

    -- what is announced lies in the score, with a small position and a shape's number
    out_ok : (a : Announcement) → a ∈ blk.0.out → OutOk S t y.1 a
    out_ok a m = on_outputs S st f (count ts) (in_outputs a m) λ g i ex z d.
        let sm = out_small S st sound f (count ts) a (in_outputs a m) in
        at_goal g d sm.0 sm.1 (sound.goals.low g i (label K st) (expects_owes S f (label K st) g ex))
      where
        at_goal : (g : Goal Pos) → a ≡ announcement g → a.shape < length S.shapes → Small a.at → label K st ≼ g.ann → OutOk S t y.1 a
        at_goal g d l sm low =
            let ea : a.at ≡ g.ann = ap (λ x. x.at) d in
            let e : y.1 ++ label K st ≡ (y.1 ++ a.at) ++ low.by =
            ap (λ q. y.1 ++ q) (low.eq ∙ ap (λ q. q ++ low.by) (sym ea)) ∙ sym (append_assoc y.1 a.at low.by) in
            let v = sub_prefix t (y.1 ++ a.at) low.by (node f ts) (sym (ap (sub t) e) ∙ seen) in
            record { below = l; to = target_num t y.1 a.at v.0 F.few_nodes sm v.1; there_is = v.0; stands = v.1 }

    -- the step over positions
    after : Walked C (cs ++ (ds ++ map (pos_item ss) (map (succ_item y.1) blk.0.succs))) (read ++ (looks S (pos_item ss y) ∷ []))
        (told ++ announces S (pos_item ss y) f (count ts))
    after = step cs ds read told (pos_item ss y) f ts (map (pos_item ss) (map (succ_item y.1) blk.0.succs)) w seen
        (rw (map_map (pos_item ss) (succ_item y.1) blk.0.succs) (links_go S ss bs made (pos_item ss y) f (count ts) blk.0 blk.2))

    succ_ok : (x : Succ) → x ∈ blk.0.succs → (x.to < length ss)
        × (target (length (flatten t)) (sizes t) (num t y.1) (code x.by) ≡ some (num t (y.1 ++ x.by)))
    succ_ok x m =
        let sm = succ_small S ss bs made st sound f (count ts) arity blk.0 blk.2 x m in
        let u = can_look C (walked_invariant C after) (pos_item ss (succ_item y.1 x))
        (∈_right cs (∈_right ds (map_in (pos_item ss) (map_in (succ_item y.1) m)))) in
        let v = sub_prefix t (y.1 ++ x.by) (label K (get_or ss x.to [])) (node u.0 u.1) u.2 in
        (sm.0, target_num t y.1 x.by v.0 F.few_nodes sm.1 v.1)

    -- what the words say
    look_is : look (plan_in F) (flatten t) (sizes t) (word_item t y)
        ≡ some (record {
          node = num t (looks S (pos_item ss y));
          outs = map (out_word t y.1) blk.0.out;
          nexts =
              map (λ x. word_item t (succ_item y.1 x)) blk.0.succs;
        })
    look_is =
        look_of (plan_in F) (flatten t) (sizes t) (length ss) (length S.symbols) (length S.shapes)
        F.reads.counts_good_lem F.reads.states_are F.reads.symbols_are F.reads.shapes_are
        y.0 (num t y.1) (code (label K st)) (num t (looks S (pos_item ss y))) f
        (map out_pair blk.0.out) (map succ_pair blk.0.succs) (map (out_word t y.1) blk.0.out)
        (map (λ x. word_item t (succ_item y.1 x)) blk.0.succs)
        (F.reads.label_read y.0 st (at_get_d ss y.0 [] known))
        (target_num t y.1 (label K st) (node f ts) F.few_nodes (label_small S st sound) seen)
        (word_at_lem t (looks S (pos_item ss y)) f ts (num t (looks S (pos_item ss y))) seen (num_is t (looks S (pos_item ss y)) (node f ts) seen))
        (F.reads.block_read y.0 f blk.0 known (at_below S.symbols f arity) blk.1)
        (targets_of (length S.shapes) (target (length (flatten t)) (sizes t) (num t y.1)) (λ a. a.shape) (λ a. code a.at)
        (λ a. num t (y.1 ++ a.at)) blk.0.out (λ a m. let o = out_ok a m in (o.below, o.to)))
        (targets_of (length ss) (target (length (flatten t)) (sizes t) (num t y.1)) (λ x. x.to) (λ x. code x.by) (λ x. num t (y.1 ++ x.by))
        blk.0.succs succ_ok)

  pub record Tied (v : Walk) : Type 0 where
    pub ns : List (ℕ × Pos)
    pub read : List Pos
    pub told : List Announcement
    pub walked : Walked C (map (pos_item ss) ns) read told
    pub known : (y : ℕ × Pos) → y ∈ ns → y.0 < length ss
    pub rest : List ℕ
    pub items_are : v.items ≡ pair_words (map (word_item t) ns) ++ rest
    pub waiting_is : v.count.waiting ≡ length ns
    pub logged_is : v.count.logged ≡ length read
    pub log_are : take (length read) v.log ≡ map (num t) read
    pub items_room : 2 * span t ≤ length v.items
    pub log_room : span t ≤ length v.log
    pub marks_room : span t ≤ length v.marks
    pub bits : (j : ℕ) (p : Pos) (u : Term) → sub t p ≡ some u → Marked v.marks (j, num t p) ↔ (announced j p ∈ told)
    pub number_is : v.count.matches ≡ ones (length (flatten t)) v

  pub record Next (v : Walk) (i : ℕ) : Type 0 where
    pub walk : Walk
    pub is : tried (plan_in F) (flatten t) (sizes t) i v ≡ some walk
    pub tied : Tied walk
    pub one_more_lem : walk.count.logged ≡ suc v.count.logged
    pub item : ℕ × ℕ
    pub found : Finding
    pub saw : look (plan_in F) (flatten t) (sizes t) item ≡ some found
    pub clear : (x : ℕ × ℕ) → x ∈ found.outs → bit (get_or v.marks x.1 0) x.0 ≡ 0
    pub apart : Distinct found.outs

  module _ (v : Walk) (T : Tied v) (i : ℕ) (y : ℕ × Pos) (ey : get_elem? T.ns i ≡ some y) (f : ℕ) (ts : Terms)
      (seen : sub t (looks S (pos_item ss y)) ≡ some (node f ts)) where
    abbrev cs : List Item
    cs = map (pos_item ss) (take i T.ns)

    abbrev ds : List Item
    ds = map (pos_item ss) (drop (suc i) T.ns)

    w₁ : Walked C (cs ++ (pos_item ss y ∷ ds)) T.read T.told
    w₁ = subst (λ l. Walked C l T.read T.told)
        (ap (map (pos_item ss)) (split_at T.ns i ey) ∙ map_append (pos_item ss) (take i T.ns) (y ∷ drop (suc i) T.ns)) T.walked

    yk : y.0 < length ss
    yk = T.known y (at_in T.ns i ey)

    abbrev B : Block
    B = (blk cs ds T.read T.told y w₁ yk f ts seen).0

    abbrev ns' : List (ℕ × Pos)
    ns' = take i T.ns ++ (drop (suc i) T.ns ++ map (succ_item y.1) B.succs)

    abbrev q : Pos
    q = looks S (pos_item ss y)

    abbrev new : List Announcement
    new = announces S (pos_item ss y) f (count ts)

    w₂ : Walked C (map (pos_item ss) ns') (T.read ++ (q ∷ [])) (T.told ++ new)
    w₂ = subst (λ l. Walked C l (T.read ++ (q ∷ [])) (T.told ++ new))
        (sym (map_append (pos_item ss) (take i T.ns) (drop (suc i) T.ns ++ map (succ_item y.1) B.succs)
        ∙ ap (λ l. cs ++ l) (map_append (pos_item ss) (drop (suc i) T.ns) (map (succ_item y.1) B.succs))))
        (after cs ds T.read T.told y w₁ yk f ts seen)

    abbrev found : Finding
    found = record { node = num t q; outs = map (out_word t y.1) B.out; nexts = map (λ x. word_item t (succ_item y.1 x)) B.succs }

    ok : (a : Announcement) → a ∈ B.out → OutOk S t y.1 a
    ok = out_ok cs ds T.read T.told y w₁ yk f ts seen

    -- what the block announces is what the walk over positions does
    out_is : B.out ≡ outputs K (get_or ss y.0 []) f (count ts)
    out_is = (blk cs ds T.read T.told y w₁ yk f ts seen).2.out_is

    new_is : new ≡ map (placed S (pos_item ss y)) B.out
    new_is = ap (map (placed S (pos_item ss y))) (sym out_is)

    its_are : onward i (map (word_item t) T.ns) found.nexts ≡ map (word_item t) ns'
    its_are =
        rw (take_map (word_item t) i T.ns, drop_map (word_item t) (suc i) T.ns)
        (sym (map_append (word_item t) (take i T.ns) (drop (suc i) T.ns ++ map (succ_item y.1) B.succs)
        ∙ ap (λ l. map (word_item t) (take i T.ns) ++ l) (map_append (word_item t) (drop (suc i) T.ns) (map (succ_item y.1) B.succs)
        ∙ ap (λ l. map (word_item t) (drop (suc i) T.ns) ++ l) (map_map (word_item t) (succ_item y.1) B.succs))))

    out_node : (x : ℕ × ℕ) → x ∈ found.outs → x.1 < span t
    out_node x m = on_map (out_word t y.1) B.out m λ a j e. let o = ok a j in rw e (num_below t (y.1 ++ a.at) o.there_is o.stands)

    fewer : length ns' ≤ span t
    fewer = let h = waiting_unread C (walked_invariant C w₂) in let l = length-map ns' (pos_item ss) in omega arith

    log_has_room : length T.read < span t
    log_has_room =
        let h = waiting_unread C (walked_invariant C T.walked) in
        let l = length-map T.ns (pos_item ss) in
        let b = at_below T.ns i ey in
        omega arith

    room : roomy v found (map (word_item t) ns') ≡ true
    room =
        let a = T.logged_is in
        let b = T.log_room in
        let c = T.items_room in
        let d = T.marks_room in
        let l = length-map ns' (word_item t) in
        let h = fewer in
        let g = log_has_room in
        both (is_ltb v.count.logged (length v.log) (omega arith))
        (both (is_leb (2 * length (map (word_item t) ns')) (length v.items) (omega arith))
        (all_of_lem (λ x. ltb x.1 (length v.marks)) found.outs (λ x m. let k = out_node x m in is_ltb x.1 (length v.marks) (omega arith))))

    -- bits and announcements
    told_out : (j : ℕ) (p : Pos) → announced j p ∈ new → (j, num t p) ∈ found.outs
    told_out j p m = on_map (placed S (pos_item ss y)) B.out (rw new_is at m) λ a k e.
        let ej : j ≡ a.shape = ap (λ z. z.shape) e in
        let ep : p ≡ y.1 ++ a.at = ap (λ z. z.at) e in
        rw (ej, ep) (map_in (out_word t y.1) k)

    out_told : (j : ℕ) (p : Pos) (u : Term) → sub t p ≡ some u → (j, num t p) ∈ found.outs → announced j p ∈ new
    out_told j p u e m = on_map (out_word t y.1) B.out m λ a k d.
        let o = ok a k in
        let ej : j ≡ a.shape = ap (λ z. z.0) d in
        let ep : p ≡ y.1 ++ a.at = num_inj t p (y.1 ++ a.at) u o.there_is e o.stands (ap (λ z. z.1) d) in
        rw (ej, ep, new_is) (map_in (placed S (pos_item ss y)) k)

    bits' : (j : ℕ) (p : Pos) (u : Term) → sub t p ≡ some u
        → Marked (marked found.outs v.marks) (j, num t p) ↔ (announced j p ∈ (T.told ++ new))
    bits' j p u e =
        let d = T.marks_room in
        let h = marked_is found.outs v.marks (λ x m. let k = out_node x m in omega arith) (j, num t p) in
        let b = T.bits j p u e in (
          λ m. ⊎_elim (λ (c : Marked v.marks (j, num t p)). ∈_left new (b.0 c)) (λ c. ∈_right T.told (out_told j p u e c)) (h.0 m),
          λ m. h.1 (⊎_elim (λ c. inl (b.1 c)) (λ c. inr (told_out j p c)) (∈_append T.told m)),
        )

    known' : (z : ℕ × Pos) → z ∈ ns' → z.0 < length ss
    known' z m = ⊎_elim (λ a. T.known z (rw (split_at T.ns i ey) (∈_left (y ∷ drop (suc i) T.ns) a)))
        (λ a. ⊎_elim
        (λ b. T.known z (rw (split_at T.ns i ey) (∈_right (take i T.ns) (there b))))
        (λ b. on_map (succ_item y.1) B.succs b λ x k e. rw e (succ_ok cs ds T.read T.told y w₁ yk f ts seen x k).0)
        (∈_append (drop (suc i) T.ns) a))
        (∈_append (take i T.ns) m)

    log' : take (length (T.read ++ (q ∷ []))) (set v.log v.count.logged (num t q)) ≡ map (num t) (T.read ++ (q ∷ []))
    log' =
        let a : length (T.read ++ (q ∷ [])) ≡ suc (length T.read) = rw length-append (omega arith) in
        let b = T.log_room in
        let g = log_has_room in
        rw (a, T.logged_is) (take_set v.log (length T.read) (num t q) (omega arith)
        ∙ rw T.log_are (sym (map_append (num t) T.read (q ∷ []))))

    grows : Grows (length (flatten t)) v (moved v found (map (word_item t) ns'))
    grows = moved_grows (plan_in F) (flatten t) (sizes t) (word_item t y) found v (map (word_item t) ns')
        (look_is cs ds T.read T.told y w₁ yk f ts seen) (λ x m. let k = out_node x m in let d = T.marks_room in omega arith)

    next_tied : Tied (moved v found (map (word_item t) ns'))
    next_tied = record {
      ns = ns';
      read = T.read ++ (q ∷ []);
      told = T.told ++ new;
      walked = w₂;
      known = known';
      rest = drop (length (pair_words (map (word_item t) ns'))) v.items;
      items_are = refl;
      waiting_is = length-map ns' (word_item t);
      logged_is = rw (T.logged_is, length-append) (omega arith);
      log_are = log';
      items_room =
          let a = T.items_room in
          let b = length-append (pair_words (map (word_item t) ns')) (drop (length (pair_words (map (word_item t) ns'))) v.items) in
          let c = length-drop (length (pair_words (map (word_item t) ns'))) v.items in
          omega arith;
      log_room = rw length-set T.log_room;
      marks_room = rw (marked_length found.outs v.marks) T.marks_room;
      bits = bits';
      number_is = number_kept (length (flatten t)) v (moved v found (map (word_item t) ns')) T.number_is grows;
    }

    clear' : (x : ℕ × ℕ) → x ∈ found.outs → bit (get_or v.marks x.1 0) x.0 ≡ 0
    clear' x m = on_map (out_word t y.1) B.out m λ a k d. rw d (clear_or_set (get_or v.marks (num t (y.1 ++ a.at)) 0) a.shape (λ b.
        let o = ok a k in
        let told-before = (T.bits a.shape (y.1 ++ a.at) o.there_is o.stands).0 b in
        new_only C cs ds T.read T.told (pos_item ss y) f ts (map (pos_item ss) (map (succ_item y.1) B.succs)) (walked_invariant C w₁) seen
        (rw (map_map (pos_item ss) (succ_item y.1) B.succs)
        (links_go S ss bs made (pos_item ss y) f (count ts) B (blk cs ds T.read T.told y w₁ yk f ts seen).2))
        (announced a.shape (y.1 ++ a.at)) (rw new_is (map_in (placed S (pos_item ss y)) k)) told-before))

    -- two announcements differ in shape or node
    apart' : Distinct found.outs
    apart' = pairwise_distinct (λ a b. a ≡ b → ⊥) (λ x n. n refl) found.outs
        (pairwise_map Differs (λ a b. a ≡ b → ⊥) (out_word t y.1) B.out differ outs_differ)
      where
        Differs : Announcement → Announcement → Type 0
        Differs a b = placed S (pos_item ss y) a ≡ placed S (pos_item ss y) b → ⊥

        unmap : (xs : List Announcement) → Pairwise (λ a b. a ≡ b → ⊥) (map (placed S (pos_item ss y)) xs) → Pairwise Differs xs
        unmap [] p = tt
        unmap (x ∷ xs) p = (λ z m. p.0 (placed S (pos_item ss y) z) (map_in (placed S (pos_item ss y)) m), unmap xs p.1)

        outs_differ : Pairwise Differs B.out
        outs_differ = unmap B.out (rw new_is at
            (announces_differ S (pos_item ss y) (sound cs ds T.read T.told y w₁ yk f ts seen) f (count ts)))

        differ : (a b : Announcement) → a ∈ B.out → b ∈ B.out → Differs a b → out_word t y.1 a ≡ out_word t y.1 b → ⊥
        differ a b i j n e =
            let oa = ok a i in
            let ob = ok b j in
            let es : a.shape ≡ b.shape = ap (λ z. z.0) e in
            let ep : y.1 ++ a.at ≡ y.1 ++ b.at =
            num_inj t (y.1 ++ a.at) (y.1 ++ b.at) oa.there_is ob.there_is oa.stands ob.stands (ap (λ z. z.1) e) in
            n (λ k. record { shape = es k; at = ep k })

    next : Next v i
    next = record {
      walk = moved v found (map (word_item t) ns');
      is = rw (← its_are) (tried_of (plan_in F) (flatten t) (sizes t) i v (map (word_item t) T.ns) T.rest (word_item t y) found
          (numbered_in (length (flatten t)) v T.number_is (rw (length_flatten t) F.few_nodes))
          (rw (T.waiting_is, T.items_are, ← (length-map T.ns (word_item t))) (pairs_words (map (word_item t) T.ns) T.rest))
          (at_map (word_item t) T.ns i ey) (look_is cs ds T.read T.told y w₁ yk f ts seen) (rw its_are room));
      tied = next_tied;
      one_more_lem = refl;
      item = word_item t y;
      found = found;
      saw = look_is cs ds T.read T.told y w₁ yk f ts seen;
      clear = clear';
      apart = apart';
    }

  pub step_tied : (v : Walk) → Tied v → (i : ℕ) → i < v.count.waiting → Next v i
  step_tied v T i h = let y = at_some T.ns i (rw T.waiting_is at h) in go y.0 y.1
    where
      go : (y : ℕ × Pos) → get_elem? T.ns i ≡ some y → Next v i
      go y ey =
          let u = can_look C (walked_invariant C T.walked) (pos_item ss y) (map_in (pos_item ss) (at_in T.ns i ey)) in
          next v T i y ey u.0 u.1 u.2
