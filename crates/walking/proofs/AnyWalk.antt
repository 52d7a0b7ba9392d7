-- What is promised of every walk over words: plan and score of one folio, any buffers that starting accepts, any choices, refused ones among them.
--   refused_32            a choice that is not below the number waiting is refused 32, and changes nothing
--   taken one_logged      any other is taken, and logs one node
--   bits_clear            the announcements of a step differ, and each sets a bit that was clear
--   marks_so_far          bit j of the mark at a node is set exactly if shape j matches there, and each score node on which a node of the shape falls that is
--                         no blank is in the log
--   marks_shapes          no other bit is ever set
--   waits_unread          no more wait than are unread
--   ends_read steps_end   none waits exactly if all nodes are logged, which is after as many accepted steps as the score has nodes
--   log_nodes log_once log_all   the log holds nodes, none twice, and at the end each
--   same_walk             the walk over words is a walk over positions, item by item, log entry by log entry, bit by bit
use Rattle.std.specs.Prelude.{Ok}
use mathlib.Core.Path.{◌≡◌, refl, ap, sym, ◌∙◌, subst}
use mathlib.Core.List.{List, [], ◌++◌, map}
use mathlib.Core.Option.{some}
use mathlib.Core.Logic.{◌↔◌}
use Prim.Native.Nat.{ℕ, suc, ◌+◌, ◌<◌, ◌≤◌}
use native.Mathlib.Omega.{arith}
use lib.ListN.{length, get_or, get_elem?, take, length-map}
use Rattle.kinds.specs.Bits.{bit}
use Rattle.kinds.specs.Positions.{Pos}
use Rattle.kinds.specs.declared.Reason.TheVariants.{NoSuchItem}
use Rattle.kinds.proofs.Options.{on_bind}
use Rattle.kinds.proofs.Members.{on_map, map_in, Distinct, distinct_map}
use Rattle.kinds.specs.Members.{◌∈◌}
use Rattle.kinds.proofs.ListLaws.{none_left}
use Rattle.term.specs.Terms.{Term, span}
use Rattle.term.specs.Places.{sub, hd, head_at, Matches, number}
use Rattle.term.proofs.Numbers.{sub_number, node_at_lem}
use Rattle.following.proofs.NodeNumbers.{num, num_is, num_below, num_inj}
use Rattle.automaton.specs.Walking.{Scored, Walked}
use Rattle.automaton.proofs.Invariant.{announced}
use Rattle.automaton.proofs.Steps.{walked_invariant}
use Rattle.automaton.proofs.Counts.{read_all}
use Rattle.automaton.proofs.Walks as walks
use Rattle.walk.specs.Starting.{Walk, WalkOutcome, refuse_walk, begun}
use Rattle.walk.specs.Stepping.{Finding, look}
use Rattle.walking.specs.OneFolio.{OneFolio, plan_in, score_in, spans_in, EnoughLent, step_in, walk_in, accepted_in}
use Rattle.walking.proofs.Tied.{pos_item, Tied}
use Rattle.walking.proofs.TiedRuns.{begun_tied, Stepping, moves, refuses, stepping, run_tied, run_logged}

module _ {C : Scored} (F : OneFolio C) where
  abbrev t : Term
  t = C.score

  abbrev shapes : List Term
  shapes = C.setting.shapes

  -- what a step finds in the words: its announcements differ, and the bit of each was clear
  pub record Clear (v : Walk) : Type 0 where
    pub item : ℕ × ℕ
    pub found : Finding
    pub saw : look (plan_in F) (score_in F) (spans_in F) item ≡ some found
    pub clear : (x : ℕ × ℕ) → x ∈ found.outs → bit (get_or v.marks x.1 0) x.0 ≡ 0
    pub apart : Distinct found.outs

  module _ (w : Walk) (lent : EnoughLent F w) (choices : List ℕ) where
    abbrev W : Walk
    W = walk_in F choices w

    pub same_walk : Tied F (walk_in F choices w)
    same_walk = run_tied F choices (begun (length (score_in F)) w) (begun_tied F w lent)

    step_is : (i : ℕ) → Stepping F W i
    step_is i = stepping F W same_walk i

    pub refused_32 : (i : ℕ) → (walk_in F choices w).count.waiting ≤ i → step_in F i (walk_in F choices w) ≡ refuse_walk NoSuchItem (walk_in F choices w)
    refused_32 i l = go (step_is i)
      where
        go : Stepping F W i → step_in F i W ≡ refuse_walk NoSuchItem W
        go (moves h n d) = absurd (omega arith)
        go (refuses h d) = d

    pub taken : (i : ℕ) → i < (walk_in F choices w).count.waiting
        → (step_in F i (walk_in F choices w)).answer ≡ Ok (step_in F i (walk_in F choices w)).walk.count
    taken i l = go (step_is i)
      where
        go : Stepping F W i → (step_in F i W).answer ≡ Ok (step_in F i W).walk.count
        go (moves h n d) = rw d
        go (refuses h d) = absurd (omega arith)

    pub one_logged : (i : ℕ) → i < (walk_in F choices w).count.waiting
        → (step_in F i (walk_in F choices w)).walk.count.logged ≡ suc (walk_in F choices w).count.logged
    one_logged i l = go (step_is i)
      where
        go : Stepping F W i → (step_in F i W).walk.count.logged ≡ suc W.count.logged
        go (moves h n d) = ap (λ (o : WalkOutcome). o.walk.count.logged) d ∙ n.one_more_lem
        go (refuses h d) = absurd (omega arith)

    pub bits_clear : (i : ℕ) → i < (walk_in F choices w).count.waiting → Clear (walk_in F choices w)
    bits_clear i l = go (step_is i)
      where
        go : Stepping F W i → Clear W
        go (moves h n d) = record { item = n.item; found = n.found; saw = n.saw; clear = n.clear; apart = n.apart }
        go (refuses h d) = absurd (omega arith)

    finished : (walk_in F choices w).count.waiting ≡ 0 → Walked C [] same_walk.read same_walk.told
    finished e = subst (λ l. Walked C (map (pos_item F.states) l) same_walk.read same_walk.told)
        (none_left same_walk.ns (sym same_walk.waiting_is ∙ e)) same_walk.walked

    bit_told : (j n : ℕ) (p : Pos) → number t p ≡ some n → (bit (get_or (walk_in F choices w).marks n 0) j ≡ 1) ↔ (announced j p ∈ same_walk.told)
    bit_told j n p e =
        let u = sub_number p t n e in
        let d : number t p ≡ some (num t p) = num_is t p u.0 u.1 in
        let z : n ≡ num t p = cc in
        rw z (same_walk.bits j p u.0 u.1)

    stands : (q : Pos) → q ∈ same_walk.read → (u : Term) × (sub t q ≡ some u)
    stands q m = (walked_invariant C same_walk.walked).read_inside q m

    -- a node is in the log exactly if its position was read
    in_log : (q : Pos) (m : ℕ) → number t q ≡ some m
        → (m ∈ take (walk_in F choices w).count.logged (walk_in F choices w).log) ↔ (q ∈ same_walk.read)
    in_log q m e = rw (same_walk.logged_is, same_walk.log_are) (
      λ i. on_map (num t) same_walk.read i λ r k d.
          let v = stands r k in
          let o : q ≡ r = num_inj t q r u.0 v.0 u.1 v.1 (sym z ∙ d) in
          rw o k,
      λ i. rw z (map_in (num t) i),
    )
      where
        u : (u : Term) × (sub t q ≡ some u)
        u = sub_number q t m e

        z : m ≡ num t q
        z = let d : number t q ≡ some (num t q) = num_is t q u.0 u.1 in cc

    pub marks_so_far : (j : ℕ) (x : Term) → get_elem? shapes j ≡ some x → (n : ℕ) (p : Pos) → number t p ≡ some n
        → (bit (get_or (walk_in F choices w).marks n 0) j ≡ 1)
        ↔ (Matches x t p × ((r : Pos) (k m : ℕ) → head_at x r ≡ some k → number t (p ++ r) ≡ some m
        → m ∈ take (walk_in F choices w).count.logged (walk_in F choices w).log))
    marks_so_far j x gx n p e =
        let b = bit_told j n p e in
        let c = walks.announced_so_far C same_walk.walked j x gx p in (
          λ m. let h = c.0 (b.0 m) in (h.0, λ r k y d g. (in_log (p ++ r) y g).1 (h.1 r k d)),
          λ h. b.1 (c.1 (
            h.0,
            λ r k d. on_bind (sub t (p ++ r)) hd (h.0 r k d) λ u eu f.
                let g = num_is t (p ++ r) u eu in
                (in_log (p ++ r) (num t (p ++ r)) g).0 (h.1 r k (num t (p ++ r)) d g),
          )),
        )

    pub marks_shapes : (j n : ℕ) → n < span t → bit (get_or (walk_in F choices w).marks n 0) j ≡ 1 → (x : Term) × (get_elem? shapes j ≡ some x)
    marks_shapes j n h b = let p = node_at_lem t n h in
        (walked_invariant C same_walk.walked).shape (announced j p.0) ((bit_told j n p.0 p.1).0 b)

    pub waits_unread : (walk_in F choices w).count.waiting + (walk_in F choices w).count.logged ≤ span t
    waits_unread =
        let h = walks.waiting_at_most C same_walk.walked in
        let a = length-map same_walk.ns (pos_item F.states) in
        let b = same_walk.waiting_is in
        let c = same_walk.logged_is in
        omega arith

    pub ends_read : ((walk_in F choices w).count.waiting ≡ 0) ↔ ((walk_in F choices w).count.logged ≡ span t)
    ends_read = (λ e. same_walk.logged_is ∙ (walks.ends_read C (finished e)).0 refl, λ e. let h = waits_unread in omega arith)

    pub accepted_logged : accepted_in F choices w ≡ (walk_in F choices w).count.logged
    accepted_logged = let h = run_logged F choices (begun (length (score_in F)) w) (begun_tied F w lent) in omega arith

    pub steps_end : ((walk_in F choices w).count.waiting ≡ 0) ↔ (accepted_in F choices w ≡ span t)
    steps_end = let e = ends_read in (λ h. accepted_logged ∙ e.0 h, λ h. e.1 (sym accepted_logged ∙ h))

    pub log_once : Distinct (take (walk_in F choices w).count.logged (walk_in F choices w).log)
    log_once = rw (same_walk.logged_is, same_walk.log_are)
        (distinct_map (num t) same_walk.read inj (walks.each_read_once C same_walk.walked).0)
      where
        inj : (a b : Pos) → a ∈ same_walk.read → b ∈ same_walk.read → num t a ≡ num t b → a ≡ b
        inj a b i j e =
            let u = stands a i in
            let v = stands b j in
            num_inj t a b u.0 v.0 u.1 v.1 e

    pub log_nodes : (m : ℕ) → m ∈ take (walk_in F choices w).count.logged (walk_in F choices w).log → m < span t
    log_nodes m i = on_map (num t) same_walk.read (rw (same_walk.logged_is, same_walk.log_are) at i) λ q k d. let u = stands q k in
        rw d (num_below t q u.0 u.1)

    pub log_all : (walk_in F choices w).count.waiting ≡ 0 → (n : ℕ) → n < span t
        → n ∈ take (walk_in F choices w).count.logged (walk_in F choices w).log
    log_all done n h =
        let p = node_at_lem t n h in
        let u = sub_number p.0 t n p.1 in
        (in_log p.0 n p.1).1 (read_all C (walked_invariant C (finished done)) p.0 u.0 u.1)
