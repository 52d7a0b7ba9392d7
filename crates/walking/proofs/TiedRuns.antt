-- Any choices, from any buffers that starting accepts: the words stay tied to a walk over positions.
--   begun_tied                 the walk that starting begins
--   Stepping stepping          a step moves, or is refused 32
--   step_stays run_tied        what is tied stays so
--   run_logged                 each accepted choice logs one node
use mathlib.Core.Path.{◌≡◌, refl, ap, sym, ◌∙◌}
use mathlib.Core.Bool.{true, ◌&&◌}
use mathlib.Core.List.{List, [], ◌∷◌}
use mathlib.Core.Option.{some}
use Prim.Native.Nat.{ℕ, ◌+◌, ◌*◌, ◌<◌, ◌≤◌}
use native.Mathlib.Omega.{arith}
use native.Mathlib.Nat.{add-zero}
use native.Mathlib.Decide.{dec_lt}
use borrow.Author.Tests.{lt-ltb, le-ltb}
use lib.Dec.{leb}
use lib.ListN.{length, get_or, drop, replicate, length-append, length-drop, length-replicate, get_or-replicate, get_or-append}
use Rattle.kinds.specs.Lists.{onto}
use Rattle.kinds.specs.Positions.{Pos}
use Rattle.kinds.specs.declared.Reason.TheVariants.{NoSuchItem}
use Rattle.kinds.proofs.Bools.{and_l, and_r, leb_is}
use Rattle.kinds.specs.Members.{◌∈◌, here}
use Rattle.kinds.proofs.Places.{at_below, get_d_at}
use Rattle.kinds.proofs.BitLaws.{no_bit}
use Rattle.term.specs.Terms.{Term}
use Rattle.term.specs.Places.{sub}
use Rattle.term.proofs.Sizes.{length_flatten, span_pos}
use Rattle.following.proofs.NodeNumbers.{num, num_root, num_below}
use Rattle.automaton.specs.Goals.{State}
use Rattle.automaton.specs.Walking.{Scored, calculus, begin}
use Rattle.automaton.proofs.Numbered.{Numbered}
use Rattle.automaton.proofs.Explored.{explored_numbered}
use Rattle.walk.specs.Starting.{Walk, refuse_walk, go_on, begun}
use Rattle.walk.specs.Stepping.{stepped, run, one, accepted}
use Rattle.walking.specs.OneFolio.{OneFolio, plan_in, score_in, spans_in, EnoughLent, step_in}
use Rattle.walking.proofs.Numbers.{begun_number}
use Rattle.walking.proofs.Tied.{Tied, Next, step_tied}

module _ {C : Scored} (F : OneFolio C) where
  abbrev t : Term
  t = C.score

  abbrev ss : List (State Pos)
  ss = F.states

  made : Numbered (calculus C.setting) C.setting.symbols ss F.blocks
  made = explored_numbered C.setting ss F.blocks F.is_explored

  abbrev zeros : List ℕ
  zeros = replicate (length (score_in F)) 0

  pub begun_tied : (w : Walk) → EnoughLent F w → Tied F (begun (length (score_in F)) w)
  begun_tied w lent = record {
    ns = (0, []) ∷ [];
    read = [];
    told = [];
    walked = rw (get_d_at ss 0 [] made.first) begin;
    known = λ y m. one_item y m;
    rest = drop 2 w.items;
    items_are = rw (num_root t);
    waiting_is = refl;
    logged_is = refl;
    log_are = refl;
    items_room = let a = length-drop 2 w.items in let b = span_pos t in let l = length_flatten t in omega (arith, items_long);
    log_room = let l = length_flatten t in omega (arith, log_long);
    marks_room = let a = length-append zeros (drop (length zeros) w.marks) in let b = length-replicate {A = ℕ} (length (score_in F)) 0 in let c =
        length-drop (length zeros) w.marks in let l = length_flatten t in omega (arith, marks_long);
    bits = λ j p u e. (λ m. absurd (no_bit j (rw (clean p u e) at m)), λ m. elim m [ ]);
    number_is = begun_number (length (score_in F)) w;
  }
    where
      r : (leb (length (score_in F)) (length w.log) && leb (length (score_in F)) (length w.marks)) ≡ true
      r = and_r (leb (2 * length (score_in F)) (length w.items)) lent

      items_long : 2 * length (score_in F) ≤ length w.items
      items_long = leb_is _ _ (and_l _ lent)

      log_long : length (score_in F) ≤ length w.log
      log_long = leb_is _ _ (and_l _ r)

      marks_long : length (score_in F) ≤ length w.marks
      marks_long = leb_is _ _ (and_r (leb (length (score_in F)) (length w.log)) r)

      one_item : (y : ℕ × Pos) → y ∈ ((0, []) ∷ []) → y.0 < length ss
      one_item y (Rattle.kinds.specs.Members.there x4) = elim x4 [ ]
      one_item y (here e) = let a = at_below ss 0 made.first in let b : y.0 ≡ 0 = ap (λ z. z.0) e in omega arith

      clean : (p : Pos) (u : Term) → sub t p ≡ some u → get_or (onto zeros w.marks) (num t p) 0 ≡ 0
      clean p u e =
          let b = num_below t p u e in
          let f = length_flatten t in
          let l = length-replicate {A = ℕ} (length (score_in F)) 0 in
          get_or-append zeros (drop (length zeros) w.marks) 0 (num t p) (omega arith)
          ∙ get_or-replicate (length (score_in F)) (num t p) 0 0 (omega arith)

  pub data Stepping (v : Walk) (i : ℕ) : Type 0 where
    moves : i < v.count.waiting → (n : Next F v i) → step_in F i v ≡ go_on n.walk → Stepping v i
    refuses : v.count.waiting ≤ i → step_in F i v ≡ refuse_walk NoSuchItem v → Stepping v i

  pub stepping : (v : Walk) → Tied F v → (i : ℕ) → Stepping v i
  unfolding stepped
  stepping v T i = go (dec_lt i v.count.waiting)
    where
      go : Dec (i < v.count.waiting) → Stepping v i
      go (yes h) = let n = step_tied F v T i h in moves h n (rw (lt-ltb i v.count.waiting h, n.is))
      go (no h) = let l : v.count.waiting ≤ i = omega arith in refuses l (rw (le-ltb i v.count.waiting l))

  pub step_stays : (v : Walk) → Tied F v → (i : ℕ) → Tied F (step_in F i v).walk
  step_stays v T i = go (stepping v T i)
    where
      go : Stepping v i → Tied F (step_in F i v).walk
      go (moves h n e) = rw e n.tied
      go (refuses h e) = rw e T

  pub run_tied : (is : List ℕ) (v : Walk) → Tied F v → Tied F (run (plan_in F) (score_in F) (spans_in F) is v)
  unfolding run
  run_tied [] v T = T
  run_tied (i ∷ is) v T = run_tied is (step_in F i v).walk (step_stays v T i)

  pub run_logged : (is : List ℕ) (v : Walk) → Tied F v
      → (run (plan_in F) (score_in F) (spans_in F) is v).count.logged ≡ v.count.logged + accepted (plan_in F) (score_in F) (spans_in F) is v
  unfolding run accepted
  run_logged [] v T = sym (add-zero v.count.logged)
  run_logged (i ∷ is) v T =
      let ih = run_logged is (step_in F i v).walk (step_stays v T i) in
      let h = one_logged (stepping v T i) in
      omega arith
    where
      one_logged : Stepping v i → (step_in F i v).walk.count.logged ≡ v.count.logged + one (step_in F i v).answer
      one_logged (moves h n e) = rw e (let z = n.one_more_lem in omega arith)
      one_logged (refuses h e) = rw e (omega arith)
