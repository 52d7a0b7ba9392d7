use Rattle.derivatives.proofs.DeriveLaws.{run_three}
use Rattle.classes.proofs.ClassLaws.{Left, pick_on, pick_off, pick_end, entry, entry_is, entry_end}
use Prim.Native.Nat.{◌+◌}
use lib.Seq.{sets}
use lib.ListN.{length, get_or}
use mathlib.Core.List.{[]}
use mathlib.Core.Path.{refl, ap, sym, ◌∙◌}
use native.Mathlib.Omega.{arith}
use Rattle.classes.proofs.members.put_class.Goals as goal
use Rattle.classes.proofs.members.put_class.Goals.{else-yes, then-yes}

pub put_goal-requires : goal.put_goal-requires
put_goal-requires c =
    let row = get_or c.args.dep.now c.args.i [] in
    let here = c.loop-j-test.true in
    let p = pick_on row c.args.ws.now c.args.n c.loop-j.j (entry row _ _ here).0 (entry row _ _ here).1 (entry_is row _ _ here c.if-yes.true) in
    omega (arith, ap length p)

pub loop-j-preserved : goal.loop-j-preserved
loop-j-preserved c =
    let row = get_or c.args.dep.now c.args.i [] in
    let here = c.loop-j-test.true in
    let inside = entry row _ _ here in
    elim c.if-yes.branch [
      | then-yes w ↦ let p = pick_on row c.args.ws.now c.args.n c.loop-j.j inside.0 inside.1 (entry_is row _ _ here w.if-yes.true) in (
        omega (arith, w.next-is, ap length p),
        c.loop-j.invariant.1 ∙ ap (sets c.loop-j.out c.loop-j.next) p ∙ run_three c.loop-j.out c.loop-j.next _ _ _ (Left row c.args.ws.now c.args.n (c.loop-j.j + 1))
            ∙ rw (w.next-is, w.out-is, w.put_goal.ensures, w.goal_at.ensures) refl,
      )
      | else-yes w ↦ let p = pick_off row c.args.ws.now c.args.n c.loop-j.j inside.0 inside.1 (entry_is row _ _ here w.if-yes.false) in (
        omega (arith, w.next-is, ap length p),
        rw (w.out-is, w.next-is) (c.loop-j.invariant.1 ∙ ap (sets c.loop-j.out c.loop-j.next) p),
      )
    ]

pub returns : goal.returns
returns c =
    let row = get_or c.args.dep.now c.args.i [] in
    let past = entry_end row _ _ (omega (arith, c.requires.squared.few, c.requires.squared.square.cols c.args.i c.requires.row)) c.loop-j-test.false in
    let p = pick_end row c.args.ws.now c.args.n c.loop-j.j past in
    (omega (arith, ap length p), sym (c.loop-j.invariant.1 ∙ ap (sets c.loop-j.out c.loop-j.next) p))
