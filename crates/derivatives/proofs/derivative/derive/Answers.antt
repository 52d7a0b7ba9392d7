use Rattle.derivatives.proofs.DeriveLaws.{deriv_words, deriv_size, three_runs}
use Rattle.goals.specs.GoalWords.{flat, goals_from}
use Rattle.goals.specs.WordStages.{stays, moves, born_w}
use Rattle.kinds.specs.Lists.{gather}
use lib.Seq.{sets}
use mathlib.Core.Path.{ap, sym, ◌∙◌}
use native.Mathlib.Omega.{arith}
use Rattle.derivatives.proofs.derivative.derive.Goals as goal

pub put_staying-one-requires : goal.put_staying-one-requires
put_staying-one-requires c =
    let z = deriv_size c.args.tab.now c.args.n c.args.root.0 c.args.symbol.0 c.args.k (goals_from c.args.ws.now c.args.at c.args.goals) in
    (c.requires.0, omega (arith, z))

pub put_moving-two-requires : goal.put_moving-two-requires
put_moving-two-requires c =
    let z = deriv_size c.args.tab.now c.args.n c.args.root.0 c.args.symbol.0 c.args.k (goals_from c.args.ws.now c.args.at c.args.goals) in
    (c.requires.0, omega (arith, z, c.put_staying-one.ensures.0, c.put_staying-one.auto.out))

pub put_born-requires : goal.put_born-requires
put_born-requires c =
    let z = deriv_size c.args.tab.now c.args.n c.args.root.0 c.args.symbol.0 c.args.k (goals_from c.args.ws.now c.args.at c.args.goals) in record {
      shapes = c.requires.1.shapes;
      codes = c.requires.1.codes;
      room = omega (
        arith,
        z,
        c.put_staying-one.ensures.0,
        c.put_staying-one.auto.out,
        c.put_moving-two.ensures.0,
        c.put_moving-two.auto.out,
      );
    }

pub returns : goal.returns
returns c =
    let gs = goals_from c.args.ws.now c.args.at c.args.goals in
    let S = flat (gather (stays c.args.tab.now c.args.root.0) gs) in
    let M = flat (gather (moves c.args.tab.now c.args.root.0 c.args.symbol.0) gs) in
    let B = flat (born_w c.args.n c.args.root.0 c.args.k) in (
      omega (
        arith,
        deriv_size c.args.tab.now c.args.n c.args.root.0 c.args.symbol.0 c.args.k gs,
        c.put_staying-one.ensures.0,
        c.put_moving-two.ensures.0,
        c.put_born.ensures.0,
      ),
      c.put_born.ensures.1
          ∙ ap (λ o. sets o c.put_moving-two.result B)
          (c.put_moving-two.ensures.1 ∙ ap (λ o. sets o c.put_staying-one.result M) c.put_staying-one.ensures.1)
          ∙ three_runs c.args.out.now S M B c.put_staying-one.result c.put_moving-two.result c.put_staying-one.ensures.0
          c.put_moving-two.ensures.0
          ∙ ap (sets c.args.out.now 0) (sym (deriv_words c.args.tab.now c.args.n c.args.root.0 c.args.symbol.0 c.args.k gs)),
    )
