use Prim.Native.Nat.{ℕ, ◌+◌, ◌-◌}
use mathlib.Core.Path.{◌≡◌, refl, ap, sym, ◌∙◌}
use mathlib.Core.List.{◌++◌}
use native.Mathlib.Omega.{arith}
use native.Mathlib.Numerals.{add-one}
use lib.ListN.{length, take, drop}
use lib.Seq.{sets, length-take-le}
use Rattle.tables.specs.ShapeTables.{table_words, entries_from}
use Rattle.tables.proofs.TableLaws.{entries_next, entries_end, entries_length, part_filled}
use Rattle.tables.proofs.filling.fill_tables.Goals as goal

pub loop-k-preserved : goal.loop-k-preserved
loop-k-preserved c =
    c.loop-k.invariant
    ∙ ap (sets c.loop-k.word-items c.loop-k.k)
    (entries_next c.args.symbols.now c.args.words.now c.args.starts.now c.loop-k.k _ (table_words - (c.loop-k.k + 1))
    (omega (arith, c.loop-k-test.true, length-take-le 1280 c.args.tab.now c.requires)))
    ∙ rw (c.table_word.ensures, add-one c.loop-k.k) refl

pub returns : goal.returns
returns c =
    let all = entries_from c.args.symbols.now c.args.words.now c.args.starts.now 0 table_words in
    let n : length all ≡ table_words = entries_length c.args.symbols.now c.args.words.now c.args.starts.now 0 table_words in
    let last = entries_end c.args.symbols.now c.args.words.now c.args.starts.now c.loop-k.k (table_words - c.loop-k.k)
    (omega (arith, c.loop-k-test.false, length-take-le 1280 c.args.tab.now c.requires)) in
    ap (λ l. l ++ drop 1280 c.args.tab.now) (sym (c.loop-k.invariant ∙ ap (sets c.loop-k.word-items c.loop-k.k) last))
    ∙ ap (λ (m : ℕ). sets (take m c.args.tab.now) 0 all ++ drop m c.args.tab.now) (sym n)
    ∙ part_filled c.args.tab.now all (omega arith)
