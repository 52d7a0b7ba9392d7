-- The checks that later calls repeat, way by way, and when they pass.
--   symbols_bad symbols_good_lem symbols_good_is   the symbols
--   again_symbols again_refused again_found        shapes: 19
--   piece_out piece_none piece_some                the words of one term
--   subtree_none subtree_some                      of the table asked for
--   ShapeTables shapes_good_is shapes_good_of, ScoreTables score_good_is score_good_of   true exactly if
use Rattle.kinds.specs.declared.Refusal.{Refusal}
use Rattle.kinds.specs.Reasons.{refused_at}
use Rattle.std.specs.Prelude.{Err, Ok, Result, is_ok}
use Prim.Native.Nat.{ℕ, ◌-◌, ◌≤◌}
use mathlib.Core.Path.{◌≡◌, refl, ap, sym, ◌∙◌}
use mathlib.Core.List.{List, []}
use mathlib.Core.Bool.{true, false, ◌&&◌}
use native.Mathlib.Omega.{arith}
use lib.ListN.{length, take, drop}
use lib.Seq.{sets}
use Rattle.kinds.specs.Lists.{same}
use Rattle.kinds.proofs.Bools.{and_l, and_r, false_true}
use Rattle.kinds.proofs.Members.{same_is}
use Rattle.kinds.proofs.ListLaws.{run_whole, same_yes}
use Rattle.kinds.specs.declared.Reason.{Reason}
use Rattle.term.specs.Reading.{reading}
use Rattle.term.specs.Spans.{spans_of}
use Rattle.term.proofs.LawsReading.{reading_bad, head_out}
use Rattle.term.specs.declared.Limits.{Limits}
use Rattle.term.specs.declared.Met.{Met}
use Rattle.term.specs.declared.Fault.{Fault}
use Rattle.sections.specs.Sections.{symbols_of, granted}
use Rattle.contents.specs.Tables.{shapes_of, score_of}
use Rattle.kinds.specs.Limits.{blank_word}
use Rattle.contents.specs.declared.ShapesMet.{ShapesMet}
use Rattle.checks.specs.declared.Asked.{Asked}
use Rattle.checks.specs.Again.{symbols_good, shapes_good, score_good, cut, piece_at, asked_of, subtree_at}
use Rattle.contents.proofs.LawsTables.{found_count}

module _ (ar : List ℕ) where
  pub symbols_bad : {r : Reason} {p : ℕ} → symbols_of ar ≡ Err (refused_at r p) → symbols_good ar ≡ false
  unfolding symbols_good
  symbols_bad e = rw e

  pub symbols_good_lem : symbols_of ar ≡ granted → symbols_good ar ≡ true
  unfolding symbols_good
  symbols_good_lem e = rw e

module _ (ar ws st : List ℕ) where
  pub again_symbols : is_ok (symbols_of ar) ≡ false → shapes_good ar ws st ≡ false
  unfolding shapes_good symbols_good
  again_symbols e = rw e

  pub again_refused : {why : Refusal} → is_ok (symbols_of ar) ≡ true → (shapes_of ar blank_word ws).answer ≡ Err why → shapes_good ar ws st ≡ false
  unfolding shapes_good symbols_good
  again_refused e f = rw (e, f)

  pub again_found : (m : ShapesMet) (z f : List ℕ) → is_ok (symbols_of ar) ≡ true → (shapes_of ar blank_word ws).answer ≡ Ok m → length z ≡ 16
      → f ≡ sets z 0 (shapes_of ar blank_word ws).starts
      → shapes_good ar ws st ≡ same st (take (m.number - 0) f)
  unfolding shapes_good symbols_good
  again_found m z f e g lz ef =
      let c = found_count ar blank_word ws m g in
      let w : shapes_good ar ws st ≡ same st (shapes_of ar blank_word ws).starts = rw (e, g) in
      w ∙ ap (same st) (sym (run_whole z f (shapes_of ar blank_word ws).starts m.number c.0 (omega (arith, c.0, c.1)) ef))

-- ---- one subtree
module _ (ar ws : List ℕ) (l : Limits) (levels at : ℕ) where
  pub piece_out : length ws ≤ at → piece_at ar ws l levels at ≡ []
  unfolding piece_at
  piece_out h = ap (cut ws at) (reading_bad ar ws l at levels (head_out ar ws l at h))

  pub piece_none : {f : Fault} {p : ℕ} → reading ar ws l levels at ≡ Err (f, p) → piece_at ar ws l levels at ≡ []
  unfolding piece_at
  piece_none e = rw e

  pub piece_some : {m : Met} → reading ar ws l levels at ≡ Ok m → piece_at ar ws l levels at ≡ take (m.end - at) (drop at ws)
  unfolding piece_at
  piece_some e = rw e

module _ (w : Asked) (ar sh sc : List ℕ) where
  pub subtree_none : {r : Reason} {p : ℕ} → symbols_of ar ≡ Err (refused_at r p) → subtree_at w ar sh sc ≡ []
  unfolding subtree_at
  subtree_none e = rw (symbols_bad ar e)

  pub subtree_some : {v : Asked} → symbols_of ar ≡ granted → w ≡ v → subtree_at w ar sh sc ≡ asked_of v ar sh sc
  unfolding subtree_at
  subtree_some e q = rw (symbols_good_lem ar e, q)

-- ---- when they pass
pub symbols_good_is : (ar : List ℕ) → symbols_good ar ≡ true → symbols_of ar ≡ granted
unfolding symbols_good
symbols_good_is ar e = go (symbols_of ar) refl e
  where
    go : (v : Result Unit Refusal) → symbols_of ar ≡ v → is_ok v ≡ true → symbols_of ar ≡ granted
    go (Ok _) q e = q
    go (Err why) q e = false_true e

-- shape words and starts such as opening writes for these symbols
pub record ShapeTables (ar ws st : List ℕ) : Type 0 where
  pub symbols : symbols_of ar ≡ granted
  pub met : ShapesMet
  pub found : (shapes_of ar blank_word ws).answer ≡ Ok met
  pub starts : st ≡ (shapes_of ar blank_word ws).starts

pub shapes_good_is : (ar ws st : List ℕ) → shapes_good ar ws st ≡ true → ShapeTables ar ws st
unfolding shapes_good
shapes_good_is ar ws st e = go (shapes_of ar blank_word ws).answer refl (and_r (symbols_good ar) e)
  where
    go : (a : Result ShapesMet Refusal) → (shapes_of ar blank_word ws).answer ≡ a → (is_ok a && same st (shapes_of ar blank_word ws).starts) ≡ true → ShapeTables ar ws st
    go (Ok m) q k = record {
      symbols = symbols_good_is ar (and_l _ e);
      met = m;
      found = q;
      starts =
          same_is st (shapes_of ar blank_word ws).starts k;
    }
    go (Err why) q k = false_true k

pub shapes_good_of : (ar ws st : List ℕ) → ShapeTables ar ws st → shapes_good ar ws st ≡ true
unfolding shapes_good
shapes_good_of ar ws st t = rw (symbols_good_lem ar t.symbols, t.found) (same_yes t.starts)

-- score words and spans such as opening writes for these symbols
pub record ScoreTables (ar ws sp : List ℕ) : Type 0 where
  pub symbols : symbols_of ar ≡ granted
  pub met : Met
  pub whole : score_of ar ws ≡ Ok met
  pub spans : sp ≡ spans_of ar ws

pub score_good_is : (ar ws sp : List ℕ) → score_good ar ws sp ≡ true → ScoreTables ar ws sp
unfolding score_good
score_good_is ar ws sp e = go (score_of ar ws) refl (and_r (symbols_good ar) e)
  where
    go : (a : Result Met Refusal) → score_of ar ws ≡ a → (is_ok a && same sp (spans_of ar ws)) ≡ true → ScoreTables ar ws sp
    go (Ok m) q k = record { symbols = symbols_good_is ar (and_l _ e); met = m; whole = q; spans = same_is sp (spans_of ar ws) k }
    go (Err why) q k = false_true k

pub score_good_of : (ar ws sp : List ℕ) → ScoreTables ar ws sp → score_good ar ws sp ≡ true
unfolding score_good
score_good_of ar ws sp t = rw (symbols_good_lem ar t.symbols, t.whole) (same_yes t.spans)
