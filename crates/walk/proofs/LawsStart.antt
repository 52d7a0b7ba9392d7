-- Starting a walk, way by way.
--   on_is                                 an accepted outcome, part by part
--   score_some                            a good score has a node
--   started_on                            begun
--   begun_items begun_marks               what is written
--   Clauses tells_on                      what the code answers and leaves is what the definition says
use Rattle.kinds.specs.declared.Reason.{Reason}
use Rattle.std.specs.Prelude.{Ok, Result}
use mathlib.Core.Path.{◌≡◌, refl, ap, sym, ◌∙◌}
use mathlib.Core.Bool.{true}
use mathlib.Core.List.{List, [], ◌∷◌, ◌++◌}
use Prim.Native.Nat.{ℕ, ◌*◌, ◌≤◌}
use native.Mathlib.Omega.{arith}
use borrow.Author.Tests.{le-leb}
use lib.ListN.{length, set, drop, replicate, length-replicate}
use Rattle.kinds.specs.Lists.{onto}
use Rattle.kinds.proofs.ListLaws.{onto_sets}
use Rattle.term.proofs.LawsReading.{head_out, reading_bad}
use Rattle.contents.specs.Tables.{score_limits}
use Rattle.kinds.specs.Limits.{score_levels}
use Rattle.checks.specs.Again.{score_good}
use Rattle.contents.proofs.LawsTables.{score_refused}
use Rattle.checks.proofs.LawsAgain.{score_good_is}
use Rattle.walk.specs.declared.Record.{Record}
use Rattle.walk.specs.Starting.{Walk, walk_of, counting, outcome, go_on, begun, started}

pub on_is : {c c' : Record} {items items' marks marks' : List ℕ} (log : List ℕ) → c ≡ c' → items ≡ items' → marks ≡ marks'
    → go_on (walk_of items log marks c) ≡ go_on (walk_of items' log marks' c')
on_is {c} {items' = items'} {marks} {marks'} log ec ei em =
    ap (λ i. go_on (walk_of i log marks c)) ei ∙ ap (λ m. go_on (walk_of items' log m c)) em ∙ ap (λ d. go_on (walk_of items' log marks' d)) ec

pub score_some : (ar ws sp : List ℕ) → score_good ar ws sp ≡ true → 1 ≤ length ws
score_some ar [] sp e =
    let t = score_good_is ar [] sp e in
    let z = score_refused ar [] (reading_bad ar [] (score_limits 0) 0 score_levels (head_out ar [] (score_limits 0) 0 (omega arith))) in
    let y : ◌≡◌ {A = ℕ} 0 1 = cc (t.whole, z) in
    absurd (omega arith)
score_some ar (w ∷ ws) sp e = omega arith

module _ (ar score spans : List ℕ) (w : Walk) where
  pub started_on : score_good ar score spans ≡ true → 2 * length score ≤ length w.items → length score ≤ length w.log → length score ≤ length w.marks
      → started ar score spans w ≡ go_on (begun (length score) w)
  unfolding started
  started_on good fits h l = rw (good, le-leb _ _ fits, le-leb _ _ h, le-leb _ _ l)

pub begun_items : (items : List ℕ) → 2 ≤ length items → set (set items 0 0) 1 0 ≡ onto (0 ∷ 0 ∷ []) items
begun_items items h = sym (onto_sets (0 ∷ 0 ∷ []) items h)

begun_marks : (n : ℕ) (marks : List ℕ) → replicate n 0 ++ drop n marks ≡ onto (replicate n 0) marks
begun_marks n marks = rw (length-replicate {A = ℕ} n 0)

-- ---- as the code tells it
module _ (ar score spans items log marks : List ℕ) where
  abbrev W : Walk
  W = walk_of items log marks (counting 0 0 0)

  abbrev pub Clauses : Result Record Reason → List ℕ → List ℕ → List ℕ → Type 0
  Clauses a items' log' marks' =
      outcome a (counting 0 0 0) items' log' marks' ≡ started ar score spans W

  pub tells_on : {marks' : List ℕ} → score_good ar score spans ≡ true → 2 * length score ≤ length items → length score ≤ length log
      → length score ≤ length marks → marks' ≡ replicate (length score) 0 ++ drop (length score) marks
      → Clauses (Ok (counting 1 0 0)) (set (set items 0 0) 1 0) log marks'
  tells_on good fits h l e =
      let some = score_some ar score spans good in
      on_is log refl (begun_items items (omega arith)) (e ∙ begun_marks (length score) marks)
      ∙ sym (started_on ar score spans W good fits h l)
