-- Rows 30 and 31: the outcomes of starting and of counting matches are those that they give.
use Rattle.kinds.specs.declared.Reason.{Reason}
use Rattle.std.specs.Prelude.{Ok, Result}
use mathlib.Core.Path.{◌≡◌, refl, sym, ◌∙◌, ap}
use mathlib.Core.Bool.{true, false, ◌&&◌}
use mathlib.Core.Logic.{◌⊎◌, inl, inr}
use mathlib.Core.List.{List}
use Prim.Native.Nat.{ℕ, ◌*◌, ◌<◌, ◌≤◌}
use native.Mathlib.Omega.{arith}
use native.Mathlib.Decide.{dec_lt}
use borrow.Author.Tests.{le-leb, leb-true}
use lib.Dec.{leb}
use lib.ListN.{length}
use Rattle.kinds.specs.declared.Reason.TheVariants.{BadScore, ShortBuffers}
use Rattle.kinds.proofs.Bools.{test, both, and_l, and_r, false_true}
use Rattle.kinds.specs.Members.{Below}
use Rattle.checks.specs.Again.{score_good}
use Rattle.folio.proofs.GoodTables.{score_good_scored, scored_good}
use Rattle.walk.specs.Starting.{Walk, go_on, begun, room_for, started, refuse_walk}
use Rattle.counting.specs.Counting.{total, counted, counted_says}
use Rattle.counting.proofs.CountLaws.{count_bad, count_short, count_on}
use Rattle.promises.specs.Demand1 as rows
use Rattle.promises.specs.Demand1.{Good, Roomy, StartRow, CountRow, walk_told}
use Rattle.promises.specs.Told.{By, Told}
use Rattle.kinds.specs.Reasons.{Says}

module _ (ar score spans : List ℕ) (small : Below 65536 score) where
  pub score_or_not : (score_good ar score spans ≡ true) ⊎ (score_good ar score spans ≡ false) → Good ar score spans ⊎ (Good ar score spans → ⊥)
  score_or_not (inl e) = inl (score_good_scored ar score spans small e)
  score_or_not (inr e) = inr (λ g. false_true (sym e ∙ scored_good ar score spans g.0 g.1))

  pub score_bad : (Good ar score spans → ⊥) → score_good ar score spans ≡ false
  score_bad n = go (test (score_good ar score spans))
    where
      go : (score_good ar score spans ≡ true) ⊎ (score_good ar score spans ≡ false) → score_good ar score spans ≡ false
      go (inl e) = absurd (n (score_good_scored ar score spans small e))
      go (inr e) = e

  pub score_fine : Good ar score spans → score_good ar score spans ≡ true
  score_fine g = scored_good ar score spans g.0 g.1

  module _ (w : Walk) where
    room_is : Roomy ar score spans w → room_for (length score) w ≡ true
    room_is r = both (le-leb (2 * length score) (length w.items) r.0)
        (both (le-leb (length score) (length w.log) r.1) (le-leb (length score) (length w.marks) r.2))

    is_room : room_for (length score) w ≡ true → Roomy ar score spans w
    is_room e =
        let a = and_l (leb (length score) (length w.log) && leb (length score) (length w.marks)) e in
        let b = and_r (leb (2 * length score) (length w.items)) e in (
          leb-true (2 * length score) (length w.items) a,
          leb-true (length score) (length w.log)
              (and_l (leb (length score) (length w.marks)) b),
          leb-true (length score) (length w.marks)
              (and_r (leb (length score) (length w.log)) b),
        )

    no_room : (Roomy ar score spans w → ⊥) → room_for (length score) w ≡ false
    no_room n = go (test (room_for (length score) w))
      where
        go : (room_for (length score) w ≡ true) ⊎ (room_for (length score) w ≡ false) → room_for (length score) w ≡ false
        go (inl e) = absurd (n (is_room e))
        go (inr e) = e

    started_bad : score_good ar score spans ≡ false → started ar score spans w ≡ refuse_walk BadScore w
    unfolding started
    started_bad e = rw e refl

    started_short : score_good ar score spans ≡ true → room_for (length score) w ≡ false → started ar score spans w ≡ refuse_walk ShortBuffers w
    unfolding started
    started_short e d = rw (e, d) refl

    started_on : score_good ar score spans ≡ true → room_for (length score) w ≡ true → started ar score spans w ≡ go_on (begun (length score) w)
    unfolding started
    started_on e d = rw (e, d) refl

    start_row : StartRow ar score spans w (walk_told (started ar score spans w))
    start_row = go (score_or_not (test (score_good ar score spans))) (test (room_for (length score) w))
      where
        go : Good ar score spans ⊎ (Good ar score spans → ⊥) → (room_for (length score) w ≡ true) ⊎ (room_for (length score) w ≡ false)
            → StartRow ar score spans w (walk_told (started ar score spans w))
        go (inr n) d = rw (started_bad (score_bad n)) (rows.start_31 n)
        go (inl g) (inr d) = rw (started_short (score_fine g) d) (rows.start_30 g (λ r. false_true (sym d ∙ room_is r)))
        go (inl g) (inl d) = rw (started_on (score_fine g) d) (rows.starts g (is_room d))

    start_only : (o : Told Walk) → StartRow ar score spans w o → walk_told (started ar score spans w) ≡ o
    start_only _ (rows.start_31 n) = ap walk_told (started_bad (score_bad n))
    start_only _ (rows.start_30 g n) = ap walk_told (started_short (score_fine g) (no_room n))
    start_only _ (rows.starts g r) = ap walk_told (started_on (score_fine g) (room_is r))

    pub by_start : By (StartRow ar score spans w) (walk_told (started ar score spans w))
    by_start = (start_row, start_only)

  module _ (marks : List ℕ) where
    abbrev all : List ℕ → Result ℕ Reason
    all ms = Ok (total ms)

    count_row : CountRow ar score spans marks (counted_says (counted all ar score spans marks))
    count_row = go (score_or_not (test (score_good ar score spans))) (dec_lt (length marks) (length score))
      where
        go : Good ar score spans ⊎ (Good ar score spans → ⊥) → Dec (length marks < length score)
            → CountRow ar score spans marks (counted_says (counted all ar score spans marks))
        go (inr n) d = rw (count_bad all ar score spans marks (score_bad n)) (rows.count_31 n)
        go (inl g) (yes h) = rw (count_short all ar score spans marks (score_fine g) h) (rows.count_30 g h)
        go (inl g) (no h) = let k : length score ≤ length marks = omega arith in rw (count_on all ar score spans marks (score_fine g) k) (rows.counts g k)

    count_only : (o : Says) → CountRow ar score spans marks o → counted_says (counted all ar score spans marks) ≡ o
    count_only _ (rows.count_31 n) = ap counted_says (count_bad all ar score spans marks (score_bad n))
    count_only _ (rows.count_30 g h) = ap counted_says (count_short all ar score spans marks (score_fine g) h)
    count_only _ (rows.counts g h) = ap counted_says (count_on all ar score spans marks (score_fine g) h)

    pub by_count : By (CountRow ar score spans marks) (counted_says (counted all ar score spans marks))
    by_count = (count_row, count_only)
