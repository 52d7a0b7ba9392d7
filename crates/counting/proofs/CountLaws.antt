-- Counting at each way through it.
--   few_nodes                     a good score has at most 4,096 words
--   count_bad count_short count_on   31, 30, or what f says of the first n marks
--   long_is looked unlooked       how many marks are looked at, and what is counted in them then
--   total_ones                    the ones, mark by mark
--   total_set total_most total_zeros   of the first n marks: where one mark is another; not more than 16 n; where they are clear
use Rattle.std.specs.Prelude.{Err, Ok, Result}
use Prim.Native.Nat.{ℕ, zero, suc, ◌+◌, ◌-◌, ◌*◌, ◌^◌, ◌<◌, ◌≤◌}
use mathlib.Core.Path.{◌≡◌, refl, ap, ap₂, sym, ◌∙◌}
use mathlib.Core.List.{List, [], ◌∷◌, ◌++◌}
use mathlib.Core.Bool.{true, false}
use mathlib.Core.Logic.{◌⊎◌, inl, inr}
use native.Mathlib.Omega.{arith}
use native.Mathlib.Nat.{zero-add, sub-zero}
use native.Mathlib.Decide.{dec_lt}
use borrow.Author.Tests.{lt-leb, le-leb}
use lib.Count.{ones}
use lib.ListN.{length, take, get_or, set, replicate}
use lib.Seq.{length-take-le}
use Rattle.std.specs.List.{sum_by}
use Rattle.std.proofs.lemmas.List.Sums.{sum_by-cons}
use Rattle.kinds.specs.Bits.{bit, sum_to}
use Rattle.kinds.proofs.BitLaws.{ones_bits, ones_most}
use Rattle.kinds.proofs.Bools.{test}
use Rattle.kinds.specs.declared.Reason.{Reason}
use Rattle.kinds.specs.declared.Reason.TheVariants.{BadScore, ShortBuffers}
use Rattle.contents.specs.Tables.{score_limits}
use Rattle.contents.proofs.LawsTables.{score_read}
use Rattle.kinds.specs.Limits.{score_levels}
use Rattle.checks.specs.Again.{score_good}
use Rattle.checks.proofs.LawsAgain.{score_good_is}
use Rattle.term.proofs.LawsReading.{whole_in}
use Rattle.counting.specs.Counting.{total, counted}
use Rattle.counting.specs.Passing.{long_of}

number_not : {n : ℕ} {r : Reason} → Ok n ≡ Err r → ⊥
number_not e = let z : ◌≡◌ {A = ℕ} 0 1 = cc in absurd (omega arith)

number_is : {m n : ℕ} → ◌≡◌ {A = Result ℕ Reason} (Ok m) (Ok n) → m ≡ n
number_is e = cc

pub few_nodes : (ar ws sp : List ℕ) → score_good ar ws sp ≡ true → length ws ≤ 4096
few_nodes ar ws sp e =
    let t = score_good_is ar ws sp e in
    let r = score_read ar ws t.met t.whole in
    let w = whole_in ar ws (score_limits 0) score_levels 0 t.met r.0 in
    omega (arith, w.few, r.1)

module _ (f : List ℕ → Result ℕ Reason) (ar ws sp ms : List ℕ) where
  pub count_bad : score_good ar ws sp ≡ false → counted f ar ws sp ms ≡ Err BadScore
  unfolding counted
  count_bad e = rw e

  pub count_short : score_good ar ws sp ≡ true → length ms < length ws → counted f ar ws sp ms ≡ Err ShortBuffers
  unfolding counted
  count_short e h = rw (e, lt-leb _ _ h)

  pub count_on : score_good ar ws sp ≡ true → length ws ≤ length ms → counted f ar ws sp ms ≡ f (take (length ws) ms)
  unfolding counted
  count_on e h = rw (e, le-leb _ _ h)

-- how many marks are looked at
abbrev long : List ℕ → Result ℕ Reason
long ms = Ok (length ms)

pub record Looked (ar ws sp ms : List ℕ) (n : ℕ) : Type 0 where
  pub nodes : n ≡ length ws
  pub few : n ≤ 4096
  pub inside : n ≤ length ms
  pub short : length (take (n - 0) ms) ≤ 4096
  pub counts : (f : List ℕ → Result ℕ Reason) → counted f ar ws sp ms ≡ f (take (n - 0) ms)

module _ (ar ws sp ms : List ℕ) where
  pub long_is : score_good ar ws sp ≡ true → length ws ≤ length ms → long_of ar ws sp ms ≡ Ok (length ws)
  long_is e h = count_on long ar ws sp ms e h ∙ ap Ok (length-take-le (length ws) ms h)

  -- what is counted where so many marks are looked at, and what is refused where none is
  pub looked : (n : ℕ) → long_of ar ws sp ms ≡ Ok n → Looked ar ws sp ms n
  looked n e = go (test (score_good ar ws sp)) (dec_lt (length ms) (length ws))
    where
      go : (score_good ar ws sp ≡ true) ⊎ (score_good ar ws sp ≡ false) → Dec (length ms < length ws) → Looked ar ws sp ms n
      go (inr g) d = absurd (number_not (sym e ∙ count_bad long ar ws sp ms g))
      go (inl g) (yes h) = absurd (number_not (sym e ∙ count_short long ar ws sp ms g h))
      go (inl g) (no h) =
          let l : length ws ≤ length ms = omega arith in
          let same : n ≡ length ws = number_is (sym e ∙ long_is g l) in
          record {
            nodes = same;
            few = let w = few_nodes ar ws sp g in omega arith;
            inside = omega arith;
            short = let w = few_nodes ar ws sp g in omega (arith, length-take-le (n - 0) ms (omega arith));
            counts = λ f. count_on f ar ws sp ms g l ∙ ap (λ (m : ℕ). f (take m ms)) (sym same ∙ sym (sub-zero n));
          }

  pub unlooked : (f : List ℕ → Result ℕ Reason) (r : Reason) → long_of ar ws sp ms ≡ Err r → counted f ar ws sp ms ≡ Err r
  unlooked f r e = go (test (score_good ar ws sp)) (dec_lt (length ms) (length ws))
    where
      go : (score_good ar ws sp ≡ true) ⊎ (score_good ar ws sp ≡ false) → Dec (length ms < length ws) → counted f ar ws sp ms ≡ Err r
      go (inr g) d = count_bad f ar ws sp ms g ∙ sym (count_bad long ar ws sp ms g) ∙ e
      go (inl g) (yes h) = count_short f ar ws sp ms g h ∙ sym (count_short long ar ws sp ms g h) ∙ e
      go (inl g) (no h) = absurd (number_not (sym (long_is g (omega arith)) ∙ e))

pub total_ones : (ms : List ℕ) → ((i : ℕ) → get_or ms i 0 < 2 ^ 16) → sum_by ones ms ≡ total ms
unfolding total
total_ones [] fits = refl
total_ones (m ∷ ms) fits = sum_by-cons ones m ms ∙ ap₂ ◌+◌ (ones_bits 16 m (fits 0)) (total_ones ms (λ i. fits (suc i)))

pub total_set : (ms : List ℕ) (n i v : ℕ) → i < n → i < length ms
    → total (take n (set ms i v)) + sum_to 16 (bit (get_or ms i 0)) ≡ total (take n ms) + sum_to 16 (bit v)
unfolding total
total_set [] n i v h l = absurd (omega arith)
total_set (m ∷ ms) zero i v h l = absurd (omega arith)
total_set (m ∷ ms) (suc n) zero v h l = turned (sum_to 16 (bit v)) (total (take n ms)) (sum_to 16 (bit m))
  where
    turned : (a t b : ℕ) → a + t + b ≡ b + t + a
    turned a t b = omega arith
total_set (m ∷ ms) (suc n) (suc i) v h l = more (sum_to 16 (bit m)) _ _ _ _ (total_set ms n i v (omega arith) (omega arith))
  where
    more : (c s a t b : ℕ) → s + a ≡ t + b → c + s + a ≡ c + t + b
    more c s a t b e = omega arith

pub total_most : (n : ℕ) (ms : List ℕ) → total (take n ms) ≤ 16 * n
unfolding total
total_most zero ms = omega arith
total_most (suc n) [] = omega arith
total_most (suc n) (m ∷ ms) = more (sum_to 16 (bit m)) (total (take n ms)) (ones_most 16 m) (total_most n ms)
  where
    more : (a t : ℕ) → a ≤ 16 → t ≤ 16 * n → a + t ≤ 16 * suc n
    more a t h l = omega arith

pub total_zeros : (n : ℕ) (ms : List ℕ) → total (take n (replicate n 0 ++ ms)) ≡ 0
unfolding total
total_zeros zero ms = refl
total_zeros (suc n) ms = zero-add (total (take n (replicate n 0 ++ ms))) ∙ total_zeros n ms
