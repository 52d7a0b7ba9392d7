-- Counting clashes at each way through it.
--   in_stray in_is in_number   35, or the number, and that the passes find it
--   clashes_bad clashes_go   19, or what the score and the marks give
use Rattle.std.specs.Prelude.{Err, Ok}
use mathlib.Core.Path.{◌≡◌, ap, sym, ◌∙◌}
use mathlib.Core.List.{List}
use mathlib.Core.Bool.{true, false}
use Prim.Native.Nat.{ℕ, ◌≤◌}
use lib.ListN.{length, replicate}
use Rattle.kinds.specs.Lists.{gather}
use Rattle.kinds.specs.declared.Reason.TheVariants.{BadShapes, NoSuchMatch}
use Rattle.checks.specs.Again.{shapes_good}
use Rattle.counting.specs.Counting.{found_in, counted}
use Rattle.matching.specs.Counts.{raises}
use Rattle.clashing.specs.Clashes.{clash_number, nodes_of}
use Rattle.clashing.specs.Strays.{strays}
use Rattle.clashing.specs.Clashing.{clashes_in, clashes_of}
use Rattle.clashing.specs.Passes.{sharing}
use Rattle.clashing.proofs.ClashLaws.{clashes_are}

module _ (ws st score spans ms : List ℕ) where
  pub in_stray : strays ws st score spans (found_in ms) ≡ true → clashes_in ws st score spans ms ≡ Err NoSuchMatch
  unfolding clashes_in
  in_stray e = rw e

  pub in_is : strays ws st score spans (found_in ms) ≡ false
      → clashes_in ws st score spans ms ≡ Ok (clash_number (nodes_of ws st spans) (found_in ms))
  unfolding clashes_in
  in_is e = rw e

  -- what the two passes find
  pub in_number : strays ws st score spans (found_in ms) ≡ false → length score ≤ 4096 → (cs : List ℕ)
      → cs ≡ raises (gather (nodes_of ws st spans) (found_in ms)) (replicate 4096 0) → (n : ℕ) → n ≡ sharing (nodes_of ws st spans) cs (found_in ms)
      → Ok n ≡ clashes_in ws st score spans ms
  in_number e few cs c n d =
      ap Ok (d ∙ ap (λ l. sharing (nodes_of ws st spans) l (found_in ms)) c ∙ clashes_are ws st score spans ms e few) ∙ sym (in_is e)

module _ (ar ws st score spans marks : List ℕ) where
  pub clashes_bad : shapes_good ar ws st ≡ false → clashes_of ar ws st score spans marks ≡ Err BadShapes
  unfolding clashes_of
  clashes_bad e = rw e

  pub clashes_go : shapes_good ar ws st ≡ true → clashes_of ar ws st score spans marks ≡ counted (clashes_in ws st score spans) ar score spans marks
  unfolding clashes_of
  clashes_go e = rw e
