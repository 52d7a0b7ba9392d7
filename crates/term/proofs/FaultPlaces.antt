-- Where a fault stands that says no more than its name: words that end, end at their end; one node too many is the first past the limit.
--   ends_at_end   "shapes end inside a shape", "score ends inside the tree": the section's end
--   many_at_stop  "a 17th node in a shape", "a 4,097th score node": that word
use mathlib.Core.Path.{◌≡◌, ap, sym, ◌∙◌}
use mathlib.Core.List.{List}
use Prim.Native.Nat.{ℕ, ◌+◌, ◌≤◌}
use native.Mathlib.Omega.{arith}
use lib.ListN.{length, drop, length-append, length-drop}
use Rattle.term.specs.Terms.{flattens}
use Rattle.term.specs.Faults.{FaultIn, ends, many, under}
use Rattle.term.specs.declared.Limits.{Limits}
use Rattle.term.specs.declared.Fault.TheVariants.{Ends, Many}
use Rattle.term.proofs.Sizes.{length_flattens}

module _ (ar ws : List ℕ) (l : Limits) where
  pub ends_at_end : {d at p : ℕ} → FaultIn ar ws l d at Ends p → at ≤ length ws → p ≡ length ws
  ends_at_end (ends d at h) k = omega arith
  ends_at_end (under d at n before next f p a b c g m fit flat words is stop x) k =
      let lengths = sym (length-drop (at + 1) ws) ∙ ap length words ∙ length-append (flattens before) (drop next ws) in
      ends_at_end x (omega (arith, a, is, lengths, length_flattens before, length-drop next ws))

  pub many_at_stop : {d at p : ℕ} → FaultIn ar ws l d at Many p → at ≤ l.stop → p ≡ l.stop
  many_at_stop (many d at a known h) k = omega arith
  many_at_stop (under d at n before next f p a b c g m fit flat words is stop x) k = many_at_stop x stop
