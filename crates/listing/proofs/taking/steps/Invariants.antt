use mathlib.Core.Path.{◌≡◌}
use Prim.Native.Nat.{◌≤◌}
use lib.ListN.{drop}
use Rattle.walk.specs.Lent.{SameBuffers, walk_in}
use Rattle.listing.specs.Listing.{listed}
use Rattle.listing.proofs.Turns.{after}
use Rattle.listing.proofs.taking.steps.Given as goal

abbrev pub invariant-loop-i : goal.invariant-loop-i
invariant-loop-i l = (listed l.plan l.score.words.now l.score.spans.now l.choices (walk_in l.initial.walk l.initial.last)
    ≡ after l.i-counter (listed l.plan l.score.words.now l.score.spans.now (drop l.i-counter l.choices) (walk_in l.walk l.last)))
    × (l.i-counter ≤ l.i-end) × SameBuffers l.walk l.initial.walk
