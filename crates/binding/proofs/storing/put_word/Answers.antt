use Prim.Native.Nat.{◌/◌, ◌%◌}
use mathlib.Core.Path.{◌≡◌, ap, ◌∙◌}
use native.Mathlib.Omega.{arith}
use mathlib.Core.List.{[], ◌∷◌}
use lib.ListN.{get_or}
use lib.Seq.{sets}
use Rattle.binding.proofs.storing.put_word.Goals as goal

pub returns-clause-file_after : goal.returns-clause-file_after
returns-clause-file_after c =
    let high : c.args.word / 256 % 256 ≡ c.args.word / 256 = omega (arith, c.ranges.word) in
    c.put_bytes.ensures.file_after
    ∙ ap (λ l. sets c.args.file.now c.args.at (get_or l 0 0 ∷ get_or l 1 0 ∷ [])) (c.to_le_bytes.ensures ∙ ap (λ h. c.args.word % 256 ∷ h ∷ []) high)
