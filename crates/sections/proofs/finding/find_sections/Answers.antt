use native.Mathlib.Omega.{arith}
use mathlib.Core.Path.{sym, ◌∙◌}
use Rattle.sections.proofs.LawsSections.{trailer_in}
use Rattle.sections.proofs.finding.find_sections.Goals as goal

pub slice_bounds-test_symbols-end : goal.slice_bounds-test_symbols-end
slice_bounds-test_symbols-end c = let d = trailer_in c.args.file.now _
    (sym c.trailer.ensures ∙ c.in_ok-places.was) in omega (arith, d.first, d.second, d.size)
