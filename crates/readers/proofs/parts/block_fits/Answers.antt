use mathlib.Core.Path.{sym}
use Rattle.readers.proofs.LawsPairs as law
use Rattle.readers.proofs.parts.block_fits.Goals as goal

pub returns-then-plan-b : goal.returns-then-plan-b
returns-then-plan-b c = sym (law.fits_out _ _ c.if-plan-b.true)

pub returns-then-plan-mid : goal.returns-then-plan-mid
returns-then-plan-mid c = sym (law.fits_middle _ _ c.if-plan-mid.true)

pub returns : goal.returns
returns c = sym (law.fits_is _ _)
