use Rattle.std.proofs.Common.{[]}
use Rattle.nj_globs.specs.Inside.Fits.{AreFitsFrom, parts_model}
use Rattle.nj_globs.proofs.fits.set_empty.Given as goal

abbrev pub invariant-parts : goal.invariant-parts
invariant-parts l = AreFitsFrom l.index (parts_model l.parts) [] l.fits
