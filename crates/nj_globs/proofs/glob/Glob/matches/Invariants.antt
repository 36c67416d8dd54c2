use Rattle.std.proofs.Common.{drop}
use Rattle.nj_globs.specs.Inside.Fits.{AreFits}
use Rattle.nj_globs.proofs.glob.Glob.matches.Given as goal

abbrev pub invariant-bytes : goal.invariant-bytes
invariant-bytes l = AreFits l.fn.self (drop l.index l.path) l.fits
