use Rattle.std.proofs.Common.{◌≡◌, ◌<◌, ℕ, List, ◌∷◌}
use Rattle.std.specs.Prelude.{slice_index_or}
use Rattle.nj_globs.specs.Inside.Fits.{AreFits, AreFitsFrom, parts_model, no_fit}
use Rattle.nj_globs.proofs.fits.put_in_front.Given as goal

abbrev pub invariant-parts : goal.invariant-parts
invariant-parts l = record {
  untouched : (place : ℕ) → place < l.index
      → slice_index_or l.fits place no_fit ≡ slice_index_or l.fn.fits place no_fit;
  old_next : l.old_next ≡ slice_index_or l.fn.fits l.index no_fit;
  done : (path : List ℕ) → AreFits (parts_model l.parts) path l.fn.fits
      → AreFitsFrom l.index (parts_model l.parts) (l.byte ∷ path) l.fits;
}
