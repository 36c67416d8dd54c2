use Rattle.std.proofs.Common.{◌≡◌, All, take}
use Rattle.nj_globs.specs.Globs.{Matches}
use Rattle.nj_changes.proofs.ignored.matches_one.Given as goal

abbrev pub invariant-globs : goal.invariant-globs
invariant-globs l = record {
  same : l.globs ≡ l.fn.globs;
  none : All (λ glob. ¬ Matches glob l.path) (take l.index l.globs);
}
