use Rattle.std.proofs.Common.{◌≡◌, map, take}
use Rattle.nj_changes.specs.Ignored.{AreLeft}
use Rattle.nj_changes.proofs.ignored.without_ignored.Given as goal

abbrev pub invariant-paths : goal.invariant-paths
invariant-paths l = record {
  same : l.globs ≡ l.fn.globs;
  left : AreLeft l.globs (map (λ path. path.now) (take l.path-index l.paths))
      (map (λ path. path.now) l.left.items);
}
