use Rattle.std.proofs.Common.{◌≡◌, ◌≤◌, drop, length, max}
use Rattle.nj_keys.specs.Bases.{longest_at}
use Rattle.nj_keys.specs.Inside.Folders.{paths}
use Rattle.nj_keys.proofs.bases.longest_at.Given as goal

abbrev pub invariant-folders : goal.invariant-folders
invariant-folders l = record {
  longest : max l.longest (longest_at (paths (drop l.folder-index l.folders)) l.text)
      ≡ longest_at (paths l.folders) l.text;
  fits : l.longest ≤ length l.text;
}
