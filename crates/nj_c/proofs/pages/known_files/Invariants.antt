use Rattle.std.proofs.Common.{◌≡◌, take}
use Rattle.nj_c.specs.Pages.{numbered, AreKnown}
use Rattle.nj_c.proofs.pages.known_files.Given as goal

abbrev pub invariant-numbers : goal.invariant-numbers
invariant-numbers l = record {
  files : l.files.items ≡ numbered (take l.number-index l.numbers);
  below : AreKnown l.graph (take l.number-index l.numbers);
}
