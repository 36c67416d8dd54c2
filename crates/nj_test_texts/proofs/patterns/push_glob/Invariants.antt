use Rattle.std.proofs.Common.{◌≡◌, ◌++◌, take}
use Rattle.nj_test_texts.specs.TestTexts.{glob_of}
use Rattle.nj_test_texts.proofs.patterns.push_glob.Given as goal

abbrev pub invariant-bytes : goal.invariant-bytes
invariant-bytes l = l.text.items ≡ l.fn.text.items ++ glob_of (take l.byte-index l.name)
