use Rattle.std.proofs.Common.{◌≡◌, ◌++◌}
use Rattle.nj_keys.specs.Inside.FileTexts.{path_texts}
use Rattle.nj_keys.proofs.fields.push_paths.Given as goal

abbrev pub invariant-files : goal.invariant-files
invariant-files l =
    l.text.items ++ path_texts l.bases l.file-iterator ≡ l.fn.text.items ++ path_texts l.bases l.fn.files
