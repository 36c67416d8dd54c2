use Rattle.std.proofs.Common.{◌≡◌, ◌++◌}
use Rattle.nj_keys.specs.Inside.FileTexts.{input_texts}
use Rattle.nj_keys.specs.Inside.Keeping.{kept_key}
use Rattle.nj_keys.proofs.fields.push_files.Given as goal

abbrev pub invariant-files : goal.invariant-files
invariant-files l =
    let texts = input_texts l.bases (kept_key l.keys) l.kind in
    l.text.items ++ texts l.file-iterator ≡ l.fn.text.items ++ texts l.fn.files
