use Rattle.std.proofs.Common.{◌≡◌, map}
use Rattle.std.specs.List.{fold}
use Rattle.nj_tools.specs.Inside.ObjectTexts.{and_string}
use Rattle.nj_tools.proofs.object_text.ObjectText.add_paths.Given as goal

abbrev pub invariant-files : goal.invariant-files
invariant-files l = fold and_string l.self (map (λ file. file.path) l.file-iterator)
    ≡ fold and_string l.initial.self (map (λ file. file.path) l.fn.files)
