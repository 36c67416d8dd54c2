use Rattle.std.proofs.Common.{◌≡◌, ◌++◌, length, map, option_copied}
use Rattle.std.specs.List.{flat_map}
use Rattle.nj_graph.specs.Handles.{file_of}
use Rattle.nj_audit.specs.NamedPaths.{seen_from}
use Rattle.nj_audit.specs.WordNames.{names_in_parts, names_in_text}
use Rattle.nj_audit.specs.Inside.Parts.{parts_left}
use Rattle.nj_audit.proofs.FileLemmas.{files_at}
use Rattle.nj_audit.proofs.named_files.add_files_in_parts.Given as goal

abbrev pub invariant-parts : goal.invariant-parts
invariant-parts l =
    map file_of l.files.items
    ++ files_at l.graph l.folder (map (seen_from l.within)
    (flat_map names_in_text (parts_left (option_copied l.rest))))
    ≡ map file_of l.fn.files.items
    ++ files_at l.graph l.folder (map (seen_from l.within) (names_in_parts l.word))

abbrev pub decreases-parts : goal.decreases-parts
decreases-parts l = length (parts_left (option_copied l.rest))
