use Rattle.std.proofs.Common.{◌++◌, map, sym, ap, ◌∙◌, append_assoc, option_copied}
use Rattle.std.specs.List.{flat_map}
use Rattle.nj_graph.specs.Handles.{file_of}
use Rattle.nj_audit.specs.NamedPaths.{seen_from}
use Rattle.nj_audit.specs.WordNames.{names_in_text}
use Rattle.nj_audit.specs.Inside.Parts.{parts_left}
use Rattle.nj_audit.proofs.FileLemmas.{files_at, files-append}
use Rattle.nj_audit.proofs.ListLemmas.{map-append}
use Rattle.nj_audit.proofs.named_files.add_files_in_parts.Goals as goal

pub parts-preserved : goal.parts-preserved
parts-preserved c =
    let g = c.args.graph.now in
    let folder = c.args.folder.now in
    let within = c.args.within.now in
    let part = c.split_part.result.0.now in
    let rest = parts_left (option_copied c.split_part.result.1) in
    let old = map file_of c.parts.files.items in
    let next = map (seen_from within) (names_in_text part) in
    let more = map (seen_from within) (flat_map names_in_text rest) in
    ap (λ fs. fs ++ files_at g folder more) c.in_ok-add_files_in_text.ensures
    ∙ append_assoc old (files_at g folder next) (files_at g folder more)
    ∙ ap (λ fs. old ++ fs) (sym (files-append g folder next more))
    ∙ ap (λ ns. old ++ files_at g folder ns)
    (sym (map-append (seen_from within) (names_in_text part) (flat_map names_in_text rest)))
    ∙ ap (λ ps. old ++ files_at g folder (map (seen_from within) (flat_map names_in_text ps)))
    (sym c.split_part.ensures)
    ∙ ap (λ o. old ++ files_at g folder
    (map (seen_from within) (flat_map names_in_text (parts_left (option_copied o))))) (sym c.in-Some.is)
    ∙ c.parts.invariant
