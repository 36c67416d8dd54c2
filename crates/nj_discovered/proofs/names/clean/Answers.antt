use Rattle.std.proofs.Common.{◌∙◌, Err, ap, sym}
use Rattle.nj_text.specs.Paths.{clean_path_of}
use Rattle.nj_discovered.proofs.FinderLemmas.{clean-empty}
use Rattle.nj_discovered.proofs.names.clean.Goals as goal

pub returns-in-Err-EmptyPath : goal.returns-in-Err-EmptyPath
returns-in-Err-EmptyPath c =
    let empty = c.clean_into.ensures.empty.0 (c.in-Err-EmptyPath.is ∙ ap Err c.in-Err-EmptyPath.field-0-is) in
    sym (ap clean_path_of empty ∙ clean-empty)
