use Rattle.std.proofs.Common.{◌≡◌, ◌++◌}
use Rattle.std.specs.List.{filter_map}
use Rattle.nj_audit.specs.Audit.{missing_sources}
use Rattle.nj_audit.specs.Inside.Handles.{missing_file}
use Rattle.nj_audit.proofs.sources.find_missing_sources.Given as goal

abbrev pub invariant-files : goal.invariant-files
invariant-files l = l.found ++ filter_map (missing_file l.missing l.serving) l.file-iterator
    ≡ l.fn.found ++ missing_sources l.graph l.missing l.serving
