use Rattle.std.proofs.Common.{◌≡◌, take, not, false, slice_index_or}
use Rattle.std.specs.List.{filter}
use Rattle.nj_edges.proofs.roots.unflagged.Given as goal

abbrev pub invariant-files : goal.invariant-files
invariant-files l = l.rest.items ≡ filter (λ file. not (slice_index_or l.flags file.0 false))
    (take l.file-index l.files)
