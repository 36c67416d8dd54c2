use Rattle.std.proofs.Common.{◌≡◌, ◌<◌, drop, take, length, get_or}
use Rattle.std.specs.List.{AllByRecursion}
use Rattle.nj_names.specs.declared.files.FileNo.{FileNo}
use Rattle.nj_statements.specs.Inside.JoiningSteps.{first_edges, count_bound}
use Rattle.nj_statements.proofs.dyndep_entries.awaited_files.Given as goal

abbrev pub invariant-dyndeps : goal.invariant-dyndeps
invariant-dyndeps l = record {
  firsts : l.dyndep_files.items ≡ first_edges (take l.dyndep-index l.dyndeps);
  count : length l.unjoined.items ≡ l.file_count;
  unjoined : (file : FileNo) → get_or l.unjoined.items file.0 0
      ≡ count_bound file (take l.dyndep-index l.dyndeps);
  known : AllByRecursion (λ d. d.file.0 < l.file_count) (drop l.dyndep-index l.dyndeps);
}
