use Rattle.std.proofs.Common.{◌≡◌}
use Rattle.std.specs.List.{filter, range_with_len}
use Rattle.nj_graph.specs.Edges.{is_among}
use Rattle.nj_ask.specs.Inside.Reached.{numbers_of, AreFilesOf}
use Rattle.nj_ask.specs.SameFiles.{full_path_of}
use Rattle.nj_ask.proofs.changes.files_at.Given as goal

abbrev pub invariant-numbers : goal.invariant-numbers
invariant-numbers l = record {
  changed : numbers_of l.changed_files.items
      ≡ filter (λ file. is_among l.changed (full_path_of l.graph l.working file)) (range_with_len 0 l.number);
  opened : numbers_of l.opened_files.items
      ≡ filter (λ file. is_among l.opened (full_path_of l.graph l.working file)) (range_with_len 0 l.number);
  changed_known : AreFilesOf l.graph l.changed_files.items;
  opened_known : AreFilesOf l.graph l.opened_files.items;
}
