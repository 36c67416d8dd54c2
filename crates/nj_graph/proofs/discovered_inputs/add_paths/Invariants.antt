use Rattle.std.proofs.Common.{◌≡◌, drop, fold, map}
use Rattle.nj_names.specs.NameTables.{name_at}
use Rattle.nj_edges.specs.MoreInputs.{with_new_input}
use Rattle.nj_graph.specs.Inside.InputSteps.{AreFilesOf}
use Rattle.nj_graph.proofs.discovered_inputs.add_paths.Given as goal

-- the rest has the same result
abbrev pub invariant-numbers : goal.invariant-numbers
invariant-numbers l = record {
  joins : fold with_new_input l.joining (map (name_at l.found.names) (drop l.number-index l.numbers))
      ≡ fold with_new_input l.fn.joining (map (name_at l.found.names) l.numbers);
  files : AreFilesOf l.found.names l.joining.table.files l.files;
}
