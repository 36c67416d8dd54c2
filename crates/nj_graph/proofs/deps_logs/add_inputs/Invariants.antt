use Rattle.std.proofs.Common.{◌≡◌, drop, fold, map}
use Rattle.nj_text.specs.Paths.{clean_path_of}
use Rattle.nj_names.specs.NameTables.{name_at}
use Rattle.nj_deps.specs.Logs.{numbers_of}
use Rattle.nj_edges.specs.MoreInputs.{with_new_input}
use Rattle.nj_graph.proofs.deps_logs.add_inputs.Given as goal

-- the rest has the same result
abbrev pub invariant-inputs : goal.invariant-inputs
invariant-inputs l =
    fold with_new_input l.joining (map clean_path_of
    (map (name_at l.log.paths) (numbers_of (drop l.number-index l.numbers))))
    ≡ fold with_new_input l.fn.joining (map clean_path_of (map (name_at l.log.paths) (numbers_of l.numbers)))
