use Rattle.std.proofs.Common.{◌≡◌, ◌-◌, ◌∙◌, ap, arith, length, map}
use Rattle.std.specs.List.{range_with_len}
use Rattle.nj_names.specs.NameTables.{name_at}
use Rattle.nj_graph.specs.Graph.{files_of}
use Rattle.nj_graph.specs.Handles.{files_in}
use Rattle.nj_graph.proofs.HandleLemmas.{all-named}
use Rattle.nj_graph.proofs.graph.Graph.files.Goals as goal

pub returns-clause-files : goal.returns-clause-files
returns-clause-files c =
    let graph = c.args.self.now in
    let count = rw c.deref.ensures at c.file_count.ensures.count in
    let all : c.file_count.result - 0 ≡ length (files_of graph) = omega (arith, count) in
    ap (λ n. files_in graph (map (name_at (files_of graph)) (range_with_len 0 n))) all
    ∙ ap (files_in graph) (all-named (files_of graph))

pub returns-clause-each_path_once : goal.returns-clause-each_path_once
returns-clause-each_path_once c = rw c.deref.ensures at c.file_count.ensures.each_path_once
