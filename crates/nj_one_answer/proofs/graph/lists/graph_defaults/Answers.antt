use Rattle.nj_graph.specs.Graph.{edges_of, files_of}
use Rattle.nj_statements.specs.Built.{defaults_in_force}
use Rattle.nj_agreement.proofs.FileNumbers.{same-numbers}
use Rattle.nj_one_answer.proofs.graph.lists.graph_defaults.Goals as goal

pub returns : goal.returns
returns c =
    let g = c.args.graph.now in
    same-numbers (files_of g) c.files-files.ensures.each_path_once c.defaults.result.now
    c.defaults-2.result.now
    (defaults_in_force g.built.defaults (edges_of g)) c.defaults.ensures.files c.defaults-2.ensures.files
