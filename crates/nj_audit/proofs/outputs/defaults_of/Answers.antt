use Rattle.std.proofs.Common.{◌||◌, List, sym, ap, ◌∙◌}
use Rattle.nj_graph.specs.Edges.{is_among}
use Rattle.nj_graph.specs.Handles.{GraphFile, file_of}
use Rattle.nj_audit.specs.Inside.FileSets.{FileSetModel}
use Rattle.nj_audit.proofs.HandleLemmas.{others-in, paths_in}
use Rattle.nj_audit.proofs.NameLemmas.{one-less}
use Rattle.nj_audit.proofs.outputs.defaults_of.Goals as goal

pub files-preserved : goal.files-preserved
files-preserved c =
    let left = c.next.new.self in
    let path = (file_of c.in-Some.file).path in
    record {
      graph = ap (λ (s : FileSetModel). s.graph) c.in_ok-add.ensures.paths ∙ c.files.invariant.graph;
      of = others-in c.args.graph.now (file_of c.in-Some.file) c.files.file-iterator left
          c.in-Some.ensures.steps
          c.files.invariant.of;
      paths = λ name. ap (λ (s : FileSetModel). is_among s.paths name || is_among (paths_in left) name)
          c.in_ok-add.ensures.paths
          ∙ one-less c.files.defaults.paths path name (is_among (paths_in left) name)
          ∙ ap (λ (fs : List GraphFile). is_among c.files.defaults.paths name || is_among (paths_in fs) name)
          (sym c.in-Some.ensures.steps)
          ∙ c.files.invariant.paths name;
    }
