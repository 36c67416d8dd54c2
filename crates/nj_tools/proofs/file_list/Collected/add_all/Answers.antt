use Rattle.std.proofs.Common.{◌≡◌, ◌∙◌, map, ap}
use Rattle.std.proofs.lemmas.List.Elements.{All-tail}
use Rattle.nj_graph.specs.Handles.{GraphFile}
use Rattle.nj_tools.specs.Inside.Collections.{with_paths}
use Rattle.nj_tools.proofs.file_list.Collected.add_all.Goals as goal

pub files-preserved : goal.files-preserved
files-preserved c = record {
  graph = c.in_ok-add.ensures.graph ∙ c.files.invariant.graph;
  all = All-tail (λ (file : GraphFile). file.graph ≡ c.args.self.now.graph) _ _
      (rw c.in-Some.ensures.steps at c.files.invariant.all);
  paths = ap (λ ps. with_paths ps (map (λ file. file.path) c.next.new.self)) c.in_ok-add.ensures.paths
      ∙ (rw c.in-Some.ensures.steps at c.files.invariant.paths);
}
