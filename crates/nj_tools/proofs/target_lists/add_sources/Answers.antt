use Rattle.std.proofs.Common.{◌≡◌, ◌∙◌, ap, sym, false, true}
use Rattle.std.proofs.lemmas.List.Elements.{All-tail}
use Rattle.nj_graph.specs.Handles.{GraphFile, file_of}
use Rattle.nj_tools.specs.Inside.Collections.{sources_among, with_paths}
use Rattle.nj_tools.proofs.EdgeLists.{next-source}
use Rattle.nj_tools.proofs.target_lists.add_sources.Goals as goal

pub files-preserved-in-Continue-1 : goal.files-preserved-in-Continue-1
files-preserved-in-Continue-1 c = record {
  graph = c.in_ok-add.ensures.graph ∙ c.files.invariant.graph;
  all = All-tail (λ (file : GraphFile). file.graph ≡ c.args.sources.now.graph) _ _
      (rw c.in-Some.ensures.steps at c.files.invariant.all);
  paths = ap (λ ps. with_paths ps (sources_among c.next.new.self)) c.in_ok-add.ensures.paths
      ∙ ap (with_paths c.files.sources.paths)
      (next-source (file_of c.in-Some.file) c.next.new.self true
      (sym c.if-is_source.true ∙ c.is_source.ensures))
      ∙ (rw c.in-Some.ensures.steps at c.files.invariant.paths);
}

pub files-preserved : goal.files-preserved
files-preserved c = record {
  graph = c.files.invariant.graph;
  all = All-tail (λ (file : GraphFile). file.graph ≡ c.args.sources.now.graph) _ _
      (rw c.in-Some.ensures.steps at c.files.invariant.all);
  paths = ap (with_paths c.files.sources.paths)
      (next-source (file_of c.in-Some.file) c.next.new.self false
      (sym c.if-is_source.false ∙ c.is_source.ensures))
      ∙ (rw c.in-Some.ensures.steps at c.files.invariant.paths);
}
