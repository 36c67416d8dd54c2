use Rattle.std.proofs.Common.{List, map, ap, subst, ◌∙◌}
use Rattle.std.specs.Prelude.{◌↔◌, Contains}
use Rattle.std.proofs.lemmas.Result.{on_ok_weaker}
use Rattle.nj_changes.specs.Tables.{HasMore}
use Rattle.nj_graph.specs.declared.EdgeNo.{EdgeNo}
use Rattle.nj_graph.specs.Changes.{IsAffected}
use Rattle.nj_graph.specs.Files.{path_at}
use Rattle.nj_graph.specs.Graph.{edges_of, files_of}
use Rattle.nj_graph.specs.Handles.{edges_in}
use Rattle.nj_reached.specs.Inside.Handles.{full_outputs}
use Rattle.nj_reached.proofs.HandleLemmas.{outputs-numbered}
use Rattle.nj_reached.proofs.reached_paths.add_needing.Goals as goal

pub returns : goal.returns
returns c =
    let g = c.args.graph.now in
    let folder = c.args.folder.now in
    let numbers = map (λ (e : EdgeNo). e.0) c.in_ok-needers.needers.items in
    on_ok_weaker c.add_outputs_of.result
    (λ has. (
      numbers,
      (λ edge.
          subst (λ paths. Contains numbers edge ↔ IsAffected (edges_of g) paths edge)
          (ap (map (path_at (files_of g))) c.deref-2.ensures.value ∙ c.in_ok-needed.ensures.paths)
          (rw c.deref.ensures at (c.in_ok-needers.ensures.affected edge))),
      subst (λ more. HasMore c.args.names.now more c.add_outputs_of.new.names)
          (ap (full_outputs folder) (c.edges_at.ensures
          ∙ ap (λ (es : List EdgeNo). edges_in g (map (λ (e : EdgeNo). e.0) es)) c.deref-3.ensures.value)
          ∙ outputs-numbered folder g numbers) has,
    ))
    c.add_outputs_of.ensures
