use Rattle.std.proofs.Common.{map, refl, ap, subst, ◌∙◌}
use Rattle.std.proofs.lemmas.Result.{on_ok_weaker}
use Rattle.nj_changes.specs.Tables.{HasMore}
use Rattle.nj_graph.specs.declared.EdgeNo.{EdgeNo}
use Rattle.nj_reached.specs.Inside.Handles.{full_outputs}
use Rattle.nj_reached.proofs.HandleLemmas.{outputs-numbered}
use Rattle.nj_reached.proofs.reached_paths.fill.Goals as goal

pub returns : goal.returns
returns c entries graph =
    let g = c.args.graph.now in
    let folder = c.args.folder.now in
    let need = c.in_ok-add_needing.ensures in
    on_ok_weaker c.add_noticed.result
    (λ noticed. record {
      roots = refl;
      changed = refl;
      outputs = c.in_ok-add_all_outputs.ensures;
      made = c.in_ok-add_all_made.ensures;
      affected = subst (λ more. HasMore c.args.paths.now.affected more c.add_outputs_of.new.names)
          (ap (full_outputs folder) c.edges_at-edges.ensures
          ∙ outputs-numbered folder g (map (λ (e : EdgeNo). e.0) c.args.touched.now))
          c.in_ok-add_outputs_of.ensures;
      needers = need.0;
      need = need.1;
      needing = need.2;
      noticed = noticed;
    })
    (c.add_noticed.ensures entries graph)
