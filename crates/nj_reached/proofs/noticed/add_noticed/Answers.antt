use Rattle.std.proofs.Common.{map, subst}
use Rattle.std.specs.List.{filter, flat_map}
use Rattle.std.proofs.lemmas.Result.{on_ok_weaker}
use Rattle.nj_changes.specs.Tables.{HasMore}
use Rattle.nj_graph.specs.declared.EdgeNo.{EdgeNo}
use Rattle.nj_graph.specs.Files.{path_at}
use Rattle.nj_graph.specs.Graph.{edges_of, files_of}
use Rattle.nj_chosen.specs.Reasons.{without}
use Rattle.nj_reached.specs.GraphChanges.{full_paths, is_compiled, noticed_outputs}
use Rattle.nj_reached.proofs.NoticedLemmas.{without-same}
use Rattle.nj_reached.proofs.TableLemmas.{has-both}
use Rattle.nj_reached.proofs.noticed.add_noticed.Goals as goal

pub returns : goal.returns
returns c entries graph =
    let g = c.args.graph.now in
    let folder = c.args.folder.now in
    let changed = c.args.changed.now in
    let noticed = full_paths folder (flat_map (noticed_outputs entries (edges_of g))
    (map (λ (e : EdgeNo). e.0) c.args.touched.now)) in
    let compiled = full_paths folder (filter (is_compiled entries (edges_of g))
    (map (path_at (files_of g)) c.args.files.now)) in
    let table = c.add_compiled.new.names in
    let same = subst (λ old. HasMore old compiled table) c.new-compiled.ensures
    (c.in_ok-add_compiled.ensures entries graph) in
    on_ok_weaker c.add_others.result
    (λ has. has-both c.args.names.now c.add_noticed_outputs.new.names c.add_others.new.names noticed
    (without compiled changed) (c.in_ok-add_noticed_outputs.ensures entries graph)
    (subst (λ more. HasMore c.add_noticed_outputs.new.names more c.add_others.new.names)
    (without-same table compiled changed same) has))
    c.add_others.ensures
