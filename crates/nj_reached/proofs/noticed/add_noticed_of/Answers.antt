use Rattle.std.proofs.Common.{◌≡◌, true, false, ap, subst, sym, ◌∙◌}
use Rattle.std.proofs.lemmas.Result.{on_ok_weaker}
use Rattle.nj_changes.specs.Tables.{HasMore}
use Rattle.nj_graph.specs.Edges.{edge_at, outputs_of}
use Rattle.nj_graph.specs.Graph.{edges_of}
use Rattle.nj_graph.specs.Handles.{edge_of, paths_of}
use Rattle.nj_reached.specs.GraphChanges.{full_paths, has_deps}
use Rattle.nj_reached.specs.Inside.Handles.{full_paths_in, full_unused}
use Rattle.nj_reached.proofs.HandleLemmas.{files-full}
use Rattle.nj_reached.proofs.NoticedLemmas.{all-noticed, unused-full, unused-noticed}
use Rattle.nj_reached.proofs.noticed.add_noticed_of.Goals as goal

pub returns-then-has_deps : goal.returns-then-has_deps
returns-then-has_deps c entries graph =
    let folder = c.args.folder.now in
    let edge = edge_of c.args.edge in
    let edges = edges_of edge.graph in
    let command : (edge_at edges edge.number).is_phony ≡ false = sym c.is_phony.ensures ∙ c.if-is_phony.false
    in
    let deps : has_deps entries edge.number ≡ true = sym (c.in_ok-has_deps.ensures entries graph)
    ∙ c.if-has_deps.true in
    on_ok_weaker c.add_unused.result
    (λ has. subst (λ more. HasMore c.args.names.now more c.add_unused.new.names)
    (ap (full_unused folder) c.outputs.ensures ∙ unused-full folder edge.graph (outputs_of (paths_of edge))
    ∙ ap (full_paths folder) (sym (unused-noticed entries edges edge.number command deps))) has)
    c.add_unused.ensures

pub returns : goal.returns
returns c entries graph =
    let folder = c.args.folder.now in
    let edge = edge_of c.args.edge in
    let edges = edges_of edge.graph in
    let command : (edge_at edges edge.number).is_phony ≡ false = sym c.is_phony.ensures ∙ c.if-is_phony.false
    in
    let deps : has_deps entries edge.number ≡ false = sym (c.in_ok-has_deps.ensures entries graph)
    ∙ c.if-has_deps.false in
    on_ok_weaker c.add_files.result
    (λ has. subst (λ more. HasMore c.args.names.now more c.add_files.new.names)
    (ap (full_paths_in folder) c.outputs-2.ensures ∙ files-full folder edge.graph (outputs_of (paths_of edge))
    ∙ ap (full_paths folder) (sym (all-noticed entries edges edge.number command deps))) has)
    c.add_files.ensures
