use Rattle.std.proofs.Common.{option_map, ap, ◌∙◌}
use Rattle.std.specs.List.{fold}
use Rattle.std.proofs.lemmas.Result.{IfOk-weaker}
use Rattle.json.specs.Print.{print}
use Rattle.nj_edges.specs.Edges.{edge_at}
use Rattle.nj_graph.proofs.Stated.{graph-edges}
use Rattle.nj_tools.specs.EdgeObjects.{file_members}
use Rattle.nj_tools.specs.Inside.ObjectTexts.{and_member}
use Rattle.nj_tools.proofs.EdgeObjectLemmas.{members-added}
use Rattle.nj_tools.proofs.edge_objects.object_of.Goals as goal

pub returns : goal.returns
returns c entries graph =
    let edge = c.args.edge.number.0 in
    IfOk-weaker c.into_text.result _ _
    (λ text is. is ∙ ap (option_map print)
    (members-added entries c.args.discovery edge c.in_ok-object.object c.add_head.new.object
    c.add_files.new.object
    c.add_values.new.object c.in_ok-object.ensures
    (c.in_ok-add_head.ensures entries graph)
    (c.in_ok-add_files.ensures ∙ ap (λ edges. fold and_member c.add_head.new.object
    (file_members c.args.discovery (edge_at edges edge))) (graph-edges graph))
    (c.in_ok-add_values.ensures entries graph)))
    c.into_text.ensures
