use Rattle.std.proofs.Common.{◌≡◌, ◌∙◌, ap, subst}
use Rattle.std.proofs.lemmas.List.Folds.{flat_map-map}
use Rattle.nj_edges.specs.Edges.{outputs_of}
use Rattle.nj_graph.specs.Graph.{rule_name_at}
use Rattle.nj_graph.specs.Handles.{GraphFile, edge_of, file_in, paths_of}
use Rattle.nj_tools.specs.Inside.Outputs.{PutsText}
use Rattle.nj_tools.specs.Inside.Pieces.{lines_of_rule, made_lines}
use Rattle.nj_tools.specs.Listings.{made_line}
use Rattle.nj_tools.proofs.target_lists.write_made.Goals as goal

pub returns-clause-text : goal.returns-clause-text
returns-clause-text g c entries is =
    let edge = edge_of c.args.edge in
    let same : lines_of_rule c.rule_name.result.now c.outputs.result ≡ made_lines entries edge =
    ap (λ rule. lines_of_rule rule c.outputs.result) (c.rule_name.ensures entries is)
    ∙ ap (lines_of_rule (rule_name_at entries edge.number)) c.outputs.ensures
    ∙ flat_map-map (λ (file : GraphFile). made_line file.path (rule_name_at entries edge.number))
    (file_in edge.graph) (outputs_of (paths_of edge)) in
    subst (λ t. PutsText g.S.Sink.state c.args.out.now c.write_by_rule.new.out t c.write_by_rule.result) same
    c.write_by_rule.ensures.text
