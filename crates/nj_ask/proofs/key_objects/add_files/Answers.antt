use Rattle.std.proofs.Common.{◌∙◌, codes, subst, true}
use Rattle.serde_json.specs.Data.{array, member, no_items}
use Rattle.nj_graph.specs.Edges.{edge_at}
use Rattle.nj_ask.specs.KeyObjects.{input_items, key_inputs, path_items}
use Rattle.nj_ask.specs.MissingSources.{stated_edge}
use Rattle.nj_ask.specs.Inside.JsonTexts.{AddsMember}
use Rattle.nj_ask.proofs.JsonTextLemmas.{adds-array, adds-value}
use Rattle.nj_ask.proofs.StatedLemmas.{paths-are}
use Rattle.nj_ask.proofs.key_objects.add_files.Goals as goal

pub returns-clause-files : goal.returns-clause-files
returns-clause-files c =
    let files = c.args.graph.now.files in
    let edges = c.args.graph.now.edges in
    let e = edge_at edges c.args.edge.0 in
    let inputs = key_inputs edges c.args.found.now.limit (stated_edge edges c.args.counts.now c.args.edge.0)
    in
    let one = c.add_paths.new.text.items in
    let two = c.add_paths-2.new.text.items in
    let value = array (input_items inputs no_items) in
    let outputs = subst (λ ps. AddsMember true (codes "outputs") (array (path_items ps)) c.args.text.now.items
    one)
    (paths-are files c.explicit_output_files.result.now e.explicit_outputs
    c.explicit_output_files.ensures.files)
    c.in_ok-add_paths.ensures in
    let implicit = subst (λ ps. AddsMember true (codes "implicit_outputs") (array (path_items ps)) one two)
    (paths-are files c.implicit_output_files.result.now e.implicit_outputs
    c.implicit_output_files.ensures.files)
    c.in_ok-add_paths-2.ensures in
    let adds = adds-value true (codes "inputs") value two c.begin_member.new.text.items
    c.push-2.new.self.items
    c.in_ok-begin_member.ensures
    (adds-array inputs c.begin_member.new.text.items c.push.new.self.items c.push_inputs.new.text.items
    c.push-2.new.self.items c.in_ok-push_inputs.field-0 c.in_ok-push.ensures.items
    c.in_ok-push_inputs.ensures.text c.in_ok-push-2.ensures.items) in
    λ rest. adds rest ∙ implicit (member (codes "inputs") value rest)
    ∙ outputs (member (codes "implicit_outputs") (array (path_items e.implicit_outputs))
    (member (codes "inputs") value rest))
