use Rattle.std.proofs.Common.{true≢false, sym, ap, ◌∙◌, option_map}
use Rattle.nj_edges.specs.Changes.{IsOrNeeds}
use Rattle.nj_graph.specs.Graph.{edges_of}
use Rattle.nj_graph.specs.Handles.{edge_of, file_of}
use Rattle.nj_audit.proofs.UnorderedLemmas.{unordered-tells}
use Rattle.nj_audit.proofs.unordered_files.is_unordered.Goals as goal

pub returns-clause-unordered : goal.returns-clause-unordered
returns-clause-unordered c =
    let edge = edge_of c.args.edge in
    let maker = (edge_of c.in-Some.maker).number in
    let needs = rw (c.requires.makers, c.number.ensures.number, c.number-2.ensures.number) at
    c.in_ok-is_or_needs.ensures.needs in
    let uses = rw (c.requires.users, c.number-3.ensures.number, c.number-4.ensures.number) at
    c.in_ok-is_user.ensures.needs in
    let unneeded : IsOrNeeds (edges_of edge.graph) edge.number maker → ⊥ =
    λ needed. true≢false (sym (needs.1 needed) ∙ c.if-branch.false) in
    unordered-tells edge.graph edge.number (file_of c.args.file).path
    (option_map (λ maker. (edge_of maker).number) c.other_maker.result) c.other_maker.ensures.maker maker
    (ap (option_map (λ maker. (edge_of maker).number)) c.in-Some.is) unneeded c.in_ok-is_user.is_user uses
